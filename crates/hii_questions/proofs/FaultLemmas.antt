-- The first fault of several parts.
use Rattle.std.proofs.Common.{◌≡◌, ℕ, ◌==◌, Bool, false, Option, Some, None, List, [], ◌∷◌, ◌++◌, map, refl, sym, ap, subst, ◌∙◌}
use Rattle.std.specs.Prelude.{Result}
use Rattle.std.specs.List.{flat_map}
use Rattle.std.specs.Option.{option_or}
use Rattle.std.proofs.lemmas.Bool.{or_parts}
use Rattle.hii_bytes.specs.code.FirstFaults.{first_cause, fault_or}
use Rattle.hii_bytes.specs.declared.cause.Cause.{Cause}
use Rattle.hii_bytes.specs.declared.cause.Fault.{Fault}
use Rattle.hii_varstore.specs.Layout.{Shape}
use Rattle.ifr_opcodes.specs.Forest.{Node}
use Rattle.ifr_opcodes.specs.Opcode.{number}
use Rattle.ifr_opcodes.specs.declared.codes.TheConstants.{ONE_OF, ORDERED_LIST}
use Rattle.ifr_nodes.specs.Nodes.{options}
use Rattle.hii_questions.specs.Fields.{Asked}
use Rattle.hii_questions.specs.Faults.{QuestionPart, option, place_of, has_question_fault, has_field_fault, has_option_fault, parts_of}
use Rattle.hii_questions.specs.code.Causes.{question_causes}
use Rattle.hii_questions.specs.code.FaultTells.{first_part_fault, first_option_fault, is_choice, TellsFault}

-- the first fault of some parts and of others behind them
first_both : (shape : Shape) (known : ℕ → Bool) (ps qs : List QuestionPart) → first_part_fault shape known (ps ++ qs) ≡ option_or (first_part_fault shape known ps) (first_part_fault shape known qs)
first_both shape known [] qs = refl
first_both shape known (p ∷ ps) qs = ap (fault_or (first_cause (has_question_fault shape known) p question_causes) (place_of p)) (first_both shape known ps qs) ∙ go (first_cause (has_question_fault shape known) p question_causes)
  where
    go : (c : Option Cause) → fault_or c (place_of p) (option_or (first_part_fault shape known ps) (first_part_fault shape known qs)) ≡ option_or (fault_or c (place_of p) (first_part_fault shape known ps)) (first_part_fault shape known qs)
    go None = refl
    go (Some cause) = refl

-- the first fault of questions, the first of which has one
pub first_here : (shape : Shape) (known : ℕ → Bool) (q : Asked) (left rest : List Asked) (f : Fault) → left ≡ q ∷ rest → first_part_fault shape known (parts_of q) ≡ Some f
    → first_part_fault shape known (flat_map parts_of left) ≡ Some f
first_here shape known q left rest f steps e =
    ap (λ (l : List Asked). first_part_fault shape known (flat_map parts_of l)) steps ∙ first_both shape known (parts_of q) (flat_map parts_of rest)
    ∙ ap (λ (o : Option Fault). option_or o (first_part_fault shape known (flat_map parts_of rest))) e

-- the first fault of the options of a question as parts
options_same : (shape : Shape) (known : ℕ → Bool) (q : Asked) (os : List Node) → first_part_fault shape known (map (option q) os) ≡ first_option_fault q.node os
options_same shape known q [] = refl
options_same shape known q (o ∷ os) = ap (fault_or (first_cause (has_option_fault q.node) o question_causes) o.place) (options_same shape known q os)

-- no other question has an option with a fault
pub no_choice : (q : Node) (os : List Node) → is_choice q ≡ false → first_option_fault q os ≡ None
no_choice q [] e = refl
no_choice q (o ∷ os) e =
    let parts = or_parts (number q.op == ONE_OF) (number q.op == ORDERED_LIST) e in
    rw (parts.0, parts.1) (no_choice q os e)

-- a question without a fault of its own, and its options
pub question_told : (shape : Shape) (known : ℕ → Bool) (q : Asked) (r : Result (Unit {0}) Fault) → None ≡ first_cause (has_field_fault shape known) q question_causes
    → TellsFault (first_option_fault q.node (options q.node)) r → TellsFault (first_part_fault shape known (parts_of q)) r
question_told shape known q r own told =
    let rest = first_part_fault shape known (map (option q) (options q.node)) in
    let whole : first_part_fault shape known (parts_of q) ≡ rest = ap (λ (c : Option Cause). fault_or c q.node.place rest) (sym own) in
    subst (λ (o : Option Fault). TellsFault o r) (sym (whole ∙ options_same shape known q (options q.node))) told

-- the first fault of the questions behind one without a fault
pub first_later : (shape : Shape) (known : ℕ → Bool) (q : Asked) (left rest : List Asked) → left ≡ q ∷ rest → first_part_fault shape known (parts_of q) ≡ None
    → first_part_fault shape known (flat_map parts_of rest) ≡ first_part_fault shape known (flat_map parts_of left)
first_later shape known q left rest steps e =
    let whole : first_part_fault shape known (flat_map parts_of left) ≡ first_part_fault shape known (flat_map parts_of rest) =
    ap (λ (l : List Asked). first_part_fault shape known (flat_map parts_of l)) steps ∙ first_both shape known (parts_of q) (flat_map parts_of rest)
    ∙ ap (λ (o : Option Fault). option_or o (first_part_fault shape known (flat_map parts_of rest))) e in
    sym whole
