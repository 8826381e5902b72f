-- The faults of questions, question by question.
use Rattle.std.proofs.Common.{◌≡◌, ℕ, ◌==◌, Bool, true, Option, Some, None, List, [], ◌∷◌, ◌++◌, append_assoc, append-nil, map, refl, sym, ap, ◌∙◌, arith, inl, inr}
use Rattle.std.specs.List.{flat_map}
use Rattle.std.proofs.lemmas.Bool.{cases_Bool, eqb-true}
use Rattle.std.proofs.lemmas.Grind.{flat_map-append}
use Rattle.hii_bytes.specs.code.FirstFaults.{first_cause}
use Rattle.hii_bytes.specs.declared.cause.Cause.{Cause}
use Rattle.hii_bytes.specs.declared.cause.Cause.TheVariants.{UnknownVarstore, FieldOutside, OptionRange, MixedOptions}
use Rattle.hii_bytes.specs.declared.cause.Fault.{Fault}
use Rattle.ifr_opcodes.specs.Forest.{Node}
use Rattle.ifr_opcodes.specs.Opcode.{number}
use Rattle.ifr_opcodes.specs.declared.codes.TheConstants.{ONE_OF, ORDERED_LIST}
use Rattle.ifr_opcodes.proofs.TableLemmas.{and_first}
use Rattle.ifr_nodes.specs.Accepted.{IsAccepted}
use Rattle.ifr_nodes.specs.Nodes.{nodes_of, options}
use Rattle.hii_varstore.specs.Layout.{Shape}
use Rattle.hii_varstore.specs.StoreNodes.{layout_of}
use Rattle.hii_questions.specs.Faults.{IsQuestionFault, itself, option, has_question_fault, has_option_fault, is_field_outside, is_known, is_mixed, is_option_too_large, lacks_store, parts_of, place_of}
use Rattle.hii_questions.specs.Fields.{Asked, questions}
use Rattle.hii_questions.specs.code.Causes.{question_causes}
use Rattle.hii_questions.proofs.PartLemmas.{all_causes, parts_rise}
use Rattle.package_faults.specs.AllFaults.{AreAll, fault_of}
use Rattle.package_faults.specs.code.Gathering.{its_faults, where_it_is}
use Rattle.package_faults.specs.code.Parts.{node_place, option_faults, part_faults}
use Rattle.package_faults.proofs.GatheringLemmas.{all_of, its_split}

pub all_questions : (bytes : List ℕ) → IsAccepted bytes
    → AreAll (IsQuestionFault (nodes_of bytes)) (part_faults (layout_of (nodes_of bytes)) (is_known (nodes_of bytes)) (flat_map parts_of (questions (nodes_of bytes))))
all_questions bytes accepted =
    let ns = nodes_of bytes in
    all_of place_of (has_question_fault (layout_of ns) (is_known ns)) question_causes 4 (flat_map parts_of (questions ns)) (all_causes (layout_of ns) (is_known ns)) (parts_rise bytes (layout_of ns) accepted)

-- ---- the options of a question

abbrev at_place : Option Cause → ℕ → List Fault
at_place None place = []
at_place (Some cause) place = fault_of cause place ∷ []

-- no question is both a ONE_OF and an ORDERED_LIST
not_both : (q o : Node) → is_option_too_large q o ≡ true → is_mixed q o ≡ true → ⊥
not_both q o large mixed =
    let one : number q.op ≡ ONE_OF = eqb-true (number q.op) ONE_OF (and_first (number q.op == ONE_OF) _ large) in
    let list : number q.op ≡ ORDERED_LIST = eqb-true (number q.op) ORDERED_LIST (and_first (number q.op == ORDERED_LIST) _ mixed) in
    omega (arith, one, list)

-- an option has one fault at most
one_fault : (q o : Node) (found : Option Cause) → found ≡ first_cause (has_option_fault q) o question_causes → its_faults node_place (has_option_fault q) question_causes o ≡ at_place found o.place
one_fault q o found e = elim (cases_Bool (is_option_too_large q o)) [
  | inl large ↦ elim (cases_Bool (is_mixed q o)) [
    | inl mixed ↦ absurd (not_both q o large mixed)
    | inr other ↦ let is : found ≡ Some OptionRange = e ∙ rw large refl in rw (large, other, is) refl
  ]
  | inr small ↦ elim (cases_Bool (is_mixed q o)) [
    | inl mixed ↦ let is : found ≡ Some MixedOptions = e ∙ rw (small, mixed) refl in rw (small, mixed, is) refl
    | inr other ↦ let is : found ≡ None = e ∙ rw (small, other) refl in rw (small, other, is) refl
  ]
]

-- an option that is next, with a fault or without
option_next : (q o : Node) (left rest : List Node) (told next all : List Fault) (found : Option Cause) → left ≡ o ∷ rest → found ≡ first_cause (has_option_fault q) o question_causes
    → next ≡ told ++ at_place found o.place → told ++ option_faults q left ≡ all → next ++ option_faults q rest ≡ all
option_next q o left rest told next all found steps is added so_far =
    ap (λ (l : List Fault). l ++ option_faults q rest) added
    ∙ append_assoc told (at_place found o.place) (option_faults q rest)
    ∙ ap (λ (l : List Fault). told ++ (l ++ option_faults q rest)) (sym (one_fault q o found is))
    ∙ ap (λ (l : List Node). told ++ option_faults q l) (sym steps) ∙ so_far

pub option_told : (q o : Node) (left rest : List Node) (told next all : List Fault) (cause : Cause) → left ≡ o ∷ rest → Some cause ≡ first_cause (has_option_fault q) o question_causes
    → next ≡ told ++ fault_of cause o.place ∷ [] → told ++ option_faults q left ≡ all → next ++ option_faults q rest ≡ all
option_told q o left rest told next all cause steps is added so_far = option_next q o left rest told next all (Some cause) steps is added so_far

pub option_passed : (q o : Node) (left rest : List Node) (told all : List Fault) → left ≡ o ∷ rest → None ≡ first_cause (has_option_fault q) o question_causes
    → told ++ option_faults q left ≡ all → told ++ option_faults q rest ≡ all
option_passed q o left rest told all steps is so_far = option_next q o left rest told told all None steps is (sym (append-nil told)) so_far

-- ---- a question with its options

options_same : (shape : Shape) (known : ℕ → Bool) (q : Asked) (os : List Node) → part_faults shape known (map (option q) os) ≡ option_faults q.node os
options_same shape known q [] = refl
options_same shape known q (o ∷ os) = ap (λ (l : List Fault). its_faults node_place (has_option_fault q.node) question_causes o ++ l) (options_same shape known q os)

pub question_told : (shape : Shape) (known : ℕ → Bool) (q : Asked) (lacks outside : Bool) (old a b new : List Fault) → lacks ≡ lacks_store known q.node → outside ≡ is_field_outside shape q.field
    → a ≡ old ++ where_it_is lacks UnknownVarstore q.node.place → b ≡ a ++ where_it_is outside FieldOutside q.node.place → new ≡ b ++ option_faults q.node (options q.node)
    → new ≡ old ++ part_faults shape known (parts_of q)
question_told shape known q lacks outside old a b new e f added_a added_b added =
    let has = has_question_fault shape known in
    let p = q.node.place in
    let one = where_it_is lacks UnknownVarstore p in
    let two = where_it_is outside FieldOutside p in
    let its = its_faults place_of has question_causes (itself q) in
    let those = option_faults q.node (options q.node) in
    let own : its ≡ one ++ two =
    its_split place_of has UnknownVarstore (FieldOutside ∷ OptionRange ∷ MixedOptions ∷ []) (itself q)
    ∙ ap (λ (x : Bool). where_it_is x UnknownVarstore p ++ its_faults place_of has (FieldOutside ∷ OptionRange ∷ MixedOptions ∷ []) (itself q)) (sym e)
    ∙ ap (λ (l : List Fault). one ++ l)
    (its_split place_of has FieldOutside (OptionRange ∷ MixedOptions ∷ []) (itself q) ∙ ap (λ (x : Bool). where_it_is x FieldOutside p ++ []) (sym f) ∙ append-nil two) in
    added ∙ ap (λ (l : List Fault). l ++ those) (added_b ∙ ap (λ (l : List Fault). l ++ two) added_a ∙ append_assoc old one two)
    ∙ append_assoc old (one ++ two) those
    ∙ ap (λ (l : List Fault). old ++ (l ++ those)) (sym own)
    ∙ ap (λ (l : List Fault). old ++ (its ++ l)) (sym (options_same shape known q (options q.node)))

-- ---- questions one behind the other

pub question_next : (shape : Shape) (known : ℕ → Bool) (q : Asked) (left rest : List Asked) (told next all : List Fault) → left ≡ q ∷ rest → next ≡ told ++ part_faults shape known (parts_of q)
    → told ++ part_faults shape known (flat_map parts_of left) ≡ all → next ++ part_faults shape known (flat_map parts_of rest) ≡ all
question_next shape known q left rest told next all steps added so_far =
    let own = part_faults shape known (parts_of q) in
    let later = part_faults shape known (flat_map parts_of rest) in
    ap (λ (l : List Fault). l ++ later) added ∙ append_assoc told own later
    ∙ ap (λ (l : List Fault). told ++ l) (sym (flat_map-append (its_faults place_of (has_question_fault shape known) question_causes) (parts_of q) (flat_map parts_of rest)))
    ∙ ap (λ (l : List Asked). told ++ part_faults shape known (flat_map parts_of l)) (sym steps) ∙ so_far
