-- Blocks of configuration texts that set questions.
use Rattle.std.proofs.Common.{◌≡◌, ℕ, true, false, List, [], ◌∷◌, map, Option, Some, None, Result, Ok, Err, refl, sym, ap, subst, ◌∙◌, arith, inl, inr}
use Rattle.std.specs.Prelude.{◌==◌, ◌&&◌, Contains, filter, is_some, IfOk, ⊤}
use Rattle.std.specs.List.{AllByRecursion}
use Rattle.std.specs.Option.{option_or}
use Rattle.std.proofs.lemmas.Bool.{cases_Bool, cond-false, and_parts, eqb-true}
use Rattle.ifr_opcodes.specs.Forest.{Node}
use Rattle.ifr_opcodes.specs.Fields.{is_read_only}
use Rattle.ifr_opcodes.specs.Reading.{tree_of}
use Rattle.ifr_nodes.specs.Accepted.{IsAccepted}
use Rattle.ifr_nodes.specs.Nodes.{nodes_of, is_question}
use Rattle.ifr_scopes.specs.declared.around.Around.{Around}
use Rattle.ifr_nodes.proofs.PlaceLemmas.{is_found}
use Rattle.ifr_nodes.proofs.ViewLemmas.{further}
use Rattle.hii_varstore.specs.Stores.{StoreMap}
use Rattle.hii_values.specs.Types.{is_password}
use Rattle.hii_values.specs.Inputs.{field}
use Rattle.hii_values.specs.declared.denial.DenialKind.TheVariants.{Password, ReadOnly}
use Rattle.hii_questions.specs.Fields.{Field, Asked, asked, questions, field_passes, is_same_field, has_field}
use Rattle.hii_questions.specs.code.Views.{question_node, question_view}
use Rattle.hii_questions.specs.declared.question.Question.{Question}
use Rattle.guard_policy.specs.Policy.{covered, denied_by, fixed, fixed_itself, or_else}
use Rattle.guard_policy.specs.World.{World}
use Rattle.guard_policy.specs.code.Answers.{unless}
use Rattle.guard_policy.specs.code.Surroundings.{IsAroundNode, answer_of}
use Rattle.guard_policy.specs.code.Views.{bytes_of, world}
use Rattle.guard_policy.proofs.DenialLemmas.{none_of, some_of}
use Rattle.guard_policy.specs.declared.denial.Denial.{Denial}
use Rattle.guard_policy.specs.declared.policy.Policy.{Policy}
use Rattle.session_steps.specs.Configuration.{first_question, first_free, question_of_field}
use Rattle.session_steps.specs.State.{State, world_of}
use Rattle.session_steps.specs.Step.{denied, set_field, set_question}
use Rattle.browser_commands.specs.code.Changing.{IsOver, IsOfField, FirstChoice, Chooses, set_over}
use Rattle.browser_commands.proofs.SetLemmas.{over_world, fixed_question}

-- ---- the questions with a field

same_field : (f : Field) (o : Option Field) → field_passes (is_same_field f) o ≡ true → o ≡ Some f
same_field f None e = absurd cc
same_field f (Some g) e =
    let p = and_parts (g.store == f.store && g.offset == f.offset) (g.width == f.width) e in
    let q = and_parts (g.store == f.store) (g.offset == f.offset) p.0 in
    let store : g.store ≡ f.store = eqb-true g.store f.store q.0 in
    let offset : g.offset ≡ f.offset = eqb-true g.offset f.offset q.1 in
    let width : g.width ≡ f.width = eqb-true g.width f.width p.1 in
    ap Some (rw (store, offset, width) refl)

of_field_among : (ifr : List ℕ) (f : Field) (ns : List Node) → IsAccepted ifr → ((n : Node) → Contains ns n → Contains (nodes_of ifr) n)
    → AllByRecursion (IsOfField ifr f) (filter (has_field f) (map (asked (nodes_of ifr)) (filter is_question ns)))
of_field_among ifr f [] accepted within = tt
of_field_among ifr f (n ∷ ns) accepted within =
    let rest = of_field_among ifr f ns accepted (λ m c. within m (further n ns m c)) in
    elim (cases_Bool (is_question n)) [
      | inr other ↦ rw other rest
      | inl is ↦
          let q : Asked = asked (nodes_of ifr) n in
          elim (cases_Bool (has_field f q)) [
            | inr apart ↦ rw (is, apart) rest
            | inl has ↦
                let here : IsOfField ifr f q = (record { asks = is; own = refl; node = is_found ifr (tree_of ifr) n accepted.checked.spelled (within n (0, omega arith, refl)) }, same_field f q.field has) in
                rw (is, has) (here, rest)
          ]
    ]

-- each question with a field is one of the package
pub of_field : (ifr : List ℕ) (f : Field) → IsAccepted ifr → AllByRecursion (IsOfField ifr f) (filter (has_field f) (questions (nodes_of ifr)))
of_field ifr f accepted = of_field_among ifr f (nodes_of ifr) accepted (λ n c. c)

-- ---- the first that is not fixed, or else the first

-- the first of some questions that were met, or else of those that are left
abbrev pub first_met : Option (Question × Result Around Denial) → List Asked → Option Node
first_met None left = first_question left
first_met (Some found) left = Some (question_node found.0)

-- a question that was met is fixed
abbrev pub IsMet : Policy → StoreMap → Field → Option (Question × Result Around Denial) → Type 0
IsMet policy working f None = ⊤
IsMet policy working f (Some found) =
    IsOfField (bytes_of policy) f (question_view found.0)
    × (answer_of found.1 ≡ unless (fixed (world policy working) (question_node found.0)))
    × IfOk found.1 (IsAroundNode (bytes_of policy) (question_node found.0))

-- These questions are left of those with a field, and those before them are fixed.
pub record ChoiceLeft (policy : Policy) (working : StoreMap) (f : Field) (first : Option (Question × Result Around Denial)) (left : List Asked) : Type 0 where
  pub each : AllByRecursion (IsOfField (bytes_of policy) f) left
  pub met : IsMet policy working f first
  pub said : set_over policy working f ≡ option_or (first_free (world policy working) left) (first_met first left)

pub choice_start : (policy : Policy) (working : StoreMap) (f : Field) (asks : List ℕ) (left : List Asked) → IsAccepted (bytes_of policy) → asks ≡ bytes_of policy → left ≡ filter (has_field f) (questions (nodes_of asks)) → ChoiceLeft policy working f None left
choice_start policy working f asks left accepted same is =
    let all : left ≡ filter (has_field f) (questions (nodes_of (bytes_of policy))) = is ∙ ap (λ (ifr : List ℕ). filter (has_field f) (questions (nodes_of ifr))) same in
    rw all (record { each = of_field (bytes_of policy) f accepted; met = tt; said = refl })

pub choice_found : (policy : Policy) (working : StoreMap) (f : Field) (first : Option (Question × Result Around Denial)) (question : Question) (around : Around) (left rest : List Asked) → left ≡ question_view question ∷ rest → ChoiceLeft policy working f first left
    → unless (fixed (world policy working) (question_node question)) ≡ Ok tt → IsAroundNode (bytes_of policy) (question_node question) around → FirstChoice policy working f (Some (question, Ok around))
choice_found policy working f first question around left rest e h free is =
    let none = none_of (fixed (world policy working) (question_node question)) free in
    let all : AllByRecursion (IsOfField (bytes_of policy) f) (question_view question ∷ rest) = subst (AllByRecursion (IsOfField (bytes_of policy) f)) e h.each in
    (all.0, rw (e, none) at h.said, sym free, is)

next_choice : (policy : Policy) (working : StoreMap) (f : Field) (first now : Option (Question × Result Around Denial)) (question : Question) (left rest : List Asked) (denial : Denial) → left ≡ question_view question ∷ rest → ChoiceLeft policy working f first left
    → unless (fixed (world policy working) (question_node question)) ≡ Err denial → IsMet policy working f now → first_met now rest ≡ first_met first (question_view question ∷ rest) → ChoiceLeft policy working f now rest
next_choice policy working f first now question left rest denial e h why met same =
    let some = some_of (fixed (world policy working) (question_node question)) denial why in
    let all : AllByRecursion (IsOfField (bytes_of policy) f) (question_view question ∷ rest) = subst (AllByRecursion (IsOfField (bytes_of policy) f)) e h.each in
    record { each = all.1; met = met; said = (rw (e, some) at h.said) ∙ ap (option_or (first_free (world policy working) rest)) (sym same) }

pub each_first : (policy : Policy) (f : Field) (q : Asked) (left rest : List Asked) → left ≡ q ∷ rest → AllByRecursion (IsOfField (bytes_of policy) f) left → IsOfField (bytes_of policy) f q
each_first policy f q left rest e each = (subst (AllByRecursion (IsOfField (bytes_of policy) f)) e each).0

-- the first question that is met
pub choice_next : (policy : Policy) (working : StoreMap) (f : Field) (first : Option (Question × Result Around Denial)) (question : Question) (left rest : List Asked) (denial : Denial) → is_some first ≡ false → left ≡ question_view question ∷ rest
    → ChoiceLeft policy working f first left → unless (fixed (world policy working) (question_node question)) ≡ Err denial → ChoiceLeft policy working f (Some (question, Err denial)) rest
choice_next policy working f None question left rest denial none e h why =
    next_choice policy working f None (Some (question, Err denial)) question left rest denial e h why (each_first policy f (question_view question) left rest e h.each, sym why, tt) refl
choice_next policy working f (Some found) question left rest denial none e h why = absurd cc

-- a later one
pub choice_later : (policy : Policy) (working : StoreMap) (f : Field) (first : Option (Question × Result Around Denial)) (question : Question) (left rest : List Asked) (denial : Denial) → is_some first ≡ true → left ≡ question_view question ∷ rest
    → ChoiceLeft policy working f first left → unless (fixed (world policy working) (question_node question)) ≡ Err denial → ChoiceLeft policy working f first rest
choice_later policy working f None question left rest denial some e h why = absurd cc
choice_later policy working f (Some found) question left rest denial some e h why = next_choice policy working f (Some found) (Some found) question left rest denial e h why h.met refl

-- what is READ_ONLY is fixed, whatever stands around it
or_some : (a b : Option Denial) (d : Denial) → b ≡ Some d → (x : Denial) × (unless (or_else a b) ≡ Err x)
or_some None b d e = (d, ap unless e)
or_some (Some x) b d e = (x, refl)

read_only_itself : (ns : List Node) (n : Node) → is_question n ≡ true → is_read_only n.op ≡ true → fixed_itself ns n ≡ Some (denied_by ReadOnly n)
read_only_itself ns n asks only = rw (asks, only) refl

pub choice_passed : (policy : Policy) (working : StoreMap) (f : Field) (first : Option (Question × Result Around Denial)) (question : Question) (left rest : List Asked) → is_some first ≡ true → is_read_only (question_node question).op ≡ true
    → left ≡ question_view question ∷ rest → ChoiceLeft policy working f first left → ChoiceLeft policy working f first rest
choice_passed policy working f first question left rest some only e h =
    let n = question_node question in
    let w = world policy working in
    let why = or_some (covered w n) (fixed_itself w.nodes n) (denied_by ReadOnly n) (read_only_itself w.nodes n question.asks only) in
    choice_later policy working f first question left rest why.0 some e h why.1

pub choice_end : (policy : Policy) (working : StoreMap) (f : Field) (first : Option (Question × Result Around Denial)) (left : List Asked) → left ≡ [] → ChoiceLeft policy working f first left → FirstChoice policy working f first
choice_end policy working f None left e h = rw e at h.said
choice_end policy working f (Some found) left e h = (h.met.0, rw e at h.said, h.met.1, h.met.2)

-- ---- the question of a block

-- what a session sets is what its policy finds
pub set_there : (policy : Policy) (working : StoreMap) (f : Field) (s : State) → IsOver policy working s → set_over policy working f ≡ question_of_field (world_of s) (nodes_of s.ifr) f
set_there policy working f s over =
    ap (λ (w : World). question_of_field w (nodes_of (bytes_of policy)) f) (over_world policy working s over) ∙ ap (λ (ifr : List ℕ). question_of_field (world_of s) (nodes_of ifr) f) over.ifr

-- a question that is no password is set as by its id
pub no_password : (s : State) (n : Node) (bytes : List ℕ) → is_password n ≡ false → set_field s (Some n) bytes ≡ set_question s (Some n) (field bytes)
no_password s n bytes not_it = cond-false (is_password n) (denied s (denied_by Password n)) (set_question s (Some n) (field bytes)) not_it

pub all_fixed : (policy : Policy) (working : StoreMap) (f : Field) (n : Node) (denial : Denial) → set_over policy working f ≡ Some n → is_password n ≡ false → unless (fixed (world policy working) n) ≡ Err denial
    → Chooses policy working f (Err denial)
all_fixed policy working f n denial some not_it why = λ s bytes over.
    let there = sym (set_there policy working f s over) ∙ some in
    let by : unless (fixed (world_of s) n) ≡ Err denial = subst (λ (w : World). unless (fixed w n) ≡ Err denial) (over_world policy working s over) why in
    ap (λ (o : Option Node). set_field s o bytes) there ∙ no_password s n bytes not_it ∙ fixed_question s n (field bytes) denial by
