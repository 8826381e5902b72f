-- The conditions that decide of the changes of a question are those of the decisions on them.
use Rattle.std.proofs.Common.{ℕ, zero, suc, ◌==◌, Bool, List, [], ◌∷◌, ◌++◌, refl, sym, subst, inl, inr, arith}
use Rattle.std.specs.Prelude.{Contains, filter}
use Rattle.std.specs.List.{flat_map}
use Rattle.std.proofs.lemmas.Bool.{eq-eqb}
use Rattle.std.proofs.lemmas.List.Elements.{Contains-append_left, Contains-append_right, Contains-append_cases}
use Rattle.ifr_opcodes.specs.Fields.{option_value}
use Rattle.ifr_opcodes.specs.Forest.{Node}
use Rattle.ifr_nodes.specs.Nodes.{options, inconsistents, warnings}
use Rattle.ifr_index.proofs.OptionsOfLemmas.{passes}
use Rattle.ifr_index.proofs.PathLemmas.{kept}
use Rattle.ifr_nodes.proofs.ViewLemmas.{further}
use Rattle.hii_questions.specs.code.Views.{question_node}
use Rattle.hii_questions.specs.declared.question.Question.{Question}
use Rattle.guard_policy.specs.laws.Support.{around, conditions}
use Rattle.guard_policy.specs.World.{World}
use Rattle.guard_policy.specs.declared.support.Decision.{Decision}
use Rattle.guard_policy.specs.declared.support.Decision.TheVariants.{Listed, Changeable, OptionOpen, Opens, Consistent, MaySubmit, Warnings}
use Rattle.browser_core.specs.laws.Sealed.{deciding, IsOfChange, DecidingHasAll, DecidingHasNoOthers}

-- ---- lists

-- what stands around some nodes stands around one of them
around_some : (os : List Node) (c : Node) → Contains (flat_map around os) c → (o : Node) × Contains os o × Contains (around o) c
around_some [] c (k, lt, e) = absurd (omega arith)
around_some (o ∷ os) c within = elim (Contains-append_cases (around o) (flat_map around os) c within) [
  | inl here ↦ (o, (0, omega arith, refl), here)
  | inr behind ↦ let found = around_some os c behind in (found.0, further o os found.0 found.1, found.2)
]

-- and what stands around one of them, around all
around_one : (os : List Node) (o c : Node) → Contains os o → Contains (around o) c → Contains (flat_map around os) c
around_one [] o c (k, lt, e) within = absurd (omega arith)
around_one (p ∷ os) o c (zero, lt, e) within = Contains-append_left (around p) (flat_map around os) c (subst (λ n. Contains (around n) c) (sym e) within)
around_one (p ∷ os) o c (suc k, lt, e) within = Contains-append_right (around p) (flat_map around os) c (around_one os o c (k, omega arith, e) within)

-- ---- the parts of what decides

of_itself : (q c : Node) → Contains (around q) c → Contains (deciding q) c
of_itself q c within = Contains-append_left (around q) (flat_map around (options q) ++ (inconsistents q ++ warnings q)) c within

of_options : (q c : Node) → Contains (flat_map around (options q)) c → Contains (deciding q) c
of_options q c within =
    Contains-append_right (around q) (flat_map around (options q) ++ (inconsistents q ++ warnings q)) c
    (Contains-append_left (flat_map around (options q)) (inconsistents q ++ warnings q) c within)

of_its_own : (q c : Node) → Contains (inconsistents q ++ warnings q) c → Contains (deciding q) c
of_its_own q c within =
    Contains-append_right (around q) (flat_map around (options q) ++ (inconsistents q ++ warnings q)) c
    (Contains-append_right (flat_map around (options q)) (inconsistents q ++ warnings q) c within)

-- around an option of a value
of_value : (q c : Node) (value : ℕ) → Contains (flat_map around (filter (λ o. option_value o.op == value) (options q))) c → Contains (deciding q) c
of_value q c value within =
    let which : Node → Bool = λ o. option_value o.op == value in
    let found = around_some (filter which (options q)) c within in
    of_options q c (around_one (options q) found.0 c (kept which (options q) found.0 found.1) found.2)

pub has_all : DecidingHasAll
has_all w q c (Changeable statement) is within = of_itself q c (subst (λ n. Contains (around n) c) is within)
has_all w q c (OptionOpen question value) is within = subst (λ n. Contains (deciding n) c) is (of_value (question_node question) c value within)
has_all w q c (Consistent question) is within = of_its_own q c (Contains-append_left (inconsistents q) (warnings q) c (subst (λ n. Contains (inconsistents n) c) is within))
has_all w q c (Warnings question) is within = of_its_own q c (Contains-append_right (inconsistents q) (warnings q) c (subst (λ n. Contains (warnings n) c) is within))
has_all w q c (Listed statement) is within = absurd is
has_all w q c (Opens form) is within = absurd is
has_all w q c MaySubmit is within = absurd is

-- ---- each of them decides

abbrev Decides : World → Question → Node → Type 0
Decides w question c = (decision : Decision) × IsOfChange (question_node question) decision × Contains (conditions w decision) c

by_option : (w : World) (question : Question) (c : Node) → Contains (flat_map around (options (question_node question))) c → Decides w question c
by_option w question c within =
    let found = around_some (options (question_node question)) c within in
    let value = option_value found.0.op in
    let which : Node → Bool = λ o. option_value o.op == value in
    (OptionOpen question value, refl, around_one (filter which (options (question_node question))) found.0 c (passes which (options (question_node question)) found.0 found.1 (eq-eqb value value refl)) found.2)

by_its_own : (w : World) (question : Question) (c : Node) → Contains (inconsistents (question_node question) ++ warnings (question_node question)) c → Decides w question c
by_its_own w question c within = elim (Contains-append_cases (inconsistents (question_node question)) (warnings (question_node question)) c within) [
  | inl inconsistent ↦ (Consistent question, refl, inconsistent)
  | inr warns ↦ (Warnings question, refl, warns)
]

pub has_no_others : DecidingHasNoOthers
has_no_others w question c within =
    let q = question_node question in
    elim (Contains-append_cases (around q) (flat_map around (options q) ++ (inconsistents q ++ warnings q)) c within) [
      | inl itself ↦ (Changeable question.statement, refl, itself)
      | inr behind ↦ elim (Contains-append_cases (flat_map around (options q)) (inconsistents q ++ warnings q) c behind) [
        | inl option ↦ by_option w question c option
        | inr its_own ↦ by_its_own w question c its_own
      ]
    ]
