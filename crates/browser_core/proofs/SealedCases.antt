-- A worked case of sealed questions.
use Rattle.std.proofs.Common.{◌≡◌, ℕ, zero, suc, ◌+◌, Some, List, [], ◌∷◌, ◌++◌, option_map, refl, sym, ap, ◌∙◌, subst, arith}
use Rattle.std.specs.Prelude.{Contains, replicate}
use Rattle.hii_bytes.specs.Numbers.{number_in}
use Rattle.ifr_opcodes.specs.Rows.{row_of, is_question_number, is_statement_number, is_store_number}
use Rattle.ifr_opcodes.specs.Reading.{cut, levels, tree_of}
use Rattle.ifr_expr.specs.Dependence.{rule_ids}
use Rattle.ifr_expr.specs.Support.{ids_of}
use Rattle.ifr_nodes.specs.Nodes.{nodes_of}
use Rattle.hii_questions.specs.Fields.{question_with}
use Rattle.guard_policy.specs.laws.Support.{support_over}
use Rattle.browser_core.specs.laws.Sealed.{deciding, IsSealed}

-- a form set with the GUID of sixteen bytes 0x22
abbrev form_set : List ℕ
form_set = (0x0E ∷ 0x97 ∷ replicate 16 0x22) ++ (1 ∷ 0 ∷ 0 ∷ 0 ∷ 0 ∷ [])

-- the store 1 of two bytes
abbrev store : List ℕ
store = (0x24 ∷ 0x18 ∷ replicate 16 0x33) ++ (1 ∷ 0 ∷ 2 ∷ 0 ∷ 0x56 ∷ 0 ∷ [])

-- the form 1 with the title 2
abbrev form : List ℕ
form = 1 ∷ 0x86 ∷ 1 ∷ 0 ∷ 2 ∷ 0 ∷ []

-- a checkbox over a byte of the store, whose prompt is its id and 2
abbrev checkbox : ℕ → ℕ → List ℕ
checkbox id offset = 0x06 ∷ 0x0E ∷ (id + 2) ∷ 0 ∷ 0 ∷ 0 ∷ id ∷ 0 ∷ 1 ∷ 0 ∷ offset ∷ 0 ∷ 0 ∷ 0 ∷ []

abbrev equal_to : ℕ → ℕ → List ℕ
equal_to id value = 0x12 ∷ 0x06 ∷ id ∷ 0 ∷ value ∷ 0 ∷ []

abbrev end : List ℕ
end = 0x29 ∷ 2 ∷ []

abbrev before : List ℕ
before = form_set ++ store ++ form

abbrev inconsistent_if : ℕ → List ℕ
inconsistent_if text = 0x11 ∷ 0x84 ∷ text ∷ 0 ∷ []

abbrev guarding_itself : List ℕ
guarding_itself = (99 ∷ 0 ∷ 0 ∷ 2 ∷ []) ++ before ++ checkbox 1 0 ++ (0x06 ∷ 0x8E ∷ 4 ∷ 0 ∷ 0 ∷ 0 ∷ 2 ∷ 0 ∷ 1 ∷ 0 ∷ 1 ∷ 0 ∷ 0 ∷ 0 ∷ []) ++ inconsistent_if 7 ++ equal_to 2 1 ++ end ++ end ++ end ++ end

-- The first question there is sealed by itself: what the other one holds changes no answer about it.

decided_by_none : option_map (λ q. support_over (nodes_of guarding_itself) (deciding q)) (question_with (nodes_of guarding_itself) 1) ≡ Some []
unfolding cut levels tree_of number_in rule_ids ids_of is_question_number is_statement_number is_store_number row_of
decided_by_none = refl

the_first_is_sealed : IsSealed (nodes_of guarding_itself) (1 ∷ [])
the_first_is_sealed id behind q (suc k, less, is) there among = absurd (omega (arith, less))
the_first_is_sealed id behind q (zero, less, is) there among =
    let one : Some (support_over (nodes_of guarding_itself) (deciding q)) ≡ Some [] =
    ap (option_map (λ n. support_over (nodes_of guarding_itself) (deciding n))) (sym there ∙ ap (question_with (nodes_of guarding_itself)) (sym is)) ∙ decided_by_none in
    let none : support_over (nodes_of guarding_itself) (deciding q) ≡ [] = cc in
    absurd (subst (λ ids. Contains ids behind → ⊥) (sym none) (λ here. omega (arith, here.1)) among)
