-- The conditions that are left of a question, where the first of those that are kept is passed.
use Rattle.std.proofs.Common.{◌≡◌, ℕ, true, false, eqb, List, ◌∷◌, map, ap, ◌∙◌}
use Rattle.std.specs.List.{take_while}
use Rattle.std.proofs.lemmas.Bool.{cond-true, cond-false}
use Rattle.std.proofs.lemmas.List.Sums.{take_while-cons}
use Rattle.ifr_opcodes.specs.Forest.{Node}
use Rattle.ifr_nodes.specs.code.Checked.{node_in}
use Rattle.ifr_index.specs.declared.index.ConditionEntry.{ConditionEntry}
use Rattle.ifr_index.proofs.NoSubmitLemmas.{of_number}

-- the nodes of those of a number, as far as they name a question
abbrev pub left_of : List ℕ → ℕ → ℕ → List ConditionEntry → List Node
left_of bytes question code kept = of_number bytes code (take_while (λ one. eqb one.question question) kept)

named : (question : ℕ) (first : ConditionEntry) (rest : List ConditionEntry) → eqb first.question question ≡ true
    → take_while (λ one. eqb one.question question) (first ∷ rest) ≡ first ∷ take_while (λ one. eqb one.question question) rest
named question first rest names = take_while-cons (λ one. eqb one.question question) first rest ∙ cond-true _ _ _ names

pub left_first : (bytes : List ℕ) (question code : ℕ) (first : ConditionEntry) (kept rest : List ConditionEntry) → kept ≡ first ∷ rest → eqb first.question question ≡ true → eqb first.code code ≡ true
    → left_of bytes question code kept ≡ node_in bytes first.place ∷ left_of bytes question code rest
left_first bytes question code first kept rest e names is =
    ap (left_of bytes question code) e ∙ ap (of_number bytes code) (named question first rest names) ∙ ap (map (λ one. node_in bytes one.place)) (cond-true (eqb first.code code) _ _ is)

pub left_passed : (bytes : List ℕ) (question code : ℕ) (first : ConditionEntry) (kept rest : List ConditionEntry) → kept ≡ first ∷ rest → eqb first.question question ≡ true → eqb first.code code ≡ false
    → left_of bytes question code kept ≡ left_of bytes question code rest
left_passed bytes question code first kept rest e names other =
    ap (left_of bytes question code) e ∙ ap (of_number bytes code) (named question first rest names) ∙ ap (map (λ one. node_in bytes one.place)) (cond-false (eqb first.code code) _ _ other)
