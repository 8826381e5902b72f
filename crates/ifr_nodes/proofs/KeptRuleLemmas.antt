-- The rules of some nodes and one node more.
use Rattle.std.proofs.Common.{◌≡◌, true, false, List, [], ◌∷◌, ◌++◌, reverse, refl, ap, ◌∙◌}
use Rattle.std.specs.Prelude.{filter}
use Rattle.std.proofs.lemmas.List.{append-nil, reverse-append}
use Rattle.std.proofs.lemmas.List.Elements.{filter-append}
use Rattle.ifr_opcodes.specs.Forest.{Node}
use Rattle.ifr_nodes.specs.Rules.{is_rule, rule_nodes}

pub one_rule : (before : List Node) (n : Node) → is_rule n ≡ true → rule_nodes (before ++ n ∷ []) ≡ n ∷ rule_nodes before
one_rule before n is = ap reverse (filter-append is_rule before (n ∷ []) ∙ ap (λ (l : List Node). filter is_rule before ++ l) (rw is refl)) ∙ reverse-append (filter is_rule before) (n ∷ [])

pub no_rule : (before : List Node) (n : Node) → is_rule n ≡ false → rule_nodes (before ++ n ∷ []) ≡ rule_nodes before
no_rule before n other = ap reverse (filter-append is_rule before (n ∷ []) ∙ ap (λ (l : List Node). filter is_rule before ++ l) (rw other refl) ∙ append-nil (filter is_rule before))
