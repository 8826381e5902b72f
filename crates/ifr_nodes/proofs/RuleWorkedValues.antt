-- Sizes of rules and rules that are named, worked out by hand.
use Rattle.std.proofs.Common.{◌≡◌, ℕ, zero, suc, ◌+◌, ◌*◌, true, false, Some, None, List, [], ◌∷◌, refl}
use Rattle.hii_bytes.specs.Numbers.{number_in}
use Rattle.ifr_expr.specs.Meaning.{Rule}
use Rattle.ifr_expr.specs.code.Rules.{named}
use Rattle.ifr_expr.specs.Trees.{Tree, leaf, two}
use Rattle.ifr_nodes.specs.Rules.{rule_sizes, size, is_rule_too_large}

-- a reference to the rule 1 at a place, an opcode that holds, and two operands of AND
abbrev reference : ℕ → Tree
reference place = leaf (record { place = place; op = 63 ∷ 3 ∷ 1 ∷ [] })

abbrev truth : ℕ → Tree
truth place = leaf (record { place = place; op = 70 ∷ 2 ∷ [] })

abbrev both : ℕ → Tree → Tree → Tree
both place left right = two (record { place = place; op = 21 ∷ 2 ∷ [] }) left right

-- rules of the id 1 in one form, each from a place that is 10 greater
abbrev rule : ℕ → Tree → Rule
rule at tree = record { id = 1; ends = at + 9; form_ends = 1000; tree = tree }

abbrev chain : ℕ → List Rule
chain zero = rule 0 (truth 3) ∷ []
chain (suc n) = rule (10 * suc n) (reference (10 * suc n + 3)) ∷ chain n

sixteenth : is_rule_too_large (size (chain 14) (rule 150 (reference 153))) ≡ false
unfolding rule_sizes number_in
sixteenth = refl

seventeenth : is_rule_too_large (size (chain 15) (rule 160 (reference 163))) ≡ true
unfolding rule_sizes number_in
seventeenth = refl

-- a rule that names the last one twice has twice its weight
twice : size (chain 0) (rule 10 (both 19 (reference 13) (reference 16))) ≡ record { depth = 2; weight = 5 }
unfolding rule_sizes number_in
twice = refl

-- a reference that stands before a rule or in it, behind its form, or has another id names nothing
before_it : named (chain 0) 1 8 ≡ None
before_it = refl

behind_it : named (chain 0) 1 9 ≡ Some (rule 0 (truth 3))
behind_it = refl

behind_its_form : named (chain 0) 1 1000 ≡ None
behind_its_form = refl

of_another_id : named (chain 0) 2 9 ≡ None
of_another_id = refl

the_last : named (chain 1) 1 50 ≡ Some (rule 10 (reference 13))
the_last = refl
