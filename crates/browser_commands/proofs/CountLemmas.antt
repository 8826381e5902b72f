-- Conditions that are counted write by write.
use Rattle.std.proofs.Common.{◌≡◌, ℕ, ◌+◌, ◌-◌, ◌^◌, ◌≤◌, min, List, [], ◌∷◌, ◌++◌, refl, ◌∙◌, arith, sum_by}
use Rattle.std.proofs.lemmas.List.Sums.{sum_by-cons}
use Rattle.ifr_opcodes.specs.Forest.{Node}
use Rattle.kept_conditions.specs.Kept.{counted}
use Rattle.kept_conditions.specs.Touching.{renewals}
use Rattle.session_steps.specs.Renewed.{Write}
use Rattle.browser_commands.specs.code.Counting.{counted_all}

pub counted_all-append : (count : ℕ) (ns : List Node) (xs ys : List Write) → counted_all count ns (xs ++ ys) ≡ counted_all (counted_all count ns xs) ns ys
counted_all-append count ns [] ys = refl
counted_all-append count ns (x ∷ xs) ys = counted_all-append (counted count (renewals ns x)) ns xs ys

-- Counted one after the other they are as many as counted at once.
counted_sum : (count : ℕ) (ns : List Node) (ws : List Write) → count ≤ 2 ^ 64 - 1 → counted_all count ns ws ≡ min (count + sum_by (renewals ns) ws) (2 ^ 64 - 1)
counted_sum count ns [] few = omega (arith, few)
counted_sum count ns (w ∷ ws) few =
    let more = sum_by-cons (renewals ns) w ws in
    let rest = counted_sum (counted count (renewals ns w)) ns ws (omega arith) in
    rest ∙ omega (arith, more)

pub counted_from_none : (ns : List Node) (ws : List Write) → counted_all 0 ns ws ≡ min (sum_by (renewals ns) ws) (2 ^ 64 - 1)
counted_from_none ns ws = counted_sum 0 ns ws (omega arith) ∙ omega arith
