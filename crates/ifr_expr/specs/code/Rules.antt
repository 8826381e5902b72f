-- Rules in the order in which they end.
use Rattle.std.specs.Prelude.{ℕ, ◌<◌, ◌≤◌, Option, List, [], ◌∷◌, ⊤}
use Rattle.std.specs.List.{find, AllByRecursion}
use Rattle.ifr_expr.specs.Trees.{post}
use Rattle.ifr_expr.specs.Meaning.{Rule, names}

-- the rule that a reference names
abbrev pub named : List Rule → ℕ → ℕ → Option Rule
named rules id place = find (names id place) rules

-- Each rule's expression stands before its end, and no rule behind it in the list ends later.
abbrev pub AreOrdered : List Rule → Type 0
AreOrdered [] = ⊤
AreOrdered (r ∷ earlier) =
    AllByRecursion (λ op. op.place < r.ends) (post r.tree)
    × (AllByRecursion (λ q. q.ends ≤ r.ends) earlier × AreOrdered earlier)
