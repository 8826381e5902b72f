-- How many questions may be changed, and how many not, by what decides on them (own rule).
use Rattle.std.specs.Prelude.{ℕ, ◌==◌, Bool, if◌then◌else◌, Option, Some, None, List, [], ◌∷◌, ◌++◌, bytes_eq, codes, decimal, filter, length}
use Rattle.std.specs.List.{flat_map}
use Rattle.hii_values.specs.declared.denial.DenialKind.{DenialKind}
use Rattle.hii_values.specs.declared.denial.DenialKind.TheVariants.{GrayOutIf, SuppressIf, DisableIf, Locked, ReadOnly, Outside}
use Rattle.hii_questions.specs.Fields.{Asked, questions}
use Rattle.guard_policy.specs.Policy.{fixed}
use Rattle.guard_policy.specs.World.{World}
use Rattle.question_rows.specs.States.{standing_class, standing_of, standing_word}

-- how questions stand, in the order in which they are counted
abbrev pub standings : List (Option DenialKind)
standings =
    None ∷ Some GrayOutIf ∷ Some SuppressIf ∷ Some DisableIf ∷ Some Locked ∷ Some ReadOnly ∷ Some Outside ∷ []

abbrev pub stands_so : World → Option DenialKind → Asked → Bool
stands_so w standing q =
    bytes_eq (standing_class (standing_of (fixed w q.node))) (standing_class standing)

-- how many there are, where there is one
abbrev pub count_item : Option DenialKind → ℕ → List ℕ
count_item standing count =
    if count == 0 then []
    else codes "<li><span class=\"badge " ++ standing_class standing ++ codes "\">" ++ decimal count
    ++ codes " " ++ standing_word standing ++ codes "</span>"

abbrev pub standing_item : World → Option DenialKind → List ℕ
standing_item w standing = count_item standing (length (filter (stands_so w standing) (questions w.nodes)))

abbrev pub counts_list : World → List ℕ
counts_list w =
    codes "<ul class=\"counts\">" ++ flat_map (standing_item w) standings ++ codes "</ul>\n"
