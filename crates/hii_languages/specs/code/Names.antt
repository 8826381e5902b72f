-- The languages of string packages, in the order of their letters.
use Rattle.std.specs.Prelude.{◌≡◌, ℕ, List, Option, option_map, position}
use Rattle.std.specs.Cmp.Lexicographic.{slice_cmp}
use Rattle.std.specs.List.{find}
use Rattle.std.specs.List.Sorted.{IsSortedByKey}
use Rattle.std.specs.Ordering.{nat_cmp}
use Rattle.std.specs.declared.cmp.Ordering.{Ordering}
use Rattle.std.specs.Str.{str_eq_ignore_ascii_case, str_to_ascii_lowercase}
use Rattle.browser_rules.specs.Strings.{Spoken, primary}
use Rattle.hii_languages.specs.declared.names.Name.{Name}

-- how two texts follow one another, ignoring ASCII case
abbrev pub text_order : List ℕ → List ℕ → Ordering
text_order one other = slice_cmp nat_cmp (str_to_ascii_lowercase one) (str_to_ascii_lowercase other)

-- no name stands before one whose text comes first
abbrev pub AreOrdered : List Name → Type 0
AreOrdered names = IsSortedByKey (λ (n : Name). n.text.now) text_order names

-- the number of the first name that has a text, ignoring ASCII case
abbrev pub number_of : List Name → List ℕ → Option ℕ
number_of names text = option_map (λ (n : Name). n.number) (find (λ (n : Name). str_eq_ignore_ascii_case n.text.now text) names)

-- the number of the first string package of a language, and of the first that has a primary subtag
abbrev pub with_language : List Spoken → List ℕ → Option ℕ
with_language spoken text = position (λ (s : Spoken). str_eq_ignore_ascii_case s.language text) spoken

abbrev pub with_subtag : List Spoken → List ℕ → Option ℕ
with_subtag spoken text = position (λ (s : Spoken). str_eq_ignore_ascii_case (primary s.language) text) spoken

-- the string packages are found by these names of theirs
abbrev pub AreNamed : List Spoken → List Name → List Name → Type 0
AreNamed spoken by_language by_subtag = ((text : List ℕ) → number_of by_language text ≡ with_language spoken text)
    × ((text : List ℕ) → number_of by_subtag text ≡ with_subtag spoken text)
