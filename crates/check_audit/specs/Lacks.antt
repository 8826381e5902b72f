-- Which texts of the first string package of a list further ones lack (own rule; UEFI 2.8, 33.3.6 String Package).
use Rattle.std.specs.Prelude.{ℕ, suc, Bool, not, ◌==◌, ◌&&◌, List, [], ◌∷◌, filter, map}
use Rattle.std.specs.List.{count_by}
use Rattle.browser_rules.specs.Strings.{Spoken, spoken_in}
use Rattle.sibt_strings.specs.Shared.{every_id, has_text}
use Rattle.check_audit.specs.declared.warning.Oddity.TheVariants.{Language}
use Rattle.check_audit.specs.declared.warning.Warning.{Warning}

-- a string package behind the first one: its language and that of the first one, to how many string ids of the first one's texts it
-- has no text, and how many texts the first one has
pub record Lack : Type 0 where
  pub language : List ℕ
  pub first : List ℕ
  pub lacks : ℕ
  pub texts : ℕ

abbrev pub is_lacking : Spoken → Spoken → ℕ → Bool
is_lacking first other id = has_text first id && not (has_text other id)

abbrev pub shortage_of : Spoken → Spoken → Lack
shortage_of first other = record {
  language = other.language;
  first = first.language;
  lacks = count_by (is_lacking first other) every_id;
  texts = count_by (has_text first) every_id;
}

-- those that lack a text, in the order of the list
abbrev pub lacks_some : Lack → Bool
lacks_some lack = not (lack.lacks == 0)

abbrev pub lacks_among : List Spoken → List Lack
lacks_among [] = []
lacks_among (first ∷ others) = filter lacks_some (map (shortage_of first) others)

abbrev pub lacks_in : List ℕ → List Lack
lacks_in list = lacks_among (spoken_in list)

-- each with its number among them, from this one on, at the FORM_SET, which stands behind the header of four bytes
abbrev pub numbered_lacks : ℕ → List Lack → List Warning
numbered_lacks n [] = []
numbered_lacks n (lack ∷ lacks) = record { place = 4; oddity = Language n } ∷ numbered_lacks (suc n) lacks

abbrev pub language_warnings : List Lack → List Warning
language_warnings lacks = numbered_lacks 0 lacks
