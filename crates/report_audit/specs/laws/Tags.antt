-- The tags of a page, with their attributes: each stands from a < to the next > (HTML Living Standard, 13.1.2 Elements).
use Rattle.std.specs.Prelude.{◌≡◌, ℕ, ◌==◌, ◌&&◌, ◌||◌, not, if◌then◌else◌, Bool, false, List, [], ◌∷◌, ◌++◌}
use Rattle.question_audit.specs.Audited.{Audited}
use Rattle.question_audit.specs.QuestionLines.{has_no_text}

-- whether a byte stands in a tag, where one has begun before it or not
abbrev pub is_in_tag : Bool → ℕ → Bool
is_in_tag is_begun b = is_begun || b == 60

-- whether one has begun before what stands behind the byte
abbrev pub is_begun_behind : Bool → ℕ → Bool
is_begun_behind is_begun b = is_in_tag is_begun b && not (b == 62)

-- the bytes of a text that stand in tags, where one has begun before it or not
unfoldable pub tags_from : Bool → List ℕ → List ℕ
tags_from is_begun [] = []
tags_from is_begun (b ∷ text) =
    (if is_in_tag is_begun b then b ∷ [] else [])
    ++ tags_from (is_begun_behind is_begun b) text

abbrev pub tags : List ℕ → List ℕ
tags page = tags_from false page

-- the same form set, of which other texts are shown; those that defaults give stay
abbrev pub with_texts : Audited → (ℕ → List ℕ) → Audited
with_texts a texts = record {
  texts = texts;
  world = a.world;
  stores = a.stores;
  sources = a.sources;
}

-- The same ids have a text with no character.
abbrev pub AreEmptyAlike : (ℕ → List ℕ) → (ℕ → List ℕ) → Type 0
AreEmptyAlike texts others = (id : ℕ) → has_no_text (texts id) ≡ has_no_text (others id)
