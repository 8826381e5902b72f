-- Where the texts of string ids stand (own rule; the ids and texts are those of UEFI 2.8, 33.3.6.2 String Information).
use Rattle.std.specs.Prelude.{◌≡◌, ◌⊎◌, ℕ, ◌+◌, ◌<◌, ◌≤◌, ◌^◌, ◌==◌, if◌then◌else◌, List, [], ◌∷◌, length, drop, Option, None, Some, option_map}
use Rattle.hii_bytes.specs.declared.cause.Cause.TheVariants.{StringBlock, StringText}
use Rattle.browser_rules.specs.Strings.{cut_text, text_at}
use Rattle.sibt_strings.specs.code.Blocks.{Block, Front, End, Whole, CutText, BadBlock, texts_said, with_block}
use Rattle.sibt_strings.specs.code.Views.{blocks_in}
use Rattle.sibt_strings.specs.declared.place.TextPlace.{TextPlace}
use Rattle.sibt_strings.specs.declared.places.TextPlaces.{TextPlaces}
use Rattle.sibt_strings.specs.declared.places.Step.{Step}
use Rattle.sibt_strings.specs.declared.places.Step.TheVariants as step

-- the place of an id's text
abbrev pub place_of : List TextPlace → ℕ → Option ℕ
place_of [] id = None
place_of (p ∷ places) id = if p.id == id then Some p.place else place_of places id

-- the text that stands at a place of the bytes
abbrev pub text_of_place : List ℕ → Option ℕ → Option (List ℕ)
text_of_place bytes None = None
text_of_place bytes (Some place) = option_map (λ t. t.0) (cut_text (drop place bytes))

-- the ids rise from the first number on, and stay below the second
abbrev pub Rises : ℕ → ℕ → List TextPlace → Type 0
Rises low high [] = low ≤ high
Rises low high (p ∷ places) = (low ≤ p.id) × Rises (p.id + 1) high places

-- The places of these texts in the bytes, for the ids that a number of 16 bits names.
pub record IsTable (bytes : List ℕ) (texts : List (Option (List ℕ)))
    (places : List TextPlace) : Type 0 where
  pub rise : Rises 1 (length texts + 1) places
  pub found : (id : ℕ) → id < 2 ^ 16 → text_of_place bytes (place_of places id) ≡ text_at texts id

-- the places of the texts of these blocks
abbrev pub HasTable : List ℕ → List TextPlace → Type 0
HasTable bytes places = IsTable bytes (texts_said (blocks_in (length bytes) bytes)) places

-- the next id, if a number of 16 bits names it
abbrev pub IsNext : Option ℕ → ℕ → Type 0
IsNext None id = 2 ^ 16 ≤ id
IsNext (Some next) id = next ≡ id

-- The places of these texts, and the id behind them.
pub record IsTabled (bytes : List ℕ) (texts : List (Option (List ℕ))) (next : Option ℕ)
    (places : List TextPlace) : Type 0 where
  pub table : IsTable bytes texts places
  pub behind : IsNext next (length texts + 1)

-- To the places of the texts so far those of a block's texts are added.
abbrev pub Adds : List ℕ → Block → TextPlaces → TextPlaces → Type 0
Adds bytes block old new =
    (texts : List (Option (List ℕ))) → IsTabled bytes texts old.next old.places.items
    → IsTabled bytes (with_block texts block) new.next new.places.items

-- The end, the bytes behind a whole block whose texts are added, or why this is no whole block.
abbrev pub Steps : List ℕ → Front → Step → TextPlaces → TextPlaces → Type 0
Steps bytes front step.End old new = (front ≡ End) × (new ≡ old)
Steps bytes front (step.Behind rest) old new =
    (block : Block) × (front ≡ Whole block rest.now) × Adds bytes block old new
Steps bytes front (step.Bad cause) old new =
    ((cause ≡ StringBlock) × (front ≡ BadBlock)) ⊎ ((cause ≡ StringText) × (front ≡ CutText))

-- the bytes behind a whole block are these
abbrev pub StepsTo : (List ℕ → Type 0) → Step → Type 0
StepsTo P step.End = Unit {0}
StepsTo P (step.Behind rest) = P rest.now
StepsTo P (step.Bad cause) = Unit {0}
