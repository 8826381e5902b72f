-- Worked values of the definitions.
use Rattle.std.proofs.Common.{◌≡◌, List, [], ◌∷◌, Some, None, refl}
use Rattle.std.specs.Prelude.{codes, decimal}
use Rattle.browser_rules.specs.Strings.{Spoken, primary, chosen, text_of, characters, shown}

-- French has the texts F of id 1 and G of id 2, English the text E of id 1 alone.
spoken : List Spoken
spoken =
    record { language = codes "fr"; texts = Some (0x46 ∷ 0 ∷ []) ∷ Some (0x47 ∷ 0 ∷ []) ∷ [] }
    ∷ record { language = codes "en-US"; texts = Some (0x45 ∷ 0 ∷ []) ∷ None ∷ [] } ∷ []

-- equality, the primary subtag, and else the first package
choices : (chosen spoken (codes "EN-us") ≡ Some 1) × (chosen spoken (codes "en") ≡ Some 1) × (chosen spoken (codes "en-GB") ≡ Some 1) × (chosen spoken (codes "Fr") ≡ Some 0)
    × (chosen spoken (codes "de") ≡ Some 0) × (chosen spoken (codes "en_US") ≡ Some 0) × (chosen spoken [] ≡ Some 0) × (chosen [] (codes "en") ≡ None)
unfolding spoken
choices = (refl, refl, refl, refl, refl, refl, refl, refl)

-- an equal language comes before an earlier one with an equal primary subtag, and empty primary subtags are equal
equal_first : (chosen (record { language = codes "en-GB"; texts = [] } ∷ record { language = codes "en"; texts = [] } ∷ []) (codes "en") ≡ Some 1)
    × (chosen (record { language = codes "fr"; texts = [] } ∷ record { language = []; texts = [] } ∷ []) (codes "-") ≡ Some 1)
equal_first = (refl, refl)

subtags : (primary (codes "en-US-x") ≡ codes "en") × (primary (codes "en") ≡ codes "en") × (primary (codes "-") ≡ [])
subtags = (refl, refl, refl)

-- the chosen package's text, the first one's, or none
texts : (text_of spoken (Some 1) 1 ≡ Some (0x45 ∷ 0 ∷ [])) × (text_of spoken (Some 1) 2 ≡ Some (0x47 ∷ 0 ∷ [])) × (text_of spoken (Some 1) 3 ≡ None)
    × (text_of spoken None 1 ≡ Some (0x46 ∷ 0 ∷ [])) × (text_of [] None 1 ≡ None)
unfolding spoken
texts = (refl, refl, refl, refl, refl)

text_characters : (shown spoken (Some 1) 1 ≡ codes "E") × (shown spoken (Some 1) 17 ≡ 35 ∷ decimal 17) × (shown spoken (Some 1) 0 ≡ [])
unfolding spoken characters
text_characters = (refl, refl, refl)
