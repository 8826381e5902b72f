-- Worked values of the definitions of warnings.
use Rattle.std.proofs.Common.{◌≡◌, ℕ, ◌+◌, Some, None, [], ◌∷◌, refl}
use Rattle.std.specs.Prelude.{negsuc, pos}
use Rattle.check_audit.specs.Overlaps.{overlaps_among}
use Rattle.check_audit.specs.Warnings.{if_crossed}
use Rattle.check_audit.specs.declared.overlaps.Laid.{Laid}
use Rattle.check_audit.specs.declared.warning.Oddity.TheVariants.{Overlap}

-- signed bounds
crossed : if_crossed record { minimum = pos 2; maximum = negsuc 0 } ≡ Some record { minimum = pos 2; maximum = negsuc 0 }
crossed = refl

straight : if_crossed record { minimum = negsuc 0; maximum = pos 2 } ≡ None
straight = refl

-- a field at an offset of store 1
laid : ℕ → ℕ → ℕ → Laid
laid offset width question = record { field = record { store = 1; offset = offset; width = width }; place = 100 + question; question = question }

-- the second is the same as the first, the third shares a byte with it, the fourth does not
sharing : overlaps_among (laid 0 4 8 ∷ laid 0 4 9 ∷ laid 3 2 10 ∷ laid 5 2 11 ∷ []) ≡ record { place = 110; oddity = Overlap record { question = 10; other = 9 } } ∷ []
unfolding laid
sharing = refl
