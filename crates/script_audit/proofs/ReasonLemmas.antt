-- Denials of which the question says nothing.
use Rattle.std.proofs.Common.{◌≡◌, [], refl}
use Rattle.ifr_opcodes.specs.Forest.{Node}
use Rattle.hii_values.specs.declared.denial.DenialKind.{DenialKind}
use Rattle.hii_values.specs.declared.denial.DenialKind.TheVariants.{DisableIf, SuppressIf, GrayOutIf, Locked, ReadOnly, Outside, Kind, Range, NoOption, Length, Repeat, EmptySet, BadText, InconsistentIf, NoSubmitIf, NoQuestion, NotRef, NotButton, NoRow, NoBack, DeepHistory, NoStore, NoField, Password}
use Rattle.script_audit.specs.Because.{question_words}

pub no_words : (kind : DenialKind) (n : Node) → (kind ≡ Outside → ⊥) → (kind ≡ Kind → ⊥) → (kind ≡ Range → ⊥) → (kind ≡ Length → ⊥) → (kind ≡ NoOption → ⊥) → (kind ≡ NotRef → ⊥) → question_words kind n ≡ []
no_words DisableIf n h0 h1 h2 h3 h4 h5 = refl
no_words SuppressIf n h0 h1 h2 h3 h4 h5 = refl
no_words GrayOutIf n h0 h1 h2 h3 h4 h5 = refl
no_words Locked n h0 h1 h2 h3 h4 h5 = refl
no_words ReadOnly n h0 h1 h2 h3 h4 h5 = refl
no_words Outside n h0 h1 h2 h3 h4 h5 = absurd (h0 refl)
no_words Kind n h0 h1 h2 h3 h4 h5 = absurd (h1 refl)
no_words Range n h0 h1 h2 h3 h4 h5 = absurd (h2 refl)
no_words NoOption n h0 h1 h2 h3 h4 h5 = absurd (h4 refl)
no_words Length n h0 h1 h2 h3 h4 h5 = absurd (h3 refl)
no_words Repeat n h0 h1 h2 h3 h4 h5 = refl
no_words EmptySet n h0 h1 h2 h3 h4 h5 = refl
no_words BadText n h0 h1 h2 h3 h4 h5 = refl
no_words InconsistentIf n h0 h1 h2 h3 h4 h5 = refl
no_words NoSubmitIf n h0 h1 h2 h3 h4 h5 = refl
no_words NoQuestion n h0 h1 h2 h3 h4 h5 = refl
no_words NotRef n h0 h1 h2 h3 h4 h5 = absurd (h5 refl)
no_words NotButton n h0 h1 h2 h3 h4 h5 = refl
no_words NoRow n h0 h1 h2 h3 h4 h5 = refl
no_words NoBack n h0 h1 h2 h3 h4 h5 = refl
no_words DeepHistory n h0 h1 h2 h3 h4 h5 = refl
no_words NoStore n h0 h1 h2 h3 h4 h5 = refl
no_words NoField n h0 h1 h2 h3 h4 h5 = refl
no_words Password n h0 h1 h2 h3 h4 h5 = refl
