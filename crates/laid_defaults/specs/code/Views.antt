-- How form sets are seen whose defaults are laid.
use Rattle.std.specs.Prelude.{ℕ, ◌+◌, Bool, true, false}
use Rattle.hii_languages.specs.code.Views.{choice_of}
use Rattle.laid_defaults.specs.Laying as spec
use Rattle.laid_defaults.specs.declared.setup.Setup.{Setup}

abbrev pub setup_view : Setup → spec.Setup
setup_view s = record { ifr = s.forms.now; spoken = s.languages.now; language = choice_of s.choice }

-- one more where one was laid
abbrev pub counted : ℕ → Bool → ℕ
counted count true = count + 1
counted count false = count
