-- The numbers of classes of defaults (UEFI 2.8, 33.2.5.8 Defaults).
use Rattle.std.specs.Prelude.{◌≡◌}
use Rattle.ifr_defaults.specs.declared.classes.TheConstants.{DEFAULT_CLASS_STANDARD, DEFAULT_CLASS_MANUFACTURING}

-- The definitions take the numbers of classes from the constants of the code; these are the ones of the standard.
pub record HaveNumbers : Type 0 where
  pub standard : DEFAULT_CLASS_STANDARD ≡ 0
  pub manufacturing : DEFAULT_CLASS_MANUFACTURING ≡ 1
