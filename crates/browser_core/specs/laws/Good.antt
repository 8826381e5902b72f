-- Which bytes are good: those that open a session in any language (own rule).
use Rattle.std.specs.Prelude.{ℕ, List}
use Rattle.browser_rules.specs.Packages.{Package}
use Rattle.browser_rules.specs.Strings.{Spoken}
use Rattle.hii_varstore.specs.Image.{SpellsImage}
use Rattle.hii_varstore.specs.Stores.{StoreMap}
use Rattle.rules_laws.specs.laws.Packages.{IsGoodPackage}
use Rattle.session_steps.specs.Opening.{HasSource, HasTexts, layout_in}

-- The list has no fault, its forms package of the number is a good one, its string packages say texts, and the image spells the
-- stores that the forms package declares.
pub record AreGood (list : List ℕ) (n : ℕ) (image : List ℕ) : Type 0 where
  pub source : Package
  pub found : HasSource list n source
  pub spoken : List Spoken
  pub texts : HasTexts list spoken
  pub good : IsGoodPackage source.bytes
  pub stores : StoreMap
  pub image_is : SpellsImage (layout_in source.bytes) image stores
