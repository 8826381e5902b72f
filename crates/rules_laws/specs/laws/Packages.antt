-- A good forms package (UEFI 2.8, 33.3.8 Forms Package; what is good is an own rule).
use Rattle.std.specs.Prelude.{ℕ, ◌≤◌, ◌<◌, ◌^◌, List, length}
use Rattle.ifr_opcodes.specs.Forest.{Forest, SpellsForest, nodes}
use Rattle.rules_laws.specs.laws.Ids.{AreReferred, AreStores}
use Rattle.rules_laws.specs.laws.GoodQuestions.{AreGoodQuestions}
use Rattle.rules_laws.specs.laws.WellFormed.{IsFormSet}

-- The package has a header, and spells a form set whose ids, references and rules, stores and questions are good.
pub record IsGoodPackage (bytes : List ℕ) : Type 0 where
  pub header : 4 ≤ length bytes
  pub small : length bytes < 2 ^ 32
  pub forest : Forest
  pub spelled : SpellsForest bytes forest
  pub form_set : IsFormSet forest
  pub ids : AreReferred (nodes forest)
  pub stores : AreStores (nodes forest)
  pub questions : AreGoodQuestions (nodes forest)
