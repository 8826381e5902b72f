-- What can be told of the value of a question over some stores.
use Rattle.std.specs.Prelude.{ℕ, List}
use Rattle.std.specs.List.{AllByRecursion}
use Rattle.hii_bytes.specs.Numbers.{AreBytes}
use Rattle.ifr_opcodes.specs.Forest.{Node}
use Rattle.ifr_nodes.specs.Nodes.{options}
use Rattle.hii_varstore.specs.Stores.{StoreMap}
use Rattle.hii_questions.specs.Answers.{value_of_field}
use Rattle.hii_questions.specs.Fields.{asked}
use Rattle.guard_policy.specs.World.{World}
use Rattle.object_laws.specs.laws.Questions.{HasUnits, ShowsTexts}

pub record CanTellValue (texts : ℕ → List ℕ) (w : World) (stores : StoreMap) (n : Node) : Type 0 where
  pub bytes : AreBytes n.op
  pub shows : ShowsTexts texts
  pub options : AllByRecursion (λ o. AreBytes o.op) (options n)
  pub units : HasUnits (value_of_field stores n (asked w.nodes n).field)
