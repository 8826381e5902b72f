use Rattle.std.proofs.Common.{true, false, refl}
use Rattle.condition_text.proofs.LeafLemmas.{short_leaf}
use Rattle.condition_text.proofs.condition.is_short.Goals as goal

pub returns-in-EqIdVal : goal.returns-in-EqIdVal
returns-in-EqIdVal c = short_leaf c.args.op _ false c.in-EqIdVal.is refl

pub returns-in-EqIdId : goal.returns-in-EqIdId
returns-in-EqIdId c = short_leaf c.args.op _ false c.in-EqIdId.is refl

pub returns-in-EqIdValList : goal.returns-in-EqIdValList
returns-in-EqIdValList c = short_leaf c.args.op _ false c.in-EqIdValList.is refl

pub returns-in-QuestionRef : goal.returns-in-QuestionRef
returns-in-QuestionRef c = short_leaf c.args.op _ true c.in-QuestionRef.is refl

pub returns-in-Uint : goal.returns-in-Uint
returns-in-Uint c = short_leaf c.args.op _ true c.in-Uint.is refl

pub returns-in-Constant : goal.returns-in-Constant
returns-in-Constant c = short_leaf c.args.op _ true c.in-Constant.is refl

pub returns-in-This : goal.returns-in-This
returns-in-This c = short_leaf c.args.op _ true c.in-This.is refl
