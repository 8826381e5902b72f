use Rattle.std.proofs.Common.{List, subst, sym}
use Rattle.std.proofs.lemmas.Result.{IfOk-weaker}
use Rattle.hii_bytes.specs.Faults.{HasNone}
use Rattle.ifr_opcodes.specs.Forest.{Node}
use Rattle.ifr_scopes.specs.code.Lists.{stores_left}
use Rattle.hii_varstore.specs.Layout.{Shape}
use Rattle.hii_varstore.specs.StoreNodes.{IsRepeatedStore}
use Rattle.hii_varstore.specs.code.Table.{AreBuffers}
use Rattle.hii_varstore.proofs.StoreNodeLemmas.{stores_rise}
use Rattle.hii_varstore.proofs.layout.Layout.read.Goals as goal

pub returns-clause-sound : goal.returns-clause-sound
returns-clause-sound c =
    let sound = subst (λ (ns : List Node). HasNone (IsRepeatedStore ns)) c.stores.ensures.stores c.in_ok-buffers.ensures.sound in
    IfOk-weaker c.new.result _ _ (λ layout made. sound) c.new.ensures.made

pub read_buffers-requires : goal.read_buffers-requires
read_buffers-requires c = stores_rise c.args.forms.now (stores_left c.stores.result) c.stores.ensures.accepted c.stores.ensures.stores

pub returns-clause-apart : goal.returns-clause-apart
returns-clause-apart c = IfOk-weaker c.new.result _ _ (λ layout made. subst (λ (shape : Shape). AreBuffers shape.buffers) (sym made) c.in_ok-buffers.ensures.apart) c.new.ensures.made
