use Rattle.std.proofs.Common.{◌∙◌}
use Rattle.ifr_opcodes.proofs.FieldLemmas.{range_behind}
use Rattle.ifr_opcodes.proofs.op.Op.guid_at.Goals as goal

pub returns : goal.returns
returns c =
    (rw c.unwrap.ensures at c.at.ensures).1 ∙ range_behind _ _ c.args.self.body.now c.args.at 16 c.requires.behind_header
