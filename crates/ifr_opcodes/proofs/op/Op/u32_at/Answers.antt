use Rattle.std.proofs.Common.{◌∙◌}
use Rattle.ifr_opcodes.proofs.FieldLemmas.{number_behind}
use Rattle.ifr_opcodes.proofs.op.Op.u32_at.Goals as goal

pub returns : goal.returns
returns c =
    (rw c.unwrap.ensures at c.u32_at.ensures).1 ∙ number_behind _ _ c.args.self.body.now c.args.at 4 c.requires.behind_header
