use Rattle.std.proofs.Common.{◌-◌, ◌∙◌}
use Rattle.ifr_opcodes.proofs.FieldLemmas.{number_behind, number_of_byte}
use Rattle.ifr_opcodes.proofs.op.Op.u8_at.Goals as goal

pub returns : goal.returns
returns c = number_of_byte c.args.self.body.now (c.args.at - 2) ∙ number_behind _ _ c.args.self.body.now c.args.at 1 c.requires.behind_header
