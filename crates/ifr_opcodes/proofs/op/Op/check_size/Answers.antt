use Rattle.std.proofs.Common.{◌≡◌, false, sym, ◌∙◌}
use Rattle.ifr_opcodes.specs.Rows.{is_short}
use Rattle.ifr_opcodes.specs.code.Ops.{bytes_of}
use Rattle.ifr_opcodes.proofs.SizeLemmas.{all_there}
use Rattle.ifr_opcodes.proofs.op.Op.check_size.Goals as goal

pub returns-clause-read : goal.returns-clause-read
returns-clause-read c =
    let whole : is_short (bytes_of c.args.self) ≡ false = sym c.is_short.ensures ∙ c.if-is_short.false in
    (whole, all_there (bytes_of c.args.self) c.args.self.whole.long whole)
