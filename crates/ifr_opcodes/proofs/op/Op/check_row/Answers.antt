use Rattle.std.proofs.Common.{◌≡◌, ◌≤◌, length, sym, subst, ◌∙◌}
use Rattle.std.proofs.lemmas.Result.{on_ok_weaker}
use Rattle.ifr_opcodes.specs.code.Ops.{bytes_of}
use Rattle.ifr_opcodes.specs.code.Tables.{row_length}
use Rattle.ifr_opcodes.proofs.RowLemmas.{row_from}
use Rattle.ifr_opcodes.proofs.op.Op.check_row.Goals as goal

pub returns-clause-read : goal.returns-clause-read
returns-clause-read c =
    let op = bytes_of c.args.self in
    let same : c.args.self.code ≡ c.args.code = c.if-self-code.false in
    let row = row_from op c.args.code same (sym c.is_left_out.ensures ∙ c.if-is_left_out.false) in
    on_ok_weaker c.check_size.result (λ read. (same, row, read.0, subst (λ k. row_length k op ≤ length op) same read.1)) c.check_size.ensures.read
