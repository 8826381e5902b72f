use Rattle.std.proofs.Common.{sym, ap, ◌∙◌, arith}
use Rattle.ifr_opcodes.specs.code.Tables.{fields_length}
use Rattle.ifr_opcodes.proofs.ColumnLemmas.{length_at}
use Rattle.ifr_opcodes.proofs.rows.fields_len.Goals as goal

pub returns : goal.returns
returns c = c.from-2.ensures ∙ sym (length_at c.from.result (omega arith)) ∙ ap fields_length c.from.ensures
