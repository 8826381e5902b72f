use Rattle.std.proofs.Common.{◌≡◌, map, refl, sym, ap, ◌∙◌, arith, None}
use Rattle.std.specs.List.{range_with_len}
use Rattle.browser_rules.specs.Opcodes.{row_of}
use Rattle.ifr_opcodes.proofs.ColumnLemmas.{at_each}
use Rattle.opcode_audit.specs.Layouts.{fields_of}
use Rattle.opcode_audit.specs.code.Columns.{fields_in}
use Rattle.opcode_audit.specs.declared.layouts.Layout.{Layout}
use Rattle.opcode_audit.specs.declared.layouts.Head.TheVariants.{Nothing}
use Rattle.opcode_audit.specs.declared.layouts.TheConstants.{LAYOUTS}
use Rattle.opcode_audit.proofs.layouts.layout_of.Goals as goal

-- the column says at each number of one byte which fields the standard names
same : map fields_in LAYOUTS ≡ map fields_of (range_with_len 0 256)
unfolding row_of
same = refl

abbrev none : Layout
none = record { head = Nothing; first = None; second = None; third = None; fourth = None }

pub returns : goal.returns
returns c = sym (at_each fields_in fields_of LAYOUTS 256 same c.from.result none (omega arith)) ∙ ap fields_of c.from.ensures
