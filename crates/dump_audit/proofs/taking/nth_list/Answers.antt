use Rattle.std.proofs.Common.{sym}
use Rattle.dump_audit.proofs.taking.nth_list.Goals as goal

pub returns : goal.returns
returns c = (c.read.result.lists, c.read.result.rest, c.read.ensures, sym c.list.ensures)
