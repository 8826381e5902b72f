use Rattle.std.proofs.Common.{arith}
use Rattle.std.specs.List.{filter_map}
use Rattle.ifr_scopes.specs.code.Lists.{all_statements_left}
use Rattle.check_audit.specs.Warnings.{crossed_of}
use Rattle.check_audit.proofs.CountLemmas.{few_spans}
use Rattle.check_audit.proofs.bounds.add_bounds.Goals as goal

pub overflow_cast-len : goal.overflow_cast-len
overflow_cast-len c =
    let few = few_spans c.args.forms.now c.loop-statement.spans.items (filter_map crossed_of (all_statements_left c.loop-statement.statements)) c.bytes-accepted.ensures.accepted.checked c.loop-statement.invariant.spans in
    omega (arith, few, c.len.ensures)
