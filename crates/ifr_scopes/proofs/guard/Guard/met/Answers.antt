use Rattle.std.proofs.Common.{sym, ap}
use Rattle.ifr_opcodes.specs.Opcode.{number}
use Rattle.ifr_scopes.proofs.guard.Guard.met.Goals as goal

pub invariant_of-result : goal.invariant_of-result
invariant_of-result c =
    let node = c.args.node in
    record {
      checked = node.checked;
      stands = rw node.stands.there c.requires.guards;
      coded = sym (ap number node.stands.opcode);
      within = c.requires.within;
      ended = c.expression_end.ensures;
      counted = tt;
    }
