use Rattle.std.proofs.Common.{◌++◌, ◌+◌, ◌≤◌, length}
use Rattle.check_audit.specs.Warnings.{textless_warnings}
use Rattle.check_audit.proofs.TextlessLemmas.{Names}
use Rattle.check_audit.proofs.textless.add_textless.Given as goal

-- with those of the opcodes that are left all are added
abbrev pub invariant-loop-opcode : goal.invariant-loop-opcode
invariant-loop-opcode l = record {
  names : Names l.fn.strings l.named l.warnings.items (l.fn.warnings.items ++ textless_warnings l.fn.strings l.fn.ifr) l.place l.rest;
  within : l.place + length l.rest ≤ length l.fn.ifr;
}

abbrev pub decreases-loop-opcode : goal.decreases-loop-opcode
decreases-loop-opcode l = length l.rest
