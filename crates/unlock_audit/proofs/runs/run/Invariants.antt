use Rattle.std.proofs.Common.{◌≡◌, drop}
use Rattle.unlock_audit.specs.Tries.{discarded, run}
use Rattle.unlock_audit.proofs.runs.run.Given as goal

-- the commands that are left are run to the end to which all of them are
abbrev pub invariant-loop-each : goal.invariant-loop-each
invariant-loop-each l = record {
  left : run l.browser.state (drop l.each-index l.list) ≡ run l.fn.browser.state l.list;
  back : discarded l.browser.state ≡ discarded l.fn.browser.state;
}
