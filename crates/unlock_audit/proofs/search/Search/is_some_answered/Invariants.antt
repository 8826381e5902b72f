use Rattle.std.proofs.Common.{◌≡◌, [], drop}
use Rattle.std.specs.List.{list_any}
use Rattle.unlock_audit.specs.Tries.{is_answered, longer}
use Rattle.unlock_audit.proofs.search.Search.is_some_answered.Given as goal

-- some of those that are left is, where some is
abbrev pub invariant-loop-each : goal.invariant-loop-each
invariant-loop-each l = record {
  left : list_any (is_answered l.fn.browser.state) (longer (drop l.each-index l.self.moves.now) []) ≡ list_any (is_answered l.fn.browser.state) (longer l.self.moves.now []);
  same : l.browser.state ≡ l.fn.browser.state;
}
