use Rattle.std.proofs.Common.{◌≡◌, [], drop, map}
use Rattle.unlock_audit.specs.Tries.{commands, longer, longer_each, opens}
use Rattle.unlock_audit.specs.code.Counting.{with_tries}
use Rattle.unlock_audit.specs.code.Tallies.{tally_meant}
use Rattle.unlock_audit.proofs.search.Search.try_threes.Given as goal

-- what is left is left to be tried
abbrev pub invariant-loop-each : goal.invariant-loop-each
invariant-loop-each l =
    let test = opens l.self.again l.fn.browser.state l.self.id in
    record {
      tried : with_tries test (tally_meant l.tally) (map (λ l. commands l) (longer_each l.fn.browser.state l.self.moves.now (longer_each l.fn.browser.state l.self.moves.now (longer (drop l.each-index l.self.moves.now) []))))
          ≡ with_tries test (tally_meant l.fn.tally) (map (λ l. commands l) (longer_each l.fn.browser.state l.self.moves.now (longer_each l.fn.browser.state l.self.moves.now (longer l.self.moves.now []))));
      same : l.browser.state ≡ l.fn.browser.state;
    }
