use Rattle.std.proofs.Common.{◌≡◌, drop, map}
use Rattle.unlock_audit.specs.Tries.{opens, write}
use Rattle.unlock_audit.specs.code.Counting.{with_tries}
use Rattle.unlock_audit.specs.code.Tallies.{tally_meant}
use Rattle.unlock_audit.proofs.search.Search.try_writes.Given as goal

-- what is left is left to be tried
abbrev pub invariant-loop-each : goal.invariant-loop-each
invariant-loop-each l =
    let test = opens l.self.again l.browser.state l.self.id in
    record {
      tried : with_tries test (tally_meant l.tally) (map (λ m. write m) (drop l.each-index l.self.moves.now))
          ≡ with_tries test (tally_meant l.fn.tally) (map (λ m. write m) l.self.moves.now);
    }
