use Rattle.std.proofs.Common.{sym, ◌∙◌, arith}
use Rattle.std.specs.BTreeMap.{get}
use Rattle.std.specs.Ordering.{nat_cmp}
use Rattle.ifr_index.proofs.LockLemmas.{found_next, passed}
use Rattle.ifr_index.proofs.locking.first_along.Goals as goal

pub returns-in-Some : goal.returns-in-Some
returns-in-Some c =
    sym (found_next (get nat_cmp c.args.found.now) c.args.places.now c.loop-place.place-index c.in-Some.lock.now (omega arith) (sym c.in-Some.ensures.value)) ∙ c.loop-place.invariant

pub loop-place-preserved : goal.loop-place-preserved
loop-place-preserved c =
    passed (get nat_cmp c.args.found.now) c.args.places.now c.loop-place.place-index (omega arith) (sym c.in_default.ensures.value) ∙ c.loop-place.invariant
