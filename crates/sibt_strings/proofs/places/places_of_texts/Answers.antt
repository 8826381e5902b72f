use Rattle.sibt_strings.proofs.TableLemmas.{walked_none, walked_on, walked_table}
use Rattle.sibt_strings.proofs.places.places_of_texts.Goals as goal

pub walk-init : goal.walk-init
walk-init c = walked_none c.args.blocks.now c.new-found.result (c.new-found.ensures c.args.blocks.now)

pub returns-in-End-clause-places : goal.returns-in-End-clause-places
returns-in-End-clause-places c =
    let steps = rw c.in-End.is at c.in_ok-add_front.ensures.steps in
    rw steps.1 (walked_table c.walk.invariant steps.0)

pub walk-preserved : goal.walk-preserved
walk-preserved c =
    let steps = rw c.in-Behind.is at c.in_ok-add_front.ensures.steps in
    let inside = rw c.in-Behind.is at c.in_ok-add_front.ensures.inside in
    let shorter = rw c.in-Behind.is at c.in_ok-add_front.ensures.shorter in
    walked_on c.walk.invariant c.add_front.new.self steps.0 c.in-Behind.behind.now steps.1 steps.2 inside shorter
