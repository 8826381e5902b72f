use Rattle.std.proofs.Common.{ℕ, List, [], ◌∷◌, length, ap, ◌∙◌, arith, length-append}
use Rattle.ifr_nodes.specs.Nodes.{nodes_of}
use Rattle.ifr_index.proofs.NumberLemmas.{no_guard, leads_on, number_within, joined, more_numbers}
use Rattle.ifr_scopes.proofs.guards_outward.GuardsOutward.outermost_first.Goals as goal

pub loop-next-smaller : goal.loop-next-smaller
loop-next-smaller c =
    let it = c.args.self in
    let lt = number_within (nodes_of it.ifr.now) c.loop-next.next c.in-Some.number c.in-Some.is c.loop-next.invariant.next in
    let on = leads_on it.ifr.now it.guards.now c.loop-next.next c.in-Some.number no_guard it.checked.spelled it.table c.in-Some.is lt in
    omega (arith, on.count)

pub loop-next-preserved : goal.loop-next-preserved
loop-next-preserved c =
    let it = c.args.self in
    let ns = nodes_of it.ifr.now in
    let k = c.in-Some.number in
    let old = c.loop-next.numbers.items in
    let lt = number_within ns c.loop-next.next k c.in-Some.is c.loop-next.invariant.next in
    let on = leads_on it.ifr.now it.guards.now c.loop-next.next k no_guard it.checked.spelled it.table c.in-Some.is lt in
    record {
      all = joined it.ifr.now c.loop-next.next k _ old c.push.new.self.items on c.push.ensures.items ∙ c.loop-next.invariant.all;
      next = on.numbered;
      numbered = more_numbers ns old c.push.new.self.items k c.push.ensures.items lt c.loop-next.invariant.numbered;
      few = omega (arith, c.loop-next.invariant.few, on.count, ap (λ (l : List ℕ). length l) c.push.ensures.items, length-append old (k ∷ []));
    }
