use Rattle.std.proofs.Common.{ℕ, List, ◌∷◌, get_or, sym, ap, ◌∙◌, arith}
use Rattle.std.specs.Prelude.{reverse}
use Rattle.ifr_opcodes.specs.Forest.{Node}
use Rattle.ifr_nodes.specs.Nodes.{nodes_of}
use Rattle.ifr_index.specs.code.Tables.{guards_before, guards_from}
use Rattle.ifr_index.proofs.NumberLemmas.{no_guard, leads_on, number_within, turned}
use Rattle.ifr_scopes.proofs.guards_outward.GuardsOutward.step.Goals as goal

pub kept-view-requires-clause-kept : goal.kept-view-requires-clause-kept
kept-view-requires-clause-kept c =
    let it = c.args.self.now in
    (leads_on it.ifr.now it.guards.now it.next c.in_ok-number.number no_guard it.checked.spelled it.table c.in_ok-number.was (number_within (nodes_of it.ifr.now) it.next c.in_ok-number.number c.in_ok-number.was it.numbered)).kept

pub invariant_of-self : goal.invariant_of-self
invariant_of-self c =
    let it = c.args.self.now in
    let on = leads_on it.ifr.now it.guards.now it.next c.in_ok-number.number no_guard it.checked.spelled it.table c.in_ok-number.was (number_within (nodes_of it.ifr.now) it.next c.in_ok-number.number c.in_ok-number.was it.numbered) in
    record { checked = it.checked; table = it.table; few = omega (arith, it.few, on.count); numbered = on.numbered }

pub returns-clause-steps : goal.returns-clause-steps
returns-clause-steps c =
    let it = c.args.self.now in
    let on = leads_on it.ifr.now it.guards.now it.next c.in_ok-number.number no_guard it.checked.spelled it.table c.in_ok-number.was (number_within (nodes_of it.ifr.now) it.next c.in_ok-number.number c.in_ok-number.was it.numbered) in
    turned it.ifr.now it.next c.in_ok-number.number _ on ∙ ap (λ (n : Node). n ∷ reverse (guards_from (nodes_of it.ifr.now) (get_or it.guards.now c.in_ok-number.number no_guard).outer)) (sym (c.numbered.ensures.node ∙ c.kept-view.ensures.node))

pub numbered-requires : goal.numbered-requires
numbered-requires c =
    let it = c.args.self.now in
    let on = leads_on it.ifr.now it.guards.now it.next c.in_ok-number.number no_guard it.checked.spelled it.table c.in_ok-number.was (number_within (nodes_of it.ifr.now) it.next c.in_ok-number.number c.in_ok-number.was it.numbered) in
    on.before ∙ ap (guards_before (nodes_of it.ifr.now)) (sym c.kept-view.ensures.place) ∙ ap (λ (b : List ℕ). guards_before (nodes_of b) c.kept-view.result.place) (sym c.kept-view.ensures.of_package)
