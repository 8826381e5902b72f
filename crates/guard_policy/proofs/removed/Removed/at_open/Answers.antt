use Rattle.std.proofs.Common.{◌+◌, List, [], ◌++◌, length, map, sym, ap, ◌∙◌, subst}
use Rattle.std.specs.Prelude.{filter}
use Rattle.std.proofs.lemmas.List.{append-nil}
use Rattle.ifr_opcodes.specs.Forest.{Node, flat}
use Rattle.ifr_opcodes.specs.Reading.{tree_of}
use Rattle.ifr_nodes.specs.Nodes.{nodes_of}
use Rattle.ifr_nodes.proofs.PlaceLemmas.{nodes_within}
use Rattle.ifr_nodes.proofs.StructureLemmas.{rising}
use Rattle.guard_policy.specs.World.{is_disabling, is_met_over}
use Rattle.guard_policy.proofs.RuleValueLemmas.{forgotten}
use Rattle.guard_policy.proofs.RemovedLemmas.{Ascend, places_ascend, from_zero, of_guards}
use Rattle.guard_policy.proofs.removed.Removed.at_open.Goals as goal

pub loop-guard-init : goal.loop-guard-init
loop-guard-init c =
    let ns = nodes_of c.args.forms.now in
    record {
      places = rw (c.new-places.ensures.items, c.guards-guards.ensures.guards) (ap (map (λ (n : Node). n.place)) (of_guards (is_met_over ns c.args.stores.now) ns));
      kept = forgotten c.args.forms.now c.args.stores.now c.in_ok-rules.rules c.in_ok-rules.ensures.nothing;
    }

pub invariant_of-result : goal.invariant_of-result
invariant_of-result c =
    let f = tree_of c.args.forms.now in
    let ns = nodes_of c.args.forms.now in
    let items = c.loop-guard.places.items in
    let which = is_disabling ns c.args.stores.now in
    let all = sym (append-nil items) ∙ ap (λ (left : List Node). items ++ map (λ (n : Node). n.place) (filter which left)) (sym c.in_default.ensures.steps.0) ∙ c.loop-guard.invariant.places in
    let rise = rising ns 4 (4 + length (flat f)) (nodes_within f 4 [] c.guards-guards.ensures.accepted.checked.spelled.are_nodes) in
    subst (Ascend 0) (sym all) (from_zero 4 _ (places_ascend which 4 ns rise))
