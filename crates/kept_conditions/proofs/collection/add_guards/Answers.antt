use Rattle.std.proofs.Common.{List, ◌++◌, map, filter, ap, ◌∙◌}
use Rattle.ifr_opcodes.specs.Forest.{Node}
use Rattle.ifr_nodes.specs.Nodes.{nodes_of}
use Rattle.kept_conditions.specs.code.Collection.{is_kept_guard}
use Rattle.kept_conditions.proofs.PlaceLemmas.{guards_kept}
use Rattle.kept_conditions.proofs.collection.add_guards.Goals as goal

pub loop-guard-init : goal.loop-guard-init
loop-guard-init c =
    let before = c.args.places.now.items in
    ap (λ (l : List Node). before ++ map (λ (n : Node). n.place) (filter is_kept_guard l)) c.guards-guards.ensures.guards
    ∙ ap (λ (l : List Node). before ++ map (λ (n : Node). n.place) l) (guards_kept (nodes_of c.args.forms.now))
