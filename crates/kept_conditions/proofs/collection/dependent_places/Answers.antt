use Rattle.std.proofs.Common.{List, ℕ, ◌++◌, map, filter, ap, ◌∙◌, subst}
use Rattle.std.specs.List.Sorted.{IsPermutation}
use Rattle.ifr_opcodes.specs.Forest.{Node}
use Rattle.ifr_nodes.specs.Nodes.{nodes_of, is_no_submit}
use Rattle.ifr_nodes.specs.Rules.{is_rule}
use Rattle.kept_conditions.specs.code.Collection.{is_kept_guard}
use Rattle.kept_conditions.proofs.PlaceLemmas.{sorted_places}
use Rattle.kept_conditions.proofs.collection.dependent_places.Goals as goal

pub returns : goal.returns
returns c =
    let ns = nodes_of c.args.forms.now in
    let gs = map (λ (n : Node). n.place) (filter is_kept_guard ns) in
    let cs = map (λ (n : Node). n.place) (filter is_no_submit ns) in
    let rs = map (λ (n : Node). n.place) (filter is_rule ns) in
    let first = c.in_ok-add_guards.ensures ∙ ap (λ (l : List ℕ). l ++ gs) c.new-places.ensures.items in
    let second = c.in_ok-add_no_submits.ensures ∙ ap (λ (l : List ℕ). l ++ cs) first in
    let all = c.in_ok-add_rules.ensures ∙ ap (λ (l : List ℕ). l ++ rs) second in
    sorted_places c.args.forms.now c.sort_unstable.new.self.items c.requires
    (subst (λ (l : List ℕ). IsPermutation l c.sort_unstable.new.self.items) all c.sort_unstable.ensures.permutation) c.sort_unstable.ensures.sorted
