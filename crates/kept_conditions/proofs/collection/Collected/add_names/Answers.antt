use Rattle.std.proofs.Common.{◌++◌, ℕ, List, [], append_assoc, sym, ap, ◌∙◌, subst}
use Rattle.std.specs.List.{AllByRecursion, flat_map}
use Rattle.ifr_expr.specs.code.Names.{names_among}
use Rattle.ifr_expr.specs.code.NamesLeft.{names_left}
use Rattle.ifr_expr.specs.Trees.{Tree, post}
use Rattle.ifr_nodes.specs.Nodes.{end_of, nodes_of}
use Rattle.ifr_nodes.specs.Rules.{rules_among}
use Rattle.ifr_scopes.specs.code.Frames.{ids_by}
use Rattle.kept_conditions.specs.code.Collection.{IsBefore, dependent_node}
use Rattle.kept_conditions.proofs.CollectionLemmas.{adds_nothing, adds_then, ids_among, rule_names_before}
use Rattle.kept_conditions.proofs.collection.Collected.add_names.Goals as goal

pub loop-name-init : goal.loop-name-init
loop-name-init c =
    let bytes = c.args.source.forms.now in
    let ns = nodes_of bytes in
    let n = dependent_node ns c.args.number in
    let names = c.names-names.ensures ∙ ap (λ (t : Tree). names_among (post t)) c.requires.is.tree in
    record {
      behind = [];
      adds = adds_nothing ns c.args.number c.args.self.now;
      all = ap (flat_map (ids_by (rules_among ns) c.args.dependent.this)) names ∙ ids_among ns n c.args.dependent.this c.requires.is.this;
      before = λ rule. subst (AllByRecursion (IsBefore (end_of n))) (sym names) (rule_names_before bytes c.args.source.accepted c.args.number c.requires.inside rule);
    }

pub loop-name-preserved : goal.loop-name-preserved
loop-name-preserved c =
    let ns = nodes_of c.args.source.forms.now in
    let n = dependent_node ns c.args.number in
    let so_far = c.loop-name.invariant in
    let ids = ids_by (rules_among ns) c.args.dependent.this in
    let its = ids c.in-Some.name in
    record {
      behind = so_far.behind ++ its;
      adds = adds_then ns c.args.number so_far.behind its c.args.self.now c.loop-name.self c.add_name.new.self so_far.adds c.in_ok-add_name.ensures;
      all = append_assoc so_far.behind its (flat_map ids (names_left c.next.new.self)) ∙ ap (λ (l : List ℕ). so_far.behind ++ l) (sym (ap (flat_map ids) c.in-Some.ensures.steps)) ∙ so_far.all;
      before = λ rule. let all = subst (AllByRecursion (IsBefore (end_of n))) c.in-Some.ensures.steps (so_far.before rule) in all.1;
    }
