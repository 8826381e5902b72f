use Rattle.std.proofs.Common.{ℕ, not, ◌≡◌, ◌==◌, ◌&&◌, ◌||◌, ◌++◌, ◌∷◌, Bool, List, [], map, take, sym, ap, ◌∙◌}
use Rattle.ifr_nodes.specs.Nodes.{nodes_of}
use Rattle.ifr_expr.specs.Meaning.{value}
use Rattle.ifr_expr.specs.Values.{holds}
use Rattle.ifr_expr.specs.code.Expressions.{tree_of}
use Rattle.ifr_nodes.specs.code.Rules.{rules_of}
use Rattle.hii_questions.specs.Answers.{answers}
use Rattle.guard_policy.specs.World.{world_over}
use Rattle.guard_policy.specs.code.Views.{world}
use Rattle.guard_policy.specs.code.Worlds.{is_met_at}
use Rattle.kept_conditions.specs.code.Collection.{entry, dependent_node, dependent_nodes, is_touched}
use Rattle.kept_conditions.specs.declared.dependents.Dependent.{Dependent}
use Rattle.kept_conditions.proofs.ExpressionLemmas.{expression_holds, none_holds}
use Rattle.kept_conditions.proofs.CollectionLemmas.{entry_is, entry_more, upto}
use Rattle.kept_conditions.proofs.collection.add_dependent.Goals as goal
use Rattle.kept_conditions.proofs.collection.add_dependent.Goals.{then-not-dependent, else-not-dependent}

pub returns-clause-collected : goal.returns-clause-collected
returns-clause-collected c =
    let ns = nodes_of c.args.source.forms.now in
    let number = c.args.number in
    let holding = is_met_at (world c.args.now.now.policy c.args.now.now.stores.now) in
    let before = c.requires.before in
    let adds = c.in_ok-add_names.ensures in
    let sound = adds.sound before.sound in
    let stores = c.args.now.now.stores.now in
    let removed = c.args.now.now.policy.removed.now in
    let n = dependent_node ns number in
    let d = c.expression_of-dependent.result in
    let is_expression = c.expression_of-dependent.ensures.is in
    let there : is_met_at (world_over ns removed stores) n.place ≡ holding c.place_of-place.result =
    ap (λ (b : List ℕ). is_met_at (world_over (nodes_of b) removed stores) n.place) (sym c.requires.together) ∙ ap holding (sym c.place_of-place.ensures.place) in
    let told : c.if-not-dependent.holds ≡ holding c.place_of-place.result = elim c.if-not-dependent.branch [
      | then-not-dependent w ↦
          w.holds-is ∙ w.expression_holds_by-holds.ensures.holds ∙ ap (λ (b : List ℕ). holds (value (rules_of b) (answers (nodes_of b) stores) d.this (tree_of d.expression))) c.requires.together
          ∙ expression_holds c.args.source.forms.now c.args.source.accepted number c.requires.inside removed stores d is_expression (sym is_expression.rule ∙ w.if-not-dependent.true) ∙ there
      | else-not-dependent w ↦ w.holds-is ∙ ap not w.if-not-dependent.false ∙ none_holds c.args.source.forms.now c.args.source.accepted number c.requires.inside removed stores (sym is_expression.rule ∙ w.if-not-dependent.false) ∙ there
    ] in
    let r : Dependent = record { place = c.place_of-place.result; round = 0; is_rule = c.expression_of-dependent.result.is_rule; holds = c.if-not-dependent.holds } in
    let is : r ≡ entry holding n = entry_is holding n c.place_of-place.result c.expression_of-dependent.result.is_rule c.if-not-dependent.holds c.place_of-place.ensures.place is_expression.rule told in
    record {
      list = c.in_ok-push.ensures.items ∙ ap (λ v. v.items ++ r ∷ []) adds.list ∙ ap (λ (l : List Dependent). l ++ r ∷ []) before.list
          ∙ ap (λ (x : Dependent). map (entry holding) (take number (dependent_nodes ns)) ++ x ∷ []) is ∙ sym (entry_more holding ns number c.requires.inside);
      sound = record { numbers = sound.numbers; small = sound.small; are_uses = sound.are_uses };
      found = λ bytes k.
          adds.found bytes k ∙ ap (λ (b : Bool). b || (number == k && is_touched ns bytes number)) (before.found bytes k) ∙ upto (is_touched ns bytes) number k;
    }
