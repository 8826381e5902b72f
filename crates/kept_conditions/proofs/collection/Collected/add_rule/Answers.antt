use Rattle.std.proofs.Common.{ℕ, List, refl, sym, ◌∙◌, subst}
use Rattle.std.specs.Prelude.{Contains}
use Rattle.ifr_scopes.specs.code.Lists.{rule_node}
use Rattle.kept_conditions.specs.declared.collection.Collected.{Collected}
use Rattle.kept_conditions.specs.declared.index.RuleUse.{RuleUse}
use Rattle.kept_conditions.proofs.CollectionLemmas.{adds_rule, no_rule, rule_placed}
use Rattle.kept_conditions.proofs.collection.Collected.add_rule.Goals as goal

pub number_of-requires : goal.number_of-requires
number_of-requires c =
    let m = rule_node c.in-Some.rule in
    subst (λ (place : ℕ). Contains c.args.source.places.now place) (sym c.place.ensures)
    (subst (λ (l : List ℕ). Contains l m.place) (sym c.args.source.placed) (rule_placed c.args.source.forms.now c.args.source.accepted m c.args.reference.id c.args.reference.place c.in-Some.ensures))

pub returns-in_ok-push : goal.returns-in_ok-push
returns-in_ok-push c =
    let m = rule_node c.in-Some.rule in
    let l : RuleUse = record { rule = c.number_of.result; dependent = c.args.number } in
    let new : Collected = record { list = c.args.self.now.list; dependencies = c.args.self.now.dependencies; rule_uses = c.push.new.self } in
    adds_rule c.args.source.forms.now c.args.source.accepted c.args.number c.args.reference.id c.args.reference.place m c.in-Some.ensures l c.requires.inside refl c.number_of.ensures.within
    (c.number_of.ensures.there ∙ c.place.ensures) c.requires.before c.args.self.now new refl refl c.in_ok-push.ensures.items

pub returns-in_default : goal.returns-in_default
returns-in_default c = no_rule c.args.source.forms.now c.args.source.accepted c.args.number c.args.reference.id c.args.reference.place c.args.self.now c.in_default.ensures
