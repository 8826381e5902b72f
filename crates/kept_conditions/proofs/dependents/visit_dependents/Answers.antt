use Rattle.std.proofs.Common.{◌≡◌, ◌+◌, ◌==◌, ◌||◌, Bool, List, take, refl, ap, ◌∙◌, arith}
use Rattle.std.specs.List.{list_any}
use Rattle.std.proofs.lemmas.List.{take_all}
use Rattle.kept_conditions.specs.code.Dependents.{was_visited}
use Rattle.kept_conditions.specs.declared.index.RuleUse.{RuleUse}
use Rattle.kept_conditions.proofs.VisitsSomeLemmas.{any_more, none_visited, one_more}
use Rattle.kept_conditions.proofs.FilterLemmas.{one}
use Rattle.kept_conditions.proofs.RuleUseLemmas.{dependent_within, dependents_among}
use Rattle.kept_conditions.proofs.dependents.visit_dependents.Goals.{then-visit, else-visit}
use Rattle.kept_conditions.proofs.dependents.visit_dependents.Goals as goal

abbrev no_rule_use : RuleUse
no_rule_use = record { rule = 0; dependent = 0 }

pub loop-rule_use-init : goal.loop-rule_use-init
loop-rule_use-init c = record { visited = none_visited _ _ c.args.dependents.now (λ k less. refl); kept = c.requires.kept }

pub visit-requires-clause-inside : goal.visit-requires-clause-inside
visit-requires-clause-inside c =
    let inside = dependent_within c.args.dependents.now.list.items c.args.rule_uses.now c.uses_of-rule_use-items.result.now c.args.rule c.loop-rule_use.rule_use-index no_rule_use c.uses_of-rule_use-items.ensures c.requires.are_uses c.loop-rule_use-test.true in
    omega (arith, inside, c.loop-rule_use.invariant.visited.visits.size)

pub loop-rule_use-preserved : goal.loop-rule_use-preserved
loop-rule_use-preserved c =
    let rule_uses = c.uses_of-rule_use-items.result.now in
    let i = c.loop-rule_use.rule_use-index in
    let inside = dependent_within c.args.dependents.now.list.items c.args.rule_uses.now rule_uses c.args.rule i no_rule_use c.uses_of-rule_use-items.ensures c.requires.are_uses c.loop-rule_use-test.true in
    let sum : c.if-visit.count ≡ c.loop-rule_use.count + one c.visit.result = elim c.if-visit.branch [ then-visit w ↦ omega (arith, w.count-is, ap one w.if-visit.true) | else-visit w ↦ omega (arith, w.count-is, ap one w.if-visit.false) ] in
    record {
      visited = one_more c.loop-rule_use.invariant.visited inside c.visit.ensures.visits sum (λ k less. any_more (λ (x : RuleUse). x.dependent == k) rule_uses i no_rule_use c.loop-rule_use-test.true);
      kept = c.visit.ensures.kept;
    }

pub returns-clause-reaches : goal.returns-clause-reaches
returns-clause-reaches c = λ k less.
    let rule_uses = c.uses_of-rule_use-items.result.now in
    let all : take c.loop-rule_use.rule_use-index rule_uses ≡ rule_uses = take_all c.loop-rule_use.rule_use-index rule_uses c.loop-rule_use-test.false in
    c.loop-rule_use.invariant.visited.reaches k less
    ∙ ap (λ (l : List RuleUse). list_any (λ (x : RuleUse). x.dependent == k) l || was_visited c.args.dependents.now k) (all ∙ c.uses_of-rule_use-items.ensures)
    ∙ ap (λ (b : Bool). b || was_visited c.args.dependents.now k) (dependents_among c.args.rule k c.args.rule_uses.now)
