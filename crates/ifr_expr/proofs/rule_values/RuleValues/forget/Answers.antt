use Rattle.std.proofs.Common.{◌≡◌, List, length, map, ap, sym, subst, arith}
use Rattle.std.proofs.lemmas.List.{with_items_is}
use Rattle.ifr_expr.specs.code.RuleValues.{KeepsNothing, in_round, kept_under}
use Rattle.ifr_expr.specs.declared.rule_values.KeptValue.{KeptValue}
use Rattle.ifr_expr.proofs.RuleValueLemmas.{all_forgotten}
use Rattle.ifr_expr.proofs.rule_values.RuleValues.forget.Goals as goal

pub returns-in-Some-clause-nothing : goal.returns-in-Some-clause-nothing
returns-in-Some-clause-nothing c = all_forgotten c.self.inside.round c.in-Some.next c.self.inside.values.items (omega (arith, c.in-Some.ensures.1)) c.self.invariant

pub returns-in-None-clause-nothing : goal.returns-in-None-clause-nothing
returns-in-None-clause-nothing c =
    let values = c.self.inside.values in
    let new = c.forget_rounds.new.values in
    let long : length new ≡ values.len = omega (arith, c.forget_rounds.auto.values, ap (λ (l : List KeptValue). length l) c.deref_mut.ensures.value, values.ok.0) in
    subst (λ (l : List KeptValue). KeepsNothing (kept_under (map (in_round 1) l))) (sym (with_items_is values new long)) (all_forgotten 0 1 new (omega arith) c.forget_rounds.ensures)
