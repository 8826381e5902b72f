use Rattle.std.proofs.Common.{◌≡◌, ◌≤◌, replicate, arith, sym, subst}
use Rattle.std.proofs.lemmas.List.Elements.{All-replicate}
use Rattle.ifr_expr.specs.code.RuleValues.{AreUpTo}
use Rattle.ifr_expr.specs.declared.rule_values.KeptValue.{KeptValue}
use Rattle.ifr_expr.specs.declared.rule_values.TheConstants.{NOTHING}
use Rattle.ifr_expr.proofs.RuleValueLemmas.{all_forgotten}
use Rattle.ifr_expr.proofs.rule_values.RuleValues.new.Goals as goal

pub returns-clause-nothing : goal.returns-clause-nothing
returns-clause-nothing c =
    let items : c.in_ok-vec.field-0.items ≡ replicate c.args.count NOTHING = c.in_ok-vec.ensures.items_if_clones_equal (λ y e. e) in
    all_forgotten 0 1 c.in_ok-vec.field-0.items (omega arith) (subst (AreUpTo 0) (sym items) (All-replicate (λ (kept : KeptValue). kept.round ≤ 0) c.args.count NOTHING (omega arith)))
