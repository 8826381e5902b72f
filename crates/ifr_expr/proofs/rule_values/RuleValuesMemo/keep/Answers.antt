use Rattle.std.proofs.Common.{◌<◌, Option, List, length, map, set, subst, arith}
use Rattle.ifr_expr.specs.code.RuleValues.{AddsValue, in_round, kept_under}
use Rattle.ifr_expr.specs.declared.value.Operand.{Operand}
use Rattle.ifr_expr.proofs.RuleValueLemmas.{value_added}
use Rattle.ifr_expr.proofs.rule_values.RuleValuesMemo.keep.Goals as goal

pub returns-then-number-len : goal.returns-then-number-len
returns-then-number-len c =
    let round = c.self.inside.round in
    let values = c.self.inside.values.items in
    let number = c.args.number in
    let new = c.of.result in
    let inside : number < length values = omega (arith, c.if-number-len.true, c.len.ensures, c.self.inside.values.ok.0) in
    subst (λ (old : List (Option Operand)). AddsValue number c.args.value (kept_under old) (kept_under (map (in_round round) (set values number new)))) c.self.view_is
    (value_added round number values c.args.value new c.of.ensures.round c.of.ensures.value inside)
