use Rattle.std.proofs.Common.{◌≡◌, ℕ, ◌+◌, min, max, Option, Some, None, sym, subst, ◌∙◌, arith}
use Rattle.ifr_expr.specs.code.Expressions.{tree_of}
use Rattle.ifr_expr.specs.code.ReferencesLeft.{references_left}
use Rattle.ifr_nodes.specs.declared.rules.KeptRule.{KeptRule}
use Rattle.package_faults.proofs.RuleLemmas.{Measures, measured}
use Rattle.package_faults.proofs.met_rules.MetRules.size_of.Goals as goal

pub loop-reference-preserved-in-Some-named : goal.loop-reference-preserved-in-Some-named
loop-reference-preserved-in-Some-named c =
    let rule = c.in-Some-named.rule in
    let found : Option KeptRule = Some rule in
    let left = references_left c.next.new.self in
    let tree = tree_of c.args.expression in
    let heavy : c.min-weight-in-Some-named.result ≡ min 4097 (c.loop-reference.weight + rule.size.weight) = omega (arith, c.min-weight-in-Some-named.ensures, c.from.ensures) in
    let m = measured c.args.self.now tree _ left c.in-Some.reference c.loop-reference.depth c.loop-reference.weight found c.in-Some.ensures.steps (λ ns kept descend. sym c.in-Some-named.is ∙ c.named.ensures ns kept descend) c.loop-reference.invariant.measures in
    record {
      measures = subst (λ (k : ℕ). Measures c.args.self.now tree left k c.min-weight-in-Some-named.result) (sym c.max-depth.ensures) (subst (Measures c.args.self.now tree left (max c.loop-reference.depth rule.size.depth)) (sym heavy) m);
      small = omega (arith, heavy);
    }

pub loop-reference-preserved : goal.loop-reference-preserved
loop-reference-preserved c =
    let found : Option KeptRule = None in
    let left = references_left c.next.new.self in
    let tree = tree_of c.args.expression in
    let m = measured c.args.self.now tree _ left c.in-Some.reference c.loop-reference.depth c.loop-reference.weight found c.in-Some.ensures.steps (λ ns kept descend. sym c.in_default-named.is ∙ c.named.ensures ns kept descend) c.loop-reference.invariant.measures in
    let small = c.loop-reference.invariant.small in
    let deep : max c.loop-reference.depth 0 ≡ c.loop-reference.depth = omega arith in
    let heavy : min 4097 (c.loop-reference.weight + 0) ≡ c.loop-reference.weight = omega (arith, small) in
    record {
      measures = subst (λ (k : ℕ). Measures c.args.self.now tree left k c.loop-reference.weight) deep (subst (Measures c.args.self.now tree left (max c.loop-reference.depth 0)) heavy m);
      small = small;
    }
