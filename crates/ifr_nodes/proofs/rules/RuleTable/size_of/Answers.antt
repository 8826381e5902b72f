use Rattle.std.proofs.Common.{◌≡◌, ℕ, ◌+◌, Option, Some, None, sym, ◌∙◌, subst, arith, max}
use Rattle.ifr_expr.specs.code.Expressions.{tree_of}
use Rattle.ifr_expr.specs.code.ReferencesLeft.{references_left}
use Rattle.ifr_nodes.specs.declared.rules.KeptRule.{KeptRule}
use Rattle.ifr_nodes.proofs.SizeLemmas.{Measures, measured, greater}
use Rattle.ifr_nodes.proofs.rules.RuleTable.size_of.Goals as goal

pub loop-reference-preserved-in-Some-named : goal.loop-reference-preserved-in-Some-named
loop-reference-preserved-in-Some-named c =
    let rule = c.in-Some-named.rule in
    let found : Option KeptRule = Some rule in
    let left = references_left c.next.new.self in
    let tree = tree_of c.args.expression in
    let weight : ℕ = c.loop-reference.weight + rule.size.weight in
    subst (λ (k : ℕ). Measures c.args.self.now tree left k weight) (sym (c.max-depth.ensures ∙ greater c.loop-reference.depth rule.size.depth))
    (measured c.args.self.now tree _ left c.in-Some.reference c.loop-reference.depth c.loop-reference.weight found c.in-Some.ensures.steps (λ ns kept descend. sym c.in-Some-named.is ∙ c.named.ensures ns kept descend) c.loop-reference.invariant)

pub loop-reference-preserved : goal.loop-reference-preserved
loop-reference-preserved c =
    let found : Option KeptRule = None in
    let left = references_left c.next.new.self in
    let tree = tree_of c.args.expression in
    let m = measured c.args.self.now tree _ left c.in-Some.reference c.loop-reference.depth c.loop-reference.weight found c.in-Some.ensures.steps (λ ns kept descend. sym c.in_default-named.is ∙ c.named.ensures ns kept descend) c.loop-reference.invariant in
    let deep : max c.loop-reference.depth 0 ≡ c.loop-reference.depth = omega arith in
    let heavy : c.loop-reference.weight + 0 ≡ c.loop-reference.weight = omega arith in
    subst (λ (k : ℕ). Measures c.args.self.now tree left k c.loop-reference.weight) deep (subst (Measures c.args.self.now tree left (max c.loop-reference.depth 0)) heavy m)
