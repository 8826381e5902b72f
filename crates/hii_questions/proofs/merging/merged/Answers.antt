use Rattle.std.proofs.Common.{◌≡◌, ◌++◌, ◌+◌, min, subst, sym, ap, ◌∙◌, arith, append-nil, length}
use Rattle.hii_questions.specs.code.Merging.{at_most}
use Rattle.hii_questions.specs.code.Steps.{StepsRise, value_at}
use Rattle.hii_questions.proofs.MergeLemmas.{least_told, all_rise}
use Rattle.hii_questions.proofs.merging.merged.Goals as goal

-- all steps of both lists
whole : (c : goal.In_default) → c.loop-step.steps.items ≡ at_most (length c.args.left.now + length c.args.right.now) c.args.none c.args.left.now c.args.none c.args.right.now
whole c = sym (append-nil c.loop-step.steps.items) ∙ ap (λ l. c.loop-step.steps.items ++ l) (sym c.in_default.ensures.0) ∙ c.loop-step.invariant

pub returns-clause-least : goal.returns-clause-least
returns-clause-least c at =
    let none = c.args.none in
    let same : min none none ≡ none = omega arith in
    ap (λ l. value_at none l at) (whole c) ∙ subst (λ v. value_at v (at_most (length c.args.left.now + length c.args.right.now) none c.args.left.now none c.args.right.now) at ≡ min (value_at none c.args.left.now at) (value_at none c.args.right.now at)) same
    (least_told (length c.args.left.now + length c.args.right.now) none none c.args.left.now c.args.right.now at (omega arith))

pub returns-clause-rise : goal.returns-clause-rise
returns-clause-rise c left right =
    subst (StepsRise 0) (sym (whole c)) (all_rise (length c.args.left.now + length c.args.right.now) 0 c.args.none c.args.none c.args.left.now c.args.right.now left right)
