use Rattle.std.proofs.Common.{◌≡◌, Some, rules}
use Rattle.hii_questions.specs.code.Merging.{next_from}
use Rattle.hii_questions.proofs.MergeLemmas.{one_passed}
use Rattle.hii_questions.proofs.merging.Merge.step.Goals as goal

pub returns : goal.returns
returns c =
    let it = c.args.self.now in
    let e : next_from it.left.steps.now it.right.steps.now ≡ Some c.in_ok-from.from = search rules in
    rw (c.min-first.ensures, c.pass.ensures.first, c.pass.ensures.steps, c.pass-2.ensures.first, c.pass-2.ensures.steps)
    (one_passed it.left.first it.right.first it.left.steps.now it.right.steps.now c.in_ok-from.from e)
