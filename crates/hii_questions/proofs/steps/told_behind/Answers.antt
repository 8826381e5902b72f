use Rattle.std.proofs.Common.{◌≡◌, suc, sym, ap, ◌∙◌, arith}
use Rattle.hii_questions.specs.code.Steps.{told_behind}
use Rattle.hii_questions.proofs.StepLemmas.{behind_is}
use Rattle.hii_questions.proofs.steps.told_behind.Goals as goal

pub returns-in-Some : goal.returns-in-Some
returns-in-Some c =
    let ss = c.args.steps.now in
    let last = c.in-Some.last in
    let is = c.in-Some.ensures in
    let same : suc last ≡ c.args.count = omega (arith, is.0, is.1) in
    sym (behind_is last c.args.none ss record { from = 0; first = 0 } (omega (arith, is.0, is.1, c.requires))) ∙ ap (told_behind c.args.none ss) same
