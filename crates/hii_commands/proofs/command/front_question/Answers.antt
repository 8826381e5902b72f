use Rattle.std.proofs.Common.{◌≡◌, ◌<◌, ◌≤◌, true, false, ltb, sym, ap, ◌∙◌, arith}
use Rattle.std.proofs.lemmas.Bool.{and_from, and_left, and_right, le-ltb, lt-ltb}
use Rattle.std.proofs.lemmas.Grind.{common_steps}
use Rattle.std.proofs.lemmas.List.{take_rest}
use Rattle.hii_commands.proofs.FrontLemmas.{id_by_digits, id_found, id_of_digits}
use Rattle.hii_commands.proofs.command.front_question.Goals as goal

pub returns-in_err-count : goal.returns-in_err-count
returns-in_err-count c =
    rw c.from_residual.ensures (ap (id_of_digits c.args.text.now) c.in_err-count.ensures ∙ sym (id_by_digits c.args.text.now))

pub returns-then-count-eq0 : goal.returns-then-count-eq0
returns-then-count-eq0 c =
    let count = c.in_ok-count.count in
    let number = c.in_ok-count.number in
    id_found c.args.text.now count number false c.in_ok-count.ensures (and_left (ltb 0 count) (ltb number 65536) (le-ltb 0 count (omega arith)))

pub returns-in_err-question : goal.returns-in_err-question
returns-in_err-question c =
    let count = c.in_ok-count.count in
    let number = c.in_ok-count.number in
    let large : 65536 ≤ number = grind (arith, common_steps) in
    rw c.from_residual-in_err-question.ensures
    (id_found c.args.text.now count number false c.in_ok-count.ensures (and_right (ltb 0 count) (ltb number 65536) (le-ltb number 65536 large)))

pub returns : goal.returns
returns c =
    let count = c.in_ok-count.count in
    let number = c.in_ok-count.number in
    let same : c.in_ok-question.question ≡ number = grind (arith, common_steps) in
    let small : number < 65536 = grind (arith, common_steps) in
    rw (same, take_rest c.args.text.now count)
    (id_found c.args.text.now count number true c.in_ok-count.ensures (and_from (ltb 0 count) (ltb number 65536) (lt-ltb 0 count (omega arith)) (lt-ltb number 65536 small)))
