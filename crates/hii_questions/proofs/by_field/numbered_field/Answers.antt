use Rattle.std.proofs.Common.{length, sym, ap, ◌∙◌}
use Rattle.std.proofs.lemmas.Bool.{ltb-false, ltb-true}
use Rattle.std.proofs.lemmas.List.{get_or_default, get_or_past}
use Rattle.hii_questions.specs.code.ByField.{no_entry}
use Rattle.hii_questions.specs.code.Entries.{entry_field}
use Rattle.hii_questions.proofs.by_field.numbered_field.Goals as goal

pub returns-in-Some : goal.returns-in-Some
returns-in-Some c =
    let es = c.args.questions.now in
    let at = c.args.number in
    let question = c.in-Some.question.now in
    c.field.ensures ∙ ap entry_field (c.in-Some.ensures.lookup.1 ∙ get_or_default es at question no_entry (ltb-true at (length es) (sym c.in-Some.ensures.lookup.0)))

pub returns-in-None : goal.returns-in-None
returns-in-None c =
    let es = c.args.questions.now in
    let at = c.args.number in
    sym (ap entry_field (get_or_past es at no_entry (ltb-false at (length es) (sym c.in-None.ensures.lookup.0))))
