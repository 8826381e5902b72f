use Rattle.std.proofs.Common.{◌∙◌, ℕ, Bool, List, arith, codes, ap}
use Rattle.std.specs.Prelude.{◌&&◌, true, filter}
use Rattle.hii_bytes.proofs.WritingLemmas.{◌⨾◌}
use Rattle.condition_text.proofs.WriteLemmas.{written_as}
use Rattle.question_audit.specs.code.Pages.{audited}
use Rattle.question_audit.specs.declared.when.When.TheVariants.{AtCommands, AtOpening}
use Rattle.question_rows.specs.Dependences.{decided_items}
use Rattle.question_rows.specs.Elements.{has_none, run}
use Rattle.question_rows.specs.code.Deciding.{is_by}
use Rattle.question_rows.proofs.DecidingLemmas.{items_are}
use Rattle.question_rows.proofs.RunLemmas.{listed_both}
use Rattle.question_rows.proofs.decided.put_kept_decides.Goals as goal

pub returns : goal.returns
returns g c =
    let a = audited c.args.page in
    let id = c.args.id in
    let now = items_are AtCommands a _ _ id (omega arith) c.requires.at_commands (c.decisions_by-at_commands.ensures ∙ ap (filter (is_by id)) c.deref.ensures.value) in
    let once = items_are AtOpening a _ _ id (omega arith) c.requires.at_opening (c.decisions_by-at_opening.ensures ∙ ap (filter (is_by id)) c.deref-2.ensures.value) in
    let first = c.put_kept-is_first.ensures.first ∙ ap (λ (items : List (List ℕ)). true && has_none items) now in
    let none = c.put_kept-is_none.ensures.first ∙ ap (λ (items : List (List ℕ)). c.put_kept-is_first.result && has_none items) once in
    written_as
    (written_as c.put_kept-is_first.ensures.text (ap (run (codes "<p class=\"small\">decides ") (codes ", ") true) now)
    ⨾ rw first at (written_as c.put_kept-is_none.ensures.text (ap (run (codes "<p class=\"small\">decides ") (codes ", ") c.put_kept-is_first.result) once))
    ⨾ rw (none, first) at c.put_end.ensures)
    (listed_both (codes "<p class=\"small\">decides ") (codes ", ") (codes "</p>") (decided_items AtCommands a id) (decided_items AtOpening a id))
