use Rattle.std.proofs.Common.{ℕ, List, Option, Some, None, subst}
use Rattle.hii_bytes.specs.Watching.{Writes, pen_of}
use Rattle.ifr_scopes.specs.code.Lists.{statement_node}
use Rattle.ifr_scopes.specs.code.Parts.{option_node}
use Rattle.form_page.specs.RowValues.{choice_text}
use Rattle.form_page.specs.code.PageViews.{texts_of, world_of}
use Rattle.question_audit.proofs.ShownLemmas.{shown_choice}
use Rattle.script_audit.specs.Told.{spelled}
use Rattle.script_audit.proofs.ValueLemmas.{spelled_mark}
use Rattle.script_audit.proofs.values.put_choice.Goals as goal

pub returns-in-Some : goal.returns-in-Some
returns-in-Some g c =
    let page = c.args.page in
    let found = shown_choice (texts_of page) (world_of page) (statement_node c.args.statement) c.args.value (Some (option_node c.in-Some.option)) c.in-Some.ensures in
    subst (λ (its : Option (List ℕ)). Writes (pen_of g.W.Write.contents c.args.out.now) (pen_of g.W.Write.contents c.put_spelled.new.out) (spelled c.args.telling (choice_text its))) found
    (rw (c.chars.ensures, c.text-in-Some.ensures, c.text.ensures, c.op.ensures.bytes) at c.put_spelled.ensures)

pub returns-in-None : goal.returns-in-None
returns-in-None g c =
    let page = c.args.page in
    let found = shown_choice (texts_of page) (world_of page) (statement_node c.args.statement) c.args.value None c.in-None.ensures in
    subst (λ (its : Option (List ℕ)). Writes (pen_of g.W.Write.contents c.args.out.now) (pen_of g.W.Write.contents c.put.new.self) (spelled c.args.telling (choice_text its))) found
    (subst (Writes _ _) (spelled_mark c.args.telling) c.put.ensures)
