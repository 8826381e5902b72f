use Rattle.std.proofs.Common.{ℕ, List, Option, Some, None, sym, subst}
use Rattle.hii_bytes.specs.Watching.{Writes, pen_of}
use Rattle.ifr_scopes.specs.code.Lists.{statement_node}
use Rattle.ifr_scopes.specs.code.Parts.{option_node}
use Rattle.form_page.specs.RowValues.{choice_text}
use Rattle.form_page.specs.code.PageViews.{texts_of, world_of}
use Rattle.question_audit.specs.code.Escaped.{escaped_text}
use Rattle.question_audit.proofs.ShownLemmas.{escaped_mark, shown_choice}
use Rattle.question_audit.proofs.shown_values.put_choice.Goals as goal

pub returns-in-Some : goal.returns-in-Some
returns-in-Some g c =
    let page = c.args.page in
    let found = shown_choice (texts_of page) (world_of page) (statement_node c.args.statement) c.args.value (Some (option_node c.in-Some.option)) c.in-Some.ensures in
    subst (λ (its : Option (List ℕ)). Writes (pen_of g.W.Write.contents c.args.out.now) (pen_of g.W.Write.contents c.put_shown.new.out) (escaped_text c.args.how (choice_text its))) found
    (rw (c.chars.ensures, c.text-in-Some.ensures, c.text.ensures, c.op.ensures.bytes) at c.put_shown.ensures)

pub returns-in-None : goal.returns-in-None
returns-in-None g c =
    let page = c.args.page in
    let found = shown_choice (texts_of page) (world_of page) (statement_node c.args.statement) c.args.value None c.in-None.ensures in
    subst (λ (its : Option (List ℕ)). Writes (pen_of g.W.Write.contents c.args.out.now) (pen_of g.W.Write.contents c.put.new.self) (escaped_text c.args.how (choice_text its))) found (subst (Writes _ _) (escaped_mark c.args.how) c.put.ensures)
