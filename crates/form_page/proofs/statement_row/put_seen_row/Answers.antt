use Rattle.std.proofs.Common.{◌∙◌, ap, List, ℕ}
use Rattle.ifr_opcodes.specs.Fields.{statement_prompt}
use Rattle.ifr_scopes.specs.code.Lists.{statement_node}
use Rattle.form_page.specs.code.PageViews.{texts_of}
use Rattle.form_page.specs.Pages.{mark_of}
use Rattle.form_page.proofs.LineLemmas.{◌▹◌}
use Rattle.form_page.proofs.statement_row.put_seen_row.Goals as goal

pub returns : goal.returns
returns g c =
    let n = statement_node c.args.statement in
    let mark = c.mark_of-mark.ensures ∙ ap (λ (op : List ℕ). mark_of op c.is_err.result) c.kind.ensures.bytes ∙ ap (mark_of n.op) (c.is_err.ensures.value ∙ c.requires.fixed) in
    let prompt = c.text-prompt.ensures.characters ∙ ap (texts_of c.args.page) (c.prompt.ensures ∙ ap statement_prompt c.op.ensures.bytes) in
    rw (mark, c.id_of.ensures, prompt, c.statement_value.ensures) at (c.put_front.ensures ▹ c.put.ensures ▹ c.put_value.ensures ▹ c.put-2.ensures)
