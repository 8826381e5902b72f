use Rattle.std.proofs.Common.{List, ℕ, map, subst, sym, ◌∙◌}
use Rattle.audit_text.specs.Texts.{shown_byte}
use Rattle.std.proofs.lemmas.List.{take_rest}
use Rattle.hii_bytes.specs.Watching.{pen_of}
use Rattle.hii_bytes.specs.code.Writing.{Stands}
use Rattle.hii_bytes.proofs.WritingLemmas.{Stands-start}
use Rattle.script_audit.specs.Told.{spelled}
use Rattle.script_audit.proofs.SpellingLemmas.{name_shown, past_shown}
use Rattle.script_audit.proofs.spelling.put_name.Goals as goal

pub loop-rest-init : goal.loop-rest-init
loop-rest-init g c =
    let pen = pen_of g.W.Write.contents c.args.out.now in
    let shown = name_shown c.args.name.now (sym c.is_empty.ensures ∙ c.if-is_empty.false) in
    subst (λ (l : List ℕ). Stands pen pen (spelled c.args.telling l) (spelled c.args.telling (map shown_byte c.args.name.now))) (sym shown) (Stands-start _ _)

pub loop-rest-preserved : goal.loop-rest-preserved
loop-rest-preserved g c =
    let rest = c.loop-rest.rest.now in
    past_shown c.args.telling rest _ (take_rest rest 1) c.in-len1-up.len_at_least c.loop-rest.invariant (rw (c.from.ensures, c.shown_byte.ensures) at c.put_spelled_char.ensures)
