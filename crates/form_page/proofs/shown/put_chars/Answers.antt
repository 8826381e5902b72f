use Rattle.form_page.proofs.TextLemmas.{char_added}
use Rattle.form_page.proofs.shown.put_chars.Goals as goal

pub loop-c-preserved : goal.loop-c-preserved
loop-c-preserved g c = char_added _ _ _ _ _ _ _ _ _ _ c.in-Some.ensures.steps c.loop-c.invariant c.put_char.ensures
