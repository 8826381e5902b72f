use Rattle.form_page.proofs.LineLemmas.{none_added}
use Rattle.form_page.proofs.TextLemmas.{char_added}
use Rattle.form_page.proofs.value_bytes.put_value_chars.Goals as goal

pub loop-c-init : goal.loop-c-init
loop-c-init g c = rw c.chars-text.ensures (none_added _ _ _)

pub loop-c-preserved : goal.loop-c-preserved
loop-c-preserved g c = char_added _ _ _ _ _ _ _ _ _ _ c.in-Some.ensures.steps c.loop-c.invariant c.put_char.ensures
