use Rattle.form_page.proofs.LineLemmas.{◌▹◌, none_added, one_added}
use Rattle.form_page.proofs.ValueLemmas.{utf8_later, utf8_list}
use Rattle.form_page.proofs.value_bytes.put_few.Goals as goal

pub loop-next-init : goal.loop-next-init
loop-next-init g c = one_added _ _ _ _ _ _ _ _ _ _ (utf8_list _ _ _ c.in-Some.ensures) (none_added _ _ _) c.put_choice.ensures

pub loop-next-preserved : goal.loop-next-preserved
loop-next-preserved g c = one_added _ _ _ _ _ _ _ _ _ _ (utf8_later _ _ _ c.in-Some-step.ensures) c.loop-next.invariant (c.put.ensures ▹ c.put_choice-in-Some-step.ensures)
