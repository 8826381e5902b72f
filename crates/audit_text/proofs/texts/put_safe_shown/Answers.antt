use Rattle.std.proofs.Common.{ap}
use Rattle.hii_bytes.proofs.WritingLemmas.{past_piece}
use Rattle.hii_languages.specs.code.Views.{chars_left}
use Rattle.audit_text.specs.Texts.{safe_char, safe_text}
use Rattle.audit_text.proofs.texts.put_safe_shown.Goals as goal

pub loop-c-preserved : goal.loop-c-preserved
loop-c-preserved g c = past_piece _ _ _ _ _ (safe_char c.in-Some.c) (safe_text (chars_left c.next.new.self)) (ap safe_text c.in-Some.ensures.steps) c.loop-c.invariant c.put_safe_char.ensures
