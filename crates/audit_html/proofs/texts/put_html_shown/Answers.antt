use Rattle.std.proofs.Common.{ap}
use Rattle.hii_bytes.proofs.WritingLemmas.{past_piece}
use Rattle.hii_languages.specs.code.Views.{chars_left}
use Rattle.audit_html.specs.Html.{html_char, html_text}
use Rattle.audit_html.proofs.texts.put_html_shown.Goals as goal

pub loop-c-preserved : goal.loop-c-preserved
loop-c-preserved g c = past_piece _ _ _ _ _ (html_char c.in-Some.c) (html_text (chars_left c.next.new.self)) (ap html_text c.in-Some.ensures.steps) c.loop-c.invariant c.put_html_char.ensures
