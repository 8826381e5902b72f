use Rattle.std.proofs.Common.{◌≡◌, drop}
use Rattle.form_page.specs.code.SeenTexts.{text_among}
use Rattle.form_page.proofs.seen_texts.SeenTexts.find.Given as goal

-- the text among those that are left is that among all
abbrev pub invariant-loop-seen : goal.invariant-loop-seen
invariant-loop-seen l = text_among (drop l.seen-index l.seen-items) l.value ≡ text_among l.seen-items l.value
