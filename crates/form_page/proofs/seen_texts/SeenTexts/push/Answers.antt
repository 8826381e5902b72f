use Rattle.std.proofs.Common.{List, ap, ◌∙◌}
use Rattle.form_page.specs.code.SeenTexts.{text_among}
use Rattle.form_page.specs.declared.seen_texts.SeenText.{SeenText}
use Rattle.form_page.proofs.SeenLemmas.{text_behind}
use Rattle.form_page.proofs.seen_texts.SeenTexts.push.Goals as goal

pub returns-in-Ok-clause-texts : goal.returns-in-Ok-clause-texts
returns-in-Ok-clause-texts c v whole =
    ap (λ (ts : List SeenText). text_among ts v) c.in-Ok.ensures.ok ∙ text_behind c.args.self.now.texts.items (record { value = c.args.value; text = c.args.text }) v
