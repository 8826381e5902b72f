use Rattle.sibt_strings.proofs.EndLemmas.{lies_behind}
use Rattle.sibt_strings.proofs.front.front_at.Goals as goal

pub returns-in-Texts-clause-inside : goal.returns-in-Texts-clause-inside
returns-in-Texts-clause-inside c = lies_behind c.texts_front.result c.in-Texts.ensures.inside c.texts_front.ensures.inside
