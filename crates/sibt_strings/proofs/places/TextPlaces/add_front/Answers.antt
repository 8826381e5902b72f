use Rattle.std.proofs.Common.{sym}
use Rattle.std.proofs.lemmas.Result.{IfOk-weaker}
use Rattle.sibt_strings.specs.code.Blocks.{Duplicate, Skip}
use Rattle.sibt_strings.proofs.EndLemmas.{ends_trans}
use Rattle.sibt_strings.proofs.TableLemmas.{steps_behind}
use Rattle.sibt_strings.proofs.places.TextPlaces.add_front.Goals as goal

pub add_texts-requires-clause-inside : goal.add_texts-requires-clause-inside
add_texts-requires-clause-inside c = ends_trans c.requires.inside c.in-Texts.ensures.inside

pub returns-in-Texts-clause-inside : goal.returns-in-Texts-clause-inside
returns-in-Texts-clause-inside c = IfOk-weaker c.add_texts.result _ _ (λ found lies. steps_behind found c.in-Texts.ensures.inside lies) c.add_texts.ensures.inside

pub returns-in_ok-add_duplicate-in-Duplicate-clause-steps : goal.returns-in_ok-add_duplicate-in-Duplicate-clause-steps
returns-in_ok-add_duplicate-in-Duplicate-clause-steps c =
    (Duplicate c.in-Duplicate.other, sym c.in-Duplicate.ensures.head, c.in_ok-add_duplicate-in-Duplicate.ensures c.args.blocks.now)

pub returns-in-Skip-clause-steps : goal.returns-in-Skip-clause-steps
returns-in-Skip-clause-steps c = (Skip c.in-Skip.count, sym c.in-Skip.ensures.head, c.skip.ensures c.args.blocks.now)
