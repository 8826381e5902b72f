use Rattle.std.proofs.Common.{◌-◌, inr, length, refl, ap, sym, arith}
use Rattle.sibt_strings.specs.code.Blocks.{Texts, texts_block}
use Rattle.sibt_strings.proofs.TableLemmas.{placed_more, placed_cut, placed_all}
use Rattle.sibt_strings.proofs.places.TextPlaces.add_texts.Goals as goal

pub returns-in_default-clause-steps : goal.returns-in_default-clause-steps
returns-in_default-clause-steps c = inr (refl, ap texts_block (placed_cut c.loop.invariant c.loop-test.true (sym c.in_default.ensures.text)))

pub loop-preserved : goal.loop-preserved
loop-preserved c =
    placed_more c.loop.invariant c.loop-test.true c.requires.inside c.add.new.self (length c.args.blocks.now - length c.loop.rest.now) _ c.in-Some.behind.now refl
    (c.in_ok-add.ensures c.args.blocks.now) (sym c.in-Some.ensures.text)

pub returns-clause-steps : goal.returns-clause-steps
returns-clause-steps c = (Texts c.loop.invariant.seen, ap texts_block (placed_all c.loop.invariant (omega arith)), c.loop.invariant.adds)
