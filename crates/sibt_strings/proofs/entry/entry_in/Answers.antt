use Rattle.std.proofs.Common.{sym, ap, subst, arith}
use Rattle.sibt_strings.specs.code.Blocks.{with_block}
use Rattle.sibt_strings.specs.code.Views.{block_seen, count_of, TellsOf}
use Rattle.sibt_strings.specs.declared.entry.Entry.TheVariants as entry
use Rattle.sibt_strings.proofs.TextLemmas.{length-whole_texts}
use Rattle.sibt_strings.proofs.IdLemmas.{told_text, told_duplicate, told_later, told_skip}
use Rattle.sibt_strings.proofs.entry.entry_in.Goals as goal

pub nth_text-requires : goal.nth_text-requires
nth_text-requires c = omega (arith, length-whole_texts _ _ c.in-Texts.texts.whole, ap (λ b. count_of (block_seen b)) c.in-Texts.is, c.requires)

pub returns-in-Texts : goal.returns-in-Texts
returns-in-Texts c = λ before place.
    subst (λ b. TellsOf (with_block before (block_seen b)) c.args.id (entry.Text c.nth_text.result)) (sym c.in-Texts.is) (told_text before _ c.args.n c.args.id _ place c.nth_text.ensures)

pub returns-then-other-id : goal.returns-then-other-id
returns-then-other-id c = λ before place.
    let one = ap (λ b. count_of (block_seen b)) c.in-Duplicate.is in
    subst (λ b. TellsOf (with_block before (block_seen b)) c.args.id (entry.Duplicate c.in-Duplicate.other)) (sym c.in-Duplicate.is)
    (c.if-other-id.true, told_duplicate before c.args.id c.in-Duplicate.other (omega (arith, one, c.requires)) c.if-other-id.true)

pub returns-else-other-id : goal.returns-else-other-id
returns-else-other-id c = λ before place.
    let one = ap (λ b. count_of (block_seen b)) c.in-Duplicate.is in
    subst (λ b. TellsOf (with_block before (block_seen b)) c.args.id entry.Nothing) (sym c.in-Duplicate.is)
    (told_later before c.args.id c.in-Duplicate.other (omega (arith, one, c.requires)) (omega (arith, c.if-other-id.false)))

pub returns-in-Skip : goal.returns-in-Skip
returns-in-Skip c = λ before place.
    let count = ap (λ b. count_of (block_seen b)) c.in-Skip.is in
    subst (λ b. TellsOf (with_block before (block_seen b)) c.args.id entry.Nothing) (sym c.in-Skip.is) (told_skip before _ c.args.n c.args.id place (omega (arith, count, c.requires)))
