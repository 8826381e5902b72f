use Rattle.std.proofs.Common.{◌∙◌, ◌++◌, ℕ, List, ap, refl, sym}
use Rattle.std.specs.Prelude.{filter}
use Rattle.std.specs.List.{filter_map}
use Rattle.std.proofs.lemmas.List.{drop_all}
use Rattle.check_audit.specs.Warnings.{firsts, textless_at}
use Rattle.check_audit.specs.code.Naming.{is_unnamed}
use Rattle.check_audit.proofs.TextlessLemmas.{ids_more}
use Rattle.check_audit.proofs.textless.add_of_opcode.Goals as goal

pub loop-id-init : goal.loop-id-init
loop-id-init c = λ left.
    let ids = c.as_slice-id-items.ensures.value ∙ c.string_ids-ids.ensures in
    ap (λ (ids : List ℕ). c.args.warnings.now.items ++ filter (is_unnamed c.args.named.now) (firsts (filter_map (textless_at c.args.strings.now c.args.place) ids ++ left))) ids

pub loop-id-preserved : goal.loop-id-preserved
loop-id-preserved c =
    ids_more (textless_at c.args.strings.now c.args.place) c.loop-id.named c.add_id.new.named _ c.as_slice-id-items.result.now c.loop-id.id-index c.loop-id.warnings.items c.add_id.new.warnings.items _ c.loop-id-test.true refl
    c.in_ok-add_id.ensures c.loop-id.invariant

pub returns : goal.returns
returns c = λ left.
    let none = drop_all c.loop-id.id-index c.as_slice-id-items.result.now c.loop-id-test.false in
    ap (λ (ids : List ℕ). c.loop-id.warnings.items ++ filter (is_unnamed c.loop-id.named) (firsts (filter_map (textless_at c.args.strings.now c.args.place) ids ++ left))) (sym none)
    ∙ c.loop-id.invariant left
