use Rattle.std.proofs.Common.{◌+◌, ◌++◌, ℕ, List, Option, None, ap, codes, drop, get_or, refl}
use Rattle.std.specs.List.{flat_map}
use Rattle.std.proofs.lemmas.List.{at_drop_all, at_drop_more}
use Rattle.hii_bytes.proofs.WritingLemmas.{◌⨾◌, Stands-all, past_piece}
use Rattle.hii_values.specs.declared.denial.DenialKind.{DenialKind}
use Rattle.condition_text.proofs.WriteLemmas.{written_as}
use Rattle.form_page.specs.code.PageViews.{world_of}
use Rattle.report_audit.specs.Counts.{standing_item}
use Rattle.report_audit.proofs.counts.put_counts.Goals as goal

pub loop-standing-init : goal.loop-standing-init
loop-standing-init g c = record { front = codes "<ul class=\"counts\">"; parts = refl; written = c.put.ensures }

pub loop-standing-preserved : goal.loop-standing-preserved
loop-standing-preserved g c =
    let items = c.as_slice-standing-items.result.now in
    let i = c.loop-standing.standing-index in
    let told : Option DenialKind → List ℕ = standing_item (world_of c.args.page) in
    past_piece _ _ _ _ _ (told (get_or items i None)) (flat_map told (drop (i + 1) items)) (at_drop_more (flat_map told) items i None c.loop-standing-test.true) c.loop-standing.invariant
    (rw c.count_of.ensures at c.put_count.ensures)

pub returns : goal.returns
returns g c =
    let items = c.as_slice-standing-items.result.now in
    let told : Option DenialKind → List ℕ = standing_item (world_of c.args.page) in
    written_as (Stands-all _ _ _ _ c.loop-standing.invariant (at_drop_all (flat_map told) items c.loop-standing.standing-index c.loop-standing-test.false) ⨾ c.put-2.ensures)
    (ap (λ (standings : List (Option DenialKind)). codes "<ul class=\"counts\">" ++ flat_map told standings ++ codes "</ul>\n") c.as_slice-standing-items.ensures)
