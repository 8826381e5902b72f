use Rattle.std.proofs.Common.{◌≡◌, ◌∙◌, ◌+◌, ◌<◌, ◌^◌, ℕ, ap, arith, subst, sym, take}
use Rattle.std.specs.List.{All, count_by}
use Rattle.std.proofs.lemmas.List.{take_all}
use Rattle.std.proofs.lemmas.List.Sums.{count_by_more_no, count_by_more_yes}
use Rattle.browser_rules.specs.Strings.{Spoken}
use Rattle.sibt_strings.specs.Shared.{is_in_both, texts_in_both}
use Rattle.sibt_strings.specs.code.Views.{spoken_in}
use Rattle.sibt_strings.specs.declared.place.TextPlace.{TextPlace}
use Rattle.std.proofs.lemmas.List.Elements.{All-more}
use Rattle.sibt_strings.proofs.SharedLemmas.{in_both_counted}
use Rattle.sibt_strings.proofs.table.StringTable.texts_in_both.Goals.{then-is_in_both, else-is_in_both}
use Rattle.sibt_strings.proofs.table.StringTable.texts_in_both.Goals as goal

pub overflow_add-count : goal.overflow_add-count
overflow_add-count c = omega (arith, c.loop-place.invariant.few, c.loop-place-test.true)

pub loop-place-preserved : goal.loop-place-preserved
loop-place-preserved c =
    let items = c.as_slice-place-items.result.now in
    let i = c.loop-place.place-index in
    let d : TextPlace = record { id = 0; place = 0 } in
    let test = λ (p : TextPlace). is_in_both c.args.self.now c.args.other.now p.id in
    record {
      counted = elim c.if-is_in_both.branch [
        | then-is_in_both w ↦ w.count-is ∙ ap (λ (n : ℕ). n + 1) c.loop-place.invariant.counted ∙ sym (count_by_more_yes test items i d c.loop-place-test.true (sym c.is_in_both.ensures ∙ w.if-is_in_both.true))
        | else-is_in_both w ↦ w.count-is ∙ c.loop-place.invariant.counted ∙ sym (count_by_more_no test items i d c.loop-place-test.true (sym c.is_in_both.ensures ∙ w.if-is_in_both.false))
      ];
      few = elim c.if-is_in_both.branch [
        | then-is_in_both w ↦ omega (arith, w.count-is, c.loop-place.invariant.few)
        | else-is_in_both w ↦ omega (arith, w.count-is, c.loop-place.invariant.few)
      ];
      small = All-more (λ (p : TextPlace). p.id < 2 ^ 16) items i d c.loop-place-test.true c.loop-place.invariant.small (omega arith);
    }

pub returns : goal.returns
returns c =
    let items = c.as_slice-place-items.result.now in
    let all = take_all c.loop-place.place-index items (omega (arith, c.loop-place-test.false)) in
    let places = c.self.inside.places.items in
    let all_places : take c.loop-place.place-index items ≡ places = all ∙ c.as_slice-place-items.ensures.value in
    let other = c.args.other.now in
    let small = subst (All (λ (p : TextPlace). p.id < 2 ^ 16)) all_places c.loop-place.invariant.small in
    let counted = in_both_counted c.self.inside.block_bytes.now (spoken_in c.self.inside.language.now c.self.inside.block_bytes.now) other places c.self.invariant small in
    c.loop-place.invariant.counted
    ∙ ap (count_by (λ (p : TextPlace). is_in_both c.args.self.now other p.id)) all_places
    ∙ subst (λ (s : Spoken). count_by (λ (p : TextPlace). is_in_both s other p.id) places ≡ texts_in_both s other) c.self.view_is counted
