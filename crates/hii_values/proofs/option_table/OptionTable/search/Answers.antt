use Rattle.std.proofs.Common.{◌≡◌, ◌<◌, List, ℕ, Ok, filter, length, get_or, rules, sym, ap, subst, ◌∙◌}
use Rattle.std.specs.Prelude.{slice_range}
use Rattle.std.specs.List.Sorted.{IsBinarySearchResult}
use Rattle.std.specs.Ordering.{nat_cmp}
use Rattle.std.proofs.lemmas.Cmp.{ranked}
use Rattle.std.proofs.lemmas.List.Sorted.{answers_always}
use Rattle.ifr_nodes.specs.code.Checked.{node_in}
use Rattle.hii_values.specs.code.OptionPlaces.{AreWithValue, has_value_at}
use Rattle.hii_values.specs.code.OptionTables.{IsBlock}
use Rattle.hii_values.specs.declared.option_table.OptionBlock.{OptionBlock}
use Rattle.hii_values.proofs.option_table.OptionTable.search.Goals as goal

pub returns-in-Ok : goal.returns-in-Ok
returns-in-Ok c =
    let s = c.self.inside in
    let bytes = s.ifr.now in
    let at = c.in-Ok.at in
    let b = c.index-block.result.now in
    let equal = c.in-Ok.ensures.position (λ b. b.question) (answers_always _ _ _ (λ f a r g called. search rules)) in
    let found = subst (λ (bs : List OptionBlock). (at < length bs) × IsBinarySearchResult (λ b. nat_cmp b.question c.args.question) bs (Ok at)) c.deref.ensures.value (c.in-Ok.ensures.bound, equal) in
    let same : b.question ≡ c.args.question = ap (λ (b : OptionBlock). b.question) c.index-block.ensures ∙ ranked (get_or s.blocks.items at b).question c.args.question _ (sym (found.1 b)) in
    let is : IsBlock bytes s.places.items b = subst (IsBlock bytes s.places.items) (sym c.index-block.ensures) (c.self.invariant.each at b found.0) in
    let told : c.found_among.result.places.now ≡ filter (has_value_at bytes c.args.value) (slice_range s.places.items b.first b.end) =
    c.found_among.ensures ∙ ap (λ (l : List ℕ). filter (has_value_at bytes c.args.value) (slice_range l b.first b.end)) c.deref-in-Ok.ensures.value in
    let own : AreWithValue bytes (node_in bytes b.question) c.args.value c.found_among.result.places.now = subst (AreWithValue bytes (node_in bytes b.question) c.args.value) (sym told) (is.keeps.with c.args.value) in
    subst (λ (l : List ℕ). AreWithValue l (node_in l c.args.question) c.args.value c.found_among.result.places.now) c.self.view_is
    (subst (λ (p : ℕ). AreWithValue bytes (node_in bytes p) c.args.value c.found_among.result.places.now) same own)
