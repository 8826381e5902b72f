use Rattle.std.proofs.Common.{refl, sym, ap, ◌∙◌, ◌≡◌, Option, None, Some, List, ℕ}
use Rattle.std.specs.Option.{is_some, option_map}
use Rattle.sibt_strings.specs.code.Views.{units_in}
use Rattle.sibt_strings.proofs.TextLemmas.{nth_rest, nth_text_read, rest_of_texts, some_of_map, same_some}
use Rattle.sibt_strings.proofs.entry.nth_text.Goals as goal

pub unwrap-rest-requires : goal.unwrap-rest-requires
unwrap-rest-requires c =
    let t = c.args.texts in
    sym (is_some-map _ c.skip_texts.result) ∙ ap is_some c.skip_texts.ensures.behind ∙ nth_rest t.count c.args.n t.bytes.now c.requires t.whole
  where
    is_some-map : {A B : Type 0} (f : A → B) (o : Option A) → is_some (option_map f o) ≡ is_some o
    is_some-map f None = refl
    is_some-map f (Some x) = refl

pub unwrap-requires : goal.unwrap-requires
unwrap-requires c =
    let t = c.args.texts in
    let read : rest_of_texts c.args.n t.bytes.now ≡ Some c.unwrap-rest.result.now = sym c.skip_texts.ensures.behind ∙ ap (option_map (λ r. r.now)) c.unwrap-rest.ensures in
    let f = nth_text_read t.count c.args.n t.bytes.now _ c.requires t.whole read in
    ap is_some (some_of_map _ c.split_text.result f.0 (c.split_text.ensures.text ∙ f.1)).1

pub returns : goal.returns
returns c =
    let t = c.args.texts in
    let read : rest_of_texts c.args.n t.bytes.now ≡ Some c.unwrap-rest.result.now = sym c.skip_texts.ensures.behind ∙ ap (option_map (λ r. r.now)) c.unwrap-rest.ensures in
    let f = nth_text_read t.count c.args.n t.bytes.now _ c.requires t.whole read in
    let same = same_some _ _ (sym (sym c.split_text.ensures.text ∙ ap (option_map (λ t. (units_in t.0, t.1.now))) c.unwrap.ensures) ∙ f.1) in
    f.2 ∙ ap (λ (x : List ℕ × List ℕ). Some x.0) (sym same)
