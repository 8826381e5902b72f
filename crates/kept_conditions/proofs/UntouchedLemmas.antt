-- Conditions that a write does not touch.
use Rattle.std.proofs.Common.{min, ◌≡◌, ℕ, zero, suc, ◌+◌, ◌-◌, ◌<◌, ◌≤◌, ◌==◌, ◌||◌, Bool, true, false, cond, Option, Some, None, List, [], ◌∷◌, length, take, drop, get_or, refl, sym, ap, ◌∙◌, subst, inl, inr, arith, length-take, length-drop}
use Rattle.std.specs.Prelude.{option_map, option_and_then, slice_get, slice_range}
use Rattle.std.specs.List.{list_any}
use Rattle.std.proofs.lemmas.Bool.{cases_Bool, false≢true}
use Rattle.std.proofs.lemmas.List.{get_or-take, get_or-drop, same_lists}
use Rattle.std.proofs.lemmas.Option.{slice_get-get_or, same_Some}
use Rattle.ifr_opcodes.specs.Forest.{Node}
use Rattle.ifr_expr.specs.laws.Agreement.{Agree}
use Rattle.ifr_expr.specs.Meaning.{answered}
use Rattle.ifr_expr.specs.Values.{Value, undefined, holds}
use Rattle.ifr_expr.proofs.DependenceLemmas.{depends}
use Rattle.ifr_nodes.specs.NodeExpressions.{expression_tree}
use Rattle.ifr_nodes.specs.Nodes.{this_of}
use Rattle.ifr_nodes.specs.Rules.{rules_among}
use Rattle.hii_varstore.specs.Layout.{Shape, size_of}
use Rattle.hii_varstore.specs.Stores.{StoreMap}
use Rattle.hii_varstore.proofs.WriteLemmas.{sizes}
use Rattle.hii_varstore.specs.Stores as stores
use Rattle.hii_values.specs.Types.{type_of}
use Rattle.hii_questions.specs.Answers.{answers, answer_of, value_of_field, value_of_bytes}
use Rattle.hii_questions.specs.Fields.{Field, field_of, question_with}
use Rattle.guard_policy.specs.Conditions.{condition_ids}
use Rattle.kept_conditions.specs.Touching.{has_one, has_byte, field_with}
use Rattle.kept_conditions.specs.laws.Writes.{IsWrite, LeavesUntouched}

first_false : (a b : Bool) → a || b ≡ false → a ≡ false
first_false true b e = e
first_false false b e = refl

second_false : (a b : Bool) → a || b ≡ false → b ≡ false
second_false true b e = absurd (false≢true (sym e))
second_false false b e = e

-- ---- bytes

-- none of so many bytes is among these
pub none_has : (bytes : ℕ → ℕ → Bool) (store width offset at : ℕ) → has_one bytes store offset width ≡ false → offset ≤ at → at < offset + width → bytes store at ≡ false
none_has bytes store zero offset at e from before = absurd (omega (arith, from, before))
none_has bytes store (suc width) offset at e from before = elim (cases_Bool (offset == at)) [
  | inl here ↦ subst (λ k. bytes store k ≡ false) (grind arith) (first_false (bytes store offset) (has_one bytes store (offset + 1) width) e)
  | inr other ↦ none_has bytes store width (offset + 1) at (second_false (bytes store offset) (has_one bytes store (offset + 1) width) e) (grind arith) (omega (arith, before))
]

-- the same element of two lists of one length
same_at : (xs ys : List ℕ) (at : ℕ) (d : ℕ) → length xs ≡ length ys → slice_get xs at ≡ slice_get ys at → at < length xs → get_or xs at d ≡ get_or ys at d
same_at xs ys at d size e within =
    same_Some (get_or xs at d) (get_or ys at d) (sym (slice_get-get_or xs at d within) ∙ e ∙ slice_get-get_or ys at d (omega (arith, size, within)))

same_range : (xs ys : List ℕ) (offset width : ℕ) → length xs ≡ length ys → ((at : ℕ) → offset ≤ at → at < offset + width → slice_get xs at ≡ slice_get ys at)
    → slice_range xs offset (offset + width) ≡ slice_range ys offset (offset + width)
same_range xs ys offset width size same =
    let n = offset + width - offset in
    let left : length (take n (drop offset xs)) ≡ min n (length xs - offset) = length-take n (drop offset xs) ∙ ap (min n) (length-drop offset xs) in
    let right : length (take n (drop offset ys)) ≡ min n (length ys - offset) = length-take n (drop offset ys) ∙ ap (min n) (length-drop offset ys) in
    same_lists (take n (drop offset xs)) (take n (drop offset ys)) (left ∙ ap (λ k. min n (k - offset)) size ∙ sym right)
    (λ k d less.
    let few : k < n = omega (arith, left, less) in
    let inside : offset + k < length xs = omega (arith, left, less) in
    get_or-take n (drop offset xs) k d few ∙ get_or-drop offset xs k d
    ∙ same_at xs ys (offset + k) d size (same (offset + k) (omega arith) (omega (arith, few))) inside
    ∙ sym (get_or-take n (drop offset ys) k d few ∙ get_or-drop offset ys k d))

-- the same bytes of two stores of one size, or of none
same_part : (o p : Option (List ℕ)) (offset width : ℕ) → option_map (λ (bytes : List ℕ). length bytes) o ≡ option_map (λ (bytes : List ℕ). length bytes) p
    → ((at : ℕ) → offset ≤ at → at < offset + width → option_and_then (λ (bytes : List ℕ). slice_get bytes at) o ≡ option_and_then (λ (bytes : List ℕ). slice_get bytes at) p)
    → option_map (λ (bytes : List ℕ). slice_range bytes offset (offset + width)) o ≡ option_map (λ (bytes : List ℕ). slice_range bytes offset (offset + width)) p
same_part None None offset width size same = refl
same_part None (Some ys) offset width size same = absurd cc
same_part (Some xs) None offset width size same = absurd cc
same_part (Some xs) (Some ys) offset width size same = ap Some (same_range xs ys offset width (same_Some (length xs) (length ys) size) same)

-- ---- answers

module _ (written : ℕ → ℕ → Bool) (old new : StoreMap) (write : IsWrite written old new) where
  same_size : (id : ℕ) → option_map (λ (bytes : List ℕ). length bytes) (stores.bytes_of new id) ≡ option_map (λ (bytes : List ℕ). length bytes) (stores.bytes_of old id)
  same_size id = sym (sizes new id) ∙ ap (λ (shape : Shape). size_of shape id) write.shape ∙ sizes old id

  same_field : (field : Field) → has_one written field.store field.offset field.width ≡ false
      → stores.bytes_of_field new field.store field.offset field.width ≡ stores.bytes_of_field old field.store field.offset field.width
  same_field field none = same_part (stores.bytes_of new field.store) (stores.bytes_of old field.store) field.offset field.width (same_size field.store)
      (λ at from before. write.others field.store at (none_has written field.store field.width field.offset at none from before))

  same_value : (n : Node) (o : Option Field) → has_byte written o ≡ false → value_of_field new n o ≡ value_of_field old n o
  same_value n None none = refl
  same_value n (Some field) none = ap (value_of_bytes (type_of n)) (same_field field none)

  same_answer_of : (ns : List Node) (q : Option Node) → has_byte written (option_and_then (field_of ns) q) ≡ false → answer_of ns new q ≡ answer_of ns old q
  same_answer_of ns None none = refl
  same_answer_of ns (Some n) none = same_value n (field_of ns n) none

  same_answer : (ns : List Node) (id : ℕ) → has_byte written (field_with ns id) ≡ false → answered (answers ns old) id ≡ answered (answers ns new) id
  same_answer ns id none = ap (λ (v : Value). cond (id == 0) undefined v) (sym (same_answer_of ns (question_with ns id) none))

  agree : (ns : List Node) (ids : List ℕ) → list_any (λ id. has_byte written (field_with ns id)) ids ≡ false → Agree (answers ns old) (answers ns new) ids
  agree ns [] none = tt
  agree ns (id ∷ ids) none =
      let here = has_byte written (field_with ns id) in
      let behind = list_any (λ (id : ℕ). has_byte written (field_with ns id)) ids in
      (same_answer ns id (first_false here behind none), agree ns ids (second_false here behind none))

pub untouched : LeavesUntouched
untouched ns written old new c write none =
    ap holds (sym (depends (rules_among ns) (answers ns old) (answers ns new) (this_of c) (expression_tree c) (agree written old new write ns (condition_ids ns c) none)))
