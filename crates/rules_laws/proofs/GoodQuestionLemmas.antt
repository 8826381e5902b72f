-- Questions have no fault exactly where each is good.
use Rattle.std.proofs.Common.{◌≡◌, ◌⊎◌, ℕ, suc, ◌+◌, ◌^◌, ◌<◌, ◌≤◌, Bool, true, false, not, Option, Some, None, List, [], ◌∷◌, map, refl, sym, ap, ◌∙◌, subst, inl, inr, arith}
use Rattle.std.specs.Prelude.{Contains, filter, ◌==◌, ◌&&◌, nat_lt, nat_le}
use Rattle.std.specs.List.{flat_map}
use Rattle.std.proofs.lemmas.Bool.{cases_Bool, false≢true, eqb-true, eq-eqb, leb-false, ltb-false, le-ltb, lt-leb, and_parts, not-false}
use Rattle.std.proofs.lemmas.List.Elements.{Contains-append_cases, Contains-append_left, Contains-append_right}
use Rattle.hii_bytes.specs.Faults.{HasNone}
use Rattle.hii_bytes.specs.declared.cause.Cause.{Cause}
use Rattle.hii_bytes.specs.declared.cause.Cause.TheVariants.{UnknownVarstore, FieldOutside, OptionRange, MixedOptions}
use Rattle.ifr_opcodes.specs.declared.codes.TheConstants.{ONE_OF, ORDERED_LIST}
use Rattle.ifr_opcodes.specs.Fields.{question_store, one_of_width, option_kind, option_value}
use Rattle.ifr_opcodes.specs.Forest.{Node}
use Rattle.ifr_opcodes.specs.Opcode.{number}
use Rattle.ifr_nodes.specs.Nodes.{is_store, is_question, options}
use Rattle.ifr_scopes.specs.Stores.{store_id}
use Rattle.hii_varstore.specs.Layout.{size_of}
use Rattle.hii_varstore.specs.StoreNodes.{layout_of}
use Rattle.hii_values.specs.Types.{first_kind}
use Rattle.hii_questions.specs.Faults.{is_known, lacks_store, is_past, is_field_outside, is_option_too_large, is_of_another_type, is_mixed, QuestionPart, itself, option, has_question_fault, parts_of, IsQuestionFault}
use Rattle.hii_questions.specs.Fields.{Field, Asked, asked, field_of, questions}
use Rattle.hii_questions.proofs.LawLemmas.{option_sound}
use Rattle.hii_questions.proofs.FieldLemmas.{passing}
use Rattle.rules_laws.specs.laws.Ids.{store_ids}
use Rattle.rules_laws.specs.laws.GoodQuestions.{IsGoodQuestion, AreGoodQuestions}
use Rattle.rules_laws.proofs.FoundLemmas.{nothing, first_or_later, any_passes, some_passes, given, gives}

-- ---- a good question has no fault

-- what flat maps have comes from an element
from_flat_map : {X Y : Type 0} (f : X → List Y) (xs : List X) (y : Y) → Contains (flat_map f xs) y → (x : X) × Contains xs x × Contains (f x) y
from_flat_map f [] y w = absurd (nothing y w)
from_flat_map f (x ∷ xs) y w = elim (Contains-append_cases (f x) (flat_map f xs) y w) [
  | inl here ↦ (x, (0, omega arith, refl), here)
  | inr later ↦ let its = from_flat_map f xs y later in (its.0, (let (k, lt, e) = its.1 in (suc k, omega (arith, lt), e)), its.2)
]

in_flat_map : {X Y : Type 0} (f : X → List Y) (xs : List X) (x : X) (y : Y) → Contains xs x → Contains (f x) y → Contains (flat_map f xs) y
in_flat_map f [] x y w there = absurd (nothing x w)
in_flat_map f (z ∷ xs) x y w there = elim (first_or_later z xs x w) [
  | inl own ↦ Contains-append_left (f z) (flat_map f xs) y (subst (λ v. Contains (f v) y) (sym own) there)
  | inr later ↦ Contains-append_right (f z) (flat_map f xs) y (in_flat_map f xs x y later there)
]

store_known : (ns : List Node) (q : Node) → IsGoodQuestion ns q → lacks_store (is_known ns) q ≡ true → ⊥
store_known ns q good bad =
    let parts = and_parts (not (question_store q.op == 0)) (not (is_known ns (question_store q.op))) bad in
    elim good.store [
      | inl none ↦ false≢true (ap not (sym (eq-eqb (question_store q.op) 0 none)) ∙ parts.0)
      | inr there ↦
          let from = given (λ (n : Node). store_id n.op) (filter is_store ns) (question_store q.op) there in
          let known = some_passes (λ s. store_id s.op == question_store q.op) (filter is_store ns) from.0 from.1 (eq-eqb (store_id from.0.op) (question_store q.op) from.2) in
          false≢true (ap not (sym known) ∙ parts.1)
    ]

field_inside : (ns : List Node) (q : Node) → IsGoodQuestion ns q → is_field_outside (layout_of ns) (field_of ns q) ≡ true → ⊥
field_inside ns q good = inside (field_of ns q) refl
  where
    within : (f : Field) → field_of ns q ≡ Some f → (size : Option ℕ) → size_of (layout_of ns) f.store ≡ size → is_past f size ≡ true → ⊥
    within f is None at bad = false≢true bad
    within f is (Some size) at bad = false≢true (sym (le-ltb size (f.offset + f.width) (good.field f size is at)) ∙ bad)

    inside : (field : Option Field) → field_of ns q ≡ field → is_field_outside (layout_of ns) field ≡ true → ⊥
    inside None is bad = false≢true bad
    inside (Some f) is bad = within f is (size_of (layout_of ns) f.store) refl bad

option_fits : (ns : List Node) (q o : Node) → IsGoodQuestion ns q → Contains (options q) o → is_option_too_large q o ≡ true → ⊥
option_fits ns q o good there bad =
    let parts = and_parts (number q.op == ONE_OF) (nat_le (256 ^ one_of_width q.op) (option_value o.op)) bad in
    false≢true (sym (lt-leb (256 ^ one_of_width q.op) (option_value o.op) (good.numbers o (eqb-true (number q.op) ONE_OF parts.0) there)) ∙ parts.1)

option_alike : (ns : List Node) (q o : Node) → IsGoodQuestion ns q → Contains (options q) o → is_mixed q o ≡ true → ⊥
option_alike ns q o good there bad =
    let parts = and_parts (number q.op == ORDERED_LIST) (is_of_another_type (first_kind (options q)) (option_kind o.op)) bad in
    alike (options q) (λ p w. good.one_type o p (eqb-true (number q.op) ORDERED_LIST parts.0) there w) parts.1
  where
    alike : (os : List Node) → ((p : Node) → Contains os p → option_kind o.op ≡ option_kind p.op) → is_of_another_type (first_kind os) (option_kind o.op) ≡ true → ⊥
    alike [] same bad = false≢true bad
    alike (p ∷ os) same bad = false≢true (ap not (sym (eq-eqb (option_kind o.op) (option_kind p.op) (same p (0, omega arith, refl)))) ∙ bad)

part_sound : (ns : List Node) (n : Node) → IsGoodQuestion ns n → (part : QuestionPart) → Contains (parts_of (asked ns n)) part → (cause : Cause) → has_question_fault (layout_of ns) (is_known ns) part cause ≡ true → ⊥
part_sound ns n good part there cause bad = elim (first_or_later (itself (asked ns n)) (map (option (asked ns n)) (options n)) part there) [
  | inl own ↦ of_question cause (subst (λ (p : QuestionPart). has_question_fault (layout_of ns) (is_known ns) p cause ≡ true) (sym own) bad)
  | inr later ↦
      let from = given (option (asked ns n)) (options n) part later in
      of_option from.0 from.1 cause (subst (λ (p : QuestionPart). has_question_fault (layout_of ns) (is_known ns) p cause ≡ true) (sym from.2) bad)
]
  where
    of_question : (cause : Cause) → has_question_fault (layout_of ns) (is_known ns) (itself (asked ns n)) cause ≡ true → ⊥
    of_question UnknownVarstore bad = store_known ns n good bad
    of_question FieldOutside bad = field_inside ns n good bad
    of_question _ bad = false≢true bad

    of_option : (o : Node) → Contains (options n) o → (cause : Cause) → has_question_fault (layout_of ns) (is_known ns) (option (asked ns n) o) cause ≡ true → ⊥
    of_option o w OptionRange bad = option_fits ns n o good w bad
    of_option o w MixedOptions bad = option_alike ns n o good w bad
    of_option o w _ bad = false≢true bad

pub questions_sound : (ns : List Node) → AreGoodQuestions ns → HasNone (IsQuestionFault ns)
questions_sound ns good cause place (part, there, at, bad) =
    let of = from_flat_map parts_of (questions ns) part there in
    let from = given (asked ns) (filter is_question ns) of.0 of.1 in
    part_sound ns from.0 (good from.0 from.1) part (subst (λ (q : Asked). Contains (parts_of q) part) (sym from.2) of.2) cause bad

-- ---- a question without a fault is good

none_of : (ns : List Node) (n : Node) (cause : Cause) → HasNone (IsQuestionFault ns) → Contains (filter is_question ns) n → has_question_fault (layout_of ns) (is_known ns) (itself (asked ns n)) cause ≡ false
none_of ns n cause none there = elim (cases_Bool (has_question_fault (layout_of ns) (is_known ns) (itself (asked ns n)) cause)) [
  | inl bad ↦ absurd (none cause n.place (itself (asked ns n), in_flat_map parts_of (questions ns) (asked ns n) (itself (asked ns n)) (gives (asked ns) (filter is_question ns) n there) (0, omega arith, refl), refl, bad))
  | inr good ↦ good
]

question_complete : (ns : List Node) → HasNone (IsQuestionFault ns) → (n : Node) → Contains (filter is_question ns) n → IsGoodQuestion ns n
question_complete ns none n there =
    let asks = passing is_question ns n there in
    record {
      store = known (none_of ns n UnknownVarstore none there);
      field = λ f size is at. inside f size is at (none_of ns n FieldOutside none there);
      numbers = λ o code w. fits o code (option_sound ns n o OptionRange none asks.0 asks.1 w);
      one_type = λ o p code w v. kind_of o code (option_sound ns n o MixedOptions none asks.0 asks.1 w) w ∙ sym (kind_of p code (option_sound ns n p MixedOptions none asks.0 asks.1 v) v);
    }
  where
    known : lacks_store (is_known ns) n ≡ false → (question_store n.op ≡ 0) ⊎ Contains (store_ids ns) (question_store n.op)
    known fine = elim (cases_Bool (question_store n.op == 0)) [
      | inl zero_id ↦ inl (eqb-true (question_store n.op) 0 zero_id)
      | inr some ↦ elim (cases_Bool (is_known ns (question_store n.op))) [
        | inl is ↦
            let from = any_passes (λ s. store_id s.op == question_store n.op) (filter is_store ns) is in
            inr (subst (Contains (store_ids ns)) (eqb-true (store_id from.0.op) (question_store n.op) from.2) (gives (λ (s : Node). store_id s.op) (filter is_store ns) from.0 from.1))
        | inr lost ↦ absurd (false≢true (sym fine ∙ rw (some, lost) refl))
      ]
    ]

    inside : (f : Field) (size : ℕ) → field_of ns n ≡ Some f → size_of (layout_of ns) f.store ≡ Some size → is_field_outside (layout_of ns) (field_of ns n) ≡ false → f.offset + f.width ≤ size
    inside f size is at fine =
        let past : nat_lt size (f.offset + f.width) ≡ false = sym (ap (is_field_outside (layout_of ns)) is ∙ ap (is_past f) at) ∙ fine in
        ltb-false size (f.offset + f.width) past

    fits : (o : Node) → number n.op ≡ ONE_OF → is_option_too_large n o ≡ false → option_value o.op < 256 ^ one_of_width n.op
    fits o code fine =
        let less : nat_le (256 ^ one_of_width n.op) (option_value o.op) ≡ false = sym (ap (λ (b : Bool). b && nat_le (256 ^ one_of_width n.op) (option_value o.op)) (eq-eqb (number n.op) ONE_OF code)) ∙ fine in
        leb-false (256 ^ one_of_width n.op) (option_value o.op) less

    first_of : List Node → ℕ
    first_of [] = 0
    first_of (p ∷ os) = option_kind p.op

    like_first : (os : List Node) (o : Node) → Contains os o → is_of_another_type (first_kind os) (option_kind o.op) ≡ false → option_kind o.op ≡ first_of os
    like_first [] o w same = absurd (nothing o w)
    like_first (p ∷ os) o w same = eqb-true (option_kind o.op) (option_kind p.op) (not-false (option_kind o.op == option_kind p.op) same)

    kind_of : (o : Node) → number n.op ≡ ORDERED_LIST → is_mixed n o ≡ false → Contains (options n) o → option_kind o.op ≡ first_of (options n)
    kind_of o code fine w =
        like_first (options n) o w (sym (ap (λ (b : Bool). b && is_of_another_type (first_kind (options n)) (option_kind o.op)) (eq-eqb (number n.op) ORDERED_LIST code)) ∙ fine)

pub questions_complete : (ns : List Node) → HasNone (IsQuestionFault ns) → AreGoodQuestions ns
questions_complete ns none = question_complete ns none
