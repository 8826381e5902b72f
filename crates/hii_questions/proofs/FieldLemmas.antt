-- The questions of a package by their fields, and its passwords.
use Rattle.std.proofs.Common.{◌≡◌, ℕ, zero, suc, ◌+◌, ◌<◌, get_or, Bool, true, false, eqb, ◌==◌, ◌&&◌, Option, Some, None, List, [], ◌∷◌, length, map, refl, sym, ap, subst, ◌∙◌, arith, inl, inr, filter, find, is_eq, is_le, is_lt, option_map, Contains}
use Rattle.std.specs.Cmp.{IsTotalOrder, Some-then, nat_cmp_total, on_total, then_total}
use Rattle.std.specs.Cmp.Lexicographic.{options_total}
use Rattle.std.specs.List.Sorted.{IsPermutation, IsStableByKey}
use Rattle.std.specs.List.{AllAdjacentBelow}
use Rattle.std.specs.Option.{option_cmp, option_partial_cmp}
use Rattle.std.specs.declared.cmp.Ordering.{Ordering}
use Rattle.std.specs.declared.cmp.Ordering.TheVariants.{Less, Equal, Greater}
use Rattle.std.specs.Ordering.{is_some_and, nat_cmp, ordering_reverse, ordering_then, partial_le, partial_ordering_then}
use Rattle.std.proofs.lemmas.Bool.{and_parts, cases_Bool, eqb-true}
use Rattle.std.proofs.lemmas.List.{get_or-map, length-map}
use Rattle.std.proofs.lemmas.List.Elements.{All-filter}
use Rattle.std.proofs.lemmas.List.Sorted.{All-permutation, IsPermutation-refl}
use Rattle.ifr_nodes.specs.Nodes.{nodes_of}
use Rattle.ifr_nodes.specs.code.Checked.{node_in}
use Rattle.ifr_nodes.proofs.ViewLemmas.{further}
use Rattle.hii_varstore.proofs.TableLemmas.{is_eq-nat_cmp}
use Rattle.hii_values.specs.Types.{is_password}
use Rattle.hii_questions.specs.Fields.{Field, questions, field_passes, is_same_field, has_field, is_password_in}
use Rattle.hii_questions.specs.code.ByField.{AreAllNumbers, AreByField, AreNumbers, FieldsRise, entries_at, entry_at, has_range, has_range_at, no_entry, numbered_field, range_cmp}
use Rattle.hii_questions.specs.code.Entries.{AreQuestionEntries, IsQuestionEntry, entry_field, entry_range, entry_view}
use Rattle.hii_questions.specs.code.Ranges.{range_in}
use Rattle.hii_questions.specs.code.Tables.{AreQuestions}
use Rattle.hii_bytes.specs.declared.id_table.IdEntry.{IdEntry}
use Rattle.hii_questions.specs.declared.entry.FieldEntry.{FieldEntry}
use Rattle.hii_questions.specs.declared.entry.QuestionEntry.{QuestionEntry}
use Rattle.hii_questions.specs.declared.field_range.FieldRange.{FieldRange}
use Rattle.hii_questions.specs.declared.merging.Step.{Step}
use Rattle.hii_questions.specs.laws.Fields.{HaveTheField}
use Rattle.hii_questions.proofs.EntryLemmas.{found_holds}
use Rattle.hii_values.proofs.OrderLemmas.{filter_mapped, kept_at}
use Rattle.hii_questions.proofs.QuestionLemmas.{found_among, found_mapped}
use Rattle.hii_questions.proofs.StepLemmas.{meets_in}

pub range_total : IsTotalOrder (option_cmp range_cmp)
range_total = options_total (then_total (on_total (λ (f : FieldRange). f.store) nat_cmp_total) (then_total (on_total (λ (f : FieldRange). f.offset) nat_cmp_total) (on_total (λ (f : FieldRange). f.width) nat_cmp_total)))

eq_then : (r s : Ordering) → is_eq (ordering_then r s) ≡ (is_eq r && is_eq s)
eq_then Less s = refl
eq_then Equal s = refl
eq_then Greater s = refl

and_assoc : (a b c : Bool) → (a && (b && c)) ≡ (a && b && c)
and_assoc true b c = refl
and_assoc false b c = refl

same_tells : (g f : FieldRange) → is_eq (range_cmp g f) ≡ is_same_field (range_in f) (range_in g)
same_tells g f =
    let a = nat_cmp g.store f.store in
    let b = nat_cmp g.offset f.offset in
    let d = nat_cmp g.width f.width in
    eq_then a (ordering_then b d) ∙ ap (λ t. is_eq a && t) (eq_then b d) ∙ and_assoc (is_eq a) (is_eq b) (is_eq d) ∙ ap (λ t. t && is_eq b && is_eq d) (is_eq-nat_cmp g.store f.store)
    ∙ ap (λ t. eqb g.store f.store && t && is_eq d) (is_eq-nat_cmp g.offset f.offset) ∙ ap (λ t. eqb g.store f.store && eqb g.offset f.offset && t) (is_eq-nat_cmp g.width f.width)

tells : (o : Option FieldRange) (f : FieldRange) → is_eq (option_cmp range_cmp o (Some f)) ≡ field_passes (is_same_field (range_in f)) (option_map range_in o)
tells None f = refl
tells (Some g) f = same_tells g f

-- The comparison with a field ties for the questions that have it.
pub ties_are : (f : FieldRange) → ◌≡◌ {A = QuestionEntry → Bool} (λ e. is_eq (option_cmp range_cmp (entry_field e) (Some f))) (has_range f)
ties_are f = λ i e. tells (entry_field e) f i

-- and so it does for the numbers of these
pub ties_at : (es : List QuestionEntry) (f : FieldRange) → ◌≡◌ {A = ℕ → Bool} (λ n. is_eq (option_cmp range_cmp (numbered_field es n) (Some f))) (has_range_at es f)
ties_at es f = λ i n. ties_are f i (entry_at es n)

-- A stable sort of all numbers by the fields of their questions puts them into the order of these.
pub sorted_numbers : (es : List QuestionEntry) (ms ns : List ℕ) → AreAllNumbers es ms → IsPermutation ms ns → FieldsRise es ns → IsStableByKey (numbered_field es) (option_cmp range_cmp) ms ns → AreByField es ns
sorted_numbers es ms ns are shuffled rise stable =
    let same : (f : FieldRange) → filter (has_range_at es f) ns ≡ filter (has_range_at es f) ms = λ f.
    ap (λ p. filter p ns) (sym (ties_at es f)) ∙ kept_at range_total (numbered_field es) (Some f) ms ns shuffled stable ∙ ap (λ p. filter p ms) (ties_at es f) in
    record {
      within = All-permutation (λ n. n < length es) ms ns shuffled are.within;
      rise = rise;
      kept = λ f. ap (entries_at es) (same f) ∙ sym (filter_mapped (entry_at es) (has_range f) ms) ∙ ap (filter (has_range f)) are.all;
    }

-- ---- fields that rise as they stand

-- where a field stands to another, as it is kept
abbrev entry_cmp : FieldEntry → FieldEntry → Option Ordering
entry_cmp f g =
    partial_ordering_then (Some (nat_cmp f.store g.store))
    (partial_ordering_then (Some (nat_cmp f.offset g.offset)) (Some (nat_cmp f.width g.width)))

cmp_is : (f g : FieldEntry) → entry_cmp f g ≡ Some (range_cmp (entry_range f) (entry_range g))
cmp_is f g =
    ap (partial_ordering_then (Some (nat_cmp f.store g.store))) (Some-then (nat_cmp f.offset g.offset) (nat_cmp f.width g.width))
    ∙ Some-then (nat_cmp f.store g.store) (ordering_then (nat_cmp f.offset g.offset) (nat_cmp f.width g.width))

not_less : (r s : Ordering) → r ≡ ordering_reverse s → true ≡ is_le r → is_lt s ≡ false
not_less r Less e h = absurd (let up = h ∙ ap is_le e in (cc))
not_less r Equal e h = refl
not_less r Greater e h = refl

up_or_same : (o p : Option FieldEntry) → true ≡ partial_le (option_partial_cmp entry_cmp) o p → is_lt (option_cmp range_cmp (option_map entry_range p) (option_map entry_range o)) ≡ false
up_or_same None None h = refl
up_or_same None (Some g) h = refl
up_or_same (Some f) None h = absurd (cc)
up_or_same (Some f) (Some g) h =
    let a = entry_range f in
    let b = entry_range g in
    not_less (range_cmp a b) (range_cmp b a) (range_total.antisymm (Some a) (Some b)) (h ∙ ap (is_some_and is_le) (cmp_is f g))

-- Where no field stands before that of the question before, the numbers of the questions are in the order of fields as they stand.
pub numbers_in_order : (es : List QuestionEntry) (ns : List ℕ) → AreAllNumbers es ns
    → AllAdjacentBelow (λ (e f : QuestionEntry). true ≡ partial_le (option_partial_cmp entry_cmp) e.field f.field) es (length es) → AreByField es ns
numbers_in_order es ns are up =
    let many : length ns ≡ length es = sym (length-map ns (entry_at es)) ∙ ap length are.all in
    let at : (k d : ℕ) → k < length ns → entry_at es (get_or ns k d) ≡ get_or es k no_entry = λ k d lt. sym (get_or-map (entry_at es) ns k d no_entry lt) ∙ ap (λ (l : List QuestionEntry). get_or l k no_entry) are.all in
    let rise : FieldsRise es ns =
    λ k d low high. rw (at (k + 1) d high, at k d (omega (arith, high))) (up_or_same (get_or es k no_entry).field (get_or es (k + 1) no_entry).field (up k no_entry (omega (arith, high, many)))) in
    sorted_numbers es ns ns are (IsPermutation-refl ns) rise (λ n. refl)

module _ (ifr : List ℕ) (es : List QuestionEntry) (ids : List IdEntry) (fs : List ℕ) (ps : List QuestionEntry) (ss : List Step) (are : AreQuestions ifr es ids fs ps ss) (f : FieldRange) where
  pub fields_are : map (entry_view ifr) (entries_at es (filter (has_range_at es f) fs)) ≡ filter (has_field (range_in f)) (questions (nodes_of ifr))
  fields_are = ap (map (entry_view ifr)) (are.ordered.kept f) ∙ sym (filter_mapped (entry_view ifr) (has_field (range_in f)) es) ∙ ap (filter (has_field (range_in f))) are.placed

  pub fields_within : AreNumbers es (filter (has_range_at es f) fs)
  fields_within = All-filter (has_range_at es f) (λ n. n < length es) fs are.ordered.within

  pub first_password : option_map (entry_view ifr) (find (λ e. meets_in f (entry_field e)) ps) ≡ find (is_password_in (range_in f)) (questions (nodes_of ifr))
  first_password =
      ap (λ l. option_map (entry_view ifr) (find (λ e. meets_in f (entry_field e)) l)) are.secret
      ∙ ap (option_map (entry_view ifr)) (found_among (λ e. is_password (node_in ifr e.place)) (λ e. meets_in f (entry_field e)) es) ∙ sym (found_mapped (entry_view ifr) (is_password_in (range_in f)) es)
      ∙ ap (find (is_password_in (range_in f))) are.placed

  pub password_kept : (e : QuestionEntry) → find (λ e. meets_in f (entry_field e)) ps ≡ Some e → IsQuestionEntry ifr e
  password_kept e found =
      let all : AreQuestionEntries ifr ps = subst (AreQuestionEntries ifr) (sym are.secret) (All-filter (λ e. is_password (node_in ifr e.place)) (λ e. IsQuestionEntry ifr e) es are.kept) in
      found_holds (λ e. IsQuestionEntry ifr e) (λ e. meets_in f (entry_field e)) ps e all found

-- ---- the questions with a field have it

-- what stands in a list is its first, or behind that
first_or_later : {X : Type 0} (p : X → Bool) (y : X) (us ys : List X) (x : X) → p y ≡ true → (Contains us x → Contains ys x × (p x ≡ true)) → Contains (y ∷ us) x → Contains (y ∷ ys) x × (p x ≡ true)
first_or_later p y us ys x here later (zero, lt, e) = ((0, omega arith, e), ap p (sym e) ∙ here)
first_or_later p y us ys x here later (suc k, lt, e) = let found = later (k, omega arith, e) in (further y ys x found.0, found.1)

-- what passes a test is among all
pub passing : {X : Type 0} (p : X → Bool) (xs : List X) (x : X) → Contains (filter p xs) x → Contains xs x × (p x ≡ true)
passing p [] x (k, lt, e) = absurd (omega arith)
passing p (y ∷ xs) x there = elim (cases_Bool (p y)) [
  | inl here ↦ first_or_later p y (filter p xs) xs x here (passing p xs x) (rw here at there)
  | inr other ↦ let later = passing p xs x (rw other at there) in (further y xs x later.0, later.1)
]

same_field : (f : Field) (o : Option Field) → field_passes (is_same_field f) o ≡ true → o ≡ Some f
same_field f None h = absurd (cc)
same_field f (Some g) h =
    let both = and_parts (g.store == f.store && g.offset == f.offset) (g.width == f.width) h in
    let first = and_parts (g.store == f.store) (g.offset == f.offset) both.0 in
    let store = eqb-true g.store f.store first.0 in
    let offset = eqb-true g.offset f.offset first.1 in
    let width = eqb-true g.width f.width both.1 in
    λ i. Some record { store = store i; offset = offset i; width = width i }

pub have_the_field : HaveTheField
have_the_field qs f q there = let found = passing (has_field f) qs q there in (found.0, same_field f q.field found.1)
