-- Names in the order of their texts, and how they are searched by halves.
use Rattle.std.proofs.Common.{◌≡◌, ℕ, zero, suc, ◌+◌, ◌≤◌, ◌<◌, Bool, true, false, not, Option, Some, None, List, [], ◌∷◌, ◌++◌, length, get_or, drop, take, cond, refl, sym, ap, ◌∙◌, inl, inr, arith, is_lt}
use Rattle.std.specs.Prelude.{◌&&◌, option_map, filter, position}
use Rattle.std.specs.Cmp.{IsStrictWeakOrder, IsTotalOrder}
use Rattle.std.specs.Cmp.Lexicographic.{on_texts}
use Rattle.std.specs.List.{find, position_from}
use Rattle.std.specs.List.Sorted.{IsPartitionPoint, IsPartitionedBy, IsSortedByKey, IsStableByKey, ties}
use Rattle.std.specs.Option.{option_or}
use Rattle.std.specs.Ordering.{is_eq, is_gt, nat_cmp, ordering_reverse, ordering_then}
use Rattle.std.specs.declared.cmp.Ordering.{Ordering}
use Rattle.std.specs.declared.cmp.Ordering.TheVariants.{Less, Equal, Greater}
use Rattle.std.specs.Str.{str_eq_ignore_ascii_case, str_to_ascii_lowercase}
use Rattle.std.specs.Char.{to_ascii_lowercase}
use Rattle.std.proofs.lemmas.Bool.{cases_Bool, cases_lt, true≢false}
use Rattle.std.proofs.lemmas.Bool.Decides.{nat_tests}
use Rattle.std.proofs.lemmas.Cmp.{ranked}
use Rattle.std.proofs.lemmas.List.{get_or_default, length-take, length_push}
use Rattle.std.proofs.lemmas.List.Folds.{find-append}
use Rattle.std.proofs.lemmas.List.Sorted.{ranks_by, sorted_far}
use Rattle.std.proofs.lemmas.Map.Text.{is_eq-slice_cmp}
use Rattle.std.proofs.lemmas.Iterator.Adapters.{position_from-zero}
use Rattle.hii_bytes.proofs.SearchLemmas.{find_first, first_of}
use Rattle.hii_languages.specs.code.Names.{text_order, number_of}
use Rattle.hii_languages.specs.declared.names.Name.{Name}

-- ---- the order of texts

pub text_order-step : (xs ys : List ℕ) (i : ℕ) → i < length xs → i < length ys
    → text_order (drop i xs) (drop i ys)
    ≡ ordering_then (nat_cmp (to_ascii_lowercase (get_or xs i 0)) (to_ascii_lowercase (get_or ys i 0))) (text_order (drop (suc i) xs) (drop (suc i) ys))
text_order-step [] ys i a b = absurd (omega arith)
text_order-step (x ∷ xs) [] i a b = absurd (omega arith)
text_order-step (x ∷ xs) (y ∷ ys) zero a b = refl
text_order-step (x ∷ xs) (y ∷ ys) (suc i) a b = text_order-step xs ys i (omega arith) (omega arith)

nat_cmp-suc : (a b : ℕ) → nat_cmp (suc a) (suc b) ≡ nat_cmp a b
nat_cmp-suc a b = grind (arith, nat_tests)

pub text_order-end : (xs ys : List ℕ) (i : ℕ) → i ≤ length xs → i ≤ length ys → (i < length xs → i < length ys → ⊥)
    → text_order (drop i xs) (drop i ys) ≡ nat_cmp (length xs) (length ys)
text_order-end [] [] zero a b other = refl
text_order-end [] (y ∷ ys) zero a b other = grind (arith, nat_tests)
text_order-end (x ∷ xs) [] zero a b other = grind (arith, nat_tests)
text_order-end (x ∷ xs) (y ∷ ys) zero a b other = absurd (other (omega arith) (omega arith))
text_order-end [] ys (suc i) a b other = absurd (omega arith)
text_order-end (x ∷ xs) [] (suc i) a b other = absurd (omega arith)
text_order-end (x ∷ xs) (y ∷ ys) (suc i) a b other =
    text_order-end xs ys i (omega arith) (omega arith) (λ p q. other (omega arith) (omega arith)) ∙ sym (nat_cmp-suc (length xs) (length ys))

total : IsTotalOrder text_order
total = on_texts str_to_ascii_lowercase

strict : IsStrictWeakOrder (λ (x y : List ℕ). is_lt (text_order x y))
strict = ranks_by total (λ x. x)

pub by_text : {X : Type 0} (key : X → List ℕ) → IsStrictWeakOrder (λ x y. is_lt (text_order (key x) (key y)))
by_text key = ranks_by total key

-- texts are the same where none comes first
pub same_text : (x y : List ℕ) → is_eq (text_order x y) ≡ str_eq_ignore_ascii_case x y
same_text x y = is_eq-slice_cmp (str_to_ascii_lowercase x) (str_to_ascii_lowercase y)

less_differs : (o : Ordering) → is_lt o ≡ true → is_eq o ≡ false
less_differs Less h = refl
less_differs Equal h = absurd (true≢false (sym h))
less_differs Greater h = refl

pub differs : (x y : List ℕ) → is_lt (text_order x y) ≡ true → str_eq_ignore_ascii_case x y ≡ false
differs x y h = sym (same_text x y) ∙ less_differs (text_order x y) h

equal : (o : Ordering) → is_eq o ≡ true → o ≡ Equal
equal Less h = absurd (true≢false (sym h))
equal Equal h = refl
equal Greater h = absurd (true≢false (sym h))

greater : (o : Ordering) → is_lt o ≡ false → is_eq o ≡ false → ordering_reverse o ≡ Less
greater Less a b = absurd (true≢false a)
greater Equal a b = absurd (true≢false b)
greater Greater a b = refl

tied : (o r : Ordering) → o ≡ ordering_reverse r → (not (is_lt o) && not (is_lt r)) ≡ is_eq r
tied Less Less e = absurd (true≢false (ap is_lt e))
tied Less Equal e = absurd (true≢false (ap is_lt e))
tied Less Greater e = refl
tied Equal Less e = absurd (true≢false (ap is_eq e))
tied Equal Equal e = refl
tied Equal Greater e = absurd (true≢false (ap is_eq e))
tied Greater Less e = refl
tied Greater Equal e = absurd (true≢false (ap is_gt e))
tied Greater Greater e = absurd (true≢false (ap is_gt e))

-- ---- the first of a text, by halving

find_here : {X : Type 0} (p : X → Bool) (xs : List X) (i : ℕ) (d : X) → i < length xs → ((j : ℕ) → j < i → p (get_or xs j d) ≡ false) → p (get_or xs i d) ≡ true → find p xs ≡ Some (get_or xs i d)
find_here p [] i d lt before here = absurd (omega arith)
find_here p (x ∷ xs) zero d lt before here = rw here refl
find_here p (x ∷ xs) (suc i) d lt before here = rw (before 0 (omega arith)) (find_here p xs i d (omega arith) (λ j below. before (suc j) (omega arith)) here)

find_none : {X : Type 0} (p : X → Bool) (xs : List X) → ((i : ℕ) (d : X) → i < length xs → p (get_or xs i d) ≡ false) → find p xs ≡ None
find_none p [] none = refl
find_none p (x ∷ xs) none = rw (none 0 x (omega arith)) (find_none p xs (λ i d lt. none (suc i) d (omega arith)))

module _ {X : Type 0} (key : X → List ℕ) (k : List ℕ) where
  pub parted : (xs : List X) → IsSortedByKey key text_order xs → IsPartitionedBy (λ x. is_lt (text_order (key x) k)) xs
  parted xs sorted i j d le lt h =
      let far : is_lt (text_order (key (get_or xs j d)) (key (get_or xs i d))) ≡ false = sorted_far (λ x y. is_lt (text_order (key x) (key y))) (by_text key) xs sorted i j d le lt in
      elim (cases_Bool (is_lt (text_order (key (get_or xs i d)) k))) [
        | inl less ↦ less
        | inr other ↦ absurd (true≢false (sym h ∙ strict.chain (key (get_or xs j d)) (key (get_or xs i d)) k far other))
      ]

  pub first_there : (xs : List X) (first : ℕ) (d : X) → IsPartitionPoint (λ x. is_lt (text_order (key x) k) ≡ true) (λ x. is_lt (text_order (key x) k) ≡ false) xs first
      → first < length xs → str_eq_ignore_ascii_case (key (get_or xs first d)) k ≡ true
      → find (λ x. str_eq_ignore_ascii_case (key x) k) xs ≡ Some (get_or xs first d)
  first_there xs first d split lt same =
      find_here (λ x. str_eq_ignore_ascii_case (key x) k) xs first d lt (λ j below. differs (key (get_or xs j d)) k (split.0 j d (omega arith) below)) same

  -- what follows a text that comes behind is not the same
  behind : (x y : List ℕ) → is_lt (text_order y x) ≡ false → is_lt (text_order x k) ≡ false → str_eq_ignore_ascii_case x k ≡ false → str_eq_ignore_ascii_case y k ≡ false
  behind x y far from other = elim (cases_Bool (is_eq (text_order y k))) [
    | inr apart ↦ sym (same_text y k) ∙ apart
    | inl is ↦
        let less : text_order y x ≡ Less = total.congr y k x (equal (text_order y k) is) ∙ total.antisymm k x ∙ greater (text_order x k) from (same_text x k ∙ other) in
        absurd (true≢false (sym (ap is_lt less) ∙ far))
  ]

  pub first_past : (xs : List X) (first : ℕ) → IsPartitionPoint (λ x. is_lt (text_order (key x) k) ≡ true) (λ x. is_lt (text_order (key x) k) ≡ false) xs first
      → IsSortedByKey key text_order xs → (d : X) → (first < length xs → str_eq_ignore_ascii_case (key (get_or xs first d)) k ≡ false)
      → find (λ x. str_eq_ignore_ascii_case (key x) k) xs ≡ None
  first_past xs first split sorted d other = find_none (λ x. str_eq_ignore_ascii_case (key x) k) xs (λ i e lt. elim (cases_lt i first) [
    | inl below ↦ differs (key (get_or xs i e)) k (split.0 i e (omega arith) below)
    | inr from ↦
        let same : get_or xs first d ≡ get_or xs first e = get_or_default xs first d e (omega arith) in
        behind (key (get_or xs first e)) (key (get_or xs i e))
        (sorted_far (λ x y. is_lt (text_order (key x) (key y))) (by_text key) xs sorted first i e from lt)
        (split.1 first e (omega arith) (omega arith))
        (ap (λ x. str_eq_ignore_ascii_case (key x) k) (sym same) ∙ other (omega arith))
  ])

-- ---- names

-- a stable sort keeps the number of each text
pub same_numbers : (all sorted : List Name) → IsStableByKey (λ (n : Name). n.text.now) text_order all sorted → (text : List ℕ) → number_of sorted text ≡ number_of all text
same_numbers all sorted stable text =
    let like : Name = record { text = record { ref_ptr = (0, 0); now = text }; number = 0 } in
    let p : Name → Bool = λ n. str_eq_ignore_ascii_case n.text.now text in
    let same : ties (λ (x y : Name). is_lt (text_order x.text.now y.text.now)) like ≡ p
    = λ i n. (tied (text_order text n.text.now) (text_order n.text.now text) (total.antisymm text n.text.now) ∙ same_text n.text.now text) i in
    let kept : filter p sorted ≡ filter p all = ap (λ q. filter q sorted) (sym same) ∙ stable like ∙ ap (λ q. filter q all) same in
    ap (option_map (λ (n : Name). n.number)) (find_first p sorted ∙ ap first_of kept ∙ sym (find_first p all))

position_from-push : {X : Type 0} (p : X → Bool) (n : ℕ) (xs : List X) (x : X) → position_from p n (xs ++ x ∷ []) ≡ option_or (position_from p n xs) (cond (p x) (Some (n + length xs)) None)
position_from-push p n [] x = let e : n ≡ n + 0 = omega arith in ap (λ m. cond (p x) (Some m) None) e
position_from-push p n (y ∷ xs) x =
    let e : n + 1 + length xs ≡ n + length (y ∷ xs) = omega arith in
    elim (cases_Bool (p y)) [
      | inl is ↦ rw is refl
      | inr other ↦ rw other (position_from-push p (n + 1) xs x ∙ ap (λ m. option_or (position_from p (n + 1) xs) (cond (p x) (Some m) None)) e)
    ]

pub position_push : {X : Type 0} (p : X → Bool) (xs : List X) (x : X) → position p (xs ++ x ∷ []) ≡ option_or (position p xs) (cond (p x) (Some (length xs)) None)
position_push p xs x =
    let e : 0 + length xs ≡ length xs = omega arith in
    position_from-zero p (xs ++ x ∷ []) ∙ position_from-push p 0 xs x ∙ ap (λ n. option_or (position_from p 0 xs) (cond (p x) (Some n) None)) e
    ∙ ap (λ o. option_or o (cond (p x) (Some (length xs)) None)) (sym (position_from-zero p xs))

option_map-or : {X Y : Type 0} (f : X → Y) (o r : Option X) → option_map f (option_or o r) ≡ option_or (option_map f o) (option_map f r)
option_map-or f None r = refl
option_map-or f (Some x) r = refl

number_alone : (q : Name → Bool) (name : Name) → option_map (λ (n : Name). n.number) (find q (name ∷ [])) ≡ cond (q name) (Some name.number) None
number_alone q name = elim (cases_Bool (q name)) [ inl is ↦ rw is refl | inr other ↦ rw other refl ]

-- one more name, behind those of the string packages before
pub named_push : {X : Type 0} (f : X → List ℕ) (xs : List X) (x : X) (names : List Name) (name : Name) (text : List ℕ)
    → number_of names text ≡ position (λ y. str_eq_ignore_ascii_case (f y) text) xs → name.text.now ≡ f x → name.number ≡ length xs
    → number_of (names ++ name ∷ []) text ≡ position (λ y. str_eq_ignore_ascii_case (f y) text) (xs ++ x ∷ [])
named_push f xs x names name text before is at =
    let q : Name → Bool = λ n. str_eq_ignore_ascii_case n.text.now text in
    let last : option_map (λ (n : Name). n.number) (find q (name ∷ [])) ≡ cond (str_eq_ignore_ascii_case (f x) text) (Some (length xs)) None
    = number_alone q name ∙ (λ i. cond (str_eq_ignore_ascii_case (is i) text) (Some (at i)) None) in
    ap (option_map (λ (n : Name). n.number)) (find-append q names (name ∷ [])) ∙ option_map-or (λ (n : Name). n.number) (find q names) (find q (name ∷ []))
    ∙ (λ i. option_or (before i) (last i)) ∙ sym (position_push (λ y. str_eq_ignore_ascii_case (f y) text) xs x)

-- ---- the loops

not_equal : (o r : Ordering) → (o ≡ Equal → ⊥) → ordering_then o r ≡ o
not_equal Less r h = refl
not_equal Equal r h = absurd (h refl)
not_equal Greater r h = refl

pub decided : (xs ys : List ℕ) (i a b : ℕ) → i < length xs → i < length ys → a ≡ to_ascii_lowercase (get_or xs i 0) → b ≡ to_ascii_lowercase (get_or ys i 0) → (a ≡ b → ⊥)
    → text_order (drop i xs) (drop i ys) ≡ nat_cmp a b
decided xs ys i a b p q e f apart =
    text_order-step xs ys i p q ∙ (λ j. ordering_then (nat_cmp (sym e j) (sym f j)) (text_order (drop (suc i) xs) (drop (suc i) ys)))
    ∙ not_equal (nat_cmp a b) (text_order (drop (suc i) xs) (drop (suc i) ys)) (λ same. apart (ranked a b Equal (sym same)))

pub passed : (xs ys : List ℕ) (i a b : ℕ) → i < length xs → i < length ys → a ≡ to_ascii_lowercase (get_or xs i 0) → b ≡ to_ascii_lowercase (get_or ys i 0) → a ≡ b
    → text_order (drop i xs) (drop i ys) ≡ text_order (drop (i + 1) xs) (drop (i + 1) ys)
passed xs ys i a b p q e f same =
    let equal : nat_cmp a b ≡ Equal = grind (arith, nat_tests) in
    let next : suc i ≡ i + 1 = omega arith in
    text_order-step xs ys i p q ∙ (λ j. ordering_then (nat_cmp (sym e j) (sym f j)) (text_order (drop (suc i) xs) (drop (suc i) ys)))
    ∙ ap (λ o. ordering_then o (text_order (drop (suc i) xs) (drop (suc i) ys))) equal ∙ ap (λ n. text_order (drop n xs) (drop n ys)) next

taken : {X : Type 0} (all : List X) (i : ℕ) (x : X) → i < length all → x ≡ get_or all i x → take i all ++ x ∷ [] ≡ take (i + 1) all
taken [] i x lt is = absurd (omega arith)
taken (y ∷ all) zero x lt is = ap (λ z. z ∷ []) is
taken (y ∷ all) (suc i) x lt is = let next : suc (i + 1) ≡ suc i + 1 = omega arith in ap (λ l. y ∷ l) (taken all i x (omega arith) is) ∙ ap (λ n. take n (y ∷ all)) next

-- one more string package has a name
pub named_more : {X : Type 0} (f : X → List ℕ) (all : List X) (i : ℕ) (x : X) (names more : List Name) (name : Name) → i < length all → x ≡ get_or all i x
    → more ≡ names ++ name ∷ [] → name.text.now ≡ f x → name.number ≡ i → length names ≡ i
    → ((text : List ℕ) → number_of names text ≡ position (λ y. str_eq_ignore_ascii_case (f y) text) (take i all))
    → (length more ≡ i + 1) × ((text : List ℕ) → number_of more text ≡ position (λ y. str_eq_ignore_ascii_case (f y) text) (take (i + 1) all))
named_more f all i x names more name lt at pushed is number so_far before =
    let one_more = length_push names name in
    let long : length (take i all) ≡ i = let e = length-take i all in omega (arith, e, lt) in (
      ap length pushed ∙ omega (arith, one_more, so_far),
      λ text. ap (λ l. number_of l text) pushed
          ∙ named_push f (take i all) x names name text (before text) is (number ∙ sym long)
          ∙ ap (position (λ y. str_eq_ignore_ascii_case (f y) text)) (taken all i x lt at),
    )
