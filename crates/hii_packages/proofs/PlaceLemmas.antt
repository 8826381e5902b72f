-- The faults of a list that the chapter lists are those that are said by their places.
use Rattle.std.proofs.Common.{◌≡◌, ◌≢◌, ◌⊎◌, ◌↔◌, ℕ, zero, suc, ◌+◌, ◌-◌, ◌<◌, ◌≤◌, true, false, List, [], ◌∷◌, length, take, drop, refl, ap, sym, ◌∙◌, subst, inl, inr, arith, add-zero}
use Rattle.std.proofs.lemmas.List.{take-append-drop, drop-drop, length-drop, length-take-le, get_or-drop, get_or-take}
use Rattle.std.proofs.lemmas.Bool.{cases_Bool, cases_lt, cases_eq, true≢false}
use Rattle.browser_rules.specs.Faults.{Fault, faults_of_packages, list_faults}
use Rattle.browser_rules.specs.Packages.{END_PACKAGE, is_bad, list_length, package_length, package_type}
use Rattle.browser_rules.specs.Words.{number_in}
use Rattle.hii_bytes.specs.Causes.{fault_for}
use Rattle.hii_bytes.specs.Faults.{AreFaults, HasNone, IsLeast, IsLeastAmong}
use Rattle.hii_bytes.specs.declared.cause.Cause.{Cause}
use Rattle.hii_bytes.specs.declared.cause.Cause.TheVariants.{ListShort, ListLength, PackageLength, NoEnd, AfterEnd}
use Rattle.hii_bytes.specs.declared.cause.Fault.{Fault as CodeFault}
use Rattle.hii_bytes.proofs.ChapterFaultLemmas.{where_same, one_fault, no_faults, same_least}
use Rattle.hii_bytes.proofs.NumberLemmas.{number_in-append, number_in-drop}
use Rattle.hii_packages.specs.laws.Faults.{HasHeader, size_at, kind_at, IsWholePackage, IsAfter, Begins, IsBadLength, IsListFault}
use Rattle.hii_packages.proofs.FrontLemmas.{good_header, good_end, bad_cut, bad_low, bad_high, bad_end, is_good, at_no_bytes, at_bad, at_end, at_last, at_whole}
use Rattle.hii_packages.proofs.ListLemmas.{short_faults, length_faults, behind_header, header_cases}

-- ---- where packages begin

-- as many packages end at one place
after_same : (list : List ℕ) (n p q : ℕ) → IsAfter list n p → IsAfter list n q → p ≡ q
after_same list zero p q hp hq = hp ∙ sym hq
after_same list (suc n) p q (b, hb, _, eb) (c, hc, _, ec) =
    let same = after_same list n b c hb hc in
    eb ∙ ap (λ x. x + size_at list x) same ∙ sym ec

-- where more packages follow, a whole one stands before them
after_less : (list : List ℕ) (m n p q : ℕ) → m < n → IsAfter list m p → IsAfter list n q → IsWholePackage list p × (p + size_at list p ≤ q)
after_less list m zero p q lt hp hq = absurd (omega arith)
after_less list m (suc n) p q lt hp (b, hb, whole, e) =
    elim (cases_lt m n) [
      | inl below ↦ (let r = after_less list m n p b below hp hb in (r.0, omega (arith, r.1, e)))
      | inr above ↦ (
          let count : m ≡ n = omega arith in
          let same : p ≡ b = after_same list n p b (subst (λ k. IsAfter list k p) count hp) hb in
          (subst (IsWholePackage list) (sym same) whole, omega (arith, same, e, ap (size_at list) same)))
    ]

-- of two places where packages begin the first has a whole package up to the second
begins_less : (list : List ℕ) (p q : ℕ) → Begins list p → Begins list q → p < q → IsWholePackage list p × (p + size_at list p ≤ q)
begins_less list p q (m, hp) (n, hq) lt =
    elim (cases_lt m n) [
      | inl below ↦ after_less list m n p q below hp hq
      | inr above ↦ elim (cases_lt n m) [
        | inl more ↦ absurd (omega (arith, (after_less list n m q p more hq hp).1))
        | inr same ↦ absurd (omega (arith, after_same list n p q (subst (λ k. IsAfter list k p) (omega arith) hp) hq))
      ]
    ]

-- behind a whole package the next begins
begins_next : (list : List ℕ) (place size : ℕ) → Begins list place → size ≡ size_at list place → 4 ≤ size → place + size ≤ list_length list → kind_at list place ≢ END_PACKAGE → Begins list (place + size)
begins_next list place size b told header inside kind =
    let whole : IsWholePackage list place = record { header = omega arith; inside = omega arith; kind = kind } in
    (suc b.0, (place, b.1, whole, ap (λ k. place + k) told))

-- ---- a package of a bad length

-- what is left of a list from a place on
abbrev from : List ℕ → ℕ → List ℕ
from list place = drop place (take (list_length list) list)

left_from : (list : List ℕ) (place : ℕ) → list_length list ≤ length list → length (from list place) ≡ list_length list - place
left_from list place high = length-drop place (take (list_length list) list) ∙ ap (λ n. n - place) (length-take-le (list_length list) list high)

size_from : (list : List ℕ) (place : ℕ) → list_length list ≤ length list → place + 4 ≤ list_length list → package_length (from list place) ≡ size_at list place
size_from list place high whole =
    let n = list_length list in
    number_in-drop (take n list) place 0 3
    ∙ ap (λ x. number_in (take n list) x 3) (add-zero place)
    ∙ sym (number_in-append (take n list) (drop n list) place 3 (omega (arith, length-take-le n list high)))
    ∙ ap (λ b. number_in b place 3) (take-append-drop n list)

kind_from : (list : List ℕ) (place : ℕ) → place + 4 ≤ list_length list → package_type (from list place) ≡ kind_at list place
kind_from list place whole =
    get_or-drop place (take (list_length list) list) 3 0 ∙ get_or-take (list_length list) list (place + 3) 0 (omega arith)

bad_is : (list : List ℕ) (place : ℕ) → list_length list ≤ length list → is_bad (from list place) ≡ true → IsBadLength list place
bad_is list place high bad =
    elim (cases_lt (list_length list) (place + 4)) [
      | inl cut ↦ inl cut
      | inr whole ↦ elim (cases_lt (size_at list place) 4) [
        | inl low ↦ inr (inl low)
        | inr header ↦ elim (cases_lt (list_length list) (place + size_at list place)) [
          | inl long ↦ inr (inr (inl long))
          | inr inside ↦ elim (cases_eq (kind_at list place) END_PACKAGE) [
            | inl end ↦ elim (cases_eq (size_at list place) 4) [
              | inl four ↦ absurd (true≢false (sym bad ∙ good_end (from list place) (left whole) (size whole ∙ four)))
              | inr other ↦ inr (inr (inr (end, other)))
            ]
            | inr other ↦ absurd (true≢false (sym bad ∙ good_header (from list place) (omega (arith, size whole)) (omega (arith, size whole, left_from list place high)) (λ e. other (sym (kind_from list place whole) ∙ e))))
          ]
        ]
      ]
    ]
  where
    size : place + 4 ≤ list_length list → package_length (from list place) ≡ size_at list place
    size whole = size_from list place high whole

    left : place + 4 ≤ list_length list → 4 ≤ length (from list place)
    left whole = omega (arith, left_from list place high)

is_bad_where : (list : List ℕ) (place : ℕ) → list_length list ≤ length list → IsBadLength list place → is_bad (from list place) ≡ true
is_bad_where list place high bad =
    elim (cases_lt (list_length list) (place + 4)) [
      | inl cut ↦ bad_cut (from list place) (omega (arith, left_from list place high))
      | inr whole ↦ by whole bad
    ]
  where
    by : place + 4 ≤ list_length list → IsBadLength list place → is_bad (from list place) ≡ true
    by whole (inl cut) = absurd (omega arith)
    by whole (inr (inl low)) = bad_low (from list place) (omega (arith, size_from list place high whole))
    by whole (inr (inr (inl long))) = bad_high (from list place) (omega (arith, size_from list place high whole, left_from list place high))
    by whole (inr (inr (inr end))) = bad_end (from list place) (kind_from list place whole ∙ end.0) (λ e. end.1 (sym (size_from list place high whole) ∙ e))

pub bad_exactly : (list : List ℕ) (place : ℕ) → list_length list ≤ length list → ((is_bad (from list place) ≡ true) ↔ IsBadLength list place)
bad_exactly list place high = (bad_is list place high, is_bad_where list place high)

-- ---- the faults behind the header

-- where the whole packages from a place on stop, and which fault there is
record Stop (list : List ℕ) (faults : List Fault) : Type 0 where
  stop : ℕ
  begins : Begins list stop
  why : ((stop ≡ list_length list) × (faults ≡ fault_for NoEnd stop ∷ []))
      ⊎ ((stop < list_length list) × IsBadLength list stop × (faults ≡ fault_for PackageLength stop ∷ []))
      ⊎ ((kind_at list stop ≡ END_PACKAGE) × (size_at list stop ≡ 4) × (stop + 4 < list_length list) × (faults ≡ fault_for AfterEnd (stop + 4) ∷ []))
      ⊎ ((kind_at list stop ≡ END_PACKAGE) × (size_at list stop ≡ 4) × (stop + 4 ≡ list_length list) × (faults ≡ []))

walk : (list : List ℕ) (n place : ℕ) → HasHeader list → Begins list place → place ≤ list_length list → list_length list ≤ place + n → Stop list (faults_of_packages n place (from list place))
walk list zero place h begins within enough =
    let at : place ≡ list_length list = omega arith in
    record { stop = place; begins = begins; why = inl (at, at_no_bytes zero place (from list place) (left_from list place h.high ∙ omega arith)) }
walk list (suc n) place h begins within enough =
    elim (cases_lt place (list_length list)) [
      | inr above ↦ record { stop = place; begins = begins; why = inl (omega arith, at_no_bytes (suc n) place (from list place) (left_from list place h.high ∙ omega arith)) }
      | inl below ↦ (
          let left = left_from list place h.high in
          let some : 0 < length (from list place) = omega (arith, left) in
          elim (cases_Bool (is_bad (from list place))) [
            | inl bad ↦ record { stop = place; begins = begins; why = inr (inl (below, bad_is list place h.high bad, at_bad n place (from list place) some bad)) }
            | inr good ↦ (
                let g = is_good (from list place) good in
                let whole : place + 4 ≤ list_length list = omega (arith, left, g.header) in
                let size = size_from list place h.high whole in
                let kind = kind_from list place whole in
                elim (cases_eq (kind_at list place) END_PACKAGE) [
                  | inl end ↦ (
                      let four : size_at list place ≡ 4 = sym size ∙ g.end (kind ∙ end) in
                      elim (cases_lt (place + 4) (list_length list)) [
                        | inl more ↦ record { stop = place; begins = begins; why = inr (inr (inl (end, four, more, at_end n place (from list place) (omega (arith, left)) good (kind ∙ end)))) }
                        | inr last ↦ record { stop = place; begins = begins; why = inr (inr (inr (end, four, omega arith, at_last n place (from list place) (omega (arith, left)) good (kind ∙ end)))) }
                      ])
                  | inr other ↦ (
                      let next = begins_next list place (size_at list place) begins refl (omega (arith, size, g.low)) (omega (arith, size, left, g.high)) other in
                      let rest = walk list n (place + size_at list place) h next (omega (arith, size, left, g.high)) (omega (arith, size, g.low)) in
                      let step : faults_of_packages (suc n) place (from list place) ≡ faults_of_packages n (place + size_at list place) (from list (place + size_at list place)) =
                      at_whole n place (from list place) some good (λ e. other (sym kind ∙ e))
                      ∙ ap (λ k. faults_of_packages n (place + k) (drop k (from list place))) size
                      ∙ ap (faults_of_packages n (place + size_at list place)) (drop-drop (size_at list place) place (take (list_length list) list)) in
                      subst (Stop list) (sym step) rest)
                ])
          ])
    ]

bad_not_whole : (list : List ℕ) (place : ℕ) → IsBadLength list place → IsWholePackage list place → ⊥
bad_not_whole list place (inl cut) w = omega (arith, cut, w.inside, w.header)
bad_not_whole list place (inr (inl low)) w = omega (arith, low, w.header)
bad_not_whole list place (inr (inr (inl high))) w = omega (arith, high, w.inside)
bad_not_whole list place (inr (inr (inr end))) w = w.kind end.0

bad_apart : (list : List ℕ) (s : ℕ) → IsBadLength list s → kind_at list s ≡ END_PACKAGE → size_at list s ≡ 4 → s + 4 ≤ list_length list → ⊥
bad_apart list s (inl cut) kind size last = omega (arith, cut, last)
bad_apart list s (inr (inl low)) kind size last = omega (arith, low, size)
bad_apart list s (inr (inr (inl high))) kind size last = omega (arith, high, size, last)
bad_apart list s (inr (inr (inr end))) kind size last = end.1 size

-- the whole packages stop at one place
same_stop : (list : List ℕ) (p q : ℕ) → Begins list p → Begins list q → (IsWholePackage list p → ⊥) → (IsWholePackage list q → ⊥) → p ≡ q
same_stop list p q hp hq np nq =
    elim (cases_lt p q) [
      | inl below ↦ absurd (np (begins_less list p q hp hq below).0)
      | inr above ↦ elim (cases_lt q p) [ inl more ↦ absurd (nq (begins_less list q p hq hp more).0) | inr same ↦ omega arith ]
    ]

-- at each stop no other fault
alone_at_no_end : (list : List ℕ) (s : ℕ) → HasHeader list → Begins list s → s ≡ list_length list → (c : Cause) (p : ℕ) → IsListFault list c p → (c ≡ NoEnd) × (p ≡ s)
alone_at_no_end list s h begins at ListShort p f = absurd (omega (arith, h.header, f.1))
alone_at_no_end list s h begins at ListLength p f = absurd (grind (arith, h.low, h.high, f.2))
alone_at_no_end list s h begins at PackageLength p f =
    absurd (omega (arith, f.2, at, same_stop list p s f.1 begins (bad_not_whole list p f.3) (λ w. omega (arith, w.inside, w.header, at))))
alone_at_no_end list s h begins at NoEnd p f = (refl, omega (arith, f.2, at))
alone_at_no_end list s h begins at AfterEnd p (_, end, ends, kind, size, e, last) =
    absurd (omega (arith, e, last, at, same_stop list end s ends begins (λ w. w.kind kind) (λ w. omega (arith, w.inside, w.header, at))))
alone_at_no_end list s h begins at _ p f = absurd f

alone_at_bad : (list : List ℕ) (s : ℕ) → HasHeader list → Begins list s → s < list_length list → IsBadLength list s → (c : Cause) (p : ℕ) → IsListFault list c p → (c ≡ PackageLength) × (p ≡ s)
alone_at_bad list s h begins below bad ListShort p f = absurd (omega (arith, h.header, f.1))
alone_at_bad list s h begins below bad ListLength p f = absurd (grind (arith, h.low, h.high, f.2))
alone_at_bad list s h begins below bad PackageLength p f =
    (refl, same_stop list p s f.1 begins (bad_not_whole list p f.3) (bad_not_whole list s bad))
alone_at_bad list s h begins below bad NoEnd p f =
    absurd (omega (arith, below, f.2, same_stop list p s f.1 begins (λ w. omega (arith, w.inside, w.header, f.2)) (bad_not_whole list s bad)))
alone_at_bad list s h begins below bad AfterEnd p (_, end, ends, kind, size, e, last) =
    let same = same_stop list s end begins ends (bad_not_whole list s bad) (λ w. w.kind kind) in
    absurd (bad_apart list end (subst (IsBadLength list) same bad) kind size (omega (arith, e, last)))
alone_at_bad list s h begins below bad _ p f = absurd f

alone_at_end : (list : List ℕ) (s : ℕ) → HasHeader list → Begins list s → kind_at list s ≡ END_PACKAGE → size_at list s ≡ 4 → s + 4 < list_length list
    → (c : Cause) (p : ℕ) → IsListFault list c p → (c ≡ AfterEnd) × (p ≡ s + 4)
alone_at_end list s h begins kind size more ListShort p f = absurd (omega (arith, h.header, f.1))
alone_at_end list s h begins kind size more ListLength p f = absurd (grind (arith, h.low, h.high, f.2))
alone_at_end list s h begins kind size more PackageLength p f =
    let same = same_stop list p s f.1 begins (bad_not_whole list p f.3) (λ w. w.kind kind) in
    absurd (bad_apart list s (subst (IsBadLength list) same f.3) kind size (omega (arith, more)))
alone_at_end list s h begins kind size more NoEnd p f =
    absurd (omega (arith, more, f.2, same_stop list p s f.1 begins (λ w. omega (arith, w.inside, w.header, f.2)) (λ w. w.kind kind)))
alone_at_end list s h begins kind size more AfterEnd p (_, end, ends, kind', size', e, last) =
    (refl, e ∙ ap (λ x. x + 4) (same_stop list end s ends begins (λ w. w.kind kind') (λ w. w.kind kind)))
alone_at_end list s h begins kind size more _ p f = absurd f

none_at_last : (list : List ℕ) (s : ℕ) → HasHeader list → Begins list s → kind_at list s ≡ END_PACKAGE → size_at list s ≡ 4 → s + 4 ≡ list_length list → HasNone (IsListFault list)
none_at_last list s h begins kind size last ListShort p f = omega (arith, h.header, f.1)
none_at_last list s h begins kind size last ListLength p f = grind (arith, h.low, h.high, f.2)
none_at_last list s h begins kind size last PackageLength p f =
    let same = same_stop list p s f.1 begins (bad_not_whole list p f.3) (λ w. w.kind kind) in
    bad_apart list s (subst (IsBadLength list) same f.3) kind size (omega (arith, last))
none_at_last list s h begins kind size last NoEnd p f =
    omega (arith, last, f.2, same_stop list p s f.1 begins (λ w. omega (arith, w.inside, w.header, f.2)) (λ w. w.kind kind))
none_at_last list s h begins kind size last AfterEnd p (_, end, ends, kind', size', e, more) =
    omega (arith, e, last, more, same_stop list end s ends begins (λ w. w.kind kind') (λ w. w.kind kind))
none_at_last list s h begins kind size last _ p f = f

stop_has : (list : List ℕ) (faults : List Fault) → HasHeader list → Stop list faults → AreFaults faults (IsListFault list)
stop_has list faults h s =
    elim s.why [
      | inl a ↦ where_same (IsListFault list) a.1 (one_fault (IsListFault list) NoEnd s.stop (h, s.begins, a.0) (alone_at_no_end list s.stop h s.begins a.0))
      | inr b ↦ elim b [
        | inl a ↦ where_same (IsListFault list) a.2 (one_fault (IsListFault list) PackageLength s.stop (h, s.begins, a.0, a.1) (alone_at_bad list s.stop h s.begins a.0 a.1))
        | inr d ↦ elim d [
          | inl a ↦ where_same (IsListFault list) a.3 (one_fault (IsListFault list) AfterEnd (s.stop + 4) (h, s.stop, s.begins, a.0, a.1, refl, a.2) (alone_at_end list s.stop h s.begins a.0 a.1 a.2))
          | inr a ↦ where_same (IsListFault list) a.3 (no_faults (IsListFault list) (none_at_last list s.stop h s.begins a.0 a.1 a.2))
        ]
      ]
    ]

-- the stop of a list whose header is right
stop_of : (list : List ℕ) → HasHeader list → Stop list (faults_of_packages (length list) 20 (drop 20 (take (list_length list) list)))
stop_of list h = walk list (length list) 20 h (0, refl) h.low (omega (arith, h.high))

-- ---- all faults

alone_short : (list : List ℕ) → length list < 20 → (c : Cause) (p : ℕ) → IsListFault list c p → (c ≡ ListShort) × (p ≡ 0)
alone_short list short ListShort p f = (refl, f.0)
alone_short list short ListLength p f = absurd (omega (arith, short, f.1))
alone_short list short PackageLength p f = absurd (omega (arith, short, f.0.header))
alone_short list short NoEnd p f = absurd (omega (arith, short, f.0.header))
alone_short list short AfterEnd p f = absurd (omega (arith, short, f.0.header))
alone_short list short _ p f = absurd f

alone_length : (list : List ℕ) → 20 ≤ length list → (list_length list < 20) ⊎ (length list < list_length list) → (c : Cause) (p : ℕ) → IsListFault list c p → (c ≡ ListLength) × (p ≡ 16)
alone_length list long wrong ListShort p f = absurd (omega (arith, long, f.1))
alone_length list long wrong ListLength p f = (refl, f.0)
alone_length list long wrong PackageLength p f = absurd (grind (arith, wrong, f.0.low, f.0.high))
alone_length list long wrong NoEnd p f = absurd (grind (arith, wrong, f.0.low, f.0.high))
alone_length list long wrong AfterEnd p f = absurd (grind (arith, wrong, f.0.low, f.0.high))
alone_length list long wrong _ p f = absurd f

pub same_list_faults : (list : List ℕ) → AreFaults (list_faults list) (IsListFault list)
same_list_faults list =
    elim (header_cases list) [
      | inl short ↦ where_same (IsListFault list) (short_faults list short) (one_fault (IsListFault list) ListShort 0 (refl, short) (alone_short list short))
      | inr b ↦ elim b [
        | inl a ↦ where_same (IsListFault list) (length_faults list a.0 a.1) (one_fault (IsListFault list) ListLength 16 (refl, a.0, a.1) (alone_length list a.0 a.1))
        | inr h ↦ where_same (IsListFault list) (behind_header list h) (stop_has list _ h (stop_of list h))
      ]
    ]

pub same_least_list : (list : List ℕ) (fault : CodeFault) → (IsLeastAmong (list_faults list) fault ↔ IsLeast (IsListFault list) fault)
same_least_list list fault = same_least (list_faults list) (IsListFault list) fault (same_list_faults list)
