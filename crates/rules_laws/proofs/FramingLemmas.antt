-- The chapters finds the faults of framing that the contracts say.
use Rattle.std.proofs.Common.{◌≡◌, ◌≢◌, ◌↔◌, ℕ, zero, suc, ◌+◌, ◌-◌, ◌<◌, ◌≤◌, ◌%◌, true, false, List, [], ◌∷◌, ◌++◌, length, take, drop, refl, ap, sym, ◌∙◌, subst, inl, inr, arith, length-append}
use Rattle.std.specs.Prelude.{◌==◌, nat_lt, nat_le, slice_index}
use Rattle.std.proofs.lemmas.List.{take-append-drop, length-drop, length-take-le, get_or-take, get_or_append_left, nil_from_length}
use Rattle.std.proofs.lemmas.Bool.{cases_Bool, cases_lt, cases_eq, true≢false, eq-eqb, ne_eqb, lt-ltb}
use Rattle.std.proofs.lemmas.Bool.Decides.{nat_tests}
use Rattle.hii_bytes.specs.declared.cause.Cause.{Cause}
use Rattle.hii_bytes.specs.declared.cause.Cause.TheVariants.{OpLength, EndExtra, ScopeOpen, TooDeep}
use Rattle.ifr_opcodes.specs.Opcode.{number, has_scope, stated_length, end, IsWhole}
use Rattle.ifr_opcodes.specs.Forest.{SpellsForest}
use Rattle.ifr_opcodes.specs.Reading.{tree_of}
use Rattle.ifr_opcodes.proofs.OpcodeLemmas.{stated_at}
use Rattle.ifr_nodes.specs.Framing.{IsFramingFault}
use Rattle.ifr_nodes.proofs.RunLemmas.{Stands, from_start, is_spelled, none_where_spelled, no_opcode, extra_end, too_deep, still_open, past_end, past_scope, past_plain}
use Rattle.ifr_nodes.proofs.RunLemmas as run
use Rattle.browser_rules.specs.Faults.{Fault, framing_from, framing_faults, is_whole}
use Rattle.hii_bytes.specs.Faults.{AreFaults}
use Rattle.hii_bytes.specs.Causes.{fault_for}
use Rattle.hii_bytes.proofs.ChapterFaultLemmas.{where_same, one_fault, no_faults, same_none}

-- ---- a whole opcode stands at the front

long_where : (bytes : List ℕ) → is_whole bytes ≡ true → 2 ≤ stated_length bytes
long_where bytes e = grind (arith, nat_tests)

inside_where : (bytes : List ℕ) → is_whole bytes ≡ true → stated_length bytes ≤ length bytes
inside_where bytes e = grind (arith, nat_tests)

two_where : (bytes : List ℕ) → is_whole bytes ≡ true → number bytes ≡ 0x29 → slice_index bytes 1 ≡ 2
two_where bytes e n = grind (arith, nat_tests)

whole_where : (bytes : List ℕ) → 2 ≤ stated_length bytes → stated_length bytes ≤ length bytes → (number bytes ≡ 0x29 → slice_index bytes 1 ≡ 2) → is_whole bytes ≡ true
whole_where bytes long inside ends = elim (cases_eq (number bytes) 0x29) [
  | inl e ↦ (let two : slice_index bytes 1 ≡ 2 = ends e in grind (arith, nat_tests))
  | inr n ↦ grind (arith, nat_tests)
]

end_at_front : (bytes : List ℕ) → number bytes ≡ 0x29 → slice_index bytes 1 ≡ 2 → take (stated_length bytes) bytes ≡ end
end_at_front [] e two = absurd (omega (arith, two))
end_at_front (x ∷ []) e two = absurd (omega (arith, two))
end_at_front (x ∷ y ∷ more) e two = ap (λ n. take (n % 128) (x ∷ n ∷ more)) two ∙ ap (λ n. n ∷ 2 ∷ []) e

-- the opcode at the front
abbrev opcode_of : List ℕ → List ℕ
opcode_of bytes = take (stated_length bytes) bytes

abbrev behind : List ℕ → List ℕ
behind bytes = drop (stated_length bytes) bytes

number_of_front : (bytes : List ℕ) → is_whole bytes ≡ true → number (opcode_of bytes) ≡ number bytes
number_of_front bytes e = get_or-take (stated_length bytes) bytes 0 0 (omega (arith, long_where bytes e))

second_of_front : (bytes : List ℕ) → is_whole bytes ≡ true → slice_index (opcode_of bytes) 1 ≡ slice_index bytes 1
second_of_front bytes e = get_or-take (stated_length bytes) bytes 1 0 (omega (arith, long_where bytes e))

front_whole : (bytes : List ℕ) → is_whole bytes ≡ true → IsWhole (opcode_of bytes)
front_whole bytes e =
    let long : length (opcode_of bytes) ≡ stated_length bytes = length-take-le (stated_length bytes) bytes (inside_where bytes e) in
    record {
      long = omega (arith, long, long_where bytes e);
      sized = long ∙ ap (λ n. n % 128) (sym (second_of_front bytes e));
      ends = λ n. (let is : number bytes ≡ 0x29 = sym (number_of_front bytes e) ∙ n in end_at_front bytes is (two_where bytes e is));
    }

whole_front : (op more : List ℕ) → IsWhole op → is_whole (op ++ more) ≡ true
whole_front op more w =
    let sized : stated_length (op ++ more) ≡ length op = stated_at op more w in
    whole_where (op ++ more) (omega (arith, sized, w.long)) (omega (arith, sized, length-append op more)) ends
  where
    ends : number (op ++ more) ≡ 0x29 → slice_index (op ++ more) 1 ≡ 2
    ends e =
        let is : op ≡ end = w.ends (sym (get_or_append_left op more 0 0 (omega (arith, w.long))) ∙ e) in
        ap (λ (o : List ℕ). slice_index (o ++ more) 1) is

-- ---- the faults, one way of the chapters after the other

at_close : (n at : ℕ) (rest : List ℕ) → length rest ≡ 0 → framing_from n at 0 rest ≡ []
unfolding framing_from
at_close zero at rest none = refl
at_close (suc n) at rest none = rw none refl

at_open : (n at d : ℕ) (rest : List ℕ) → length rest ≡ 0 → framing_from n at (suc d) rest ≡ fault_for ScopeOpen at ∷ []
unfolding framing_from
at_open zero at d rest none = let some : nat_lt 0 (suc d) ≡ true = lt-ltb _ _ (omega arith) in rw some refl
at_open (suc n) at d rest none = let some : nat_lt 0 (suc d) ≡ true = lt-ltb _ _ (omega arith) in rw (none, some) refl

at_bad : (n at d : ℕ) (rest : List ℕ) → length rest ≢ 0 → is_whole rest ≡ false → framing_from (suc n) at d rest ≡ fault_for OpLength at ∷ []
unfolding framing_from
at_bad n at d rest some bad = let more : (length rest == 0) ≡ false = ne_eqb _ _ some in rw (more, bad) refl

at_extra : (n at : ℕ) (rest : List ℕ) → length rest ≢ 0 → is_whole rest ≡ true → number rest ≡ 0x29 → framing_from (suc n) at 0 rest ≡ fault_for EndExtra at ∷ []
unfolding framing_from
at_extra n at rest some good closes =
    let more : (length rest == 0) ≡ false = ne_eqb _ _ some in
    let is : (number rest == 0x29) ≡ true = eq-eqb _ _ closes in
    rw (more, good, is) refl

at_end : (n at d : ℕ) (rest : List ℕ) → length rest ≢ 0 → is_whole rest ≡ true → number rest ≡ 0x29 → has_scope rest ≡ false
    → framing_from (suc n) at (suc d) rest ≡ framing_from n (at + stated_length rest) (suc d - 1) (behind rest)
unfolding framing_from
at_end n at d rest some good closes bare =
    let more : (length rest == 0) ≡ false = ne_eqb _ _ some in
    let is : (number rest == 0x29) ≡ true = eq-eqb _ _ closes in
    let deep : (suc d == 0) ≡ false = ne_eqb _ _ (λ e. omega (arith, e)) in
    rw (more, good, is, deep, bare) refl

at_65th : (n at : ℕ) (rest : List ℕ) → length rest ≢ 0 → is_whole rest ≡ true → number rest ≢ 0x29 → has_scope rest ≡ true → framing_from (suc n) at 64 rest ≡ fault_for TooDeep at ∷ []
unfolding framing_from
at_65th n at rest some good other scoped =
    let more : (length rest == 0) ≡ false = ne_eqb _ _ some in
    let is_not : (number rest == 0x29) ≡ false = ne_eqb _ _ other in
    rw (more, good, is_not, scoped) refl

at_scope : (n at d : ℕ) (rest : List ℕ) → length rest ≢ 0 → is_whole rest ≡ true → number rest ≢ 0x29 → has_scope rest ≡ true → d ≢ 64
    → framing_from (suc n) at d rest ≡ framing_from n (at + stated_length rest) (d + 1) (behind rest)
unfolding framing_from
at_scope n at d rest some good other scoped room =
    let more : (length rest == 0) ≡ false = ne_eqb _ _ some in
    let is_not : (number rest == 0x29) ≡ false = ne_eqb _ _ other in
    let below : (d == 64) ≡ false = ne_eqb _ _ room in
    rw (more, good, is_not, scoped, below) refl

at_plain : (n at d : ℕ) (rest : List ℕ) → length rest ≢ 0 → is_whole rest ≡ true → number rest ≢ 0x29 → has_scope rest ≡ false
    → framing_from (suc n) at d rest ≡ framing_from n (at + stated_length rest) d (behind rest)
unfolding framing_from
at_plain n at d rest some good other bare =
    let more : (length rest == 0) ≡ false = ne_eqb _ _ some in
    let is_not : (number rest == 0x29) ≡ false = ne_eqb _ _ other in
    rw (more, good, is_not, bare) refl

-- ---- all of them

-- these are the faults, and where there are none a forest is spelled
record Told (bytes : List ℕ) (faults : List Fault) : Type 0 where
  are : AreFaults faults (IsFramingFault bytes)
  spelled : faults ≡ [] → SpellsForest bytes (tree_of bytes)

some_faults : (f : Fault) (fs : List Fault) → f ∷ fs ≡ [] → ⊥
some_faults f fs e = cc

told_one : (bytes : List ℕ) (faults : List Fault) (cause : Cause) (place : ℕ) → faults ≡ fault_for cause place ∷ [] → IsFramingFault bytes cause place → Told bytes faults
told_one bytes faults cause place same is = record {
  are = where_same (IsFramingFault bytes) same (one_fault (IsFramingFault bytes) cause place is (λ c p other. let e = run.one_fault bytes cause c place p is other in (sym e.1, sym e.0)));
  spelled = λ none. absurd (some_faults (fault_for cause place) [] (sym same ∙ none));
}

told_none : (bytes : List ℕ) (faults : List Fault) → faults ≡ [] → SpellsForest bytes (tree_of bytes) → Told bytes faults
told_none bytes faults same s = record {
  are = where_same (IsFramingFault bytes) same (no_faults (IsFramingFault bytes) (none_where_spelled bytes (tree_of bytes) s));
  spelled = λ none. s;
}

told_behind : (bytes : List ℕ) {faults others : List Fault} → faults ≡ others → Told bytes others → Told bytes faults
told_behind bytes same told = subst (Told bytes) (sym same) told

-- nothing is left
at_last : (n at d : ℕ) (bytes rest : List ℕ) → Stands bytes rest d → length rest + 4 ≤ length bytes → at ≡ length bytes - length rest → length rest ≡ 0 → Told bytes (framing_from n at d rest)
at_last n at zero bytes rest s within place none = told_none bytes (framing_from n at 0 rest) (at_close n at rest none) (is_spelled bytes rest 0 s (nil_from_length rest none) refl)
at_last n at (suc d) bytes rest s within place none =
    let here : length bytes ≡ at = omega (arith, place, none) in
    let is = (still_open bytes rest (suc d) s within (nil_from_length rest none) (λ e. omega (arith, e))).told in
    told_one bytes (framing_from n at (suc d) rest) ScopeOpen at (at_open n at d rest none) (subst (IsFramingFault bytes ScopeOpen) here is)

-- the walk goes on behind an opcode
abbrev GoesOn : ℕ → ℕ → List ℕ → List ℕ → Type 0
GoesOn n at bytes rest =
    (deeper : ℕ) → Stands bytes (behind rest) deeper → deeper ≤ 64 → Told bytes (framing_from n (at + stated_length rest) deeper (behind rest))

cut_at : (rest : List ℕ) → rest ≡ opcode_of rest ++ behind rest
cut_at rest = sym (take-append-drop (stated_length rest) rest)

scope_of_front : (rest : List ℕ) → is_whole rest ≡ true → has_scope (opcode_of rest) ≡ has_scope rest
scope_of_front rest good = ap (nat_le 128) (second_of_front rest good)

-- at an END
at_an_end : (n at d : ℕ) (bytes rest : List ℕ) → Stands bytes rest d → d ≤ 64 → length rest + 4 ≤ length bytes → at ≡ length bytes - length rest → GoesOn n at bytes rest
    → length rest ≢ 0 → is_whole rest ≡ true → number rest ≡ 0x29 → Told bytes (framing_from (suc n) at d rest)
at_an_end n at zero bytes rest s high within place next some good closes =
    told_one bytes (framing_from (suc n) at 0 rest) EndExtra at (at_extra n at rest some good closes)
    (extra_end bytes rest (opcode_of rest) (behind rest) at s within place (front_whole rest good) (cut_at rest) (number_of_front rest good ∙ closes)).told
at_an_end n at (suc d) bytes rest s high within place next some good closes =
    let code : number (opcode_of rest) ≡ 0x29 = number_of_front rest good ∙ closes in
    let bare : has_scope rest ≡ false = sym (scope_of_front rest good) ∙ ap has_scope ((front_whole rest good).ends code) in
    let stands : Stands bytes (behind rest) (suc d - 1) = past_end bytes rest (opcode_of rest) (behind rest) (suc d) s (λ none. omega (arith, none)) (front_whole rest good) (cut_at rest) code in
    told_behind bytes (at_end n at d rest some good closes bare) (next (suc d - 1) stands (omega (arith, high)))

-- at an opcode that ends no scope
at_another : (n at d : ℕ) (bytes rest : List ℕ) → Stands bytes rest d → d ≤ 64 → length rest + 4 ≤ length bytes → at ≡ length bytes - length rest → GoesOn n at bytes rest
    → length rest ≢ 0 → is_whole rest ≡ true → number rest ≢ 0x29 → Told bytes (framing_from (suc n) at d rest)
at_another n at d bytes rest s high within place next some good other = elim (cases_Bool (has_scope rest)) [
  | inr bare ↦
      told_behind bytes (at_plain n at d rest some good other bare)
      (next d (past_plain bytes rest (opcode_of rest) (behind rest) d s (front_whole rest good) (cut_at rest) no_end (scope_of_front rest good ∙ bare)) high)
  | inl scoped ↦ elim (cases_eq d 64) [
    | inl full ↦
        told_one bytes (framing_from (suc n) at d rest) TooDeep at
        (ap (λ k. framing_from (suc n) at k rest) full ∙ at_65th n at rest some good other scoped)
        (too_deep bytes rest (opcode_of rest) (behind rest) at (subst (Stands bytes rest) full s) within place (front_whole rest good) (cut_at rest) no_end (scope_of_front rest good ∙ scoped)).told
    | inr room ↦ (
        let below : d < 64 = grind (arith, high, room) in
        told_behind bytes (at_scope n at d rest some good other scoped room)
        (next (d + 1) (past_scope bytes rest (opcode_of rest) (behind rest) d s below (front_whole rest good) (cut_at rest) no_end (scope_of_front rest good ∙ scoped)) (omega (arith, below))))
  ]
]
  where
    no_end : number (opcode_of rest) ≡ 0x29 → ⊥
    no_end e = other (sym (number_of_front rest good) ∙ e)

walk : (n at d : ℕ) (bytes rest : List ℕ) → Stands bytes rest d → d ≤ 64 → length rest + 4 ≤ length bytes → at ≡ length bytes - length rest → length rest ≤ n → Told bytes (framing_from n at d rest)
walk zero at d bytes rest s high within place enough = at_last 0 at d bytes rest s within place (omega (arith, enough))
walk (suc n) at d bytes rest s high within place enough = elim (cases_eq (length rest) 0) [
  | inl none ↦ at_last (suc n) at d bytes rest s within place none
  | inr some ↦ elim (cases_Bool (is_whole rest)) [
    | inr bad ↦
        told_one bytes (framing_from (suc n) at d rest) OpLength at (at_bad n at d rest some bad)
        (no_opcode bytes rest d at s within place (λ e. some (ap length e)) (λ op more w e. true≢false (sym (whole_front op more w) ∙ ap is_whole (sym e) ∙ bad))).told
    | inl good ↦ (
        let left = length-drop (stated_length rest) rest in
        let long = long_where rest good in
        let inside = inside_where rest good in
        let next : GoesOn n at bytes rest = λ deeper stands low.
        walk n (at + stated_length rest) deeper bytes (behind rest) stands low (omega (arith, left, within, long, inside)) (omega (arith, left, within, place, inside)) (omega (arith, left, enough, long, inside)) in
        elim (cases_eq (number rest) 0x29) [
          | inl closes ↦ at_an_end n at d bytes rest s high within place next some good closes
          | inr other ↦ at_another n at d bytes rest s high within place next some good other
        ])
  ]
]

told_of : (bytes : List ℕ) → Told bytes (framing_faults bytes)
told_of bytes = elim (cases_lt (length bytes) 4) [
  | inl short ↦ (
      let none : length (drop 4 bytes) ≡ 0 = omega (arith, length-drop 4 bytes, short) in
      told_none bytes (framing_faults bytes) (at_close (length bytes) 4 (drop 4 bytes) none)
      (is_spelled bytes (drop 4 bytes) 0 (from_start bytes) (nil_from_length (drop 4 bytes) none) refl))
  | inr long ↦ (
      let left = length-drop 4 bytes in
      walk (length bytes) 4 0 bytes (drop 4 bytes) (from_start bytes) (omega arith) (omega (arith, left, long)) (omega (arith, left, long)) (omega (arith, left)))
]

pub same_framing_faults : (bytes : List ℕ) → AreFaults (framing_faults bytes) (IsFramingFault bytes)
same_framing_faults bytes = (told_of bytes).are

pub spelled_where_framed : (bytes : List ℕ) → ((framing_faults bytes ≡ []) ↔ SpellsForest bytes (tree_of bytes))
spelled_where_framed bytes = (
  (told_of bytes).spelled,
  λ s. (same_none (framing_faults bytes) (IsFramingFault bytes) (same_framing_faults bytes)).1 (none_where_spelled bytes (tree_of bytes) s),
)
