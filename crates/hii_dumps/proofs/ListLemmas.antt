-- Bytes that are lists, one after another, and what they are cut into.
use Rattle.std.proofs.Common.{◌≡◌, ℕ, zero, suc, ◌+◌, ◌-◌, ◌<◌, ◌≤◌, true, false, List, [], ◌∷◌, ◌++◌, length, take, drop, refl, ap, sym, ◌∙◌, subst, arith, length-append, append_assoc}
use Rattle.std.specs.List.{AllByRecursion, concat}
use Rattle.std.proofs.Math.Seq.{take-add}
use Rattle.std.proofs.lemmas.List.{append-nil, nil_from_length, take_at, drop_at, take-append-drop, length-drop, length-take-le, take_all}
use Rattle.std.proofs.lemmas.List.Folds.{concat-append}
use Rattle.std.proofs.lemmas.Bool.Decides.{nat_tests}
use Rattle.hii_bytes.specs.Numbers.{number_in}
use Rattle.hii_bytes.proofs.NumberLemmas.{number_in-append}
use Rattle.hii_dumps.specs.Dumps.{IsList, SpellsDump, stated_length, begins_with_list, placed}
use Rattle.hii_dumps.specs.code.Lists.{AreLists, lists_in, lists_of}

-- a list at the front tells its length
stated : (list tail : List ℕ) → IsList list → stated_length (list ++ tail) ≡ length list
stated list tail h = number_in-append list tail 16 4 (omega (arith, h.header)) ∙ h.sized

begins : (list tail : List ℕ) → IsList list → begins_with_list (list ++ tail) ≡ true
begins list tail h =
    let size = stated list tail h in
    grind (arith, nat_tests, size, h.header, length-append list tail)

-- bytes that are lists, up to where none begins, are cut into these lists
pub lists_in-concat : (n : ℕ) (lists : List (List ℕ)) (rest : List ℕ) → AllByRecursion IsList lists → begins_with_list rest ≡ false → length (concat lists) ≤ n → lists_in n (concat lists ++ rest) ≡ lists
unfolding lists_in
lists_in-concat zero [] rest each ends le = refl
lists_in-concat (suc n) [] rest each ends le = rw ends refl
lists_in-concat zero (list ∷ lists) rest each ends le = absurd (omega (arith, each.0.header, length-append list (concat lists)))
lists_in-concat (suc n) (list ∷ lists) rest each ends le =
    let again = lists_in-concat n lists rest each.1 ends (omega (arith, each.0.header, length-append list (concat lists))) in
    let tail = concat lists ++ rest in
    rw (append_assoc list (concat lists) rest, begins list tail each.0, stated list tail each.0, take_at list tail (length list) refl, drop_at list tail (length list) refl, again) refl

-- no bytes begin with a list
begins_none : begins_with_list [] ≡ false
unfolding number_in
begins_none = refl

-- lists alone are cut into themselves
pub lists_of-concat : (lists : List (List ℕ)) → AllByRecursion IsList lists → lists_of (concat lists) ≡ lists
lists_of-concat lists each =
    let all : lists_in (length (concat lists)) (concat lists ++ []) ≡ lists = lists_in-concat (length (concat lists)) lists [] each begins_none (omega arith) in
    rw append-nil at all

-- bytes that are lists are what they are cut into
pub joined : (bytes : List ℕ) → AreLists bytes → concat (lists_of bytes) ≡ bytes
joined bytes (lists, each, whole) = ap concat (ap lists_of whole ∙ lists_of-concat lists each) ∙ sym whole

-- what stands at the front of some lists
pub record FirstList (bytes : List ℕ) (size : ℕ) : Type 0 where
  pub header : 20 ≤ size
  pub within : size ≤ length bytes
  pub first : IsList (take size bytes)
  pub after : AreLists (drop size bytes)
  pub lists : lists_of bytes ≡ take size bytes ∷ lists_of (drop size bytes)

pub first_list : (bytes : List ℕ) (size : ℕ) → size ≡ stated_length bytes → AreLists bytes → 0 < length bytes → FirstList bytes size
first_list bytes n told ([], each, whole) some = absurd (omega (arith, ap length whole))
first_list bytes n told (list ∷ lists, each, whole) some =
    let size : n ≡ length list = told ∙ ap stated_length whole ∙ stated list (concat lists) each.0 in
    let front : take n bytes ≡ list = ap (take n) whole ∙ take_at list (concat lists) n (sym size) in
    let back : drop n bytes ≡ concat lists = ap (drop n) whole ∙ drop_at list (concat lists) n (sym size) in
    let cut : lists_of bytes ≡ list ∷ lists = ap lists_of whole ∙ lists_of-concat (list ∷ lists) each in
    let rest : lists_of (drop n bytes) ≡ lists = ap lists_of back ∙ lists_of-concat lists each.1 in
    record {
      header = rw size each.0.header;
      within = omega (arith, size, ap length whole, length-append list (concat lists));
      first = rw front each.0;
      after = (lists, each.1, back);
      lists = cut ∙ sym (rw (front, rest) refl);
    }

-- no bytes are no lists
pub placed_none : (place : ℕ) (bytes : List ℕ) → length bytes ≡ 0 → placed place (lists_of bytes) ≡ []
unfolding lists_in
placed_none place bytes none = ap (λ b. placed place (lists_of b)) (nil_from_length bytes none)

-- the lists before a place, and the one that begins there
pushed : (lists : List (List ℕ)) (list : List ℕ) → AllByRecursion IsList lists → IsList list → AllByRecursion IsList (lists ++ list ∷ [])
pushed [] list each last = (last, tt)
pushed (first ∷ lists) list each last = (each.0, pushed lists list each.1 last)

list_there : (bytes : List ℕ) (size : ℕ) → size ≡ stated_length bytes → 20 ≤ size → size ≤ length bytes → IsList (take size bytes)
list_there bytes size told header inside =
    let long : length (take size bytes) ≡ size = length-take-le size bytes inside in
    let same = number_in-append (take size bytes) (drop size bytes) 16 4 (omega (arith, long, header)) in
    record {
      header = omega (arith, long, header);
      sized = sym same ∙ ap stated_length (take-append-drop size bytes) ∙ sym told ∙ sym long;
    }

pub one_more : (dump : List ℕ) (end size : ℕ) → AreLists (take end dump) → size ≡ stated_length (drop end dump) → 20 ≤ size → size ≤ length (drop end dump) → AreLists (take (end + size) dump)
one_more dump end size (lists, each, whole) told header inside =
    let list = take size (drop end dump) in (
      lists ++ list ∷ [],
      pushed lists list each (list_there (drop end dump) size told header inside),
      take-add end size dump ∙ ap (λ b. b ++ list) whole ∙ sym (concat-append lists (list ∷ []) ∙ ap (λ b. concat lists ++ b) (append-nil list)),
    )

-- the part of a dump from a place on
pub behind : (dump : List ℕ) (end : ℕ) → take (length dump - end) (drop end dump) ≡ drop end dump
behind dump end = take_all (length dump - end) (drop end dump) (omega (arith, length-drop end dump))

-- where a list begins, its length
pub fits : (bytes : List ℕ) → begins_with_list bytes ≡ true → (20 ≤ stated_length bytes) × (stated_length bytes ≤ length bytes)
fits bytes e = (grind (arith, nat_tests, e), grind (arith, nat_tests, e))

-- a dump up to where no list begins spells its lists and what is left
pub spells : (dump : List ℕ) (end : ℕ) → AreLists (take end dump) → begins_with_list (drop end dump) ≡ false → SpellsDump dump (lists_of (take end dump)) (drop end dump)
spells dump end (lists, each, whole) ends =
    let cut : lists_of (take end dump) ≡ lists = ap lists_of whole ∙ lists_of-concat lists each in
    record {
      each = subst (AllByRecursion IsList) (sym cut) each;
      whole = sym (take-append-drop end dump) ∙ ap (λ b. b ++ drop end dump) (sym (joined (take end dump) (lists, each, whole)));
      ends = ends;
    }

-- a dump spells one list of lists and one rest at most
pub one_split : (dump : List ℕ) (lists others : List (List ℕ)) (rest other : List ℕ) → SpellsDump dump lists rest → SpellsDump dump others other → (lists ≡ others) × (rest ≡ other)
one_split dump lists others rest other s t =
    let n = length (concat lists) + length (concat others) in
    let same : lists ≡ others = sym (lists_in-concat n lists rest s.each s.ends (omega arith)) ∙ ap (lists_in n) (sym s.whole ∙ t.whole) ∙ lists_in-concat n others other t.each t.ends (omega arith) in (
      same,
      sym (drop_at (concat lists) rest (length (concat lists)) refl)
          ∙ ap (λ (ls : List (List ℕ)). drop (length (concat ls)) (concat lists ++ rest)) same
          ∙ ap (drop (length (concat others))) (sym s.whole ∙ t.whole)
          ∙ drop_at (concat others) other (length (concat others)) refl,
    )
