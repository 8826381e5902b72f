-- Lists are told one behind the other.
use Rattle.std.proofs.Common.{◌≡◌, ◌⊎◌, ℕ, suc, ◌+◌, ◌≤◌, ◌<◌, ◌^◌, true, List, [], ◌∷◌, ◌++◌, length, map, refl, sym, ap, ◌∙◌, subst, arith, append_assoc, append-nil, length-append}
use Rattle.std.specs.List.{AllByRecursion, concat}
use Rattle.std.proofs.lemmas.List.{map-append}
use Rattle.hii_bytes.specs.Watching.{Pen, Writes}
use Rattle.hii_bytes.proofs.WritingLemmas.{writes_trans}
use Rattle.hii_dumps.specs.Dumps.{Entry, SpellsDump, placed}
use Rattle.dump_audit.specs.Lines.{has_lists}
use Rattle.survey_commands.specs.Surveying.{Asked, BeginsList, BeginsSurvey, IsOf, Surveyed, lists_told, surveyed_told}

all_more : (asked : Asked) (ss : List Surveyed) (s : Surveyed) → AllByRecursion (IsOf asked) ss → IsOf asked s → AllByRecursion (IsOf asked) (ss ++ s ∷ [])
all_more asked [] s each is = (is, tt)
all_more asked (t ∷ ss) s each is = (each.0, all_more asked ss s each.1 is)

lists_more : (asked : Asked) (number : ℕ) (ss : List Surveyed) (s : Surveyed) → lists_told asked number (ss ++ s ∷ []) ≡ lists_told asked number ss ++ surveyed_told asked (number + length ss) s
lists_more asked number [] s = append-nil (surveyed_told asked number s) ∙ ap (λ n. surveyed_told asked n s) (omega arith)
lists_more asked number (t ∷ ss) s =
    let same : suc number + length ss ≡ number + suc (length ss) = omega arith in
    ap (λ (l : List ℕ). surveyed_told asked number t ++ l) (lists_more asked (suc number) ss s ∙ ap (λ n. lists_told asked (suc number) ss ++ surveyed_told asked n s) same)
    ∙ sym (append_assoc (surveyed_told asked number t) (lists_told asked (suc number) ss) (surveyed_told asked (number + suc (length ss)) s))

-- Entries lie in a dump of this length.
abbrev pub LieBelow : ℕ → List Entry → Type 0
LieBelow size entries = AllByRecursion (λ (e : Entry). e.place + length e.bytes ≤ size) entries

placed_lie : (size place : ℕ) (lists : List (List ℕ)) → place + length (concat lists) ≤ size → LieBelow size (placed place lists)
placed_lie size place [] most = tt
placed_lie size place (list ∷ lists) most =
    let whole = length-append list (concat lists) in
    (omega (arith, most, whole), placed_lie size (place + length list) lists (omega (arith, most, whole)))

pub whole_lie : (dump : List ℕ) (lists : List (List ℕ)) (rest : List ℕ) → SpellsDump dump lists rest → LieBelow (length dump) (placed 0 lists)
whole_lie dump lists rest spelled =
    let whole = ap length spelled.whole ∙ length-append (concat lists) rest in
    placed_lie (length dump) 0 lists (omega (arith, whole))

-- Of some lists the first are told, and the number is the next one's.
pub record Goes (asked : Asked) (size : ℕ) (all left : List Entry) (number : ℕ) (old new : Pen) : Type 0 where
  pub surveyed : List Surveyed
  pub each : AllByRecursion (IsOf asked) surveyed
  pub in_order : map (λ s. s.entry) surveyed ++ left ≡ all
  pub next : number ≡ 1 + length surveyed
  pub written : Writes old new (lists_told asked 1 surveyed)
  pub lie : LieBelow size left

pub goes_more : {asked : Asked} {size : ℕ} {all left later : List Entry} {number : ℕ} {a b c : Pen} (s : Surveyed) → Goes asked size all left number a b → left ≡ s.entry ∷ later → IsOf asked s → Writes b c (surveyed_told asked number s)
    → Goes asked size all later (number + 1) a c
goes_more {asked} {size} {all} {left} {later} {number} {a} {b} {c} s g first is wrote =
    let entry : Surveyed → Entry = λ t. t.entry in
    record {
      surveyed = g.surveyed ++ s ∷ [];
      each = all_more asked g.surveyed s g.each is;
      in_order = ap (λ (es : List Entry). es ++ later) (map-append entry g.surveyed (s ∷ [])) ∙ append_assoc (map entry g.surveyed) (s.entry ∷ []) later
          ∙ ap (λ (es : List Entry). map entry g.surveyed ++ es) (sym first) ∙ g.in_order;
      next = let longer = length-append g.surveyed (s ∷ []) in omega (arith, g.next, longer);
      written = subst (Writes a c) (ap (λ n. lists_told asked 1 g.surveyed ++ surveyed_told asked n s) g.next ∙ sym (lists_more asked 1 g.surveyed s)) (writes_trans g.written wrote);
      lie = (subst (LieBelow size) first g.lie).1;
    }

-- the next one lies in the dump
pub next_lies : {asked : Asked} {size : ℕ} {all left later : List Entry} {number : ℕ} {a b : Pen} (e : Entry) → Goes asked size all left number a b → left ≡ e ∷ later → e.place + length e.bytes ≤ size
next_lies {asked} {size} {all} {left} {later} {number} {a} {b} e g first = (subst (LieBelow size) first g.lie).0

-- at the end all are told
pub all_told : {asked : Asked} {size : ℕ} {all left : List Entry} {number : ℕ} {a b : Pen} (g : Goes asked size all left number a b) → left ≡ [] → map (λ s. s.entry) g.surveyed ≡ all
all_told {asked} {size} {all} {left} g none =
    let entries = map (λ (s : Surveyed). s.entry) g.surveyed in
    sym (append-nil entries) ∙ ap (λ (es : List Entry). entries ++ es) (sym none) ∙ g.in_order

length-entries : (ss : List Surveyed) → length (map (λ s. s.entry) ss) ≡ length ss
length-entries [] = refl
length-entries (s ∷ ss) = ap (λ n. suc n) (length-entries ss)

pub told_fewer : {asked : Asked} {size : ℕ} {all left : List Entry} {number : ℕ} {a b : Pen} → Goes asked size all left number a b → number + length left ≡ 1 + length all
told_fewer {asked} {size} {all} {left} g =
    let longer = length-append (map (λ (s : Surveyed). s.entry) g.surveyed) left in
    let whole : length (map (λ (s : Surveyed). s.entry) g.surveyed ++ left) ≡ length all = ap (λ (es : List Entry). length es) g.in_order in
    omega (arith, g.next, longer, whole, length-entries g.surveyed)

-- whether there are lists is known by how many are told
pub some_lists : (place : ℕ) (lists : List (List ℕ)) (ss : List Surveyed) → map (λ s. s.entry) ss ≡ placed place lists → 1 ≤ length ss → has_lists lists ≡ true
some_lists place [] ss order some =
    let size : length (map (λ (s : Surveyed). s.entry) ss) ≡ 0 = ap (λ (es : List Entry). length es) order in
    absurd (omega (arith, some, size, length-entries ss))
some_lists place (list ∷ lists) ss order some = refl

pub no_lists : (place : ℕ) (lists : List (List ℕ)) (ss : List Surveyed) → map (λ s. s.entry) ss ≡ placed place lists → length ss ≡ 0 → lists ≡ []
no_lists place [] ss order none = refl
no_lists place (list ∷ lists) ss order none =
    let size : length (map (λ (s : Surveyed). s.entry) ss) ≡ suc (length (placed (place + length list) lists)) = ap (λ (es : List Entry). length es) order in
    absurd (omega (arith, none, size, length-entries ss))

-- where it breaks off the next is begun, or nothing of it is told
pub told_some : {asked : Asked} {size : ℕ} {dump : List ℕ} {lists : List (List ℕ)} {rest : List ℕ} {left later : List Entry} {number : ℕ} {a b c : Pen} (e : Entry) (begun : List ℕ) → SpellsDump dump lists rest
    → Goes asked size (placed 0 lists) left number a b → left ≡ e ∷ later → (begun ≡ []) ⊎ BeginsList asked record { number = number; entry = e } begun → Writes b c begun
    → (text : List ℕ) × BeginsSurvey asked dump text × Writes a c text
told_some {asked} {size} {dump} {lists} {rest} {left} {later} {number} {a} {b} {c} e begun spelled g first begins wrote =
    let place : number ≡ suc (length g.surveyed) = omega (arith, g.next) in (
      lists_told asked 1 g.surveyed ++ begun,
      record {
        lists = lists;
        rest = rest;
        spelled = spelled;
        before = g.surveyed;
        each = g.each;
        next = e;
        later = later;
        in_order = ap (λ (es : List Entry). map (λ (s : Surveyed). s.entry) g.surveyed ++ es) (sym first) ∙ g.in_order;
        begun = begun;
        begins = subst (λ n. (begun ≡ []) ⊎ BeginsList asked record { number = n; entry = e } begun) place begins;
        written = refl;
      },
      writes_trans g.written wrote,
    )

-- the lists are those of a dump
pub record GoesOver (asked : Asked) (dump : List ℕ) (left : List Entry) (number : ℕ) (old new : Pen) : Type 0 where
  pub lists : List (List ℕ)
  pub rest : List ℕ
  pub spelled : SpellsDump dump lists rest
  pub goes : Goes asked (length dump) (placed 0 lists) left number old new
