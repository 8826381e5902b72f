-- Lines are written list by list.
use Rattle.std.proofs.Common.{◌≡◌, ℕ, suc, true, ◌+◌, ◌*◌, ◌≤◌, ◌<◌, Option, Some, None, List, [], ◌∷◌, ◌++◌, length, map, refl, sym, ap, ◌∙◌, subst, arith, append_assoc, length-append}
use Rattle.std.specs.Prelude.{codes, decimal}
use Rattle.std.specs.List.{AllByRecursion, concat}
use Rattle.std.proofs.lemmas.Bool.{false≢true}
use Rattle.std.proofs.lemmas.List.{append-nil, map-append}
use Rattle.hii_bytes.specs.Watching.{Pen, Writes}
use Rattle.hii_bytes.proofs.WritingLemmas.{writes_trans}
use Rattle.hii_bytes.specs.Texts.{place_text}
use Rattle.hii_dumps.specs.Dumps.{Entry, IsList, placed}
use Rattle.audit_json.specs.declared.telling.Telling.{Telling}
use Rattle.audit_json.specs.declared.telling.Telling.TheVariants.{Lines, Objects}
use Rattle.audit_json.specs.Objects.{number_member, object}
use Rattle.dump_audit.specs.Objects.{rest_object}
use Rattle.dump_audit.specs.Lines.{Told, IsTold, has_lists, list_told, lists_told, no_lists_told, rest_line, rest_told}

all_more : (told : List Told) (t : Told) → AllByRecursion IsTold told → IsTold t → AllByRecursion IsTold (told ++ t ∷ [])
all_more [] t each is = (is, tt)
all_more (u ∷ told) t each is = (each.0, all_more told t each.1 is)

lines_more : (telling : Telling) (number : ℕ) (told : List Told) (t : Told) → lists_told telling number (told ++ t ∷ []) ≡ lists_told telling number told ++ list_told telling (number + length told) t
lines_more telling number [] t = append-nil (list_told telling number t) ∙ ap (λ n. list_told telling n t) (omega arith)
lines_more telling number (u ∷ told) t =
    let same : suc number + length told ≡ number + suc (length told) = omega arith in
    ap (λ (l : List ℕ). list_told telling number u ++ l) (lines_more telling (suc number) told t ∙ ap (λ n. lists_told telling (suc number) told ++ list_told telling n t) same)
    ∙ sym (append_assoc (list_told telling number u) (lists_told telling (suc number) told) (list_told telling (number + suc (length told)) t))

-- Of some lists the first are told, and the number is the next one's.
pub record Goes (telling : Telling) (all left : List Entry) (number : ℕ) (old new : Pen) : Type 0 where
  pub told : List Told
  pub each : AllByRecursion IsTold told
  pub in_order : map (λ t. t.entry) told ++ left ≡ all
  pub next : number ≡ 1 + length told
  pub written : Writes old new (lists_told telling 1 told)

pub goes_more : {telling : Telling} {all left later : List Entry} {number : ℕ} {a b c : Pen} (t : Told) → Goes telling all left number a b → left ≡ t.entry ∷ later → IsTold t → Writes b c (list_told telling number t) → Goes telling all later (number + 1) a c
goes_more {telling} {all} {left} {later} {number} {a} {b} {c} t g first is wrote =
    let entry : Told → Entry = λ u. u.entry in
    record {
      told = g.told ++ t ∷ [];
      each = all_more g.told t g.each is;
      in_order = ap (λ (es : List Entry). es ++ later) (map-append entry g.told (t ∷ [])) ∙ append_assoc (map entry g.told) (t.entry ∷ []) later ∙ ap (λ (es : List Entry). map entry g.told ++ es) (sym first) ∙ g.in_order;
      next = let size = length-append g.told (t ∷ []) in omega (arith, g.next, size);
      written = subst (Writes a c) (ap (λ n. lists_told telling 1 g.told ++ list_told telling n t) g.next ∙ sym (lines_more telling 1 g.told t)) (writes_trans g.written wrote);
    }

-- at the end all are told
pub all_told : {telling : Telling} {all left : List Entry} {number : ℕ} {a b : Pen} (g : Goes telling all left number a b) → left ≡ [] → map (λ t. t.entry) g.told ≡ all
all_told {telling} {all} {left} g none =
    let entries = map (λ (t : Told). t.entry) g.told in
    sym (append-nil entries) ∙ ap (λ (es : List Entry). entries ++ es) (sym none) ∙ g.in_order

-- there are fewer lists than bytes
pub few_lists : (place : ℕ) (lists : List (List ℕ)) → AllByRecursion IsList lists → 20 * length (placed place lists) ≤ length (concat lists)
few_lists place [] each = omega arith
few_lists place (list ∷ lists) each =
    let more = few_lists (place + length list) lists each.1 in
    let size = length-append list (concat lists) in
    omega (arith, more, size, each.0.header)

length-entries : (told : List Told) → length (map (λ t. t.entry) told) ≡ length told
length-entries [] = refl
length-entries (t ∷ told) = ap (λ n. suc n) (length-entries told)

pub told_fewer : {telling : Telling} {all left : List Entry} {number : ℕ} {a b : Pen} → Goes telling all left number a b → number + length left ≡ 1 + length all
told_fewer {telling} {all} {left} g =
    let size = length-append (map (λ t. t.entry) g.told) left in
    let whole : length (map (λ t. t.entry) g.told ++ left) ≡ length all = ap (λ (es : List Entry). length es) g.in_order in
    omega (arith, g.next, size, whole, length-entries g.told)

-- whether there are lists is known by how many are told
pub some_lists : (place : ℕ) (lists : List (List ℕ)) (told : List Told) → map (λ t. t.entry) told ≡ placed place lists → 1 ≤ length told → has_lists lists ≡ true
some_lists place [] told order some =
    let size : length (map (λ (t : Told). t.entry) told) ≡ 0 = ap (λ (es : List Entry). length es) order in
    absurd (omega (arith, some, size, length-entries told))
some_lists place (list ∷ lists) told order some = refl

pub no_lists : (place : ℕ) (lists : List (List ℕ)) (told : List Told) → map (λ t. t.entry) told ≡ placed place lists → length told ≡ 0 → lists ≡ []
no_lists place [] told order none = refl
no_lists place (list ∷ lists) told order none =
    let size : length (map (λ (t : Told). t.entry) told) ≡ suc (length (placed (place + length list) lists)) = ap (λ (es : List Entry). length es) order in
    absurd (omega (arith, none, size, length-entries told))

pub with_lists : (telling : Telling) (lists : List (List ℕ)) (text : List ℕ) → has_lists lists ≡ true → text ++ no_lists_told telling lists ≡ text
with_lists telling [] text is = absurd (false≢true is)
with_lists telling (list ∷ lists) text is = append-nil text

pub rest_some_object : (place : ℕ) (rest : List ℕ) → 0 < length rest → rest_object place rest ≡ object (codes "rest") (number_member (codes "at") place ++ number_member (codes "size") (length rest))
rest_some_object place [] some = absurd (none some)
  where
    none : 0 < 0 → ⊥
    none h = omega arith
rest_some_object place (byte ∷ rest) some = refl

-- of no bytes nothing is told
pub rest_none : (telling : Telling) (place : ℕ) (rest : List ℕ) → length rest ≡ 0 → rest_told telling place rest ≡ []
rest_none Lines place [] none = refl
rest_none Objects place [] none = refl
rest_none telling place (byte ∷ rest) none = absurd (omega (arith, none))

pub rest_some : (place : ℕ) (rest : List ℕ) → 0 < length rest → rest_line place rest ≡ codes "REST " ++ place_text place ++ codes " " ++ decimal (length rest) ++ codes "\n"
rest_some place [] some = absurd (none some)
  where
    none : 0 < 0 → ⊥
    none h = omega arith
rest_some place (byte ∷ rest) some = refl

-- where there is no title, and where there is one: what is told of it is nothing, or follows
pub no_title : {a b : Pen} {text : List ℕ} (title : Option ℕ → List ℕ) (o : Option ℕ) → title None ≡ [] → o ≡ None → Writes a b text → Writes a b (text ++ title o)
no_title {a} {b} {text} title o empty none w =
    subst (λ (p : Option ℕ). Writes a b (text ++ title p)) (sym none) (subst (λ (l : List ℕ). Writes a b (text ++ l)) (sym empty) (subst (Writes a b) (sym (append-nil text)) w))

pub with_title : {a b c : Pen} {text : List ℕ} (title : Option ℕ → List ℕ) (o : Option ℕ) (id : ℕ) → o ≡ Some id → Writes a b text → Writes b c (title (Some id)) → Writes a c (text ++ title o)
with_title {a} {b} {c} {text} title o id some w v = subst (λ (p : Option ℕ). Writes a c (text ++ title p)) (sym some) (writes_trans w v)
