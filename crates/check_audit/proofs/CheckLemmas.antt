-- Forms packages are told one behind the other, and which fault refuses a list as a whole.
use Rattle.std.proofs.Common.{◌≡◌, ℕ, suc, ◌+◌, ◌≤◌, ◌<◌, ◌^◌, ◌-◌, Bool, true, false, ◌==◌, Some, List, [], ◌∷◌, ◌++◌, length, take, drop, filter, map, refl, sym, ap, ◌∙◌, subst, arith, append_assoc, append-nil, length-append, inr}
use Rattle.std.specs.Prelude.{◌&&◌}
use Rattle.std.specs.List.{AllByRecursion}
use Rattle.std.proofs.lemmas.Bool.{cond-true, cond-false}
use Rattle.std.proofs.lemmas.List.{map-append, length-drop, length-take}
use Rattle.browser_rules.specs.Faults.{list_faults, number_faults, string_faults}
use Rattle.browser_rules.specs.Packages.{FORMS, Package, forms_package, packages_with}
use Rattle.hii_bytes.specs.Faults.{HasNone, IsAmong, IsLeastAmong, Refuses, RefusesAmong}
use Rattle.hii_bytes.specs.Watching.{Pen, Writes}
use Rattle.hii_bytes.specs.declared.cause.Fault.{Fault}
use Rattle.hii_bytes.proofs.ChapterFaultLemmas.{are_among, none_among, same_refusal}
use Rattle.hii_bytes.proofs.FaultLemmas.{then_first, then_none}
use Rattle.hii_bytes.proofs.WritingLemmas.{writes_nil, writes_trans}
use Rattle.hii_packages.specs.Packages.{packages_of}
use Rattle.hii_packages.specs.laws.Places.{LiesIn}
use Rattle.hii_packages.proofs.SpellLemmas.{read_lie}
use Rattle.session_steps.specs.Opening.{IsSourceFault, IsTextFault}
use Rattle.session_steps.proofs.SourceLemmas.{list_refuses, no_source_fault, number_refuses}
use Rattle.check_audit.proofs.RefusalLemmas.{refuses_second}
use Rattle.audit_json.specs.declared.telling.Telling.{Telling}
use Rattle.opcode_audit.specs.Lines.{said_first}
use Rattle.check_audit.specs.Checks.{BeginsCheck, IsJudged, Judged, TellsAll, Told, all_good, judged_told, packages_told, told_of}
use Rattle.check_audit.specs.Lacks.{lacks_in}
use Rattle.check_audit.specs.Verdicts.{IsListFault, IsVerdict, is_good}
use Rattle.check_audit.specs.declared.verdict.Verdict.{Verdict}

-- ---- what refuses a list as a whole

pub list_refused : (list : List ℕ) (fault : Fault) → IsLeastAmong (list_faults list) fault → Refuses (IsListFault list) fault
list_refused list fault least = inr (then_first (IsSourceFault list 1) (IsTextFault list) fault (list_refuses list 1 fault least))

pub number_refused : (list seen : List ℕ) (fault : Fault) → seen ≡ list → list_faults list ≡ [] → IsLeastAmong (number_faults seen 1) fault → Refuses (IsListFault list) fault
number_refused list seen fault same sound least =
    inr (then_first (IsSourceFault list 1) (IsTextFault list) fault (number_refuses list 1 fault sound (subst (λ (l : List ℕ). IsLeastAmong (number_faults l 1) fault) same least)))

no_source : (list seen : List ℕ) (source : Package) → seen ≡ list → list_faults list ≡ [] → forms_package seen 1 ≡ Some source → HasNone (IsSourceFault list 1)
no_source list seen source same sound found = no_source_fault list 1 source (sound, subst (λ (l : List ℕ). forms_package l 1 ≡ Some source) same found)

pub texts_refused : (list seen : List ℕ) (source : Package) (fault : Fault) → seen ≡ list → list_faults list ≡ [] → forms_package seen 1 ≡ Some source → RefusesAmong (string_faults seen) fault → Refuses (IsListFault list) fault
texts_refused list seen source fault same sound found r =
    refuses_second (IsSourceFault list 1) (IsTextFault list) fault (no_source list seen source same sound found)
    (subst (λ (l : List ℕ). Refuses (IsTextFault l) fault) same ((same_refusal (string_faults seen) (IsAmong (string_faults seen)) fault (are_among (string_faults seen))).0 r))

pub nothing_refused : (list seen : List ℕ) (source : Package) → seen ≡ list → list_faults list ≡ [] → forms_package seen 1 ≡ Some source → string_faults seen ≡ [] → HasNone (IsListFault list)
nothing_refused list seen source same sound found texts =
    then_none (IsSourceFault list 1) (IsTextFault list) (no_source list seen source same sound found)
    (subst (λ (l : List ℕ). HasNone (IsTextFault l)) same ((none_among (string_faults seen)).0 texts))

-- ---- package by package

abbrev pub is_forms : Package → Bool
is_forms p = p.kind == FORMS

all_more : (list : List ℕ) (js : List Judged) (j : Judged) → AllByRecursion (IsJudged list) js → IsJudged list j → AllByRecursion (IsJudged list) (js ++ j ∷ [])
all_more list [] j each is = (is, tt)
all_more list (k ∷ js) j each is = (each.0, all_more list js j each.1 is)

packages_more : (t : Told) (number : ℕ) (js : List Judged) (j : Judged) → packages_told t number (js ++ j ∷ []) ≡ packages_told t number js ++ judged_told t (number + length js) j
packages_more t number [] j = append-nil (judged_told t number j) ∙ ap (λ n. judged_told t n j) (omega arith)
packages_more t number (k ∷ js) j =
    let same : suc number + length js ≡ number + suc (length js) = omega arith in
    ap (λ (l : List ℕ). judged_told t number k ++ l) (packages_more t (suc number) js j ∙ ap (λ n. packages_told t (suc number) js ++ judged_told t n j) same)
    ∙ sym (append_assoc (judged_told t number k) (packages_told t (suc number) js) (judged_told t (number + suc (length js)) j))

and_true : (a : Bool) → a && true ≡ a
and_true true = refl
and_true false = refl

and_and : (a b c : Bool) → a && (b && c) ≡ (a && b) && c
and_and true b c = refl
and_and false b c = refl

good_more : (js : List Judged) (j : Judged) → all_good (js ++ j ∷ []) ≡ all_good js && is_good j.verdict
good_more [] j = and_true (is_good j.verdict)
good_more (k ∷ js) j = ap (λ b. is_good k.verdict && b) (good_more js j) ∙ and_and (is_good k.verdict) (all_good js) (is_good j.verdict)

-- Of the packages of a list some are left, and the forms packages before them are told, as many as the number.
pub record Goes (telling : Telling) (list : List ℕ) (start : ℕ) (left : List Package) (number : ℕ) (is : Bool) (old new : Pen) : Type 0 where
  pub judged : List Judged
  pub each : AllByRecursion (IsJudged list) judged
  pub in_order : map (λ j. j.source) judged ++ filter is_forms left ≡ packages_with FORMS list
  pub next : number ≡ length judged
  pub good : is ≡ all_good judged
  pub written : Writes old new (packages_told (told_of telling list start) 1 judged)
  pub lie : AllByRecursion (LiesIn list) left
  pub few : number + length left < 2 ^ 62

pub goes_begun : (telling : Telling) (list : List ℕ) (start : ℕ) (left : List Package) (pen : Pen) → list_faults list ≡ [] → left ≡ packages_of list → length left < 2 ^ 62 → Goes telling list start left 0 true pen pen
goes_begun telling list start left pen sound all few = record {
  judged = [];
  each = tt;
  in_order = ap (filter is_forms) all;
  next = refl;
  good = refl;
  written = writes_nil pen;
  lie = subst (λ (ps : List Package). AllByRecursion (LiesIn list) ps) (sym all) (read_lie list sound);
  few = omega (arith, few);
}

pub goes_passed : {telling : Telling} {list : List ℕ} {start : ℕ} {left later : List Package} {number : ℕ} {is : Bool} {old new : Pen} (p : Package) → Goes telling list start left number is old new → left ≡ p ∷ later → is_forms p ≡ false → Goes telling list start later number is old new
goes_passed {telling} {list} {start} {left} {later} {number} {is} {old} {new} p g steps other =
    let same : filter is_forms left ≡ filter is_forms later = ap (filter is_forms) steps ∙ cond-false (is_forms p) _ _ other in
    let shorter : length left ≡ suc (length later) = ap (λ (ps : List Package). length ps) steps in
    record {
      judged = g.judged;
      each = g.each;
      in_order = ap (λ (ps : List Package). map (λ (j : Judged). j.source) g.judged ++ ps) (sym same) ∙ g.in_order;
      next = g.next;
      good = g.good;
      written = g.written;
      lie = (subst (λ (ps : List Package). AllByRecursion (LiesIn list) ps) steps g.lie).1;
      few = omega (arith, shorter, g.few);
    }

pub goes_more : {telling : Telling} {list : List ℕ} {start : ℕ} {left later : List Package} {number : ℕ} {is : Bool} {old new newer : Pen} (p : Package) (verdict : Verdict) → Goes telling list start left number is old new → left ≡ p ∷ later → is_forms p ≡ true
    → IsVerdict (said_first list) (lacks_in list) p.bytes verdict → Writes new newer (judged_told (told_of telling list start) (number + 1) record { source = p; verdict = verdict }) → Goes telling list start later (number + 1) (is && is_good verdict) old newer
goes_more {telling} {list} {start} {left} {later} {number} {is} {old} {new} {newer} p verdict g steps forms found wrote =
    let j : Judged = record { source = p; verdict = verdict } in
    let source : Judged → Package = λ k. k.source in
    let t = told_of telling list start in
    let first : filter is_forms left ≡ p ∷ filter is_forms later = ap (filter is_forms) steps ∙ cond-true (is_forms p) _ _ forms in
    let shorter : length left ≡ suc (length later) = ap (λ (ps : List Package). length ps) steps in
    let size = length-append g.judged (j ∷ []) in
    let place : number + 1 ≡ 1 + length g.judged = omega (arith, g.next) in
    record {
      judged = g.judged ++ j ∷ [];
      each = all_more list g.judged j g.each found;
      in_order = ap (λ (ps : List Package). ps ++ filter is_forms later) (map-append source g.judged (j ∷ [])) ∙ append_assoc (map source g.judged) (p ∷ []) (filter is_forms later)
          ∙ ap (λ (ps : List Package). map source g.judged ++ ps) (sym first) ∙ g.in_order;
      next = omega (arith, g.next, size);
      good = ap (λ b. b && is_good verdict) g.good ∙ sym (good_more g.judged j);
      written = subst (Writes old newer) (ap (λ n. packages_told t 1 g.judged ++ judged_told t n j) place ∙ sym (packages_more t 1 g.judged j)) (writes_trans g.written wrote);
      lie = (subst (λ (ps : List Package). AllByRecursion (LiesIn list) ps) steps g.lie).1;
      few = omega (arith, shorter, g.few);
    }

pub goes_as : (telling : Telling) (list : List ℕ) (start : ℕ) (left : List Package) (number : ℕ) {is other : Bool} (old new : Pen) → is ≡ other → Goes telling list start left number is old new → Goes telling list start left number other old new
goes_as telling list start left number old new same g = subst (λ (b : Bool). Goes telling list start left number b old new) same g

-- a package that is next lies in the list
pub next_inside : {telling : Telling} {list : List ℕ} {start : ℕ} {left later : List Package} {number : ℕ} {is : Bool} {old new : Pen} (p : Package) → Goes telling list start left number is old new → left ≡ p ∷ later → 4 ≤ length p.bytes → p.place + length p.bytes ≤ length list
next_inside {telling} {list} {start} {left} p g steps header =
    let lies = (subst (λ (ps : List Package). AllByRecursion (LiesIn list) ps) steps g.lie).0 in
    let size = p.place + length p.bytes - p.place in
    let long : length p.bytes ≡ length (take size (drop p.place list)) = ap length (sym lies.0) in
    omega (arith, header, long, length-take size (drop p.place list), length-drop p.place list)

-- at the end all are told
pub told_all : {telling : Telling} {list : List ℕ} {start : ℕ} {left : List Package} {number : ℕ} {is : Bool} {old new : Pen} → Goes telling list start left number is old new → left ≡ [] → (text : List ℕ) × TellsAll telling list start is text × Writes old new text
told_all {telling} {list} {start} {left} g none =
    let all = ap (λ (ps : List Package). map (λ (j : Judged). j.source) g.judged ++ filter is_forms ps) (sym none) ∙ g.in_order in
    (_, (record { judged = g.judged; each = g.each; in_order = all; written = refl }, g.good), g.written)

-- where it breaks off some are
pub told_some : {telling : Telling} {list : List ℕ} {start : ℕ} {left : List Package} {number : ℕ} {is : Bool} {old new : Pen} → Goes telling list start left number is old new → (text : List ℕ) × BeginsCheck telling list start text × Writes old new text
told_some {telling} {list} {start} {left} g = (_, (_, record { judged = g.judged; each = g.each; in_order = g.in_order; written = refl }), g.written)

pub told_none : (telling : Telling) (list : List ℕ) (start : ℕ) (pen : Pen) → (text : List ℕ) × BeginsCheck telling list start text × Writes pen pen text
told_none telling list start pen = ([], (packages_with FORMS list, record { judged = []; each = tt; in_order = refl; written = refl }), writes_nil pen)
