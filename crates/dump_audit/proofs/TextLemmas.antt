-- A dump has one text.
use Rattle.std.proofs.Common.{◌≡◌, ℕ, Bool, List, [], ◌∷◌, ◌++◌, length, map, refl, sym, ap, subst, ◌∙◌, arith, inl, inr}
use Rattle.std.specs.List.{AllByRecursion, concat}
use Rattle.browser_rules.specs.Packages.{Package}
use Rattle.browser_rules.specs.Strings.{Spoken}
use Rattle.hii_bytes.specs.declared.cause.Cause.{Cause}
use Rattle.hii_bytes.specs.declared.cause.Fault.{Fault}
use Rattle.hii_bytes.specs.Cause.{number_of}
use Rattle.hii_bytes.specs.Faults.{IsAmong, IsLeast}
use Rattle.hii_bytes.proofs.ChapterFaultLemmas.{least_among}
use Rattle.hii_dumps.specs.Dumps.{Entry, placed}
use Rattle.hii_dumps.proofs.ListLemmas.{one_split}
use Rattle.sibt_strings.proofs.FaultLemmas.{some_least}
use Rattle.dump_audit.specs.Findings.{Finding, Contents, Refused, IsFound, list_or_text_faults}
use Rattle.audit_json.specs.declared.telling.Telling.{Telling}
use Rattle.dump_audit.specs.Lines.{Told, IsTold, lists_told, no_lists_told, rest_told, IsSplitText}
use Rattle.dump_audit.proofs.CauseLemmas.{same_cause}

-- two least faults stand at one place, with one number
record Alike (f g : Fault) : Type 0 where
  place : f.place ≡ g.place
  number : number_of f.cause ≡ number_of g.cause

alike : (IsFault : Cause → ℕ → Type 0) (f g : Fault) → IsLeast IsFault f → IsLeast IsFault g → Alike f g
alike IsFault f g l m = elim (l.least g.cause g.place m.told) [
  | inl before ↦ elim (m.least f.cause f.place l.told) [ inl after ↦ absurd (omega (arith, before, after)) | inr same ↦ absurd (omega (arith, before, same.0)) ]
  | inr same ↦ elim (m.least f.cause f.place l.told) [ inl after ↦ absurd (omega (arith, same.0, after)) | inr again ↦ record { place = same.0; number = omega (arith, same.1, again.1) } ]
]

one_least : (IsFault : Cause → ℕ → Type 0) (f g : Fault) → IsLeast IsFault f → IsLeast IsFault g → f ≡ g
one_least IsFault f g l m =
    let same = alike IsFault f g l m in
    let cause = same_cause f.cause g.cause same.number in
    let place = same.place in
    λ i. record { cause = cause i; place = place i }

one_finding : (list : List ℕ) (a b : Finding) → IsFound list a → IsFound list b → a ≡ b
one_finding list (Contents ps ss) (Contents qs ts) f h =
    ap (λ (xs : List Package). Contents xs ss) (f.1 ∙ sym h.1) ∙ ap (λ (xs : List Spoken). Contents qs xs) (f.2 ∙ sym h.2)
one_finding list (Contents ps ss) (Refused fault) f h = absurd (some_least (list_or_text_faults list) fault h f.0)
one_finding list (Refused fault) (Contents ps ss) f h = absurd (some_least (list_or_text_faults list) fault f h.0)
one_finding list (Refused fault) (Refused other) f h =
    let faults = list_or_text_faults list in
    ap Refused (one_least (IsAmong faults) fault other ((least_among faults fault).0 f) ((least_among faults other).0 h))

one_entry : (t u : Told) → IsTold t → IsTold u → t.entry ≡ u.entry → t ≡ u
one_entry t u is was same =
    let finding = one_finding u.entry.bytes t.finding u.finding (subst (λ (e : Entry). IsFound e.bytes t.finding) same is) was in
    λ i. record { entry = same i; finding = finding i }

one_told : (ts us : List Told) → AllByRecursion IsTold ts → AllByRecursion IsTold us → map (λ t. t.entry) ts ≡ map (λ t. t.entry) us → ts ≡ us
one_told [] [] a b same = refl
one_told [] (u ∷ us) a b same = absurd (cc)
one_told (t ∷ ts) [] a b same = absurd (cc)
one_told (t ∷ ts) (u ∷ us) a b same =
    let first : t.entry ≡ u.entry = cc in
    let more : map (λ x. x.entry) ts ≡ map (λ x. x.entry) us = cc in
    ap (λ (x : Told). x ∷ ts) (one_entry t u a.0 b.0 first) ∙ ap (λ (xs : List Told). u ∷ xs) (one_told ts us a.1 b.1 more)

pub one_text : (telling : Telling) (is was : Bool) (dump text other : List ℕ) → IsSplitText telling is dump text → IsSplitText telling was dump other → text ≡ other
one_text telling is was dump text other s t =
    let same = one_split dump s.lists t.lists s.rest t.rest s.spelled t.spelled in
    let told = one_told s.told t.told s.each t.each (s.in_order ∙ ap (λ (ls : List (List ℕ)). placed 0 ls) same.0 ∙ sym t.in_order) in
    s.written
    ∙ ap (λ (xs : List Told). lists_told telling 1 xs ++ rest_told telling (length (concat s.lists)) s.rest ++ no_lists_told telling s.lists) told
    ∙ ap (λ (ls : List (List ℕ)). lists_told telling 1 t.told ++ rest_told telling (length (concat ls)) s.rest ++ no_lists_told telling ls) same.0
    ∙ ap (λ (rest : List ℕ). lists_told telling 1 t.told ++ rest_told telling (length (concat t.lists)) rest ++ no_lists_told telling t.lists) same.1
    ∙ sym t.written
