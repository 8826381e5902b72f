-- Faults that the chapters list, and faults of a kind.
use Rattle.std.proofs.Common.{◌≡◌, ◌⊎◌, ◌↔◌, ℕ, zero, suc, ◌<◌, ◌≤◌, List, [], ◌∷◌, ◌++◌, refl, ap, sym, ◌∙◌, subst, inl, inr, arith}
use Rattle.std.specs.Prelude.{Contains}
use Rattle.std.proofs.lemmas.List.Elements.{Contains-append_left, Contains-append_right, Contains-append_cases}
use Rattle.browser_rules.specs.Words as chapter
use Rattle.browser_rules.specs.Words.{number_and_name}
use Rattle.browser_rules.specs.Faults.{Fault, IsLeast, then_faults}
use Rattle.hii_bytes.specs.Causes.{cause_for, fault_for}
use Rattle.hii_bytes.specs.Cause.{number_of}
use Rattle.hii_bytes.specs.Faults.{HasNone, Then, IsAmong, IsLeastAmong, AreFaults, Refuses, RefusesAmong, IsLeast as IsLeastOf}
use Rattle.hii_bytes.specs.declared.cause.Cause.{Cause}
use Rattle.hii_bytes.specs.declared.cause.Cause.TheVariants.{ListShort, ListLength, PackageLength, NoEnd, AfterEnd}
use Rattle.hii_bytes.specs.declared.cause.Cause.TheVariants.{NoForms, StringHeader, StringBlock, StringText}
use Rattle.hii_bytes.specs.declared.cause.Cause.TheVariants.{LanguageText, OpLength, EndExtra, ScopeOpen, TooDeep}
use Rattle.hii_bytes.specs.declared.cause.Cause.TheVariants.{NotFormSet, AfterFormSet, OpOutside, OpSize, Misplaced}
use Rattle.hii_bytes.specs.declared.cause.Cause.TheVariants.{ScopeBit, ExprShape, ExprDepth, DuplicateForm}
use Rattle.hii_bytes.specs.declared.cause.Cause.TheVariants.{DuplicateQuestion, DuplicateVarstore, UnknownVarstore}
use Rattle.hii_bytes.specs.declared.cause.Cause.TheVariants.{FieldOutside, OptionRange, MixedOptions, NoForm}
use Rattle.hii_bytes.specs.declared.cause.Cause.TheVariants.{RuleTooLarge, StoreMagic, StoreCount, StoreId, StoreSize}
use Rattle.hii_bytes.specs.declared.cause.Cause.TheVariants.{StoreShort, StoreTrailing, StoreFormSet, OutOfMemory}
use Rattle.hii_bytes.specs.declared.cause.Cause.TheVariants.{BadCommand, LineTooLong, ScriptTooLong, FileTooLong}
use Rattle.hii_bytes.specs.declared.cause.Cause.TheVariants.{BadHeader, BadElement, BadNumber, ValueWidth}
use Rattle.hii_bytes.specs.declared.cause.Fault.{Fault as CodeFault}

-- ---- causes

-- the cause of the code that has the name of one of the chapters
abbrev pub code_of : chapter.Cause → Cause
code_of chapter.ListShort = ListShort
code_of chapter.ListLength = ListLength
code_of chapter.PackageLength = PackageLength
code_of chapter.NoEnd = NoEnd
code_of chapter.AfterEnd = AfterEnd
code_of chapter.NoForms = NoForms
code_of chapter.StringHeader = StringHeader
code_of chapter.StringBlock = StringBlock
code_of chapter.StringText = StringText
code_of chapter.LanguageText = LanguageText
code_of chapter.OpLength = OpLength
code_of chapter.EndExtra = EndExtra
code_of chapter.ScopeOpen = ScopeOpen
code_of chapter.TooDeep = TooDeep
code_of chapter.NotFormSet = NotFormSet
code_of chapter.AfterFormSet = AfterFormSet
code_of chapter.OpOutside = OpOutside
code_of chapter.OpSize = OpSize
code_of chapter.Misplaced = Misplaced
code_of chapter.ScopeBit = ScopeBit
code_of chapter.ExprShape = ExprShape
code_of chapter.ExprDepth = ExprDepth
code_of chapter.DuplicateForm = DuplicateForm
code_of chapter.DuplicateQuestion = DuplicateQuestion
code_of chapter.DuplicateVarstore = DuplicateVarstore
code_of chapter.UnknownVarstore = UnknownVarstore
code_of chapter.FieldOutside = FieldOutside
code_of chapter.OptionRange = OptionRange
code_of chapter.MixedOptions = MixedOptions
code_of chapter.NoForm = NoForm
code_of chapter.RuleTooLarge = RuleTooLarge
code_of chapter.StoreMagic = StoreMagic
code_of chapter.StoreCount = StoreCount
code_of chapter.StoreId = StoreId
code_of chapter.StoreSize = StoreSize
code_of chapter.StoreShort = StoreShort
code_of chapter.StoreTrailing = StoreTrailing
code_of chapter.StoreFormSet = StoreFormSet
code_of chapter.OutOfMemory = OutOfMemory
code_of chapter.BadCommand = BadCommand
code_of chapter.LineTooLong = LineTooLong
code_of chapter.ScriptTooLong = ScriptTooLong
code_of chapter.FileTooLong = FileTooLong
code_of chapter.BadHeader = BadHeader
code_of chapter.BadElement = BadElement
code_of chapter.BadNumber = BadNumber
code_of chapter.ValueWidth = ValueWidth

pub code_of-cause_for : (c : Cause) → code_of (cause_for c) ≡ c
code_of-cause_for ListShort = refl
code_of-cause_for _ = refl

pub cause_for-code_of : (c : chapter.Cause) → cause_for (code_of c) ≡ c
cause_for-code_of chapter.ListShort = refl
cause_for-code_of _ = refl

pub no_other_cause : (c : chapter.Cause) → (code : Cause) × (cause_for code ≡ c)
no_other_cause c = (code_of c, cause_for-code_of c)

pub causes_apart : (c d : Cause) → cause_for c ≡ cause_for d → c ≡ d
causes_apart c d same = sym (code_of-cause_for c) ∙ ap code_of same ∙ code_of-cause_for d

-- ---- what stands among faults

-- a fault of the chapters is that of a cause of the code
of_code : (f : Fault) → fault_for (code_of f.cause) f.place ≡ f
of_code f = ap (λ (c : chapter.Cause). (let r : Fault = record { cause = c; place = f.place } in r)) (cause_for-code_of f.cause)

at_front : (f : Fault) (fs : List Fault) → Contains (f ∷ fs) f
at_front f fs = (0, omega arith, refl)

pub some_faults : (f : Fault) (fs : List Fault) → f ∷ fs ≡ [] → ⊥
some_faults f fs e = cc

none_there : (f : Fault) → Contains [] f → ⊥
none_there f c = omega (arith, c.1)

only_one : (f g : Fault) → Contains (f ∷ []) g → f ≡ g
only_one f g (zero, within, e) = e
only_one f g (suc k, within, e) = absurd (omega (arith, within))

-- ---- faults that are listed are those of a kind

-- what is a fault where there are these
told : (faults : List Fault) (IsFault : Cause → ℕ → Type 0) (f : Fault) → AreFaults faults IsFault → Contains faults f → IsFault (code_of f.cause) f.place
told faults IsFault f are among = (are (code_of f.cause) f.place).0 (subst (Contains faults) (sym (of_code f)) among)

-- a fault is not above another
abbrev IsNotAbove : CodeFault → chapter.Cause → ℕ → Type 0
IsNotAbove fault cause place = (fault.place < place) ⊎ ((fault.place ≡ place) × (number_of fault.cause ≤ (number_and_name cause).0))

pub same_least : (faults : List Fault) (IsFault : Cause → ℕ → Type 0) (fault : CodeFault) → AreFaults faults IsFault → (IsLeastAmong faults fault ↔ IsLeastOf IsFault fault)
same_least faults IsFault fault are = (
  λ is. record {
    told = (are fault.cause fault.place).0 is.among;
    least = λ c p other. is.least (fault_for c p) ((are c p).1 other);
  },
  λ is. record {
    among = (are fault.cause fault.place).1 is.told;
    least = λ other among.
        let P : chapter.Cause → Type 0 = λ c. IsNotAbove fault c other.place in
        subst P (cause_for-code_of other.cause) (is.least (code_of other.cause) other.place (told faults IsFault other are among));
  },
)

pub same_none : (faults : List Fault) (IsFault : Cause → ℕ → Type 0) → AreFaults faults IsFault → ((faults ≡ []) ↔ HasNone IsFault)
same_none faults IsFault are = (
  λ e c p is. none_there (fault_for c p) (subst (λ fs. Contains fs (fault_for c p)) e ((are c p).1 is)),
  none faults are,
)
  where
    none : (fs : List Fault) → AreFaults fs IsFault → HasNone IsFault → fs ≡ []
    none [] are has = refl
    none (f ∷ fs) are has = absurd (has (code_of f.cause) f.place (told (f ∷ fs) IsFault f are (at_front f fs)))

-- out of memory, or the least
pub same_refusal : (faults : List Fault) (IsFault : Cause → ℕ → Type 0) (fault : CodeFault) → AreFaults faults IsFault → (RefusesAmong faults fault ↔ Refuses IsFault fault)
same_refusal faults IsFault fault are = (
  λ refuses. elim refuses [ inl memory ↦ inl memory | inr least ↦ inr ((same_least faults IsFault fault are).0 least) ],
  λ refuses. elim refuses [ inl memory ↦ inl memory | inr least ↦ inr ((same_least faults IsFault fault are).1 least) ],
)

-- ---- faults that are listed, as a kind

pub are_among : (faults : List Fault) → AreFaults faults (IsAmong faults)
are_among faults c p = (λ among. among, λ among. among)

pub least_among : (faults : List Fault) (fault : CodeFault) → (IsLeastAmong faults fault ↔ IsLeastOf (IsAmong faults) fault)
least_among faults fault = same_least faults (IsAmong faults) fault (are_among faults)

pub none_among : (faults : List Fault) → ((faults ≡ []) ↔ HasNone (IsAmong faults))
none_among faults = same_none faults (IsAmong faults) (are_among faults)

-- ---- several parts, and several kinds

-- two parts, of which the second counts only where the first has none
pub same_parts : (first second : List Fault) (First Second : Cause → ℕ → Type 0) → AreFaults first First → (first ≡ [] → AreFaults second Second)
    → AreFaults (then_faults first second) (Then First Second)
same_parts [] second First Second are behind c p = (λ among. inr ((same_none [] First are).0 refl, (behind refl c p).0 among), by)
  where
    by : Then First Second c p → Contains second (fault_for c p)
    by (inl a) = absurd ((same_none [] First are).0 refl c p a)
    by (inr b) = (behind refl c p).1 b.1
same_parts (f ∷ fs) second First Second are behind c p = (λ among. inl ((are c p).0 among), by)
  where
    by : Then First Second c p → Contains (f ∷ fs) (fault_for c p)
    by (inl a) = (are c p).1 a
    by (inr b) = absurd (b.0 (code_of f.cause) f.place (told (f ∷ fs) First f are (at_front f fs)))

pub then_faults_none : (first second : List Fault) → then_faults first second ≡ [] → (first ≡ []) × (second ≡ [])
then_faults_none [] second e = (refl, e)
then_faults_none (f ∷ fs) second e = absurd (some_faults f fs e)

pub then_faults-then_faults : (first second third : List Fault) → then_faults (then_faults first second) third ≡ then_faults first (then_faults second third)
then_faults-then_faults [] second third = refl
then_faults-then_faults (f ∷ fs) second third = refl

-- the faults of two kinds
pub both_kinds : (xs ys : List Fault) (F G H : Cause → ℕ → Type 0) → AreFaults xs F → AreFaults ys G
    → ((c : Cause) (p : ℕ) → F c p → H c p) → ((c : Cause) (p : ℕ) → G c p → H c p) → ((c : Cause) (p : ℕ) → H c p → F c p ⊎ G c p) → AreFaults (xs ++ ys) H
both_kinds xs ys F G H fs gs left right out c p = (
  λ among. elim (Contains-append_cases xs ys (fault_for c p) among) [ inl a ↦ left c p ((fs c p).0 a) | inr b ↦ right c p ((gs c p).0 b) ],
  λ is. elim (out c p is) [ inl a ↦ Contains-append_left xs ys (fault_for c p) ((fs c p).1 a) | inr b ↦ Contains-append_right xs ys (fault_for c p) ((gs c p).1 b) ],
)

pub where_same : (IsFault : Cause → ℕ → Type 0) {faults others : List Fault} → faults ≡ others → AreFaults others IsFault → AreFaults faults IsFault
where_same IsFault same are = subst (λ fs. AreFaults fs IsFault) (sym same) are

-- one fault alone
pub one_fault : (IsFault : Cause → ℕ → Type 0) (d : Cause) (q : ℕ) → IsFault d q
    → ((c : Cause) (p : ℕ) → IsFault c p → (c ≡ d) × (p ≡ q)) → AreFaults (fault_for d q ∷ []) IsFault
one_fault IsFault d q is one c p = (
  λ among.
      let same = only_one (fault_for d q) (fault_for c p) among in
      let cause : d ≡ c = sym (code_of-cause_for d) ∙ ap (λ (f : Fault). code_of f.cause) same ∙ code_of-cause_for c in
      subst (λ x. IsFault x p) cause (subst (IsFault d) (ap (λ (f : Fault). f.place) same) is),
  λ other.
      let same = one c p other in
      subst (λ f. Contains (fault_for d q ∷ []) f) (sym (ap (λ x. fault_for x p) same.0 ∙ ap (fault_for d) same.1)) (at_front (fault_for d q) []),
)

pub no_faults : (IsFault : Cause → ℕ → Type 0) → HasNone IsFault → AreFaults [] IsFault
no_faults IsFault none c p = (λ among. absurd (none_there (fault_for c p) among), λ is. absurd (none c p is))

-- a fault that is listed alone is the least
pub least_alone : (faults : List Fault) (fault : CodeFault) → faults ≡ fault_for fault.cause fault.place ∷ [] → IsLeastAmong faults fault
least_alone faults fault alone = subst (λ (fs : List Fault). IsLeastAmong fs fault) (sym alone) (record {
  among = at_front (fault_for fault.cause fault.place) [];
  least = λ other among.
      let P : Fault → Type 0 = λ f. IsNotAbove fault f.cause f.place in
      subst P (only_one (fault_for fault.cause fault.place) other among) (inr (refl, omega arith));
})
