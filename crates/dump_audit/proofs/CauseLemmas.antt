-- A cause is told by its number.
use Rattle.std.proofs.Common.{◌≡◌, ℕ, ◌==◌, if◌then◌else◌, List, [], ◌∷◌, refl, sym, ap, ◌∙◌}
use Rattle.hii_bytes.specs.declared.cause.Cause.{Cause}
use Rattle.hii_bytes.specs.declared.cause.Cause.TheVariants.{ListShort, ListLength, PackageLength, NoEnd, AfterEnd, NoForms, StringHeader, StringBlock, StringText, LanguageText, OpLength, EndExtra, ScopeOpen, TooDeep, NotFormSet, AfterFormSet, OpOutside, OpSize, Misplaced, ScopeBit, ExprShape, ExprDepth, DuplicateForm, DuplicateQuestion, DuplicateVarstore, UnknownVarstore, FieldOutside, OptionRange, MixedOptions, NoForm, RuleTooLarge, StoreMagic, StoreCount, StoreId, StoreSize, StoreShort, StoreTrailing, StoreFormSet, OutOfMemory, BadCommand, LineTooLong, ScriptTooLong, FileTooLong, BadHeader, BadElement, BadNumber, ValueWidth}
use Rattle.hii_bytes.specs.Cause.{number_of}

abbrev causes : List Cause
causes = ListShort ∷ ListLength ∷ PackageLength ∷ NoEnd ∷ AfterEnd ∷ NoForms ∷ StringHeader ∷ StringBlock ∷ StringText ∷ LanguageText ∷ OpLength ∷ EndExtra ∷ ScopeOpen ∷ TooDeep ∷ NotFormSet ∷ AfterFormSet ∷ OpOutside ∷ OpSize ∷ Misplaced ∷ ScopeBit ∷ ExprShape ∷ ExprDepth ∷ DuplicateForm ∷ DuplicateQuestion ∷ DuplicateVarstore ∷ UnknownVarstore ∷ FieldOutside ∷ OptionRange ∷ MixedOptions ∷ NoForm ∷ RuleTooLarge ∷ StoreMagic ∷ StoreCount ∷ StoreId ∷ StoreSize ∷ StoreShort ∷ StoreTrailing ∷ StoreFormSet ∷ OutOfMemory ∷ BadCommand ∷ LineTooLong ∷ ScriptTooLong ∷ FileTooLong ∷ BadHeader ∷ BadElement ∷ BadNumber ∷ ValueWidth ∷ []

abbrev with_number : ℕ → List Cause → Cause
with_number n [] = ListShort
with_number n (cause ∷ more) = if number_of cause == n then cause else with_number n more

by_number : (cause : Cause) → with_number (number_of cause) causes ≡ cause
by_number ListShort = refl
by_number ListLength = refl
by_number PackageLength = refl
by_number NoEnd = refl
by_number AfterEnd = refl
by_number NoForms = refl
by_number StringHeader = refl
by_number StringBlock = refl
by_number StringText = refl
by_number LanguageText = refl
by_number OpLength = refl
by_number EndExtra = refl
by_number ScopeOpen = refl
by_number TooDeep = refl
by_number NotFormSet = refl
by_number AfterFormSet = refl
by_number OpOutside = refl
by_number OpSize = refl
by_number Misplaced = refl
by_number ScopeBit = refl
by_number ExprShape = refl
by_number ExprDepth = refl
by_number DuplicateForm = refl
by_number DuplicateQuestion = refl
by_number DuplicateVarstore = refl
by_number UnknownVarstore = refl
by_number FieldOutside = refl
by_number OptionRange = refl
by_number MixedOptions = refl
by_number NoForm = refl
by_number RuleTooLarge = refl
by_number StoreMagic = refl
by_number StoreCount = refl
by_number StoreId = refl
by_number StoreSize = refl
by_number StoreShort = refl
by_number StoreTrailing = refl
by_number StoreFormSet = refl
by_number OutOfMemory = refl
by_number BadCommand = refl
by_number LineTooLong = refl
by_number ScriptTooLong = refl
by_number FileTooLong = refl
by_number BadHeader = refl
by_number BadElement = refl
by_number BadNumber = refl
by_number ValueWidth = refl

pub same_cause : (cause other : Cause) → number_of cause ≡ number_of other → cause ≡ other
same_cause cause other same = sym (by_number cause) ∙ ap (λ n. with_number n causes) same ∙ by_number other
