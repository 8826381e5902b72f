-- The causes of the code as those of the chapters (own rule).
use Rattle.std.specs.Prelude.{ℕ}
use Rattle.hii_bytes.specs.declared.cause.Cause.{Cause}
use Rattle.hii_bytes.specs.declared.cause.Cause.TheVariants.{ListShort, ListLength, PackageLength, NoEnd, AfterEnd}
use Rattle.hii_bytes.specs.declared.cause.Cause.TheVariants.{NoForms, StringHeader, StringBlock, StringText}
use Rattle.hii_bytes.specs.declared.cause.Cause.TheVariants.{LanguageText, OpLength, EndExtra, ScopeOpen, TooDeep}
use Rattle.hii_bytes.specs.declared.cause.Cause.TheVariants.{NotFormSet, AfterFormSet, OpOutside, OpSize, Misplaced}
use Rattle.hii_bytes.specs.declared.cause.Cause.TheVariants.{ScopeBit, ExprShape, ExprDepth, DuplicateForm}
use Rattle.hii_bytes.specs.declared.cause.Cause.TheVariants.{DuplicateQuestion, DuplicateVarstore, UnknownVarstore}
use Rattle.hii_bytes.specs.declared.cause.Cause.TheVariants.{FieldOutside, OptionRange, MixedOptions, NoForm}
use Rattle.hii_bytes.specs.declared.cause.Cause.TheVariants.{RuleTooLarge, StoreMagic, StoreCount, StoreId, StoreSize}
use Rattle.hii_bytes.specs.declared.cause.Cause.TheVariants.{StoreShort, StoreTrailing, StoreFormSet, OutOfMemory}
use Rattle.hii_bytes.specs.declared.cause.Cause.TheVariants.{BadCommand, LineTooLong, ScriptTooLong, FileTooLong}
use Rattle.hii_bytes.specs.declared.cause.Cause.TheVariants.{BadHeader, BadElement, BadNumber, ValueWidth}
use Rattle.browser_rules.specs.Words as chapter
use Rattle.browser_rules.specs.Faults.{Fault}

-- the cause of the chapters that has the name of a cause
abbrev pub cause_for : Cause → chapter.Cause
cause_for ListShort = chapter.ListShort
cause_for ListLength = chapter.ListLength
cause_for PackageLength = chapter.PackageLength
cause_for NoEnd = chapter.NoEnd
cause_for AfterEnd = chapter.AfterEnd
cause_for NoForms = chapter.NoForms
cause_for StringHeader = chapter.StringHeader
cause_for StringBlock = chapter.StringBlock
cause_for StringText = chapter.StringText
cause_for LanguageText = chapter.LanguageText
cause_for OpLength = chapter.OpLength
cause_for EndExtra = chapter.EndExtra
cause_for ScopeOpen = chapter.ScopeOpen
cause_for TooDeep = chapter.TooDeep
cause_for NotFormSet = chapter.NotFormSet
cause_for AfterFormSet = chapter.AfterFormSet
cause_for OpOutside = chapter.OpOutside
cause_for OpSize = chapter.OpSize
cause_for Misplaced = chapter.Misplaced
cause_for ScopeBit = chapter.ScopeBit
cause_for ExprShape = chapter.ExprShape
cause_for ExprDepth = chapter.ExprDepth
cause_for DuplicateForm = chapter.DuplicateForm
cause_for DuplicateQuestion = chapter.DuplicateQuestion
cause_for DuplicateVarstore = chapter.DuplicateVarstore
cause_for UnknownVarstore = chapter.UnknownVarstore
cause_for FieldOutside = chapter.FieldOutside
cause_for OptionRange = chapter.OptionRange
cause_for MixedOptions = chapter.MixedOptions
cause_for NoForm = chapter.NoForm
cause_for RuleTooLarge = chapter.RuleTooLarge
cause_for StoreMagic = chapter.StoreMagic
cause_for StoreCount = chapter.StoreCount
cause_for StoreId = chapter.StoreId
cause_for StoreSize = chapter.StoreSize
cause_for StoreShort = chapter.StoreShort
cause_for StoreTrailing = chapter.StoreTrailing
cause_for StoreFormSet = chapter.StoreFormSet
cause_for OutOfMemory = chapter.OutOfMemory
cause_for BadCommand = chapter.BadCommand
cause_for LineTooLong = chapter.LineTooLong
cause_for ScriptTooLong = chapter.ScriptTooLong
cause_for FileTooLong = chapter.FileTooLong
cause_for BadHeader = chapter.BadHeader
cause_for BadElement = chapter.BadElement
cause_for BadNumber = chapter.BadNumber
cause_for ValueWidth = chapter.ValueWidth

-- the fault of the chapters with a cause at a place
abbrev pub fault_for : Cause → ℕ → Fault
fault_for cause place = record { cause = cause_for cause; place = place }
