use Rattle.std.proofs.Common.{sym, ap}
use Rattle.hii_bytes.specs.Cause.{name_of}
use Rattle.hii_bytes.proofs.cause.Cause.name.Goals as goal

pub returns-in-ListShort : goal.returns-in-ListShort
returns-in-ListShort c = sym (ap name_of c.in-ListShort.is)

pub returns-in-ListLength : goal.returns-in-ListLength
returns-in-ListLength c = sym (ap name_of c.in-ListLength.is)

pub returns-in-PackageLength : goal.returns-in-PackageLength
returns-in-PackageLength c = sym (ap name_of c.in-PackageLength.is)

pub returns-in-NoEnd : goal.returns-in-NoEnd
returns-in-NoEnd c = sym (ap name_of c.in-NoEnd.is)

pub returns-in-AfterEnd : goal.returns-in-AfterEnd
returns-in-AfterEnd c = sym (ap name_of c.in-AfterEnd.is)

pub returns-in-NoForms : goal.returns-in-NoForms
returns-in-NoForms c = sym (ap name_of c.in-NoForms.is)

pub returns-in-StringHeader : goal.returns-in-StringHeader
returns-in-StringHeader c = sym (ap name_of c.in-StringHeader.is)

pub returns-in-StringBlock : goal.returns-in-StringBlock
returns-in-StringBlock c = sym (ap name_of c.in-StringBlock.is)

pub returns-in-StringText : goal.returns-in-StringText
returns-in-StringText c = sym (ap name_of c.in-StringText.is)

pub returns-in-LanguageText : goal.returns-in-LanguageText
returns-in-LanguageText c = sym (ap name_of c.in-LanguageText.is)

pub returns-in-OpLength : goal.returns-in-OpLength
returns-in-OpLength c = sym (ap name_of c.in-OpLength.is)

pub returns-in-EndExtra : goal.returns-in-EndExtra
returns-in-EndExtra c = sym (ap name_of c.in-EndExtra.is)

pub returns-in-ScopeOpen : goal.returns-in-ScopeOpen
returns-in-ScopeOpen c = sym (ap name_of c.in-ScopeOpen.is)

pub returns-in-TooDeep : goal.returns-in-TooDeep
returns-in-TooDeep c = sym (ap name_of c.in-TooDeep.is)

pub returns-in-NotFormSet : goal.returns-in-NotFormSet
returns-in-NotFormSet c = sym (ap name_of c.in-NotFormSet.is)

pub returns-in-AfterFormSet : goal.returns-in-AfterFormSet
returns-in-AfterFormSet c = sym (ap name_of c.in-AfterFormSet.is)

pub returns-in-OpOutside : goal.returns-in-OpOutside
returns-in-OpOutside c = sym (ap name_of c.in-OpOutside.is)

pub returns-in-OpSize : goal.returns-in-OpSize
returns-in-OpSize c = sym (ap name_of c.in-OpSize.is)

pub returns-in-Misplaced : goal.returns-in-Misplaced
returns-in-Misplaced c = sym (ap name_of c.in-Misplaced.is)

pub returns-in-ScopeBit : goal.returns-in-ScopeBit
returns-in-ScopeBit c = sym (ap name_of c.in-ScopeBit.is)

pub returns-in-ExprShape : goal.returns-in-ExprShape
returns-in-ExprShape c = sym (ap name_of c.in-ExprShape.is)

pub returns-in-ExprDepth : goal.returns-in-ExprDepth
returns-in-ExprDepth c = sym (ap name_of c.in-ExprDepth.is)

pub returns-in-DuplicateForm : goal.returns-in-DuplicateForm
returns-in-DuplicateForm c = sym (ap name_of c.in-DuplicateForm.is)

pub returns-in-DuplicateQuestion : goal.returns-in-DuplicateQuestion
returns-in-DuplicateQuestion c = sym (ap name_of c.in-DuplicateQuestion.is)

pub returns-in-DuplicateVarstore : goal.returns-in-DuplicateVarstore
returns-in-DuplicateVarstore c = sym (ap name_of c.in-DuplicateVarstore.is)

pub returns-in-UnknownVarstore : goal.returns-in-UnknownVarstore
returns-in-UnknownVarstore c = sym (ap name_of c.in-UnknownVarstore.is)

pub returns-in-FieldOutside : goal.returns-in-FieldOutside
returns-in-FieldOutside c = sym (ap name_of c.in-FieldOutside.is)

pub returns-in-OptionRange : goal.returns-in-OptionRange
returns-in-OptionRange c = sym (ap name_of c.in-OptionRange.is)

pub returns-in-MixedOptions : goal.returns-in-MixedOptions
returns-in-MixedOptions c = sym (ap name_of c.in-MixedOptions.is)

pub returns-in-NoForm : goal.returns-in-NoForm
returns-in-NoForm c = sym (ap name_of c.in-NoForm.is)

pub returns-in-RuleTooLarge : goal.returns-in-RuleTooLarge
returns-in-RuleTooLarge c = sym (ap name_of c.in-RuleTooLarge.is)

pub returns-in-StoreMagic : goal.returns-in-StoreMagic
returns-in-StoreMagic c = sym (ap name_of c.in-StoreMagic.is)

pub returns-in-StoreCount : goal.returns-in-StoreCount
returns-in-StoreCount c = sym (ap name_of c.in-StoreCount.is)

pub returns-in-StoreId : goal.returns-in-StoreId
returns-in-StoreId c = sym (ap name_of c.in-StoreId.is)

pub returns-in-StoreSize : goal.returns-in-StoreSize
returns-in-StoreSize c = sym (ap name_of c.in-StoreSize.is)

pub returns-in-StoreShort : goal.returns-in-StoreShort
returns-in-StoreShort c = sym (ap name_of c.in-StoreShort.is)

pub returns-in-StoreTrailing : goal.returns-in-StoreTrailing
returns-in-StoreTrailing c = sym (ap name_of c.in-StoreTrailing.is)

pub returns-in-StoreFormSet : goal.returns-in-StoreFormSet
returns-in-StoreFormSet c = sym (ap name_of c.in-StoreFormSet.is)

pub returns-in-OutOfMemory : goal.returns-in-OutOfMemory
returns-in-OutOfMemory c = sym (ap name_of c.in-OutOfMemory.is)

pub returns-in-BadCommand : goal.returns-in-BadCommand
returns-in-BadCommand c = sym (ap name_of c.in-BadCommand.is)

pub returns-in-LineTooLong : goal.returns-in-LineTooLong
returns-in-LineTooLong c = sym (ap name_of c.in-LineTooLong.is)

pub returns-in-ScriptTooLong : goal.returns-in-ScriptTooLong
returns-in-ScriptTooLong c = sym (ap name_of c.in-ScriptTooLong.is)

pub returns-in-FileTooLong : goal.returns-in-FileTooLong
returns-in-FileTooLong c = sym (ap name_of c.in-FileTooLong.is)

pub returns-in-BadHeader : goal.returns-in-BadHeader
returns-in-BadHeader c = sym (ap name_of c.in-BadHeader.is)

pub returns-in-BadElement : goal.returns-in-BadElement
returns-in-BadElement c = sym (ap name_of c.in-BadElement.is)

pub returns-in-BadNumber : goal.returns-in-BadNumber
returns-in-BadNumber c = sym (ap name_of c.in-BadNumber.is)

pub returns-in-ValueWidth : goal.returns-in-ValueWidth
returns-in-ValueWidth c = sym (ap name_of c.in-ValueWidth.is)
