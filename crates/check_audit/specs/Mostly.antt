-- What a fault mostly comes from, by its cause (own rule).
use Rattle.std.specs.Prelude.{ℕ, ◌==◌, if◌then◌else◌, Bool, false, Option, Some, None, List, codes}
use Rattle.browser_rules.specs.Opcodes.{number}
use Rattle.hii_bytes.specs.declared.cause.Cause.{Cause}
use Rattle.hii_bytes.specs.declared.cause.Cause.TheVariants.{AfterEnd, NoForms, StringBlock, TooDeep, AfterFormSet, OpOutside, Misplaced, ExprDepth, DuplicateQuestion, OptionRange, MixedOptions, NoForm, RuleTooLarge}
use Rattle.ifr_opcodes.specs.declared.codes.TheConstants.{GUID}

abbrev pub a_limit : List ℕ
a_limit = codes "a limit of setup; the list may be valid"

abbrev pub mostly_of : Cause → List ℕ
mostly_of AfterEnd = codes "bytes behind the end package, which the standard does not judge"
mostly_of NoForms = codes "a list of string packages alone"
mostly_of StringBlock = codes "compressed texts (SCSU, blocks 0x10 to 0x13): build the list with texts of two bytes a character"
mostly_of TooDeep = a_limit
mostly_of AfterFormSet = codes "a second form set in one forms package: give it a package of its own"
mostly_of OpOutside = codes "an opcode whose effect is not judged here"
mostly_of Misplaced = codes "an opcode where its effect would not be judged"
mostly_of ExprDepth = a_limit
mostly_of DuplicateQuestion = codes "a driver that gives buttons (ACTION) of several forms one id: give the later ones unused ids in a copy"
mostly_of OptionRange = codes "an option that does not fit its question, which the standard does not judge"
mostly_of MixedOptions = codes "options of two Types, which the standard does not judge"
mostly_of NoForm = codes "a REF to a form that the driver adds at run time: export the list from the running system"
mostly_of RuleTooLarge = a_limit
mostly_of _ = codes "a list that breaks the standard"

abbrev pub is_guid : Option (List ℕ) → Bool
is_guid None = false
is_guid (Some op) = number op == GUID

-- the same of a fault at which an opcode stands, if one does
abbrev pub mostly_at : Cause → Option (List ℕ) → List ℕ
mostly_at OpOutside op =
    if is_guid op then codes "a GUID with Scope, as EDK2 writes for bit fields, which is not judged here"
    else mostly_of OpOutside
mostly_at cause op = mostly_of cause
