-- How denials are named, and which are told with a text (own rule).
use Rattle.std.specs.Prelude.{ℕ, Bool, true, false, List, codes}
use Rattle.hii_values.specs.declared.denial.DenialKind.{DenialKind}
use Rattle.hii_values.specs.declared.denial.DenialKind.TheVariants.{DisableIf, SuppressIf, GrayOutIf, Locked, ReadOnly, Outside, Kind, Range, NoOption, Length, Repeat, EmptySet, BadText, InconsistentIf, NoSubmitIf, NoQuestion, NotRef, NotButton, NoRow, NoBack, DeepHistory, NoStore, NoField, Password}

abbrev pub kind_name : DenialKind → List ℕ
kind_name DisableIf = codes "disableif"
kind_name SuppressIf = codes "suppressif"
kind_name GrayOutIf = codes "grayoutif"
kind_name Locked = codes "locked"
kind_name ReadOnly = codes "readonly"
kind_name Outside = codes "outside"
kind_name Kind = codes "kind"
kind_name Range = codes "range"
kind_name NoOption = codes "nooption"
kind_name Length = codes "length"
kind_name Repeat = codes "repeat"
kind_name EmptySet = codes "emptyset"
kind_name BadText = codes "badtext"
kind_name InconsistentIf = codes "inconsistentif"
kind_name NoSubmitIf = codes "nosubmitif"
kind_name NoQuestion = codes "noquestion"
kind_name NotRef = codes "notref"
kind_name NotButton = codes "notbutton"
kind_name NoRow = codes "norow"
kind_name NoBack = codes "noback"
kind_name DeepHistory = codes "deephistory"
kind_name NoStore = codes "nostore"
kind_name NoField = codes "nofield"
kind_name Password = codes "password"

-- whether a denial of a kind is told with the text of the opcode that decides
abbrev pub has_text : DenialKind → Bool
has_text InconsistentIf = true
has_text NoSubmitIf = true
has_text _ = false
