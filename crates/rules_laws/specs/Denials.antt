-- The denials of the code as those of the chapters.
use Rattle.std.specs.Prelude.{if◌then◌else◌, Some, None}
use Rattle.browser_rules.specs.Policy.{Denial as ChapterDenial}
use Rattle.browser_rules.specs.Questions as chapter
use Rattle.hii_values.specs.Denials.{has_text}
use Rattle.hii_values.specs.declared.denial.DenialKind.{DenialKind}
use Rattle.hii_values.specs.declared.denial.DenialKind.TheVariants.{DisableIf, SuppressIf, GrayOutIf, Locked, ReadOnly, Outside, Kind, Range, NoOption, Length, Repeat, EmptySet, BadText, InconsistentIf, NoSubmitIf, NoQuestion, NotRef, NotButton, NoRow, NoBack, DeepHistory, NoStore, NoField, Password}
use Rattle.guard_policy.specs.declared.denial.Denial.{Denial}

abbrev pub kind_for : DenialKind → chapter.DenialKind
kind_for DisableIf = chapter.DisableIf
kind_for SuppressIf = chapter.SuppressIf
kind_for GrayOutIf = chapter.GrayOutIf
kind_for Locked = chapter.Locked
kind_for ReadOnly = chapter.ReadOnly
kind_for Outside = chapter.Outside
kind_for Kind = chapter.Kind
kind_for Range = chapter.Range
kind_for NoOption = chapter.NoOption
kind_for Length = chapter.Length
kind_for Repeat = chapter.Repeat
kind_for EmptySet = chapter.EmptySet
kind_for BadText = chapter.BadText
kind_for InconsistentIf = chapter.InconsistentIf
kind_for NoSubmitIf = chapter.NoSubmitIf
kind_for NoQuestion = chapter.NoQuestion
kind_for NotRef = chapter.NotRef
kind_for NotButton = chapter.NotButton
kind_for NoRow = chapter.NoRow
kind_for NoBack = chapter.NoBack
kind_for DeepHistory = chapter.DeepHistory
kind_for NoStore = chapter.NoStore
kind_for NoField = chapter.NoField
kind_for Password = chapter.Password

-- a denial; its message counts where its kind is told with a text
abbrev pub denial_for : Denial → ChapterDenial
denial_for d =
    record {
      kind = kind_for d.kind;
      place = d.place;
      message = if has_text d.kind then Some d.message else None;
    }
