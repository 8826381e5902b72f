use Rattle.std.specs.Prelude.{◌≡◌, ◌++◌}
use Rattle.hii_languages.specs.code.Views.{chars_left}
use Rattle.survey_audit.specs.Finding.{small}
use Rattle.survey_audit.proofs.finding.shown_letters.Given as goal

-- the letters so far, and those that are left, are all
abbrev pub invariant-loop-letter : goal.invariant-loop-letter
invariant-loop-letter l = l.letters.items ++ small (chars_left l.text) ≡ small (chars_left l.fn.text)
