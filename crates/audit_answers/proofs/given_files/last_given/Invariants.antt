use Rattle.std.proofs.Common.{◌≡◌, take}
use Rattle.std.specs.Option.{option_copied}
use Rattle.audit_answers.specs.GivenFiles.{last_given}
use Rattle.audit_answers.proofs.given_files.last_given.Given as goal

-- the last of the files so far
abbrev pub invariant-loop-file : goal.invariant-loop-file
invariant-loop-file l = option_copied l.last ≡ last_given (take l.file-index l.files) l.id
