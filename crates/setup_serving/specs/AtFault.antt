-- What a run leaves by the chapter AtFault of `browser_rules`, where a reader or a writer fails (own rule).
use Rattle.std.specs.Prelude.{◌≡◌, ◌⊎◌, ℕ, List, Option, Some, None, ⊤}
use mathlib.Core.Logic.{inl, inr}
use Rattle.std.specs.Io.KnownBytes.{Appends}
use Rattle.hii_bytes.specs.Watching.{Pen}
use Rattle.browser_rules.specs.AtFault.{Leaves}
use Rattle.browser_rules.specs.Headline as chapter
use Rattle.setup_files.specs.declared.given.Given.{Given}
use Rattle.setup_serving.specs.Headline.{given_for}
use Rattle.setup_serving.specs.Serving.{Ends, IsRead, with_held}
use Rattle.setup_serving.specs.declared.serving.Ended.{Ended}
use Rattle.setup_serving.specs.declared.serving.Ended.TheVariants.{ReadScript, WriteAnswers, WriteOut}

-- The answers are what their writer was told: with what the buffer in front of it holds back, where it is the one that failed.
abbrev pub teller : chapter.Ended → Ends → Pen
teller chapter.WriteAnswers ends = with_held ends
teller _ ends = ends.answers

-- An image is written as far as it goes; where there is none, its writer stays as it was.
abbrev pub IsBegun : Option (List ℕ) → Pen → Pen → Type 0
IsBegun None old new = new ≡ old
IsBegun (Some image) old new = Appends old.known new.known image

-- So many bytes of the script were read, and the others are left.
pub record IsBroken (given : chapter.Given) (ended : chapter.Ended) (before after : Ends) : Type 0 where
  pub read : ℕ
  pub answers : List ℕ
  pub image : Option (List ℕ)
  pub script : IsRead given.script read after.script
  pub leaves :
      Leaves given read record { ended = ended; answers = answers; image = image } ended
  pub told : Appends before.answers.known (teller ended after).known answers
  pub left : IsBegun image before.out after.out

-- Where the answers fail at the line of a refusal, nothing of the script was read.
abbrev pub UnreadAtRefusal : {Refusal Line : Type 0} → ℕ → Refusal ⊎ Line → Type 0
UnreadAtRefusal read (inl _) = read ≡ 0
UnreadAtRefusal read (inr _) = ⊤

-- What was given and a script of known bytes leave what the chapter AtFault says, where a reader or a writer fails.
abbrev pub LeavesBytes : Given → List ℕ → Ends → Ended → Ends → Type 0
LeavesBytes given script before ReadScript after =
    IsBroken (given_for given script) chapter.ReadScript before after
LeavesBytes given script before WriteAnswers after =
    (broken : IsBroken (given_for given script) chapter.WriteAnswers before after)
    × UnreadAtRefusal broken.read broken.leaves.1
LeavesBytes given script before WriteOut after =
    IsBroken (given_for given script) chapter.WriteImage before after
LeavesBytes given script before _ after = ⊤
