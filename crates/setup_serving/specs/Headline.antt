-- What a run leaves by the chapter Headline of `browser_rules` (own rule).
use Rattle.std.specs.Prelude.{◌≡◌, ℕ, List, Option, Some, None, ⊤}
use Rattle.hii_bytes.specs.Watching.{Pen}
use Rattle.browser_rules.specs.Headline as chapter
use Rattle.setup_files.specs.declared.given.Given.{Given}
use Rattle.setup_serving.specs.Serving.{Ends, IsWritten}
use Rattle.setup_serving.specs.declared.serving.Ended.{Ended}
use Rattle.setup_serving.specs.declared.serving.Ended.TheVariants.{Done, Refused, NoMemory}

-- the bytes that are given, and those of a script
abbrev pub given_for : Given → List ℕ → chapter.Given
given_for given script = record {
  list = given.list.now;
  number = given.forms;
  image = given.stores.now;
  language = given.lang.now;
  script = script;
}

-- An image is written whole; where there is none, its writer stays as it was.
abbrev pub IsLeft : Option (List ℕ) → Pen → Pen → Type 0
IsLeft None old new = new ≡ old
IsLeft (Some image) old new = IsWritten old new image

-- The answers are written whole, and so is the image, if there is one.
pub record IsServed (given : chapter.Given) (ended : chapter.Ended) (before after : Ends) : Type 0 where
  pub answers : List ℕ
  pub image : Option (List ℕ)
  pub serves : chapter.Serves given record { ended = ended; answers = answers; image = image }
  pub told : IsWritten before.answers after.answers answers
  pub left : IsLeft image before.out after.out

-- What was given and a script of known bytes leave what the chapter Headline says, where nothing fails.
abbrev pub ServesBytes : Given → List ℕ → Ends → Ended → Ends → Type 0
ServesBytes given script before Done after =
    IsServed (given_for given script) chapter.Done before after
ServesBytes given script before Refused after =
    IsServed (given_for given script) chapter.Refused before after
ServesBytes given script before NoMemory after =
    IsServed (given_for given script) chapter.NoMemory before after
ServesBytes given script before _ after = ⊤
