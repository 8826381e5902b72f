-- What a run of the program leaves in its answers and its image, where no file, reader or writer fails (own rule). What
-- is left where one does, and which conditions are evaluated anew, are promises of their own.
use Rattle.std.specs.Prelude.{ℕ, ◌≡◌, ◌⊎◌, if◌then◌else◌, Option, Some, None, option_map, unwrap_or, List, [], ◌∷◌}
use Rattle.std.specs.Prelude.{◌++◌}
use Rattle.std.specs.List.{find}
use Rattle.browser_rules.specs.Words.{ScriptTooLong, OutOfMemory, refused_text, refused_at_text}
use Rattle.browser_rules.specs.Opcodes.{FORM}
use Rattle.browser_rules.specs.Forest.{nodes_of}
use Rattle.browser_rules.specs.Nodes.{is}
use Rattle.browser_rules.specs.Packages.{forms_bytes, device_path}
use Rattle.browser_rules.specs.Strings.{spoken_in, chosen}
use Rattle.browser_rules.specs.Stores.{Stores, Shape, shape_of, SpellsImage, image_of}
use Rattle.browser_rules.specs.Policy.{removed_at}
use Rattle.browser_rules.specs.Script.{lines_run, is_too_long}
use Rattle.browser_rules.specs.Session.{State, step_line}
use Rattle.browser_rules.specs.Faults.{Fault, IsLeast, open_faults}

-- ---- where a session begins: over the image's stores, in the first form by place, with the string package for the
-- language, and with those DISABLE_IFs removed that are met over the stores

abbrev pub start : List ℕ → ℕ → List ℕ → Stores → State
start list n language stores =
    let ns = nodes_of (forms_bytes list n) in
    record {
      ifr = forms_bytes list n;
      path = device_path list;
      removed = removed_at ns stores;
      spoken = spoken_in list;
      language = chosen (spoken_in list) language;
      committed = stores;
      working = stores;
      form = unwrap_or (option_map (λ form. form.place) (find (is FORM) ns)) 0;
      history = [];
    }

-- ---- what the lines of a script leave, and their answers

abbrev pub after_lines : State → List (List ℕ) → State
after_lines s [] = s
after_lines s (line ∷ lines) = after_lines (step_line s line).state lines

abbrev pub text_of_lines : State → List (List ℕ) → List ℕ
text_of_lines s [] = []
text_of_lines s (line ∷ lines) = (step_line s line).text ++ text_of_lines (step_line s line).state lines

abbrev pub text_of_script : State → List ℕ → List ℕ
text_of_script s script =
    text_of_lines s (lines_run script) ++ (if is_too_long script then refused_text ScriptTooLong else [])

-- ---- the headline: a list, the number of a forms package in it, an image, a language and a script give answers and an
-- image or none, and a status: 0 done, 1 refused, 3 a fault of a reader or writer, 4 no memory

pub record Given : Type 0 where
  pub list : List ℕ
  pub number : ℕ
  pub image : List ℕ
  pub language : List ℕ
  pub script : List ℕ

pub data Ended : Type 0 where
  Done Refused ReadScript WriteAnswers WriteImage NoMemory : Ended

abbrev pub status_of : Ended → ℕ
status_of Done = 0
status_of Refused = 1
status_of NoMemory = 4
status_of _ = 3

pub record Served : Type 0 where
  pub ended : Ended
  pub answers : List ℕ
  pub image : Option (List ℕ)

abbrev pub shape : Given → Shape
shape given = shape_of (nodes_of (forms_bytes given.list given.number))

abbrev pub begins : Given → Stores → State
begins given stores = start given.list given.number given.language stores

-- What has no fault opens a session over the stores that the image spells.
pub record IsOpen (given : Given) (stores : Stores) : Type 0 where
  pub sound : open_faults given.list given.number given.image ≡ []
  pub spelled : SpellsImage (shape given) given.image stores

-- the image of the stores that the script has submitted last
abbrev pub image_left : Given → Stores → List ℕ
image_left given stores =
    image_of (shape given).guid (after_lines (begins given stores) (lines_run given.script)).committed

-- The answers are those of the script. One that is too long leaves no image.
pub record Runs (given : Given) (served : Served) : Type 0 where
  pub stores : Stores
  pub opened : IsOpen given stores
  pub answers : served.answers ≡ text_of_script (begins given stores) given.script
  pub ended : served.ended ≡ (if is_too_long given.script then Refused else Done)
  pub image : served.image ≡ (if is_too_long given.script then None else Some (image_left given stores))

-- What has faults is refused by the least.
pub record IsRefused (given : Given) (served : Served) : Type 0 where
  pub fault : Fault
  pub least : IsLeast (open_faults given.list given.number given.image) fault
  pub answers : served.answers ≡ refused_at_text fault.cause fault.place
  pub ended : served.ended ≡ Refused
  pub image : served.image ≡ None

-- An allocation failed. That this is told only where one did is not said here; it is tested.
pub record HasNoMemory (served : Served) : Type 0 where
  pub answers : served.answers ≡ refused_text OutOfMemory
  pub ended : served.ended ≡ NoMemory
  pub image : served.image ≡ None

abbrev pub Serves : Given → Served → Type 0
Serves given served = Runs given served ⊎ IsRefused given served ⊎ HasNoMemory served
