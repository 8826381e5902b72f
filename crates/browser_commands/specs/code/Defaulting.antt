-- What the questions of a form leave that take their defaults.
use Rattle.std.specs.Prelude.{◌≡◌, ℕ, Bool, if◌then◌else◌, List, [], ◌∷◌, ◌++◌, length, filter}
use Rattle.ifr_opcodes.specs.Forest.{Node}
use Rattle.ifr_nodes.specs.Nodes.{nodes_of, is_question}
use Rattle.hii_varstore.specs.Stores.{StoreMap, shape_of}
use Rattle.hii_questions.specs.Answers.{answers}
use Rattle.hii_languages.specs.code.Views.{choice_of}
use Rattle.ifr_defaults.specs.Defaults as defaults
use Rattle.ifr_defaults.specs.code.Views.{sources_of}
use Rattle.guard_policy.specs.code.Views.{bytes_of}
use Rattle.kept_conditions.specs.Kept.{KeptMap}
use Rattle.session_steps.specs.Renewed.{field_write, field_writes}
use Rattle.session_steps.specs.State.{State}
use Rattle.session_steps.specs.Step.{Taken, take_default, take_each}
use Rattle.browser_commands.specs.code.Changing.{IsOver}
use Rattle.browser_commands.specs.code.Counting.{counted_all}
use Rattle.browser_commands.specs.declared.sources.Sources.{Sources}

-- the nodes of the package, and what its defaults are taken from over some stores
abbrev pub nodes_in : Sources → List Node
nodes_in it = nodes_of (bytes_of it.policy)

abbrev pub sources_over : Sources → StoreMap → defaults.Sources
sources_over it stores =
    sources_of (bytes_of it.policy) (answers (nodes_in it) stores) it.languages.now
    (choice_of it.language)

-- The sources are those of a session, and these are its working stores.
pub record AreOver (it : Sources) (working : StoreMap) (s : State) : Type 0 where
  pub over : IsOver it.policy working s
  pub spoken : it.languages.now ≡ s.spoken
  pub language : choice_of it.language ≡ s.language

-- a statement takes its default, where it is a question
abbrev pub take_statement : ℕ → Taken → Node → Taken
take_statement class t n = if is_question n then take_default class t n else t

-- What a statement leaves that takes its default, and whether it took one.
pub record TakesDefault (it : Sources) (class : ℕ) (n : Node) (old new : KeptMap)
    (took : Bool) : Type 0 where
  pub leaves : (s : State) (qs : List Node) → AreOver it old.stores s
      → take_statement class record { state = s; questions = qs } n
      ≡ record { state = record s { working = new.stores }; questions = if took then qs ++ n ∷ [] else qs }
  pub renewed : new.renewed
      ≡ counted_all old.renewed (nodes_in it) (if took then field_write (nodes_in it) n else [])
  pub same_package : new.ifr ≡ old.ifr
  pub shape : shape_of new.stores ≡ shape_of old.stores

-- What statements leave of which so many have taken their defaults, each over what those before it have left, and these
-- are left to do so.
pub record TakeDefaults (it : Sources) (class : ℕ) (ns left : List Node) (old new : KeptMap)
    (count : ℕ) : Type 0 where
  pub questions : List Node
  pub counted : length questions ≡ count
  pub leaves : (s : State) → AreOver it old.stores s
      → take_each class record { state = s; questions = [] } (filter is_question ns)
      ≡ take_each class record { state = record s { working = new.stores }; questions = questions }
      (filter is_question left)
  pub renewed : new.renewed ≡ counted_all old.renewed (nodes_in it) (field_writes (nodes_in it) questions)
  pub same_package : new.ifr ≡ old.ifr
  pub shape : shape_of new.stores ≡ shape_of old.stores
