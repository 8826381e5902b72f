-- What the steps of a change of stores come to.
use Rattle.std.specs.Prelude.{◌≡◌, ℕ, true, false, List, [], ◌∷◌, ◌++◌, length, map, take, Option, Some, None, Result, Ok, Err, IfOk}
use Rattle.std.specs.List.{AllByRecursion}
use Rattle.browser_rules.specs.Configuration.{Block}
use Rattle.ifr_opcodes.specs.Forest.{Node}
use Rattle.ifr_opcodes.specs.Opcode.{has_scope}
use Rattle.ifr_nodes.specs.Nodes.{nodes_of}
use Rattle.ifr_scopes.specs.declared.around.Around.{Around}
use Rattle.hii_varstore.specs.Layout.{Shape}
use Rattle.hii_varstore.specs.code.Ranges.{HasRange}
use Rattle.hii_varstore.specs.Stores.{bytes_of_field, byte_of, StoreMap, shape_of, with_bytes}
use Rattle.hii_values.specs.Types.{is_password}
use Rattle.hii_values.specs.Inputs.{Offer}
use Rattle.hii_questions.specs.Fields as fields
use Rattle.hii_questions.specs.Fields.{Asked}
use Rattle.hii_questions.specs.code.Checks.{range_of}
use Rattle.hii_questions.specs.code.NewBytes.{new_bytes}
use Rattle.hii_questions.specs.code.Views.{question_node, question_view}
use Rattle.hii_questions.specs.declared.field.Field.{Field}
use Rattle.hii_questions.specs.declared.question.Question.{Question}
use Rattle.guard_policy.specs.Policy.{fixed, inconsistent}
use Rattle.guard_policy.specs.code.Answers.{unless}
use Rattle.guard_policy.specs.code.Surroundings.{IsAroundNode, answer_of}
use Rattle.guard_policy.specs.code.Views.{bytes_of, world}
use Rattle.guard_policy.specs.declared.denial.Denial.{Denial}
use Rattle.guard_policy.specs.declared.policy.Policy.{Policy}
use Rattle.config_text.specs.code.BlocksLeft.{blocks_left}
use Rattle.hii_questions.specs.declared.field_range.FieldRange.{FieldRange}
use Rattle.kept_conditions.specs.Kept.{KeptMap, written}
use Rattle.kept_conditions.specs.code.Invalidation.{LiesWithin}
use Rattle.kept_conditions.specs.code.Cache.{put_in}
use Rattle.kept_conditions.specs.Touching.{difference, range_of_field}
use Rattle.session_steps.specs.Configuration.{block_field, question_of_field}
use Rattle.session_steps.specs.Renewed.{written_by}
use Rattle.session_steps.specs.State.{State, world_of, world_with}
use Rattle.session_steps.specs.Step.{Outcome, accepted, denied, warned_text, set_question, set_unless_fixed, set_unless_forbidden, set_field, set_block, set_blocks}
use Rattle.session_steps.specs.Texts.{ok_text}
use Rattle.session_steps.specs.Opening.{layout_in, IsBrowsable}
use Rattle.browser_commands.specs.code.Counting.{counted_all}
use Rattle.browser_commands.specs.code.Standing.{IsQuestionIn}
use Rattle.browser_commands.specs.declared.blocks.BlockFields.{BlockFields}

-- The policy is that of a session, and these are its working stores.
pub record IsOver (policy : Policy) (working : StoreMap) (s : State) : Type 0 where
  pub ifr : bytes_of policy ≡ s.ifr
  pub removed : policy.removed.now ≡ s.removed
  pub working_is : working ≡ s.working

-- Two maps of stores hold the same byte in a place.
abbrev pub AgreeAt : StoreMap → StoreMap → ℕ → ℕ → Type 0
AgreeAt a b store at = byte_of a store at ≡ byte_of b store at

-- What a question that is not fixed takes: new bytes that fill a range of their store, which its INCONSISTENT_IFs may forbid; or why
-- it does not take it.
abbrev pub TakesField : Policy → StoreMap → Asked → Offer → Result Field Denial → Type 0
TakesField policy working q offer (Ok new) =
    HasRange (shape_of working) new.store new.offset new.width
    × (length (new_bytes new) ≡ new.width)
    × (q.field ≡ Some (range_of new))
    × ((s : State) → IsOver policy working s → set_unless_fixed s q.node offer None
    ≡ set_unless_forbidden s (with_bytes working new.store new.offset (new_bytes new)) q.node
    (inconsistent (world_with s (with_bytes working new.store new.offset (new_bytes new))) q.node))
TakesField policy working q offer (Err denial) =
    (s : State) → IsOver policy working s → set_unless_fixed s q.node offer None ≡ denied s denial

-- These are the bytes of a question's field, if it has one.
abbrev pub IsHeld : StoreMap → Asked → List ℕ → Type 0
IsHeld stores q bytes =
    (f : fields.Field) → q.field ≡ Some f
    → bytes_of_field stores f.store f.offset f.width ≡ Some bytes

-- These are they, if the question opens a scope, in which an INCONSISTENT_IF may stand: where that holds, they are put back.
abbrev pub GoesBack : StoreMap → Asked → List ℕ → Type 0
GoesBack stores q bytes = has_scope q.node.op ≡ true → IsHeld stores q bytes

-- The package that a policy decides over can be browsed, and these stores are its own.
pub record IsBrowsed (policy : Policy) (working : KeptMap) : Type 0 where
  pub browsable : IsBrowsable (bytes_of policy)
  pub its_package : working.ifr ≡ bytes_of policy
  pub laid : shape_of working.stores ≡ layout_in (bytes_of policy)

-- The question is one of the package that is browsed, is not fixed over these stores, and this stands around it.
pub record IsFreeQuestion (policy : Policy) (working : KeptMap) (q : Question) (near : Around) : Type 0 where
  pub browsed : IsBrowsed policy working
  pub question : IsQuestionIn (bytes_of policy) (question_view q)
  pub around : IsAroundNode (bytes_of policy) (question_node q) near
  pub free : fixed (world policy working.stores) (question_node q) ≡ None

-- The stores after a set that comes to an outcome, with the conditions counted that the question's field touches; or why it is
-- denied, and nothing is changed.
abbrev pub SetsTo : (State → Outcome) → Policy → Asked → KeptMap → KeptMap → Result Field Denial → Type 0
SetsTo outcome policy q old new (Ok field) =
    (new ≡ put_in old field)
    × (length (new_bytes field) ≡ field.width)
    × (q.field ≡ Some (range_of field))
    × ((s : State) → IsOver policy old.stores s → outcome s
    ≡ accepted (record s { working = new.stores }) (ok_text ++ warned_text s new.stores q.node))
    × HasRange (shape_of old.stores) field.store field.offset field.width
SetsTo outcome policy q old new (Err denial) =
    (new ≡ old) × ((s : State) → IsOver policy old.stores s → outcome s ≡ denied s denial)

-- So it is with a question that is not fixed,
abbrev pub SetsValue : Policy → Asked → Offer → KeptMap → KeptMap → Result Field Denial → Type 0
SetsValue policy q offer old new result =
    SetsTo (λ s. set_unless_fixed s q.node offer None) policy q old new result

-- and with one that may be.
abbrev pub SetsQuestion : Policy → Asked → Offer → KeptMap → KeptMap → Result Field Denial → Type 0
SetsQuestion policy q offer old new result =
    SetsTo (λ s. set_question s (Some q.node) offer) policy q old new result

-- So it is with one that may be, where new bytes fill some field.
abbrev pub GivesValue : Policy → Asked → Offer → KeptMap → KeptMap → Result (Unit {0}) Denial → Type 0
GivesValue policy q offer old new (Ok done) = (field : Field) × SetsQuestion policy q offer old new (Ok field)
GivesValue policy q offer old new (Err denial) = SetsQuestion policy q offer old new (Err denial)

-- ---- blocks of configuration texts

-- the field of a block as the code tells it
abbrev pub range_of_block : ℕ → Block → FieldRange
range_of_block store block = record { store = store; offset = block.offset; width = block.width }

-- A question of the package has this field.
abbrev pub IsOfField : List ℕ → fields.Field → Asked → Type 0
IsOfField ifr field q = IsQuestionIn ifr q × (q.field ≡ Some field)

-- the question that a block with a field sets, over some stores
abbrev pub set_over : Policy → StoreMap → fields.Field → Option Node
set_over policy working field =
    question_of_field (world policy working) (nodes_of (bytes_of policy)) field

-- The question that a block with a field sets, and what stands around it, or what fixes it.
abbrev pub FirstChoice : Policy → StoreMap → fields.Field
    → Option (Question × Result Around Denial) → Type 0
FirstChoice policy working field None = set_over policy working field ≡ None
FirstChoice policy working field (Some (question, free)) =
    IsOfField (bytes_of policy) field (question_view question)
    × (set_over policy working field ≡ Some (question_node question))
    × (answer_of free ≡ unless (fixed (world policy working) (question_node question)))
    × IfOk free (IsAroundNode (bytes_of policy) (question_node question))

-- The question that a block with a field sets, which is not fixed and no password, with what stands around it; or why none is set.
abbrev pub Chooses : Policy → StoreMap → fields.Field → Result (Question × Around) Denial → Type 0
Chooses policy working field (Ok (question, around)) =
    IsOfField (bytes_of policy) field (question_view question)
    × (set_over policy working field ≡ Some (question_node question))
    × (is_password (question_node question) ≡ false)
    × (fixed (world policy working) (question_node question) ≡ None)
    × IsAroundNode (bytes_of policy) (question_node question) around
Chooses policy working field (Err denial) =
    (s : State) (bytes : List ℕ) → IsOver policy working s
    → set_field s (question_of_field (world_of s) (nodes_of s.ifr) field) bytes ≡ denied s denial

-- The stores after a block, which differ in its field alone, with the conditions counted that it touches; or why it is denied, and
-- nothing is changed.
abbrev pub SetsBlock : Policy → ℕ → Block → KeptMap → KeptMap → Result (Unit {0}) Denial → Type 0
SetsBlock policy store block old new (Ok done) =
    HasRange (shape_of old.stores) store block.offset block.width
    × (new ≡ written old (range_of_field (block_field store block)) new.stores)
    × (shape_of new.stores ≡ shape_of old.stores)
    × ((other at : ℕ) → (LiesWithin (range_of_block store block) other at → ⊥)
    → AgreeAt new.stores old.stores other at)
    × ((s : State) → IsOver policy old.stores s → (text : List ℕ) × (n : Node)
    × (set_block s store block ≡ accepted (record s { working = new.stores }) text)
    × (question_of_field (world_of s) (nodes_of s.ifr) (block_field store block) ≡ Some n)
    × (fields.field_of (nodes_of s.ifr) n ≡ Some (block_field store block)))
SetsBlock policy store block old new (Err denial) =
    (new ≡ old)
    × ((s : State) → IsOver policy old.stores s → set_block s store block ≡ denied s denial)

-- Each of some blocks lies in a store.
abbrev pub HaveRanges : Shape → ℕ → List Block → Type 0
HaveRanges shape store blocks =
    AllByRecursion (λ block. HasRange shape store block.offset block.width) blocks

-- A byte lies in none of some blocks.
abbrev pub NoneHasByte : ℕ → List Block → ℕ → ℕ → Type 0
NoneHasByte store blocks other at =
    AllByRecursion (λ block. LiesWithin (range_of_block store block) other at → ⊥) blocks

-- Stores that were as others outside of some blocks of a store are so everywhere.
pub record CopiesBlocks (store : ℕ) (blocks : List Block) (from old new : StoreMap) : Type 0 where
  pub shape : shape_of new ≡ shape_of old
  pub alike : (other at : ℕ) → (NoneHasByte store blocks other at → AgreeAt old from other at)
      → AgreeAt new from other at

-- the fields of blocks that are left
abbrev pub fields_left : BlockFields → List FieldRange
fields_left it = map (range_of_block it.store) (take it.count (blocks_left it.blocks))

-- What some blocks come to: so many are set, or one is denied.
abbrev pub BlocksGive : Policy → ℕ → List Block → KeptMap → KeptMap → Result ℕ Denial → Type 0
BlocksGive policy store blocks working now (Ok count) =
    (count ≡ length blocks)
    × ((before s : State) (text : List ℕ) → IsOver policy working.stores s
    → (set_blocks before text store s blocks ≡ accepted (record s { working = now.stores }) text)
    × (now.renewed ≡ counted_all working.renewed (nodes_of s.ifr)
    (written_by s store blocks).writes))
BlocksGive policy store blocks working now (Err denial) =
    (now.stores ≡ working.stores)
    × ((before s : State) (text : List ℕ) → IsOver policy working.stores s
    → (set_blocks before text store s blocks ≡ denied before denial)
    × (now.renewed ≡ counted_all working.renewed (nodes_of s.ifr)
    ((written_by s store blocks).writes
    ++ difference (written_by s store blocks).state.working working.stores ∷ [])))

-- The stores after some blocks, which the spare ones follow; or why one is denied.
pub record SetsBlocks (policy : Policy) (store : ℕ) (blocks : List Block) (working now : KeptMap)
    (kept : StoreMap) (result : Result ℕ Denial) : Type 0 where
  pub same_package : now.ifr ≡ working.ifr
  pub shape : shape_of now.stores ≡ shape_of working.stores
  pub kept_shape : shape_of kept ≡ shape_of working.stores
  pub alike : (other at : ℕ) → AgreeAt now.stores kept other at
  pub gives : BlocksGive policy store blocks working now result
