-- The tables of a package's index.
use Rattle.std.specs.Prelude.{◌≡◌, ◌<◌, ℕ, Bool, true, false, ◌==◌, nat_lt, Option, Some, None, option_map, unwrap_or, All, IfSome, List, [], ◌∷◌, ◌++◌, length, filter, map}
use Rattle.std.specs.List.{last_or, slice_get}
use Rattle.std.proofs.Props.{props}
use Rattle.ifr_opcodes.specs.Forest.{Ancestor, Node}
use Rattle.ifr_opcodes.specs.Opcode.{number}
use Rattle.ifr_nodes.specs.Guards.{is_guard, guards, guards_among}
use Rattle.ifr_opcodes.specs.Rows.{is_condition_number}
use Rattle.ifr_nodes.specs.Nodes.{nodes_of, this_of, is_store}
use Rattle.ifr_nodes.specs.Rules.{is_rule}
use Rattle.ifr_nodes.specs.Structure.{parent}
use Rattle.ifr_nodes.specs.code.Checked.{or_empty, node_in, has_node, has_guard}
use Rattle.ifr_nodes.specs.code.Ends.{expression_end}
use Rattle.ifr_index.specs.code.Index.{is_indexed, entry_at}
use Rattle.ifr_nodes.specs.code.FormIds.{AreFormEntries}
use Rattle.ifr_index.specs.code.Giving.{is_giving}
use Rattle.ifr_index.specs.code.LockIndex.{lock_place}
use Rattle.ifr_index.specs.code.References.{AreReferred}
use Rattle.ifr_index.specs.declared.index.Index.{Index}
use Rattle.ifr_index.specs.declared.index.Entry.{Entry}
use Rattle.ifr_index.specs.declared.index.GuardEntry.{GuardEntry}
use Rattle.ifr_index.specs.declared.index.ConditionEntry.{ConditionEntry}

option_prop : (a b : Option ℕ) → IsProp (a ≡ b)
option_prop a b = hlevel props

-- ---- the numbers of guards

-- how many guards stand before a place
abbrev pub guards_before : List Node → ℕ → ℕ
guards_before ns place = length (filter (λ n. nat_lt n.place place) (guards_among ns))

-- the number of the innermost guard on a path
abbrev pub inner_guard : List Node → List Ancestor → Option ℕ
inner_guard ns path =
    option_map (λ a. guards_before ns a.place)
    (last_or None (filter (λ a. is_guard (number a.op)) path))

-- the guard of a number
unfoldable pub guard_of_number : List Node → ℕ → Node
guard_of_number ns k = or_empty (slice_get (guards_among ns) k)

-- the guard of a number, if there is one, and those around it, the outermost first
abbrev pub guards_from : List Node → Option ℕ → List Node
guards_from ns None = []
guards_from ns (Some k) = guards (guard_of_number ns k) ++ guard_of_number ns k ∷ []

-- It is the number of a guard, if it is one; and all of these are.
abbrev pub IsNumber : List Node → Option ℕ → Type 0
IsNumber ns number = IfSome number (λ k. k < length (guards_among ns))

abbrev pub AreNumbers : List Node → List ℕ → Type 0
AreNumbers ns numbers = All (λ k. k < length (guards_among ns)) numbers

-- There are so many, if it is told how many.
abbrev pub AreTold : Option ℕ → ℕ → Type 0
AreTold told count = IfSome told (λ k. k ≡ count)

AreTold-prop : (told : Option ℕ) (count : ℕ) → IsProp (AreTold told count)
AreTold-prop None count = hlevel props
AreTold-prop (Some k) count = hlevel props

-- So many guards stand before this place, if it is told how many.
abbrev pub AreBefore : List Node → Option ℕ → ℕ → Type 0
AreBefore ns told place = AreTold told (guards_before ns place)

pub AreBefore-prop : (ns : List Node) (told : Option ℕ) (place : ℕ) → IsProp (AreBefore ns told place)
AreBefore-prop ns told place = AreTold-prop told (guards_before ns place)

pub IsNumber-prop : (ns : List Node) (number : Option ℕ) → IsProp (IsNumber ns number)
IsNumber-prop ns None = hlevel props
IsNumber-prop ns (Some k) = hlevel props

pub AreNumbers-prop : (ns : List Node) (numbers : List ℕ) → IsProp (AreNumbers ns numbers)
AreNumbers-prop ns numbers = hlevel props

-- ---- the tables

-- a guard, with the number of the innermost around it
abbrev pub guard_entry : Option ℕ → Node → GuardEntry
guard_entry outer n =
    record {
      place = n.place;
      code = number n.op;
      this = this_of n;
      outer = outer;
      ends = expression_end n;
    }

abbrev pub guard_table : List Node → List GuardEntry
guard_table ns = map (λ n. guard_entry (inner_guard ns n.path) n) (guards_among ns)

-- A guard of this number stands at the place in the package, in the scope of this question, and its condition ends there.
pub record IsGuardEntry (bytes : List ℕ) (guard : GuardEntry) : Type 0 where
  pub stands : has_guard bytes guard.place ≡ true
  pub code : guard.code ≡ number (node_in bytes guard.place).op
  pub within : guard.this ≡ this_of (node_in bytes guard.place)
  pub ends : guard.ends ≡ expression_end (node_in bytes guard.place)

pub IsGuardEntry-prop : (bytes : List ℕ) (guard : GuardEntry) → IsProp (IsGuardEntry bytes guard)
IsGuardEntry-prop bytes guard = hlevel props

abbrev pub AreGuardEntries : List ℕ → List GuardEntry → Type 0
AreGuardEntries bytes guards = All (λ one. IsGuardEntry bytes one) guards

pub AreGuardEntries-prop : (bytes : List ℕ) (guards : List GuardEntry)
    → IsProp (AreGuardEntries bytes guards)
AreGuardEntries-prop bytes guards = hlevel (props, IsGuardEntry-prop)

-- whether the first of some guards is told to stand in the scope of a question of this id
abbrev pub begin_in : ℕ → List GuardEntry → Bool
begin_in id [] = false
begin_in id (first ∷ rest) = first.this == id

-- a form, a statement or an option, with the innermost guard around it, as long as nothing is known that locks it
abbrev pub entry_of_node : Option ℕ → Node → Entry
entry_of_node guard n =
    record { place = n.place; code = number n.op; guard = guard; lock = None }

abbrev pub entries_unlocked : List Node → List Entry
entries_unlocked ns = map (λ n. entry_of_node (inner_guard ns n.path) n) (filter is_indexed ns)

-- the same, with the LOCKED that decides for it
abbrev pub kept_entry : List Node → Node → Entry
kept_entry ns n =
    record {
      place = n.place;
      code = number n.op;
      guard = inner_guard ns n.path;
      lock = lock_place ns n;
    }

abbrev pub entry_table : List Node → List Entry
entry_table ns = map (kept_entry ns) (filter is_indexed ns)

-- A form, a statement or an option of this number stands at the place in the package.
pub record IsEntry (bytes : List ℕ) (entry : Entry) : Type 0 where
  pub there : has_node bytes entry.place ≡ true
  pub code : entry.code ≡ number (node_in bytes entry.place).op

pub IsEntry-prop : (bytes : List ℕ) (entry : Entry) → IsProp (IsEntry bytes entry)
IsEntry-prop bytes entry = hlevel props

abbrev pub AreEntries : List ℕ → List Entry → Type 0
AreEntries bytes entries = All (λ one. IsEntry bytes one) entries

pub AreEntries-prop : (bytes : List ℕ) (entries : List Entry) → IsProp (AreEntries bytes entries)
AreEntries-prop bytes entries = hlevel (props, IsEntry-prop)

-- the places of the nodes of a kind
abbrev pub places_of : (Node → Bool) → List Node → List ℕ
places_of is ns = map (λ n. n.place) (filter is ns)

-- A node of a kind stands at the place in the package, and at all of these.
pub record IsOfKind (is : Node → Bool) (bytes : List ℕ) (place : ℕ) : Type 0 where
  pub there : has_node bytes place ≡ true
  pub kind : is (node_in bytes place) ≡ true

pub IsOfKind-prop : (is : Node → Bool) (bytes : List ℕ) (place : ℕ)
    → IsProp (IsOfKind is bytes place)
IsOfKind-prop is bytes place = hlevel props

abbrev pub AreOfKind : (Node → Bool) → List ℕ → List ℕ → Type 0
AreOfKind is bytes places = All (λ place. IsOfKind is bytes place) places

pub AreOfKind-prop : (is : Node → Bool) (bytes places : List ℕ) → IsProp (AreOfKind is bytes places)
AreOfKind-prop is bytes places = hlevel (props, IsOfKind-prop)

-- the number of the innermost guard around the form, statement or option at a place
abbrev pub innermost_at : List Node → ℕ → Option ℕ
innermost_at ns place = entry_at (λ n. inner_guard ns n.path) ns place

-- whether a node is a condition of a question
abbrev pub is_question_condition : Node → Bool
is_question_condition n = is_condition_number (number n.op)

-- the place of what a node stands in, 0 where it stands in nothing
abbrev pub parent_place : Node → ℕ
parent_place n = unwrap_or (option_map (λ a. a.place) (parent n)) 0

-- how many conditions of questions stand before a place
abbrev pub conditions_before : List Node → ℕ → ℕ
conditions_before ns place =
    length (filter (λ n. nat_lt n.place place) (filter is_question_condition ns))

-- So many of them stand before this place, if it is told how many.
abbrev pub AreConditionsBefore : List Node → Option ℕ → ℕ → Type 0
AreConditionsBefore ns told place = AreTold told (conditions_before ns place)

pub AreConditionsBefore-prop : (ns : List Node) (told : Option ℕ) (place : ℕ)
    → IsProp (AreConditionsBefore ns told place)
AreConditionsBefore-prop ns told place = AreTold-prop told (conditions_before ns place)

-- one of them, with the number of the innermost guard around it, and its own
abbrev pub condition_entry : Option ℕ → ℕ → Node → ConditionEntry
condition_entry guard own n =
    record {
      place = n.place;
      code = number n.op;
      number = own;
      question = parent_place n;
      this = this_of n;
      guard = guard;
      ends = expression_end n;
    }

abbrev pub kept_condition : List Node → Node → ConditionEntry
kept_condition ns n = condition_entry (inner_guard ns n.path) (conditions_before ns n.place) n

-- those among some nodes, and among all
abbrev pub conditions_among : List Node → List Node → List ConditionEntry
conditions_among ns its = map (kept_condition ns) (filter is_question_condition its)

abbrev pub condition_table : List Node → List ConditionEntry
condition_table ns = conditions_among ns ns

-- A condition of a question stands at the place in the package, and this is its entry.
pub record IsConditionEntry (bytes : List ℕ) (kept : ConditionEntry) : Type 0 where
  pub there : has_node bytes kept.place ≡ true
  pub condition : is_condition_number kept.code ≡ true
  pub code : kept.code ≡ number (node_in bytes kept.place).op
  pub before : kept.number ≡ conditions_before (nodes_of bytes) kept.place
  pub question : kept.question ≡ parent_place (node_in bytes kept.place)
  pub within : kept.this ≡ this_of (node_in bytes kept.place)
  pub guard : kept.guard ≡ inner_guard (nodes_of bytes) (node_in bytes kept.place).path
  pub ends : kept.ends ≡ expression_end (node_in bytes kept.place)

pub IsConditionEntry-prop : (bytes : List ℕ) (kept : ConditionEntry)
    → IsProp (IsConditionEntry bytes kept)
IsConditionEntry-prop bytes kept = hlevel (props, option_prop)

abbrev pub AreConditionEntries : List ℕ → List ConditionEntry → Type 0
AreConditionEntries bytes kept = All (λ one. IsConditionEntry bytes one) kept

pub AreConditionEntries-prop : (bytes : List ℕ) (kept : List ConditionEntry)
    → IsProp (AreConditionEntries bytes kept)
AreConditionEntries-prop bytes kept = hlevel (props, IsConditionEntry-prop)

-- These are the tables of a package's nodes, and what is known of them.
pub record IsIndexOf (ns : List Node) (index : Index) : Type 0 where
  pub entries : index.entries.items ≡ entry_table ns
  pub guards : index.guards.items ≡ guard_table ns
  pub conditions : index.conditions.items ≡ condition_table ns
  pub forms : AreFormEntries ns index.forms
  pub stores : index.stores.items ≡ places_of is_store ns
  pub rules : index.rules.items ≡ places_of is_rule ns
  pub giving : index.giving.items ≡ places_of is_giving ns
  pub referred : index.referred ≡ true → AreReferred ns

guard_entry_prop : (a b : GuardEntry) → IsProp (a ≡ b)
guard_entry_prop a b = hlevel (props, option_prop)

-- these are the guards of a package
abbrev pub IsGuardTable : List ℕ → List GuardEntry → Type 0
IsGuardTable bytes guards = guards ≡ guard_table (nodes_of bytes)

pub IsGuardTable-prop : (bytes : List ℕ) (guards : List GuardEntry)
    → IsProp (IsGuardTable bytes guards)
IsGuardTable-prop bytes guards = hlevel (props, option_prop, guard_entry_prop)
