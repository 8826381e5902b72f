-- What a node adds to the tables of an index in the making, and what these are when all nodes were met.
use Rattle.std.specs.Prelude.{◌≡◌, ℕ, Option, None, List, [], ◌∷◌, ◌++◌, length, filter, map}
use Rattle.std.specs.BTreeMap.{get}
use Rattle.std.specs.Ordering.{nat_cmp}
use Rattle.ifr_opcodes.specs.Forest.{Node}
use Rattle.ifr_nodes.specs.Guards.{guards_among}
use Rattle.ifr_nodes.specs.Nodes.{is_form, is_store}
use Rattle.ifr_nodes.specs.Rules.{is_rule}
use Rattle.ifr_nodes.specs.code.FormIds.{form_entry}
use Rattle.ifr_index.specs.code.Giving.{added, last_behind, is_giving}
use Rattle.ifr_index.specs.code.Index.{is_indexed}
use Rattle.ifr_index.specs.code.LockIndex.{Finds, first_place}
use Rattle.ifr_index.specs.code.References.{AreReferencesOf, Refers}
use Rattle.ifr_index.specs.code.Tables.{entry_of_node, guard_entry, guard_table, condition_entry, condition_table, entries_unlocked, is_question_condition, places_of}
use Rattle.ifr_index.specs.declared.tables.Tables.{Tables}

-- A node adds these to the tables, with the number of the innermost guard around it.
pub record Adds (guard : Option ℕ) (n : Node) (old new : Tables) : Type 0 where
  pub entries : new.entries.items
      ≡ old.entries.items ++ map (entry_of_node guard) (filter is_indexed (n ∷ []))
  pub guards : new.guards.items
      ≡ old.guards.items ++ map (guard_entry guard) (guards_among (n ∷ []))
  pub conditions : new.conditions.items
      ≡ old.conditions.items ++ map (condition_entry guard (length old.conditions.items))
      (filter is_question_condition (n ∷ []))
  pub forms : new.forms.items ≡ old.forms.items ++ map form_entry (filter is_form (n ∷ []))
  pub stores : new.stores.items ≡ old.stores.items ++ places_of is_store (n ∷ [])
  pub rules : new.rules.items ≡ old.rules.items ++ places_of is_rule (n ∷ [])
  pub giving : new.giving.items ≡ old.giving.items ++ added old.last n
  pub last : new.last ≡ last_behind old.last n
  pub locks : (all : ℕ → Option ℕ) (left : List Node)
      → Finds all (get nat_cmp old.locks) (n ∷ left)
      → Finds all (get nat_cmp new.locks) left
  pub references : Refers n old.references new.references

-- They have no entries.
pub record IsStart (tables : Tables) : Type 0 where
  pub entries : tables.entries.items ≡ []
  pub guards : tables.guards.items ≡ []
  pub conditions : tables.conditions.items ≡ []
  pub forms : tables.forms.items ≡ []
  pub stores : tables.stores.items ≡ []
  pub rules : tables.rules.items ≡ []
  pub giving : tables.giving.items ≡ []
  pub last : tables.last ≡ None
  pub locks : (scope : ℕ) → get nat_cmp tables.locks scope ≡ None
  pub references : AreReferencesOf [] tables.references

-- All nodes were met, and no entry has what locks it yet.
pub record AreOfAll (ns : List Node) (tables : Tables) : Type 0 where
  pub entries : tables.entries.items ≡ entries_unlocked ns
  pub guards : tables.guards.items ≡ guard_table ns
  pub conditions : tables.conditions.items ≡ condition_table ns
  pub forms : tables.forms.items ≡ map form_entry (filter is_form ns)
  pub stores : tables.stores.items ≡ places_of is_store ns
  pub rules : tables.rules.items ≡ places_of is_rule ns
  pub giving : tables.giving.items ≡ places_of is_giving ns
  pub locks : (scope : ℕ) → get nat_cmp tables.locks scope ≡ first_place ns scope
  pub references : AreReferencesOf ns tables.references
