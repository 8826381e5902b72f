-- What is kept, seen as values of conditions; the invariants of it; and what a set of new bytes comes to.
use Rattle.std.specs.Prelude.{◌≡◌, ℕ, ◌<◌, ◌≤◌, Bool, All, List, [], length, map, filter, Some, None, Result, Ok, Err}
use Rattle.std.specs.Vec.{vec_capacity}
use Rattle.hii_bytes.specs.code.FirstFaults.{Rise}
use Rattle.ifr_opcodes.specs.Forest.{Node}
use Rattle.ifr_expr.specs.code.RuleValues.{KnownValues}
use Rattle.ifr_nodes.specs.Nodes.{nodes_of}
use Rattle.ifr_nodes.specs.Rules.{is_rule}
use Rattle.hii_varstore.specs.code.Table.{AreBuffers}
use Rattle.hii_varstore.specs.Stores.{StoreMap, shape_of, with_bytes}
use Rattle.hii_questions.specs.code.NewBytes.{new_bytes}
use Rattle.hii_questions.specs.declared.field.Field.{Field}
use Rattle.guard_policy.specs.Policy.{inconsistent}
use Rattle.guard_policy.specs.code.RuleValues.{AreRuleValues}
use Rattle.guard_policy.specs.code.Views.{world}
use Rattle.guard_policy.specs.declared.denial.Denial.{Denial}
use Rattle.guard_policy.specs.declared.policy.Policy.{Policy}
use Rattle.kept_conditions.specs.Kept.{Told, KeptMap, KeptValues, kept_over, written}
use Rattle.kept_conditions.specs.code.Index.{RulesRise, AreSorted, AreGaps, AreSummaries, AreSmall, HaveNumbers}
use Rattle.kept_conditions.specs.code.Collection.{dependent_nodes, is_touched, IsRuleUse, finds}
use Rattle.kept_conditions.specs.code.Dependents.{at_number, is_condition, rules_in}
use Rattle.kept_conditions.specs.declared.index.Index.{Index}
use Rattle.kept_conditions.specs.declared.dependents.Dependent.{Dependent}
use Rattle.kept_conditions.specs.declared.dependents.Dependents.{Dependents}
use Rattle.kept_conditions.specs.Touching.{range_of}

-- what is kept of a condition
abbrev pub value_of : Dependent → Told
value_of r = record { place = r.place; holds = r.holds }

abbrev pub values_of : Dependents → List Told
values_of rs = map value_of (filter is_condition rs.list.items)

-- These are the dependents of a package, and an index of all on which they depend.
pub record IsIndex (ifr : List ℕ) (dependents : Dependents) (index : Index) : Type 0 where
  pub placed : map (λ (r : Dependent). r.place) dependents.list.items
      ≡ map (λ (n : Node). n.place) (dependent_nodes (nodes_of ifr))
  pub kinds : map (λ (r : Dependent). r.is_rule) dependents.list.items
      ≡ map is_rule (dependent_nodes (nodes_of ifr))
  pub rise : Rise (λ (x : ℕ). x) 0 (map (λ (r : Dependent). r.place) dependents.list.items)
  pub rounds : (k : ℕ) → k < length dependents.list.items
      → (at_number dependents.list.items k).round ≤ dependents.round
  pub idle : dependents.pending.items ≡ []
  pub room : rules_in dependents.list.items ≤ vec_capacity dependents.pending
  pub sorted : AreSorted index.dependencies.items
  pub all : length index.summaries.items ≡ length index.dependencies.items
  pub summed : AreSummaries index.dependencies.items index.summaries.items
  pub gaps : AreGaps index.dependencies.items index.gaps
  pub numbers : HaveNumbers (length (dependent_nodes (nodes_of ifr))) index.dependencies.items
  pub small : AreSmall index.dependencies.items
  pub by_rule : RulesRise index.rule_uses.items
  pub are_uses : All (IsRuleUse (nodes_of ifr)) index.rule_uses.items
  pub found : (bytes : ℕ → ℕ → Bool) (k : ℕ) → k < length (dependent_nodes (nodes_of ifr))
      → finds (nodes_of ifr) bytes index.dependencies.items index.rule_uses.items k
      ≡ is_touched (nodes_of ifr) bytes k

-- This is kept over these stores, of which no two have one id, with these values of rules.
pub record AreKept (kept : KeptValues) (stores : StoreMap) (values : KnownValues) : Type 0 where
  pub over : kept ≡ kept_over kept.ifr stores
  pub rules : AreRuleValues kept.ifr stores values
  pub buffers : AreBuffers (shape_of stores).buffers

-- New bytes for a field are a write of as many bytes as it has.
abbrev pub put_in : KeptMap → Field → KeptMap
put_in it field =
    written it (range_of field.store field.offset field.width)
    (with_bytes it.stores field.store field.offset (new_bytes field))

-- The new bytes of a field are put, and no INCONSISTENT_IF of the question holds over the stores with them; or one does, and all is
-- as it was.
abbrev pub SetsField : Policy → Node → Field → KeptMap → KeptMap → Result (Unit {0}) Denial → Type 0
SetsField policy n field old new (Ok done) =
    (new ≡ put_in old field) × (inconsistent (world policy new.stores) n ≡ None)
SetsField policy n field old new (Err denial) =
    (new ≡ old)
    × (inconsistent
    (world policy (with_bytes old.stores field.store field.offset (new_bytes field))) n
    ≡ Some denial)
