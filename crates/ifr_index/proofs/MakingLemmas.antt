-- The index of a package is made node by node.
use Rattle.std.proofs.Common.{◌≡◌, ℕ, ◌<◌, ◌≤◌, ◌^◌, Bool, Option, Some, None, List, [], ◌∷◌, ◌++◌, length, map, take, refl, sym, ap, ◌∙◌, subst, inl, inr, arith, append_assoc}
use Rattle.std.specs.Prelude.{filter}
use Rattle.std.specs.BTreeMap.{get}
use Rattle.std.specs.Ordering.{nat_cmp}
use Rattle.std.specs.Option.{option_or}
use Rattle.std.proofs.lemmas.Bool.{cases_Bool}
use Rattle.std.proofs.lemmas.List.{append-nil, map-append, length-append, length-map}
use Rattle.std.proofs.lemmas.List.Elements.{filter-append}
use Rattle.hii_bytes.specs.code.FirstFaults.{Rise}
use Rattle.ifr_opcodes.specs.Opcode.{number}
use Rattle.ifr_opcodes.specs.Forest.{Ancestor, Node, SpellsForest}
use Rattle.ifr_opcodes.specs.Reading.{tree_of}
use Rattle.ifr_nodes.specs.Checked.{IsChecked}
use Rattle.ifr_nodes.specs.Guards.{is_guard, guards_among}
use Rattle.ifr_nodes.specs.Nodes.{nodes_of, is_form, is_store}
use Rattle.ifr_nodes.specs.Rules.{is_rule}
use Rattle.ifr_index.specs.code.Index.{is_indexed}
use Rattle.ifr_index.specs.code.LockIndex.{Finds, first_place}
use Rattle.ifr_index.specs.code.References.{AreReferencesOf}
use Rattle.ifr_index.specs.code.Tables.{guards_before, inner_guard, guard_entry, entry_of_node, is_question_condition, conditions_before, condition_entry, kept_condition, conditions_among, places_of}
use Rattle.ifr_nodes.specs.code.FormIds.{form_entry}
use Rattle.ifr_index.specs.code.Adding.{Adds, AreOfAll, IsStart}
use Rattle.ifr_index.specs.code.Levels.{AreLevels}
use Rattle.ifr_index.specs.declared.index.GuardEntry.{GuardEntry}
use Rattle.ifr_index.specs.declared.index.ConditionEntry.{ConditionEntry}
use Rattle.ifr_index.specs.declared.level.Level.{Level}
use Rattle.ifr_index.specs.declared.tables.Tables.{Tables}
use Rattle.ifr_index.proofs.GivingLemmas.{HasAdded, none_added, added_next, all_added}
use Rattle.ifr_index.proofs.NumberLemmas.{so_many_before}
use Rattle.ifr_index.proofs.ReferredLemmas.{referred_next}
use Rattle.ifr_index.proofs.IndexingLemmas.{Follows, nodes_follow, entered, cut, few_of, few_nodes}

abbrev place_of : Node → ℕ
place_of n = n.place

-- ---- the tables

-- These are the tables of the nodes before those that are left, and the scopes that are open.
pub record Made (ns : List Node) (t : Tables) (levels : List Level) (left : List Node) : Type 0 where
  pub before : List Node
  pub around : List Ancestor
  pub split : ns ≡ before ++ left
  pub open_are : AreLevels ns around levels
  pub follows : Follows around left
  pub entries : t.entries.items ≡ map (λ n. entry_of_node (inner_guard ns n.path) n) (filter is_indexed before)
  pub guards : t.guards.items ≡ map (λ n. guard_entry (inner_guard ns n.path) n) (guards_among before)
  pub conditions : t.conditions.items ≡ conditions_among ns before
  pub forms : t.forms.items ≡ map form_entry (filter is_form before)
  pub stores : t.stores.items ≡ places_of is_store before
  pub rules : t.rules.items ≡ places_of is_rule before
  pub giving : HasAdded ns t.giving.items t.last left
  pub locks : Finds (first_place ns) (get nat_cmp t.locks) left
  pub references : AreReferencesOf before t.references

pub made_start : (bytes : List ℕ) (t : Tables) (levels : List Level) (left : List Node) → SpellsForest bytes (tree_of bytes) → IsStart t → levels ≡ [] → left ≡ nodes_of bytes → Made (nodes_of bytes) t levels left
made_start bytes t levels left s start no_level all = record {
  before = [];
  around = [];
  split = sym all;
  open_are = rw no_level (record { long = refl; each = λ k lt. absurd (omega arith) });
  follows = subst (Follows []) (sym all) (nodes_follow bytes s);
  entries = start.entries;
  guards = start.guards;
  conditions = start.conditions;
  forms = start.forms;
  stores = start.stores;
  rules = start.rules;
  giving = rw start.last (none_added (nodes_of bytes) t.giving.items left start.giving all);
  locks = λ scope. rw (start.locks scope) (ap (λ (l : List Node). first_place l scope) all);
  references = start.references;
}

-- one more of a kind
more_of : {X : Type 0} (is : Node → Bool) (f g : Node → X) (before : List Node) (n : Node) (old new : List X) → old ≡ map f (filter is before) → f n ≡ g n → new ≡ old ++ map g (filter is (n ∷ [])) → new ≡ map f (filter is (before ++ n ∷ []))
more_of is f g before n old new e same put =
    put ∙ ap (λ l. l ++ map g (filter is (n ∷ []))) e ∙ ap (λ l. map f (filter is before) ++ l) here ∙ sym (ap (map f) (filter-append is before (n ∷ [])) ∙ map-append f (filter is before) (filter is (n ∷ [])))
  where
    here : map g (filter is (n ∷ [])) ≡ map f (filter is (n ∷ []))
    here = elim (cases_Bool (is n)) [ inl kept ↦ rw kept (ap (λ x. x ∷ []) (sym same)) | inr other ↦ rw other refl ]

-- the scopes of the node that is met
pub met_levels : (ns : List Node) (t : Tables) (levels : List Level) (n : Node) (rest : List Node) (depth : ℕ) → depth ≡ length n.path → Made ns t levels (n ∷ rest) → AreLevels ns n.path (take depth levels)
met_levels ns t levels n rest depth at m = subst (λ (d : ℕ). AreLevels ns n.path (take d levels)) (sym at) (cut ns m.around n.path m.follows.0.more levels m.follows.0.split m.open_are)

length_guards : (ns : List Node) (t : Tables) (levels : List Level) (left : List Node) (m : Made ns t levels left) → length t.guards.items ≡ length (guards_among m.before)
length_guards ns t levels left m = ap (λ (l : List GuardEntry). length l) m.guards ∙ length-map (guards_among m.before) (λ p. guard_entry (inner_guard ns p.path) p)

length_conditions : (ns : List Node) (t : Tables) (levels : List Level) (left : List Node) (m : Made ns t levels left) → length t.conditions.items ≡ length (filter is_question_condition m.before)
length_conditions ns t levels left m = ap (λ (l : List ConditionEntry). length l) m.conditions ∙ length-map (filter is_question_condition m.before) (kept_condition ns)

-- so many guards stand before it
pub guards_met : (ns : List Node) (t : Tables) (levels : List Level) (n : Node) (rest : List Node) → Rise place_of 4 ns → Made ns t levels (n ∷ rest) → length t.guards.items ≡ guards_before ns n.place
guards_met ns t levels n rest r m =
    let rise : Rise place_of 4 (m.before ++ n ∷ rest) = subst (Rise place_of 4) m.split r in
    length_guards ns t levels (n ∷ rest) m ∙ sym (ap (λ (l : List Node). guards_before l n.place) m.split ∙ so_many_before (λ p. is_guard (number p.op)) 4 m.before rest n rise)

pub made_next : (ns : List Node) (old new : Tables) (levels more : List Level) (n : Node) (rest : List Node) (guard : Option ℕ)
    → Rise place_of 4 ns → Made ns old levels (n ∷ rest) → guard ≡ inner_guard ns n.path → Adds guard n old new → AreLevels ns (entered n) more → Made ns new more rest
made_next ns old new levels more n rest guard r m is adds opened =
    let rise : Rise place_of 4 (m.before ++ n ∷ rest) = subst (Rise place_of 4) m.split r in
    let own : ℕ = length old.conditions.items in
    let its : own ≡ conditions_before ns n.place =
    length_conditions ns old levels (n ∷ rest) m ∙ sym (ap (λ (l : List Node). conditions_before l n.place) m.split ∙ so_many_before is_question_condition 4 m.before rest n rise) in
    record {
      before = m.before ++ n ∷ [];
      around = entered n;
      split = m.split ∙ sym (append_assoc m.before (n ∷ []) rest);
      open_are = opened;
      follows = m.follows.1;
      entries = more_of is_indexed (λ p. entry_of_node (inner_guard ns p.path) p) (entry_of_node guard) m.before n old.entries.items new.entries.items m.entries (ap (λ (g : Option ℕ). entry_of_node g n) (sym is)) adds.entries;
      guards = more_of (λ p. is_guard (number p.op)) (λ p. guard_entry (inner_guard ns p.path) p) (guard_entry guard) m.before n old.guards.items new.guards.items m.guards (ap (λ (g : Option ℕ). guard_entry g n) (sym is)) adds.guards;
      conditions = more_of is_question_condition (kept_condition ns) (condition_entry guard own) m.before n old.conditions.items new.conditions.items m.conditions (sym (ap (λ (g : Option ℕ). condition_entry g own n) is ∙ ap (λ (k : ℕ). condition_entry (inner_guard ns n.path) k n) its)) adds.conditions;
      forms = more_of is_form form_entry form_entry m.before n old.forms.items new.forms.items m.forms refl adds.forms;
      stores = more_of is_store place_of place_of m.before n old.stores.items new.stores.items m.stores refl adds.stores;
      rules = more_of is_rule place_of place_of m.before n old.rules.items new.rules.items m.rules refl adds.rules;
      giving = added_next ns old.giving.items new.giving.items old.last new.last n rest m.giving adds.giving adds.last;
      locks = adds.locks (first_place ns) rest m.locks;
      references = referred_next m.before n old.references new.references m.references adds.references;
    }

-- all nodes were met
pub made_all : (bytes : List ℕ) (t : Tables) (levels : List Level) (left : List Node) → IsChecked bytes → Made (nodes_of bytes) t levels left → left ≡ [] → AreOfAll (nodes_of bytes) t
made_all bytes t levels left checked m ended =
    let ns = nodes_of bytes in
    let all : m.before ≡ ns = sym (m.split ∙ ap (λ (l : List Node). m.before ++ l) ended ∙ append-nil m.before) in
    let found = get nat_cmp t.locks in
    record {
      entries = m.entries ∙ ap (λ (l : List Node). map (λ n. entry_of_node (inner_guard ns n.path) n) (filter is_indexed l)) all;
      guards = m.guards ∙ ap (λ (l : List Node). map (λ n. guard_entry (inner_guard ns n.path) n) (guards_among l)) all;
      conditions = m.conditions ∙ ap (conditions_among ns) all;
      forms = m.forms ∙ ap (λ (l : List Node). map form_entry (filter is_form l)) all;
      stores = m.stores ∙ ap (places_of is_store) all;
      rules = m.rules ∙ ap (places_of is_rule) all;
      giving = all_added bytes t.giving.items t.last left checked m.giving ended;
      locks = λ scope. sym (or_nothing (found scope)) ∙ ap (λ (l : List Node). option_or (found scope) (first_place l scope)) (sym ended) ∙ m.locks scope;
      references = subst (λ (l : List Node). AreReferencesOf l t.references) all m.references;
    }
  where
    or_nothing : (o : Option ℕ) → option_or o None ≡ o
    or_nothing None = refl
    or_nothing (Some x) = refl

-- ---- the numbers fit

pub few_made : (bytes : List ℕ) (t : Tables) (levels : List Level) (left : List Node) → 4 ≤ length bytes → length bytes < 2 ^ 32 → SpellsForest bytes (tree_of bytes)
    → Made (nodes_of bytes) t levels left → (length t.guards.items < 2 ^ 32) × (length t.conditions.items < 2 ^ 32)
few_made bytes t levels left header small spelled m =
    let all = few_nodes bytes header small spelled in
    let count = length_guards (nodes_of bytes) t levels left m in
    let its = length_conditions (nodes_of bytes) t levels left m in
    let met = ap (λ (l : List Node). length l) m.split ∙ length-append m.before left in
    (omega (arith, all, count, few_of (λ p. is_guard (number p.op)) m.before, met), omega (arith, all, its, few_of is_question_condition m.before, met))
