-- Which conditions decide whether a question may be changed, and which questions they ask (own rule).
use Rattle.std.specs.Prelude.{ℕ, ◌-◌, nat_le, ◌||◌, if◌then◌else◌, Option, Some, None, List, [], ◌∷◌, ◌++◌, length, slice_get}
use Rattle.std.specs.List.{flat_map, range_with_len}
use Rattle.std.specs.Ordering.{nat_cmp}
use Rattle.ifr_opcodes.specs.Forest.{Node}
use Rattle.ifr_opcodes.specs.Rows.{is_among}
use Rattle.ifr_nodes.specs.Guards.{guards}
use Rattle.ifr_nodes.specs.Nodes.{options}
use Rattle.hii_questions.specs.Fields.{question_with}
use Rattle.guard_policy.specs.Conditions.{condition_ids}
use Rattle.question_audit.specs.OptionFacts.{own_guards}
use Rattle.unlock_audit.specs.Rising.{rising}

-- those of the guards around it, and of those around its options
abbrev pub conditions_around : Node → List Node
conditions_around q = guards q ++ flat_map (own_guards q.place) (options q)

abbrev pub conditions_of : Option Node → List Node
conditions_of None = []
conditions_of (Some q) = conditions_around q

-- the ids that a condition asks, in the rules that it names, too: rising
abbrev pub ids_in : List Node → Node → List ℕ
ids_in ns c = rising nat_cmp (condition_ids ns c)

-- ---- breadth first: each id once, 64 at most

-- conditions, and the ids that they ask
pub record Asking : Type 0 where
  pub ids : List ℕ
  pub conditions : List Node

abbrev pub with_id : List ℕ → ℕ → List ℕ
with_id ids id = if is_among id ids || nat_le 64 (length ids) then ids else ids ++ id ∷ []

abbrev pub with_ids : List ℕ → List ℕ → List ℕ
with_ids ids [] = ids
with_ids ids (id ∷ others) = with_ids (with_id ids id) others

-- with further conditions, and the ids that they ask, condition by condition
abbrev pub with_conditions : List Node → Asking → List Node → Asking
with_conditions ns a conditions = record {
  ids = with_ids a.ids (flat_map (ids_in ns) conditions);
  conditions = a.conditions ++ conditions;
}

-- the conditions around the question of an id, if there is one
abbrev pub around_id : List Node → Option ℕ → List Node
around_id ns None = []
around_id ns (Some id) = conditions_of (question_with ns id)

-- with those around the questions of ids, which are named by their numbers among the ids
abbrev pub with_behind : List Node → Asking → List ℕ → Asking
with_behind ns a [] = a
with_behind ns a (number ∷ numbers) =
    with_behind ns (with_conditions ns a (around_id ns (slice_get a.ids number))) numbers

-- the numbers below 64 from one on
unfoldable pub numbers_from : ℕ → List ℕ
numbers_from n = range_with_len n (64 - n)

abbrev pub asking_nothing : Asking
asking_nothing = record { ids = []; conditions = [] }

-- the conditions around a question, those around the questions that these ask, and so on
abbrev pub asking : List Node → Node → Asking
asking ns q =
    with_behind ns (with_conditions ns asking_nothing (conditions_around q)) (numbers_from 0)
