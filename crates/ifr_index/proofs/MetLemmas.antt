-- The node that is met, and the expression that stands at it or behind its opcode.
use Rattle.std.proofs.Common.{◌≡◌, ℕ, ◌+◌, ◌<◌, ◌≤◌, Bool, true, false, Option, Some, None, List, [], ◌∷◌, ◌++◌, length, refl, sym, ap, subst, ◌∙◌, inr, arith, length-append}
use Rattle.std.specs.Prelude.{Contains, option_map, unwrap_or, ◌==◌, ◌&&◌, ◌||◌}
use Rattle.std.proofs.lemmas.Bool.{false≢true, or_parts, or_right}
use Rattle.std.proofs.lemmas.List.{length-drop}
use Rattle.hii_bytes.specs.declared.cause.Cause.{Cause}
use Rattle.hii_bytes.specs.declared.cause.Cause.TheVariants.{ExprShape}
use Rattle.ifr_opcodes.specs.Opcode.{number}
use Rattle.ifr_opcodes.specs.Rows.{is_condition_number}
use Rattle.ifr_opcodes.specs.declared.codes.TheConstants.{RULE, VALUE}
use Rattle.ifr_opcodes.specs.Forest.{Forest, none, node, flat, Mark, Node, as_ancestor, nodes_at, below, SpellsForest}
use Rattle.ifr_opcodes.specs.Reading.{tree_of}
use Rattle.ifr_opcodes.specs.code.Ops.{bytes_of}
use Rattle.ifr_opcodes.specs.declared.op.Op.{Op}
use Rattle.ifr_opcodes.proofs.ForestLemmas.{takes}
use Rattle.ifr_opcodes.proofs.TableLemmas.{and_second}
use Rattle.ifr_expr.specs.Faults.{IsExpressionFault}
use Rattle.ifr_expr.specs.Trees.{expression}
use Rattle.ifr_nodes.specs.Guards.{is_guard}
use Rattle.ifr_nodes.specs.Nodes.{nodes_of, end_of}
use Rattle.ifr_nodes.specs.Structure.{is_condition, is_expression, first_number, lacks_expression, IsStructureFault}
use Rattle.ifr_nodes.specs.Table.{wants_expression}
use Rattle.ifr_nodes.specs.code.Checked.{node_in, has_node}
use Rattle.ifr_nodes.specs.code.Ends.{first_end, expression_end}
use Rattle.ifr_nodes.proofs.ExpressionLemmas.{StandsFrom, stands_from}
use Rattle.ifr_nodes.proofs.PlaceLemmas.{node_stands}
use Rattle.ifr_nodes.proofs.ViewLemmas.{node_there, below_within, is_at, node_in_place}
use Rattle.ifr_index.specs.code.Levels.{IsMet, is_clear, node_with, scope_place}
use Rattle.ifr_index.specs.declared.level.Level.{Level}
use Rattle.ifr_index.proofs.SoundLemmas.{has_none}

pub met_within : (ifr : List ℕ) (op : Op) (level : Level) → IsMet ifr op level → Contains (nodes_of ifr) (node_in ifr op.place)
met_within ifr op level m =
    let there = node_there ifr op.place (bytes_of op) m.spelled m.stands in
    subst (λ (n : Node). Contains (nodes_of ifr) n) (sym there.3) there.2

-- it is its opcode, where it stands
pub met_is : (ifr : List ℕ) (op : Op) (level : Level) → IsMet ifr op level → node_with op (node_in ifr op.place).path (node_in ifr op.place).children ≡ node_in ifr op.place
met_is ifr op level m =
    let n = node_in ifr op.place in
    λ i. record { place = sym m.stands.placed i; op = sym m.stands.opcode i; path = n.path; children = n.children }

-- ---- the expression at it

pub met_stands : (ifr : List ℕ) (op : Op) (level : Level) (to : ℕ) → IsMet ifr op level → is_expression (node_in ifr op.place) ≡ true → to ≡ end_of (node_in ifr op.place) → StandsFrom ifr (node_in ifr op.place) op.place to
met_stands ifr op level to m is ends =
    let n = node_in ifr op.place in
    stands_from ifr (tree_of ifr) n op.place to m.spelled (met_within ifr op level m) (and_second (is_condition n) _ is) (sym m.stands.placed) ends

-- what is said of its opcodes is said of the node
pub met_marks : (ifr : List ℕ) (op : Op) (level : Level) (to : ℕ) (P : ℕ → List Mark → Type 0) (marks : List Mark) → IsMet ifr op level → marks ≡ expression (node_in ifr op.place).place (node_in ifr op.place).op (node_in ifr op.place).children
    → P op.place marks → P (node_in ifr op.place).place (expression (node_in ifr op.place).place (node_in ifr op.place).op (node_in ifr op.place).children)
met_marks ifr op level to P marks m same said =
    let n = node_in ifr op.place in
    subst (λ (p : ℕ). P p (expression n.place n.op n.children)) (sym m.stands.placed) (subst (P op.place) same said)

pub met_fault : (ifr : List ℕ) (op : Op) (level : Level) (cause : Cause) (place : ℕ) → IsMet ifr op level → is_expression (node_in ifr op.place) ≡ true
    → IsExpressionFault (node_in ifr op.place).place (expression (node_in ifr op.place).place (node_in ifr op.place).op (node_in ifr op.place).children) cause place → IsStructureFault (nodes_of ifr) cause place
met_fault ifr op level cause place m is fault = inr (inr (node_in ifr op.place, met_within ifr op level m, is, fault))

-- ---- the expression with which its scope begins

-- It stands there, inside of the package, and ends where the node's expression does.
pub record BeginsAt (ifr : List ℕ) (n : Node) (from : ℕ) : Type 0 where
  pub there : has_node ifr from ≡ true
  pub inside : from < length ifr
  pub ends : end_of (node_in ifr from) ≡ expression_end n

some_first : (f : Forest) → lacks_expression (first_number f) ≡ false → (op : List ℕ) × (children : Forest) × (rest : Forest) × (f ≡ node op children rest)
some_first none lacks = absurd (false≢true (sym lacks))
some_first (node op children rest) lacks = (op, children, rest, refl)

asked : (wants lacks : Bool) → wants ≡ true → wants && lacks ≡ false → lacks ≡ false
asked true lacks is e = e
asked false lacks is e = absurd (false≢true is)

begins_behind : (ifr : List ℕ) (n : Node) → SpellsForest ifr (tree_of ifr) → Contains (nodes_of ifr) n → is_clear n ≡ true → wants_expression (number n.op) ≡ true → BeginsAt ifr n (n.place + length n.op)
unfolding expression_end
begins_behind ifr n s within clear wants =
    let lacks : lacks_expression (first_number n.children) ≡ false = asked (wants_expression (number n.op)) _ wants (or_parts _ _ (has_none n ExprShape clear (6, omega arith, refl))).0 in
    let first = some_first n.children lacks in
    let from : ℕ = n.place + length n.op in
    let child : Node = record { place = from; op = first.0; path = n.path ++ as_ancestor n ∷ []; children = first.1 } in
    let below_it : Contains (below n) child = subst (λ (f : Forest). Contains (nodes_at from (n.path ++ as_ancestor n ∷ []) f) child) (sym first.3) (0, omega arith, refl) in
    let there : Contains (nodes_of ifr) child = below_within (tree_of ifr) 4 [] n child within below_it in
    let same : node_in ifr from ≡ child = node_in_place ifr child s there in
    let stood = node_stands ifr (tree_of ifr) child s there in
    let long : 2 ≤ length child.op = stood.2.0.whole.long in
    let size = takes child.op child.children none stood.2 in
    record {
      there = (is_at ifr child s there).there;
      inside = omega (arith, long, size.0, ap (λ (l : List ℕ). length l) stood.1, length-drop child.place ifr, length-append (flat (node child.op child.children none)) stood.0);
      ends = ap end_of same ∙ sym (ap (first_end from) first.3);
    }

pub met_begins : (ifr : List ℕ) (op : Op) (level : Level) (from : ℕ) → IsMet ifr op level → is_clear (node_in ifr op.place) ≡ true → wants_expression op.code ≡ true → from ≡ op.place + length (bytes_of op) → BeginsAt ifr (node_in ifr op.place) from
met_begins ifr op level from m clear wants is =
    let n = node_in ifr op.place in
    let here : n.place + length n.op ≡ from = omega (arith, m.stands.placed, ap (λ (l : List ℕ). length l) m.stands.opcode, is) in
    subst (BeginsAt ifr n) here (begins_behind ifr n m.spelled (met_within ifr op level m) clear (ap (λ (l : List ℕ). wants_expression (number l)) m.stands.opcode ∙ wants))

-- ---- what wants an expression

pub guard_wants : (code : ℕ) → is_guard code ≡ true → wants_expression code ≡ true
guard_wants code is = rw is refl

pub condition_wants : (code : ℕ) → is_condition_number code ≡ true → wants_expression code ≡ true
condition_wants code is = or_right (is_guard code || code == RULE || code == VALUE) (is_condition_number code) is

-- the place of what it stands in
pub parent_is : (m : Option Mark) → scope_place m ≡ unwrap_or (option_map (λ (a : Mark). a.place) m) 0
parent_is None = refl
parent_is (Some a) = refl
