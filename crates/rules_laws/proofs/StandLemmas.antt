-- A place in a scope: what is wanted there, and what may stand there.
use Rattle.std.proofs.Common.{◌≡◌, ℕ, ◌+◌, ◌≤◌, ◌<◌, Bool, true, false, cond, Some, List, [], ◌∷◌, ◌++◌, length, length-append, refl, sym, ap, ◌∙◌, arith}
use Rattle.std.specs.Prelude.{◌&&◌, ◌||◌}
use Rattle.std.proofs.lemmas.Bool.{true≢false, and_right, eq-eqb, ne_eqb}
use Rattle.ifr_opcodes.specs.Forest.{Forest, none, node, flat, Mark, Ancestor, Node, AreNodes}
use Rattle.ifr_opcodes.specs.Opcode.{number}
use Rattle.ifr_opcodes.specs.Rows.{is_operator}
use Rattle.ifr_opcodes.proofs.ForestLemmas.{takes}
use Rattle.ifr_nodes.specs.Structure.{begins_scope, begins_with_value, stands_first, is_root, is_condition, is_operand, parent, is_operator_scope, first_number, lacks_expression, lacks_value, lacks_wanted}
use Rattle.ifr_nodes.specs.Table.{class_around, wants_expression, wants_value}
use Rattle.ifr_nodes.specs.declared.table.Class.{Class}
use Rattle.ifr_nodes.proofs.ExpressionLemmas.{innermost-push}
use Rattle.rules_laws.specs.laws.WellFormed.{Beginning, an_expression, a_value, nothing_first, wanted_by, class_inside}
use Rattle.rules_laws.proofs.RowLemmas.{is_plain, inside_plain, class_around-inside, value_alone}

-- ---- what is wanted

abbrev pub is_an_expression : Beginning → Bool
is_an_expression an_expression = true
is_an_expression _ = false

abbrev pub is_a_value : Beginning → Bool
is_a_value a_value = true
is_a_value _ = false

-- whether what is wanted is not there
abbrev pub lacks : Beginning → Forest → Bool
lacks an_expression f = lacks_expression (first_number f)
lacks a_value f = lacks_value (first_number f)
lacks nothing_first f = false

abbrev choice : Bool → Bool → Beginning
choice e v = cond e an_expression (cond v a_value nothing_first)

choice_expression : (e v : Bool) → is_an_expression (choice e v) ≡ e
choice_expression true v = refl
choice_expression false true = refl
choice_expression false false = refl

choice_value : (e v : Bool) → (v ≡ true → e ≡ false) → is_a_value (choice e v) ≡ v
choice_value true true alone = absurd (true≢false (alone refl))
choice_value true false alone = refl
choice_value false true alone = refl
choice_value false false alone = refl

or_false : (b : Bool) → (b || false) ≡ b
or_false true = refl
or_false false = refl

choice_lacks : (e v : Bool) (f : Forest) → (v ≡ true → e ≡ false) → ((e && lacks_expression (first_number f)) || (v && lacks_value (first_number f))) ≡ lacks (choice e v) f
choice_lacks true true f alone = absurd (true≢false (alone refl))
choice_lacks true false f alone = or_false (lacks_expression (first_number f))
choice_lacks false true f alone = refl
choice_lacks false false f alone = refl

pub lacks_as_wanted : (op : List ℕ) (f : Forest) → lacks_wanted op f ≡ lacks (wanted_by op) f
lacks_as_wanted op f = choice_lacks (wants_expression (number op)) (wants_value op) f (value_alone op)

-- ---- a place in the scope of an opcode

abbrev pub head : Ancestor → Mark
head a = record { place = a.place; op = a.op }

-- A place in the scope of the innermost of a path, which is no operator's.
pub record Stands (wanted : Beginning) (class : Class) (place : ℕ) (outer : List Ancestor) (a : Ancestor) : Type 0 where
  pub around : class_around (outer ++ a ∷ []) ≡ class
  pub plain : is_plain class ≡ true
  pub other : is_operator (number a.op) ≡ false
  pub low : 4 < place
  pub behind : a.place + length a.op ≤ place
  pub condition : begins_scope place (Some (head a)) ≡ is_an_expression wanted
  pub value : begins_with_value place (Some (head a)) ≡ is_a_value wanted

pub some_bytes : (op : List ℕ) (children rest : Forest) → AreNodes (node op children rest) → 0 < length (flat (node op children none))
some_bytes op children rest h = omega (arith, (takes op children rest h).0, h.0.whole.long)

-- behind a node nothing is wanted any more
pub later : (wanted : Beginning) (class : Class) (place more : ℕ) (outer : List Ancestor) (a : Ancestor) → 0 < more → Stands wanted class place outer a → Stands nothing_first class (place + more) outer a
later wanted class place more outer a some s = record {
  around = s.around;
  plain = s.plain;
  other = s.other;
  low = omega (arith, s.low);
  behind = omega (arith, s.behind);
  condition = and_right _ _ past;
  value = and_right _ _ past;
}
  where
    past : stands_first (place + more) (head a) ≡ false
    past = ne_eqb (place + more) (a.place + length a.op) (λ e. omega (arith, e, s.behind))

-- the first place in the scope of an opcode
pub first_of : (class : Class) (place : ℕ) (op : List ℕ) (children : Forest) (path : List Ancestor) → class_around path ≡ class → is_plain class ≡ true → is_operator (number op) ≡ false → 4 < place + length op
    → Stands (wanted_by op) (class_inside class op) (place + length op) path (record { place = place; op = op; children = children })
first_of class place op children path around plain other low = record {
  around = class_around-inside path (record { place = place; op = op; children = children }) ∙ ap (λ (c : Class). class_inside c op) around;
  plain = inside_plain class op plain other;
  other = other;
  low = low;
  behind = omega arith;
  condition = first (wants_expression (number op)) ∙ sym (choice_expression (wants_expression (number op)) (wants_value op));
  value = first (wants_value op) ∙ sym (choice_value (wants_expression (number op)) (wants_value op) (value_alone op));
}
  where
    first : (b : Bool) → (b && stands_first (place + length op) (record { place = place; op = op })) ≡ b
    first true = eq-eqb (place + length op) (place + length op) refl
    first false = refl

-- ---- a node there

abbrev pub there : ℕ → List ℕ → Forest → List Ancestor → Ancestor → Node
there place op children outer a = record { place = place; op = op; path = outer ++ a ∷ []; children = children }

module _ (place : ℕ) (op : List ℕ) (children : Forest) (outer : List Ancestor) (a : Ancestor) where
  pub no_root : is_root (there place op children outer a) ≡ false
  no_root = ne_eqb (length (outer ++ a ∷ [])) 0 (λ e. omega (arith, length-append outer (a ∷ []), e))

  pub its_parent : parent (there place op children outer a) ≡ Some (head a)
  its_parent = innermost-push outer a

  pub in_operator : is_operand (there place op children outer a) ≡ is_operator (number a.op)
  in_operator = ap is_operator_scope its_parent

  pub as_condition : is_condition (there place op children outer a) ≡ begins_scope place (Some (head a))
  as_condition = ap (begins_scope place) its_parent

  pub as_value : begins_with_value place (parent (there place op children outer a)) ≡ begins_with_value place (Some (head a))
  as_value = ap (begins_with_value place) its_parent
