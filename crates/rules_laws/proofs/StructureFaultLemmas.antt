-- The chapters find the faults of nodes by themselves that the contracts say.
use Rattle.std.proofs.Common.{◌≡◌, ◌⊎◌, ◌==◌, ℕ, ◌+◌, Bool, true, false, not, Option, Some, None, List, [], ◌∷◌, ◌++◌, length, map, refl, ap, sym, subst, ◌∙◌, inl, inr, arith, append_assoc}
use Rattle.std.specs.Prelude.{◌||◌, ◌&&◌, if◌then◌else◌, option_map, Contains}
use Rattle.std.specs.List.{flat_map, last_or, list_all}
use Rattle.std.proofs.lemmas.Bool.{true≢false, false≢true}
use Rattle.std.proofs.lemmas.List.{append-nil}
use Rattle.std.proofs.lemmas.List.Elements.{Contains-append_right, Contains-append_cases}
use Rattle.hii_bytes.specs.declared.cause.Cause.{Cause}
use Rattle.hii_bytes.specs.declared.cause.Cause.TheVariants.{NotFormSet, AfterFormSet, OpOutside, OpSize, Misplaced, ScopeBit, ExprShape}
use Rattle.ifr_opcodes.specs.Fields.{is_listed}
use Rattle.ifr_opcodes.specs.Forest.{Ancestor, Forest, none, node, Node}
use Rattle.ifr_opcodes.specs.Opcode.{number}
use Rattle.ifr_opcodes.specs.Rows.{is_operator}
use Rattle.ifr_expr.specs.Faults.{IsShapeFault}
use Rattle.ifr_expr.specs.Trees.{siblings}
use Rattle.ifr_nodes.specs.Structure as tree
use Rattle.ifr_nodes.specs.Structure.{is_root, is_condition, is_wanted, is_operand, begins_scope, begins_with_value, is_operator_scope, first_number, has_structure_fault, IsStructureFault}
use Rattle.ifr_nodes.specs.Table.{admits, class_around, wants_value, wants_expression}
use Rattle.browser_rules.specs.Expressions as rules
use Rattle.browser_rules.specs.Faults.{Fault, structure_faults, class_along, is_first_in, is_misplaced, has_wrong_scope, begins_with_other, lacks_expression, fault_if, is_good_operator, order_faults, expression_faults, node_faults}
use Rattle.browser_rules.specs.Nodes.{is}
use Rattle.browser_rules.specs.Opcodes as chapter
use Rattle.browser_rules.specs.Opcodes.{Class, of_nothing, is_a, is_the, an_operator, row_of, FORM_SET, VALUE}
use Rattle.browser_rules.specs.Words as words
use Rattle.browser_rules.specs.Words.{last, is_some_and}
use Rattle.hii_bytes.specs.Faults.{AreFaults}
use Rattle.hii_bytes.specs.Causes.{cause_for}
use Rattle.rules_laws.specs.laws.Opcodes.{class_for, mark_for}
use Rattle.rules_laws.specs.laws.Structure.{opcodes_at, HasShapeFault, IsOwnFault, AreToldAtNodes}
use Rattle.rules_laws.proofs.FaultLemmas.{said_as, if_fault, either_kind, first_there}
use Rattle.rules_laws.proofs.NodeLemmas.{last_same}
use Rattle.hii_bytes.proofs.ChapterFaultLemmas.{both_kinds, one_fault, no_faults, where_same}
use Rattle.rules_laws.proofs.OpcodeExpressionLemmas.{opcodes_same}
use Rattle.ifr_opcodes.proofs.RowLemmas.{operator_same}
use Rattle.rules_laws.proofs.OpcodeScopeLemmas.{admits_same, inside_same, value_wanted_same, wanted_same, wrong_same}
use Rattle.std.proofs.Math.Bool.{and_assoc}
use Rattle.rules_laws.proofs.ShapeFaultLemmas.{no_opcode_fault, good_where, shape_faults}

-- ---- the faults of a node but those of its expression

abbrev own_faults : Node → List Fault
own_faults n =
    fault_if (n.place == 4 && not (is FORM_SET n)) words.NotFormSet n.place
    ++ fault_if (length n.path == 0 && not (n.place == 4)) words.AfterFormSet n.place
    ++ fault_if (chapter.is_outside n.op) words.OpOutside n.place
    ++ fault_if (chapter.is_short n.op) words.OpSize n.place
    ++ fault_if (is_misplaced n) words.Misplaced n.place
    ++ fault_if (has_wrong_scope n) words.ScopeBit n.place
    ++ fault_if (lacks_expression n) words.ExprShape n.place

-- ---- what is tested

in_operator : (o : Option Ancestor) → is_some_and (λ (a : Ancestor). is_a an_operator a.op) o ≡ is_operator_scope (option_map (λ a. record { place = a.place; op = a.op }) o)
in_operator None = refl
in_operator (Some a) = operator_same (number a.op)

operand_same : (n : Node) → is_some_and (λ (a : Ancestor). is_a an_operator a.op) (last n.path) ≡ is_operand n
operand_same n = ap (λ (o : Option Ancestor). is_some_and (λ (a : Ancestor). is_a an_operator a.op) o) (last_same n.path) ∙ in_operator (last_or None n.path)

in_condition : (place : ℕ) (o : Option Ancestor) → is_some_and (λ (a : Ancestor). chapter.wants_expression a.op && place == a.place + length a.op) o ≡ begins_scope place (option_map (λ a. record { place = a.place; op = a.op }) o)
in_condition place None = refl
in_condition place (Some a) = ap (λ (b : Bool). b && place == a.place + length a.op) (wanted_same (number a.op))

condition_same : (n : Node) → is_first_in chapter.wants_expression n ≡ is_condition n
condition_same n =
    ap (λ (o : Option Ancestor). is_some_and (λ (a : Ancestor). chapter.wants_expression a.op && n.place == a.place + length a.op) o) (last_same n.path)
    ∙ in_condition n.place (last_or None n.path)

either_first : (b c s : Bool) → ((b || c) && s) ≡ (b && s || c && s)
either_first true c true = refl
either_first true true false = refl
either_first true false false = refl
either_first false c s = refl

in_wanted : (place : ℕ) (o : Option Ancestor) → is_some_and (λ (a : Ancestor). (chapter.wants_expression a.op || chapter.wants_value a.op) && place == a.place + length a.op) o
    ≡ (begins_scope place (option_map (λ a. record { place = a.place; op = a.op }) o) || begins_with_value place (option_map (λ a. record { place = a.place; op = a.op }) o))
in_wanted place None = refl
in_wanted place (Some a) =
    ap (λ (b : Bool). (b || chapter.wants_value a.op) && place == a.place + length a.op) (wanted_same (number a.op))
    ∙ ap (λ (b : Bool). (wants_expression (number a.op) || b) && place == a.place + length a.op) (value_wanted_same a.op)
    ∙ either_first (wants_expression (number a.op)) (wants_value a.op) (place == a.place + length a.op)

wanted_first : (n : Node) → is_first_in (λ op. chapter.wants_expression op || chapter.wants_value op) n ≡ is_wanted n
wanted_first n =
    ap (λ (o : Option Ancestor). is_some_and (λ (a : Ancestor). (chapter.wants_expression a.op || chapter.wants_value a.op) && n.place == a.place + length a.op) o) (last_same n.path)
    ∙ in_wanted n.place (last_or None n.path)

along_same : (before path : List Ancestor) → class_along (class_for (class_around before)) path ≡ class_for (class_around (before ++ path))
along_same before [] = ap (λ (l : List Ancestor). class_for (class_around l)) (sym (append-nil before))
along_same before (a ∷ path) =
    ap (λ (c : Class). class_along c path) (inside_same before a)
    ∙ along_same (before ++ a ∷ []) path
    ∙ ap (λ (l : List Ancestor). class_for (class_around l)) (append_assoc before (a ∷ []) path)

misplaced_same : (n : Node) → is_misplaced n ≡ has_structure_fault n Misplaced
misplaced_same n =
    ap (λ (b : Bool). not (is_root n) && not b && not (chapter.admits (class_along of_nothing n.path) (number n.op))) (wanted_first n)
    ∙ ap (λ (c : Class). not (is_root n) && not (is_wanted n) && not (chapter.admits c (number n.op))) (along_same [] n.path)
    ∙ ap (λ (b : Bool). not (is_root n) && not (is_wanted n) && not b) (admits_same (class_around n.path) (number n.op))
    ∙ and_assoc (not (is_root n)) (not (is_wanted n)) (not (admits (class_around n.path) (number n.op)))

scope_same : (n : Node) → has_wrong_scope n ≡ has_structure_fault n ScopeBit
scope_same n =
    ap (λ (b : Bool). is_some_and (λ r. chapter.is_wrong_scope r.scope b n.op) (row_of (number n.op))) (operand_same n)
    ∙ wrong_same (is_operand n) n.op

other_expression : (f : Forest) → begins_with_other (is_a an_operator) f ≡ tree.lacks_expression (first_number f)
other_expression none = refl
other_expression (node op children rest) =
    ap (λ (b : Bool). is_listed (number op) && not b) (operator_same (number op))

other_value : (f : Forest) → begins_with_other (is_the VALUE) f ≡ tree.lacks_value (first_number f)
other_value none = refl
other_value (node op children rest) = refl

lacks_same : (n : Node) → lacks_expression n ≡ has_structure_fault n ExprShape
lacks_same n =
    ap (λ (b : Bool). b && begins_with_other (is_a an_operator) n.children || chapter.wants_value n.op && begins_with_other (is_the VALUE) n.children) (wanted_same (number n.op))
    ∙ ap (λ (b : Bool). wants_expression (number n.op) && b || chapter.wants_value n.op && begins_with_other (is_the VALUE) n.children) (other_expression n.children)
    ∙ ap (λ (b : Bool). wants_expression (number n.op) && tree.lacks_expression (first_number n.children) || b && begins_with_other (is_the VALUE) n.children) (value_wanted_same n.op)
    ∙ ap (λ (b : Bool). wants_expression (number n.op) && tree.lacks_expression (first_number n.children) || wants_value n.op && b) (other_value n.children)

-- ---- the faults of a node by its causes

-- those before, and one of each cause of which a test holds
abbrev told_in : (Cause → Bool) → ℕ → List Fault → List Cause → List Fault
told_in test at before [] = before
told_in test at before (d ∷ ds) = told_in test at (before ++ fault_if (test d) (cause_for d) at) ds

told_all : (test : Cause → Bool) (at : ℕ) (before : List Fault) (Before : Cause → ℕ → Type 0) (ds : List Cause) → AreFaults before Before
    → AreFaults (told_in test at before ds) (λ c p. Before c p ⊎ (Contains ds c × (at ≡ p) × (test c ≡ true)))
told_all test at before Before [] are = said_as before Before (λ c p. Before c p ⊎ (Contains [] c × (at ≡ p) × (test c ≡ true))) are (λ c p. (λ b. inl b, λ is. elim is [ inl b ↦ b | inr t ↦ absurd (omega (arith, t.0.1)) ]))
told_all test at before Before (d ∷ ds) are =
    said_as (told_in test at (before ++ fault_if (test d) (cause_for d) at) ds) (λ c p. Next c p ⊎ (Contains ds c × (at ≡ p) × (test c ≡ true))) (λ c p. Before c p ⊎ (Contains (d ∷ ds) c × (at ≡ p) × (test c ≡ true)))
    (told_all test at (before ++ fault_if (test d) (cause_for d) at) Next ds (either_kind before (fault_if (test d) (cause_for d) at) Before One are (if_fault (test d) d at)))
    (λ c p. (to c p, from c p))
  where
    One : Cause → ℕ → Type 0
    One c p = (at ≡ p) × (c ≡ d) × (test d ≡ true)

    Next : Cause → ℕ → Type 0
    Next c p = Before c p ⊎ One c p

    to : (c : Cause) (p : ℕ) → Next c p ⊎ (Contains ds c × (at ≡ p) × (test c ≡ true)) → Before c p ⊎ (Contains (d ∷ ds) c × (at ≡ p) × (test c ≡ true))
    to c p (inl (inl b)) = inl b
    to c p (inl (inr (e, same, is))) = inr ((0, omega arith, sym same), e, ap test same ∙ is)
    to c p (inr (there, e, is)) = inr (Contains-append_right (d ∷ []) ds c there, e, is)

    from : (c : Cause) (p : ℕ) → Before c p ⊎ (Contains (d ∷ ds) c × (at ≡ p) × (test c ≡ true)) → Next c p ⊎ (Contains ds c × (at ≡ p) × (test c ≡ true))
    from c p (inl b) = inl (inl b)
    from c p (inr (there, e, is)) = elim (Contains-append_cases (d ∷ []) ds c there) [
      | inl first ↦ (let same : d ≡ c = first_there d c first in inl (inr (e, sym same, ap test same ∙ is)))
      | inr later ↦ inr (later, e, is)
    ]

abbrev causes : List Cause
causes = NotFormSet ∷ AfterFormSet ∷ OpOutside ∷ OpSize ∷ Misplaced ∷ ScopeBit ∷ ExprShape ∷ []

among : (n : Node) (c : Cause) → has_structure_fault n c ≡ true → Contains causes c
among n NotFormSet h = (0, omega arith, refl)
among n AfterFormSet h = (1, omega arith, refl)
among n OpOutside h = (2, omega arith, refl)
among n OpSize h = (3, omega arith, refl)
among n Misplaced h = (4, omega arith, refl)
among n ScopeBit h = (5, omega arith, refl)
among n ExprShape h = (6, omega arith, refl)
among n _ h = absurd (false≢true h)

own_by : (n : Node) → (outside short misplaced scope lacks : Bool) → List Fault
own_by n outside short misplaced scope lacks =
    fault_if (n.place == 4 && not (is FORM_SET n)) words.NotFormSet n.place
    ++ fault_if (length n.path == 0 && not (n.place == 4)) words.AfterFormSet n.place
    ++ fault_if outside words.OpOutside n.place
    ++ fault_if short words.OpSize n.place
    ++ fault_if misplaced words.Misplaced n.place
    ++ fault_if scope words.ScopeBit n.place
    ++ fault_if lacks words.ExprShape n.place

own_same : (n : Node) → own_faults n ≡ told_in (has_structure_fault n) n.place [] causes
unfolding own_by
own_same n =
    ap (λ (b : Bool). own_by n (has_structure_fault n OpOutside) (has_structure_fault n OpSize) b (has_wrong_scope n) (lacks_expression n)) (misplaced_same n)
    ∙ ap (λ (b : Bool). own_by n (has_structure_fault n OpOutside) (has_structure_fault n OpSize) (has_structure_fault n Misplaced) b (lacks_expression n)) (scope_same n)
    ∙ ap (λ (b : Bool). own_by n (has_structure_fault n OpOutside) (has_structure_fault n OpSize) (has_structure_fault n Misplaced) (has_structure_fault n ScopeBit) b) (lacks_same n)

abbrev HasOwn : Node → Cause → ℕ → Type 0
HasOwn n c p = (n.place ≡ p) × (has_structure_fault n c ≡ true)

own_are : (n : Node) → AreFaults (own_faults n) (HasOwn n)
own_are n =
    where_same (HasOwn n) (own_same n)
    (said_as (told_in (has_structure_fault n) n.place [] causes) (λ c p. ⊥ ⊎ (Contains causes c × (n.place ≡ p) × (has_structure_fault n c ≡ true))) (HasOwn n)
    (told_all (has_structure_fault n) n.place [] (λ c p. ⊥) causes (no_faults (λ c p. ⊥) (λ c p bad. bad)))
    (λ c p. (λ is. elim is [ inl bad ↦ absurd bad | inr t ↦ (t.1, t.2) ], λ is. inr (among n c is.1, is.0, is.1))))

-- ---- the faults of an expression

expression_are : (n : Node) → AreFaults (expression_faults n) (HasShapeFault n)
expression_are n =
    where_same (HasShapeFault n)
    (ap (λ (ms : List rules.Mark). if is_first_in chapter.wants_expression n && list_all (is_good_operator n.place) ms then order_faults n.place 0 ms else []) (opcodes_same n.place n.op n.children)
    ∙ ap (λ (b : Bool). if b && good then order_faults n.place 0 (map mark_for (opcodes_at n)) else []) (condition_same n))
    (by (is_condition n) good refl refl)
  where
    good : Bool
    good = list_all (is_good_operator n.place) (map mark_for (opcodes_at n))

    operator : good ≡ true → is_operator (number n.op) ≡ true
    operator is = sym (operator_same (number n.op)) ∙ first_of (is_a an_operator n.op) _ _ _ _ is
      where
        first_of : (a b c d e : Bool) → (a && b && c && d && e) ≡ true → a ≡ true
        first_of true b c d e h = refl
        first_of false b c d e h = absurd (false≢true h)

    by : (a b : Bool) → is_condition n ≡ a → good ≡ b → AreFaults (if a && b then order_faults n.place 0 (map mark_for (opcodes_at n)) else []) (HasShapeFault n)
    by true true at is =
        said_as (order_faults n.place 0 (map mark_for (opcodes_at n))) (IsShapeFault n.place (opcodes_at n)) (HasShapeFault n)
        (shape_faults n.place (record { place = n.place; op = n.op }) (siblings (n.place + length n.op) n.children) is)
        (λ c p. (λ has. (rw (at, operator is) refl, no_opcode_fault n.place (opcodes_at n) is, has), λ has. has.2))
    by true false at is = no_faults (HasShapeFault n) (λ c p has. true≢false (sym (good_where n.place (opcodes_at n) has.1) ∙ is))
    by false b at is = no_faults (HasShapeFault n) (λ c p has. false≢true (sym (ap (λ (x : Bool). x && is_operator (number n.op)) at) ∙ has.0))

-- ---- all nodes

-- The faults of several things, each with its own.
each_of : {X : Type 0} (faults : X → List Fault) (Has : X → Cause → ℕ → Type 0) (xs : List X) → ((x : X) → Contains xs x → AreFaults (faults x) (Has x))
    → AreFaults (flat_map faults xs) (λ c p. (x : X) × Contains xs x × Has x c p)
each_of {X} faults Has [] one = no_faults (λ c p. (x : X) × Contains [] x × Has x c p) (λ c p is. omega (arith, is.1.1))
each_of {X} faults Has (x ∷ xs) one =
    both_kinds (faults x) (flat_map faults xs) (Has x) (λ c p. (y : X) × Contains xs y × Has y c p) (λ c p. (y : X) × Contains (x ∷ xs) y × Has y c p) (one x (0, omega arith, refl))
    (each_of faults Has xs (λ y there. one y (Contains-append_right (x ∷ []) xs y there)))
    (λ c p is. (x, (0, omega arith, refl), is))
    (λ c p is. (is.0, Contains-append_right (x ∷ []) xs is.0 is.1, is.2))
    out
  where
    out : (c : Cause) (p : ℕ) → (y : X) × Contains (x ∷ xs) y × Has y c p → Has x c p ⊎ ((y : X) × Contains xs y × Has y c p)
    out c p (y, there, has) = elim (Contains-append_cases (x ∷ []) xs y there) [
      | inl first ↦ (let same : y ≡ x = sym (first_there x y first) in inl (subst (λ (z : X). Has z c p) same has))
      | inr later ↦ inr (y, later, has)
    ]

abbrev HasEither : Node → Cause → ℕ → Type 0
HasEither n c p = HasOwn n c p ⊎ HasShapeFault n c p

node_are : (n : Node) → AreFaults (node_faults n) (HasEither n)
node_are n = either_kind (own_faults n) (expression_faults n) (HasOwn n) (HasShapeFault n) (own_are n) (expression_are n)

pub same_own_faults : (ns : List Node) → AreFaults (structure_faults ns) (IsOwnFault ns)
same_own_faults [] = one_fault (IsOwnFault []) NotFormSet 4 (inl (refl, refl, refl)) only
  where
    only : (c : Cause) (p : ℕ) → IsOwnFault [] c p → (c ≡ NotFormSet) × (p ≡ 4)
    only c p (inl a) = (a.1, a.2)
    only c p (inr (inl b)) = absurd (omega (arith, b.1.1))
    only c p (inr (inr b)) = absurd (omega (arith, b.1.1))
same_own_faults (n ∷ ns) =
    said_as (flat_map node_faults (n ∷ ns)) (λ c p. (m : Node) × Contains (n ∷ ns) m × HasEither m c p) (IsOwnFault (n ∷ ns))
    (each_of node_faults HasEither (n ∷ ns) (λ m there. node_are m))
    (λ c p. (to c p, from c p))
  where
    to : (c : Cause) (p : ℕ) → (m : Node) × Contains (n ∷ ns) m × HasEither m c p → IsOwnFault (n ∷ ns) c p
    to c p (m, there, inl own) = inr (inl (m, there, own.0, own.1))
    to c p (m, there, inr shape) = inr (inr (m, there, shape))

    from : (c : Cause) (p : ℕ) → IsOwnFault (n ∷ ns) c p → (m : Node) × Contains (n ∷ ns) m × HasEither m c p
    from c p (inl a) = absurd (some_node a.0)
      where
        some_node : n ∷ ns ≡ [] → ⊥
        some_node e = cc
    from c p (inr (inl (m, there, e, has))) = (m, there, inl (e, has))
    from c p (inr (inr (m, there, shape))) = (m, there, inr shape)

pub same_structure_faults : (ns : List Node) → AreToldAtNodes ns → AreFaults (structure_faults ns) (IsStructureFault ns)
same_structure_faults ns at_nodes = said_as (structure_faults ns) (IsOwnFault ns) (IsStructureFault ns) (same_own_faults ns) (λ c p. (to c p, from c p))
  where
    to : (c : Cause) (p : ℕ) → IsOwnFault ns c p → IsStructureFault ns c p
    to c p (inl a) = inl a
    to c p (inr (inl b)) = inr (inl b)
    to c p (inr (inr (m, there, (stands, clear, shape)))) = inr (inr (m, there, stands, inr (clear, shape)))

    from : (c : Cause) (p : ℕ) → IsStructureFault ns c p → IsOwnFault ns c p
    from c p (inl a) = inl a
    from c p (inr (inl b)) = inr (inl b)
    from c p (inr (inr (m, there, stands, inl opcode))) = inr (inl (at_nodes m there stands c p opcode))
    from c p (inr (inr (m, there, stands, inr (clear, shape)))) = inr (inr (m, there, (stands, clear, shape)))
