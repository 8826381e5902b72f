-- Nodes that have no fault, and whose expressions have none.
use Rattle.std.proofs.Common.{◌≡◌, ℕ, zero, suc, ◌+◌, Bool, true, false, cond, Option, List, [], ◌∷◌, ◌++◌, length, refl, sym, ap, subst, ◌∙◌, arith, inl, inr}
use Rattle.std.specs.Prelude.{Contains, not, ⊤}
use Rattle.std.proofs.lemmas.Bool.{false≢true, not_from_true, not-false, false_from_ne_true}
use Rattle.std.proofs.lemmas.List.Elements.{Contains-append_cases, Contains-append_left, Contains-append_right}
use Rattle.hii_bytes.specs.Faults.{HasNone}
use Rattle.hii_bytes.specs.declared.cause.Cause.{Cause}
use Rattle.hii_bytes.specs.declared.cause.Cause.TheVariants.{NotFormSet, AfterFormSet, OpOutside, OpSize, Misplaced, ScopeBit, ExprShape}
use Rattle.ifr_opcodes.specs.Forest.{Forest, none, node, flat, Ancestor, Node, nodes_at, nodes}
use Rattle.ifr_opcodes.specs.Opcode.{number, has_scope}
use Rattle.ifr_opcodes.specs.Rows.{is_outside, is_short}
use Rattle.ifr_opcodes.proofs.RowLemmas.{inside_parts}
use Rattle.ifr_expr.specs.Faults.{IsExpressionFault}
use Rattle.ifr_expr.specs.Trees.{expression}
use Rattle.ifr_nodes.specs.Structure.{is_operand, is_wrong_scope, has_wrong_scope, lacks_wanted, has_structure_fault, is_expression, IsStructureFault}
use Rattle.ifr_nodes.specs.Table.{wants_value}
use Rattle.ifr_nodes.specs.declared.table.OpcodeRow.{OpcodeRow}
use Rattle.ifr_nodes.specs.declared.table.Scope.{Scope}
use Rattle.ifr_nodes.specs.declared.table.Scope.TheVariants.{Always, Sometimes, Never, Outermost, WithValue}
use Rattle.ifr_nodes.proofs.ViewLemmas.{further}
use Rattle.rules_laws.specs.laws.WellFormed.{FitsScope, IsGoodOpcode}
use Rattle.rules_laws.proofs.RowLemmas.{listed_row}

-- A node has no fault, nor has the expression that stands at it.
pub record IsClean (n : Node) : Type 0 where
  pub fault : (cause : Cause) → has_structure_fault n cause ≡ false
  pub expression : is_expression n ≡ true → HasNone (IsExpressionFault n.place (expression n.place n.op n.children))

-- the same of each node of a forest
abbrev pub AreClean : ℕ → List Ancestor → Forest → Type 0
AreClean at path none = ⊤
AreClean at path (node op children rest) =
    IsClean (record { place = at; op = op; path = path; children = children })
    × (AreClean (at + length op) (path ++ record { place = at; op = op; children = children } ∷ []) children
    × AreClean (at + length (flat (node op children none))) path rest)

each_clean : (f : Forest) (at : ℕ) (path : List Ancestor) (n : Node) → AreClean at path f → Contains (nodes_at at path f) n → IsClean n
each_clean none at path n c (k, lt, e) = absurd (omega arith)
each_clean (node op children rest) at path n c (zero, lt, e) = subst IsClean e c.0
each_clean (node op children rest) at path n c (suc k, lt, e) =
    let inner = path ++ record { place = at; op = op; children = children } ∷ [] in
    let behind = at + length (flat (node op children none)) in
    elim (Contains-append_cases (nodes_at (at + length op) inner children) (nodes_at behind path rest) n (k, omega arith, e)) [
      | inl w ↦ each_clean children (at + length op) inner n c.1.0 w
      | inr w ↦ each_clean rest behind path n c.1.1 w
    ]

all_clean : (f : Forest) (at : ℕ) (path : List Ancestor) → ((n : Node) → Contains (nodes_at at path f) n → IsClean n) → AreClean at path f
all_clean none at path each = tt
all_clean (node op children rest) at path each =
    let here : Node = record { place = at; op = op; path = path; children = children } in
    let entered = path ++ record { place = at; op = op; children = children } ∷ [] in
    let behind = at + length (flat (node op children none)) in
    let inner = nodes_at (at + length op) entered children in
    let outer = nodes_at behind path rest in (
      each here (0, omega arith, refl),
      (
        all_clean children (at + length op) entered (λ n w. each n (further here (inner ++ outer) n (Contains-append_left inner outer n w))),
        all_clean rest behind path (λ n w. each n (further here (inner ++ outer) n (Contains-append_right inner outer n w))),
      ),
    )

-- they are those of a package without fault
pub clean_without_fault : (op : List ℕ) (children rest : Forest) → AreClean 4 [] (node op children rest) → HasNone (IsStructureFault (nodes (node op children rest)))
clean_without_fault op children rest c cause place (inl (nothing, is, at)) = omega (arith, ap (λ (l : List Node). length l) nothing)
clean_without_fault op children rest c cause place (inr (inl (n, within, at, has))) = false≢true (sym ((each_clean (node op children rest) 4 [] n c within).fault cause) ∙ has)
clean_without_fault op children rest c cause place (inr (inr (n, within, is, fault))) = (each_clean (node op children rest) 4 [] n c within).expression is cause place fault

pub without_fault_clean : (f : Forest) → HasNone (IsStructureFault (nodes f)) → AreClean 4 [] f
without_fault_clean f sound = all_clean f 4 [] (λ n within. record {
  fault = λ cause. false_from_ne_true (has_structure_fault n cause) (λ has. sound cause n.place (inr (inl (n, within, refl, has))));
  expression = λ is cause place fault. sound cause place (inr (inr (n, within, is, fault)));
})

-- ---- a node's faults, one by one

pub no_fault : (n : Node) → has_structure_fault n NotFormSet ≡ false → has_structure_fault n AfterFormSet ≡ false → is_outside n.op ≡ false → is_short n.op ≡ false
    → has_structure_fault n Misplaced ≡ false → has_structure_fault n ScopeBit ≡ false → lacks_wanted n.op n.children ≡ false → (cause : Cause) → has_structure_fault n cause ≡ false
no_fault n first after known long placed scoped begins NotFormSet = first
no_fault n first after known long placed scoped begins AfterFormSet = after
no_fault n first after known long placed scoped begins OpOutside = known
no_fault n first after known long placed scoped begins OpSize = long
no_fault n first after known long placed scoped begins Misplaced = placed
no_fault n first after known long placed scoped begins ScopeBit = scoped
no_fault n first after known long placed scoped begins ExprShape = begins
no_fault n first after known long placed scoped begins _ = refl

-- ---- a good opcode

with_value : (wants scope : Bool) → scope ≡ wants → cond wants (not scope) scope ≡ false
with_value true scope e = ap not e
with_value false scope e = e

value_with : (wants scope : Bool) → cond wants (not scope) scope ≡ false → scope ≡ wants
value_with true scope e = not-false scope e
value_with false scope e = e

fitting : (scope : Scope) (op : List ℕ) → FitsScope scope op → is_wrong_scope scope false op ≡ false
fitting Always op fits = not_from_true (has_scope op) fits
fitting Sometimes op fits = refl
fitting Never op fits = fits
fitting Outermost op fits = refl
fitting WithValue op fits = with_value (wants_value op) (has_scope op) fits

not_wrong : (scope : Scope) (op : List ℕ) → is_wrong_scope scope false op ≡ false → FitsScope scope op
not_wrong Always op e = not-false (has_scope op) e
not_wrong Sometimes op e = tt
not_wrong Never op e = e
not_wrong Outermost op e = tt
not_wrong WithValue op e = value_with (wants_value op) (has_scope op) e

pub good_scope : (n : Node) → IsGoodOpcode n.op → is_operand n ≡ false → has_structure_fault n ScopeBit ≡ false
good_scope n g free =
    ap (λ (r : Option OpcodeRow). has_wrong_scope r (is_operand n) n.op) g.found ∙ ap (λ (b : Bool). is_wrong_scope g.in_table.scope b n.op) free ∙ fitting g.in_table.scope n.op g.scoped

pub clean_good : (n : Node) → IsClean n → is_operand n ≡ false → IsGoodOpcode n.op
clean_good n c free =
    let r = listed_row (number n.op) (inside_parts n.op (c.fault OpOutside)).0 in
    record {
      known = c.fault OpOutside;
      long = c.fault OpSize;
      in_table = r.0;
      found = r.1;
      scoped = not_wrong r.0.scope n.op (ap (λ (b : Bool). is_wrong_scope r.0.scope b n.op) (sym free) ∙ ap (λ (o : Option OpcodeRow). has_wrong_scope o (is_operand n) n.op) (sym r.1) ∙ c.fault ScopeBit);
    }
