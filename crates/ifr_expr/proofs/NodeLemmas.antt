-- The bytes of an expression's node, and its opcodes.
use Rattle.std.proofs.Common.{◌≡◌, ℕ, true, false, List, [], ◌∷◌, ◌++◌, length, take, drop, refl, sym, ap, subst, ◌∙◌, inl, inr}
use Rattle.std.specs.List.{concat}
use Rattle.std.proofs.lemmas.List.{append-nil, take_at, drop_at}
use Rattle.std.proofs.lemmas.Bool.{cases_Bool}
use Rattle.ifr_opcodes.specs.Opcode.{number, has_scope, stated_length, end}
use Rattle.ifr_opcodes.specs.Rows.{is_operator}
use Rattle.ifr_opcodes.specs.Forest.{Forest, none, node, opcodes, flat, AreNodes}
use Rattle.ifr_opcodes.specs.Reading.{opcodes_in, levels}
use Rattle.ifr_opcodes.specs.code.Marks.{inside}
use Rattle.ifr_opcodes.proofs.OpcodeLemmas.{AllWhole, stated_at}
use Rattle.ifr_opcodes.proofs.ForestLemmas.{opcodes_scoped, opcodes_plain, all_whole, opcodes_in_spelled, children_again}
use Rattle.ifr_expr.specs.code.Bytes.{front, children, IsExpressionNode, opcodes_of}
use Rattle.ifr_expr.specs.Trees.{expression}

behind_whole : (op : List ℕ) (ops : List (List ℕ)) → AllWhole (op ∷ ops) → AllWhole ops
behind_whole op ops h = h.1

-- what stands behind a node's opcode
record Behind (bytes op : List ℕ) (inner : Forest) : Type 0 where
  ops : List (List ℕ)
  all : opcodes (node op inner none) ≡ op ∷ ops
  below : inside op ops ≡ inner

scoped_inside : (op : List ℕ) (ops : List (List ℕ)) → has_scope op ≡ true → inside op ops ≡ (levels ops).0
scoped_inside op ops s = rw s refl

plain_inside : (op : List ℕ) (ops : List (List ℕ)) → has_scope op ≡ false → inside op ops ≡ none
plain_inside op ops s = rw s refl

behind : (bytes op : List ℕ) (inner : Forest) → AreNodes (node op inner none) → Behind bytes op inner
behind bytes op inner h = elim (cases_Bool (has_scope op)) [
  | inl s ↦ record {
    ops = opcodes inner ++ (end ∷ []);
    all = sym (append-nil (opcodes (node op inner none))) ∙ opcodes_scoped op inner none [] s;
    below = scoped_inside op (opcodes inner ++ (end ∷ [])) s ∙ children_again inner [] h.1.0;
  }
  | inr s ↦ record {
    ops = [];
    all = sym (append-nil (opcodes (node op inner none))) ∙ opcodes_plain op inner none [] s;
    below = plain_inside op [] s ∙ sym (h.0.leaf s);
  }
]

-- Bytes of a node begin with its opcode, and its children stand behind that.
pub node_of_bytes : (bytes op : List ℕ) (inner : Forest) → AreNodes (node op inner none) → bytes ≡ flat (node op inner none) → (front bytes ≡ op) × (children bytes ≡ inner)
node_of_bytes bytes op inner h e =
    let b = behind bytes op inner h in
    let split : bytes ≡ op ++ concat b.ops = e ∙ ap concat b.all in
    let size : stated_length bytes ≡ length op = ap stated_length split ∙ stated_at op (concat b.ops) h.0.whole in
    let first : front bytes ≡ op = ap (λ (n : ℕ). take n bytes) size ∙ ap (take (length op)) split ∙ take_at op (concat b.ops) (length op) refl in
    let rest : drop (length (front bytes)) bytes ≡ concat b.ops = ap (λ (l : List ℕ). drop (length l) bytes) first ∙ ap (drop (length op)) split ∙ drop_at op (concat b.ops) (length op) refl in
    let whole : AllWhole b.ops = behind_whole op b.ops (subst AllWhole b.all (all_whole (node op inner none) h)) in
    let again : opcodes_in (drop (length (front bytes)) bytes) ≡ b.ops = opcodes_in_spelled (drop (length (front bytes)) bytes) b.ops whole rest in
    (first, ap (λ (l : List ℕ). inside l (opcodes_in (drop (length (front bytes)) bytes))) first ∙ ap (inside op) again ∙ b.below)

carried : (P : List ℕ → Forest → Type 0) (a b : List ℕ) (c d : Forest) → a ≡ b → c ≡ d → P b d → P a c
carried P a b c d e f h = subst (λ (x : List ℕ). P x c) (sym e) (subst (P b) (sym f) h)

pub is_expression_node : (bytes op : List ℕ) (inner : Forest) → AreNodes (node op inner none) → bytes ≡ flat (node op inner none) → is_operator (number op) ≡ true → IsExpressionNode bytes
is_expression_node bytes op inner h e known =
    let parts = node_of_bytes bytes op inner h e in
    record {
      are_nodes = carried (λ (x : List ℕ) (c : Forest). AreNodes (node x c none)) (front bytes) op (children bytes) inner parts.0 parts.1 h;
      spelled = carried (λ (x : List ℕ) (c : Forest). bytes ≡ flat (node x c none)) (front bytes) op (children bytes) inner parts.0 parts.1 e;
      operator = ap (λ (l : List ℕ). is_operator (number l)) parts.0 ∙ known;
    }

pub opcodes_are : (at : ℕ) (bytes op : List ℕ) (inner : Forest) → AreNodes (node op inner none) → bytes ≡ flat (node op inner none) → opcodes_of at bytes ≡ expression at op inner
opcodes_are at bytes op inner h e =
    let parts = node_of_bytes bytes op inner h e in
    carried (λ (x : List ℕ) (c : Forest). expression at x c ≡ expression at op inner) (front bytes) op (children bytes) inner parts.0 parts.1 refl
