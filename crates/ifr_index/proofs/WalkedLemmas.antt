-- The node that the walk met, among the tables and the scopes that are open.
use Rattle.std.proofs.Common.{◌≡◌, ℕ, ◌+◌, ◌<◌, ◌≤◌, ◌^◌, true, List, [], ◌∷◌, ◌++◌, length, drop, refl, sym, ap, subst, ◌∙◌, append_assoc, inl, inr, arith, length-append}
use Rattle.std.specs.Prelude.{Contains}
use Rattle.std.proofs.lemmas.Bool.{false≢true}
use Rattle.std.proofs.lemmas.List.{length-drop}
use Rattle.std.proofs.lemmas.List.Elements.{Contains-append_right, Contains-push_cases}
use Rattle.hii_bytes.specs.declared.cause.Cause.{Cause}
use Rattle.ifr_expr.specs.Faults.{IsExpressionFault}
use Rattle.ifr_expr.specs.Trees.{expression}
use Rattle.ifr_opcodes.specs.Forest.{none, node, flat, Mark, Node, SpellsForest}
use Rattle.ifr_opcodes.specs.Reading.{tree_of, opcodes_in}
use Rattle.ifr_opcodes.specs.code.Marks.{inside}
use Rattle.ifr_opcodes.specs.code.Ops.{bytes_of}
use Rattle.ifr_opcodes.proofs.ForestLemmas.{takes}
use Rattle.ifr_nodes.specs.Checked.{IsChecked}
use Rattle.ifr_nodes.specs.Nodes.{nodes_of}
use Rattle.ifr_nodes.specs.Structure.{has_structure_fault, is_expression}
use Rattle.ifr_nodes.specs.code.Checked.{IsAt, node_in}
use Rattle.ifr_nodes.specs.code.Visits.{Meets, left}
use Rattle.ifr_nodes.specs.declared.walk.Visit.{Visit}
use Rattle.ifr_nodes.specs.declared.walk.Walk.{Walk}
use Rattle.ifr_nodes.proofs.PlaceLemmas.{node_stands}
use Rattle.ifr_nodes.proofs.StructureLemmas.{Stands, among, sound_all}
use Rattle.ifr_nodes.proofs.ViewLemmas.{is_at, node_in_place}
use Rattle.ifr_index.specs.code.Levels.{is_clear, IsPassed}
use Rattle.ifr_index.specs.declared.level.Level.{Level}
use Rattle.ifr_index.specs.declared.tables.Tables.{Tables}
use Rattle.ifr_index.proofs.IndexingLemmas.{path_depth}
use Rattle.ifr_index.proofs.MakingLemmas.{Made}
use Rattle.ifr_index.proofs.SoundLemmas.{has_none}

pub record Walked (bytes : List ℕ) (t : Tables) (levels : List Level) (visit : Visit) (new : Walk) : Type 0 where
  pub made : Made (nodes_of bytes) t levels (node_in bytes visit.op.place ∷ left new)
  pub stands : Stands (nodes_of bytes) (node_in bytes visit.op.place ∷ left new)
  pub within : Contains (nodes_of bytes) (node_in bytes visit.op.place)
  pub there : IsAt bytes visit.op.place (bytes_of visit.op)
  pub depth : visit.depth ≡ length (node_in bytes visit.op.place).path
  pub children : (node_in bytes visit.op.place).children ≡ inside (bytes_of visit.op) (opcodes_in (drop new.at new.bytes.now))

is_left : (all left : List Node) (n : Node) → Stands all (n ∷ left) → Contains all n
is_left all left n s = subst (λ (l : List Node). Contains l n) (sym s.split) (Contains-append_right s.before (n ∷ left) n (0, omega arith, refl))

pub walked : (bytes : List ℕ) (old new : Walk) (visit : Visit) (t : Tables) (levels : List Level) → SpellsForest bytes (tree_of bytes) → Meets old visit new → Made (nodes_of bytes) t levels (left old) → Stands (nodes_of bytes) (left old) → Walked bytes t levels visit new
walked bytes old new visit t levels s m made stands =
    let ns = nodes_of bytes in
    let st : Stands ns (m.node ∷ left new) = subst (Stands ns) m.next stands in
    let within = is_left ns (left new) m.node st in
    let here : visit.op.place ≡ m.node.place = ap (λ (k : Mark). k.place) m.shown in
    let same : node_in bytes visit.op.place ≡ m.node = ap (node_in bytes) here ∙ node_in_place bytes m.node s within in
    record {
      made = subst (λ (n : Node). Made ns t levels (n ∷ left new)) (sym same) (subst (Made ns t levels) m.next made);
      stands = subst (λ (n : Node). Stands ns (n ∷ left new)) (sym same) st;
      within = subst (λ (n : Node). Contains ns n) (sym same) within;
      there = subst (λ (k : Mark). IsAt bytes k.place k.op) (sym m.shown) (is_at bytes m.node s within);
      depth = path_depth new.bytes.now new.around.items visit.depth m.node m.within m.path ∙ ap (λ (n : Node). length n.path) (sym same);
      children = ap (λ (n : Node). n.children) same ∙ m.children;
    }

-- its opcode ends in the package
pub inside_of : (bytes : List ℕ) (n : Node) → SpellsForest bytes (tree_of bytes) → Contains (nodes_of bytes) n → n.place + length n.op ≤ length bytes
inside_of bytes n s within =
    let stood = node_stands bytes (tree_of bytes) n s within in
    let long : 2 ≤ length n.op = stood.2.0.whole.long in
    let size = takes n.op n.children none stood.2 in
    omega (arith, long, size, ap (λ (l : List ℕ). length l) stood.1, length-drop n.place bytes, length-append (flat (node n.op n.children none)) stood.0)

-- ---- a node was passed

no_fault : (n : Node) (cause : Cause) → is_clear n ≡ true → has_structure_fault n cause ≡ true → ⊥
no_fault n cause clear bad = false≢true (sym (has_none n cause clear (among n cause bad)) ∙ bad)

pub passed_on : (all left : List Node) (n : Node) → Stands all (n ∷ left) → IsPassed n → Stands all left
passed_on all left n s passed = record {
  before = s.before ++ n ∷ [];
  split = s.split ∙ sym (append_assoc s.before (n ∷ []) left);
  sound = λ d p (m, within, at, bad). elim (Contains-push_cases s.before n m within) [
    | inl w ↦ s.sound d p (m, w, at, bad)
    | inr same ↦ no_fault n d passed.clear (subst (λ (x : Node). has_structure_fault x d ≡ true) (sym same) bad)
  ];
  read = λ d p (m, within, is, fault). elim (Contains-push_cases s.before n m within) [
    | inl w ↦ s.read d p (m, w, is, fault)
    | inr same ↦ absurd (passed.expression (subst (λ (x : Node). is_expression x ≡ true) (sym same) is) d p (subst (λ (x : Node). IsExpressionFault x.place (expression x.place x.op x.children) d p) (sym same) fault))
  ];
}

-- all were
pub checked_all : (bytes : List ℕ) (left : List Node) → 4 ≤ length bytes → length bytes < 2 ^ 32 → SpellsForest bytes (tree_of bytes) → (length bytes ≡ 4 → ⊥) → Stands (nodes_of bytes) left → left ≡ [] → IsChecked bytes
checked_all bytes left header small spelled some stands ended = record {
  header = header;
  small = small;
  spelled = spelled;
  sound = sound_all bytes (tree_of bytes) left spelled (omega (arith, some, header)) stands ended;
}
