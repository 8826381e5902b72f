-- A node ends behind as many ENDs as scopes were opened.
use Rattle.std.proofs.Common.{◌≡◌, ◌≢◌, ℕ, zero, suc, ◌+◌, ◌-◌, ◌<◌, ◌≤◌, Bool, true, false, cond, if◌then◌else◌, List, [], ◌∷◌, ◌++◌, length, drop, refl, sym, ap, subst, ◌∙◌, arith, inl, inr, length-append}
use Rattle.std.specs.List.{concat}
use Rattle.std.proofs.lemmas.List.{length-drop, drop-drop, drop_at}
use Rattle.std.proofs.lemmas.Bool.{cases_Bool, ne_eqb, eq-eqb, cond-true, cond-false}
use Rattle.ifr_opcodes.specs.declared.codes.TheConstants.{END}
use Rattle.ifr_opcodes.specs.declared.op.Op.{Op}
use Rattle.ifr_opcodes.specs.Opcode.{number, has_scope, end, is_end, IsWhole}
use Rattle.ifr_opcodes.specs.Forest.{Forest, none, node, opcodes, flat, AreNodes, SpellsForest, Mark, Node}
use Rattle.ifr_opcodes.specs.code.Marks.{mark}
use Rattle.ifr_opcodes.specs.code.Ops.{bytes_of, op_of}
use Rattle.ifr_opcodes.specs.Reading.{opcodes_in, tree_of}
use Rattle.ifr_opcodes.specs.code.Marks.{mark_at}
use Rattle.ifr_opcodes.proofs.OpcodeLemmas.{AllWhole, concat-append, has_scope_spelled}
use Rattle.ifr_opcodes.proofs.ForestLemmas.{opcodes_scoped, opcodes_plain, size_scoped, size_plain, opcodes_in_spelled}
use Rattle.ifr_expr.specs.code.Bytes.{AreOpcodes}
use Rattle.ifr_expr.proofs.OpcodeSteps.{cut_off}
use Rattle.ifr_nodes.specs.code.Checked.{or_empty, node_in, has_node}
use Rattle.ifr_nodes.specs.Nodes.{nodes_of, end_of}
use Rattle.ifr_nodes.proofs.PlaceLemmas.{StandsAt, stands_at, found_place}
use Rattle.ifr_nodes.proofs.ViewLemmas.{some_there}
use Rattle.ifr_nodes.proofs.WalkLemmas.{marked_node}

-- how many scopes are open behind an opcode, where one and so many more are open before it
abbrev pub still_open : List ℕ → ℕ → ℕ
still_open op d = if is_end op then d else (if has_scope op then suc (suc d) else suc d)

-- how many bytes of opcodes there are up to the end of so many scopes
unfoldable pub up_to_end : ℕ → List (List ℕ) → ℕ
up_to_end zero ops = 0
up_to_end (suc d) [] = 0
up_to_end (suc d) (op ∷ ops) = length op + up_to_end (still_open op d) ops

past_end : (d : ℕ) (ops : List (List ℕ)) → up_to_end (suc d) (end ∷ ops) ≡ 2 + up_to_end d ops
unfolding up_to_end
past_end d ops = refl

past_scoped : (d : ℕ) (op : List ℕ) (ops : List (List ℕ)) → number op ≢ END → has_scope op ≡ true → up_to_end (suc d) (op ∷ ops) ≡ length op + up_to_end (suc (suc d)) ops
unfolding up_to_end
past_scoped d op ops n s = rw (ne_eqb (number op) END n, s) refl

past_plain : (d : ℕ) (op : List ℕ) (ops : List (List ℕ)) → number op ≢ END → has_scope op ≡ false → up_to_end (suc d) (op ∷ ops) ≡ length op + up_to_end (suc d) ops
unfolding up_to_end
past_plain d op ops n s = rw (ne_eqb (number op) END n, s) refl

at_end : (ops : List (List ℕ)) → up_to_end 0 ops ≡ 0
unfolding up_to_end
at_end ops = refl

none_left : (d : ℕ) → up_to_end d [] ≡ 0
unfolding up_to_end
none_left zero = refl
none_left (suc d) = refl

-- a forest closes each scope that it opens
past_forest : (f : Forest) (d : ℕ) (more : List (List ℕ)) → AreNodes f → up_to_end (suc d) (opcodes f ++ more) ≡ length (flat f) + up_to_end (suc d) more
past_forest none d more h = omega arith
past_forest (node op children rest) d more h = elim (cases_Bool (has_scope op)) [
  | inl s ↦
      omega (
        arith,
        ap (up_to_end (suc d)) (opcodes_scoped op children rest more s),
        past_scoped d op (opcodes children ++ (end ∷ (opcodes rest ++ more))) h.0.no_end s,
        past_forest children (suc d) (end ∷ (opcodes rest ++ more)) h.1.0,
        past_end (suc d) (opcodes rest ++ more),
        past_forest rest d more h.1.1,
        size_scoped op children rest s,
      )
  | inr s ↦
      omega (
        arith,
        ap (up_to_end (suc d)) (opcodes_plain op children rest more s),
        past_plain d op (opcodes rest ++ more) h.0.no_end s,
        past_forest rest d more h.1.1,
        size_plain op children rest s,
      )
]

-- So many scopes are open at a place, and the last of them ends at another.
pub record Ends (bytes : List ℕ) (at depth to : ℕ) : Type 0 where
  pub opcodes : AreOpcodes (drop at bytes)
  pub within : at ≤ length bytes
  pub few : depth ≤ at
  pub there : at + up_to_end depth (opcodes_in (drop at bytes)) ≡ to

-- the node at a place
pub stands_there : (bytes : List ℕ) (place : ℕ) → SpellsForest bytes (tree_of bytes) → has_node bytes place ≡ true → StandsAt bytes (node_in bytes place) × ((node_in bytes place).place ≡ place)
unfolding node_in
stands_there bytes place s there =
    let found = some_there _ there in
    subst (λ (n : Node). StandsAt bytes n × (n.place ≡ place)) (sym (ap or_empty found.1)) (stands_at bytes (tree_of bytes) place found.0 s found.1, found_place (nodes_of bytes) place found.0 found.1)

behind_first : (bytes : List ℕ) (at : ℕ) (op : List ℕ) (others : List (List ℕ)) → AllWhole (op ∷ others) → drop at bytes ≡ concat (op ∷ others) → at ≤ length bytes
    → (opcodes_in (drop (at + length op) bytes) ≡ others) × (AreOpcodes (drop (at + length op) bytes) × (at + length op ≤ length bytes))
behind_first bytes at op others w e le =
    let rest : drop (at + length op) bytes ≡ concat others = sym (drop-drop (length op) at bytes) ∙ ap (drop (length op)) e ∙ drop_at op (concat others) (length op) refl in
    let is : opcodes_in (drop (at + length op) bytes) ≡ others = opcodes_in_spelled (drop (at + length op) bytes) others w.1 rest in
    (is, (record { whole = rw is w.1; joined = ap concat is ∙ sym rest }, omega (arith, le, ap length e, length-drop at bytes, length-append op (concat others))))

-- behind a node's opcode
begins : (bytes : List ℕ) (n : Node) → StandsAt bytes n → n.place ≤ length bytes → Ends bytes (n.place + length n.op) (cond (has_scope n.op) 1 0) (end_of n)
begins bytes n s le = go (has_scope n.op) refl
  where
    long : 2 ≤ length n.op
    long = s.are_nodes.0.whole.long

    go : (b : Bool) → has_scope n.op ≡ b → Ends bytes (n.place + length n.op) (cond b 1 0) (end_of n)
    go true scoped =
        let others = opcodes n.children ++ (end ∷ s.behind) in
        let all = opcodes_scoped n.op n.children none s.behind scoped in
        let b = behind_first bytes n.place n.op others (subst AllWhole all s.whole) (s.spelled ∙ ap concat all) le in
        record {
          opcodes = b.1.0;
          within = b.1.1;
          few = omega (arith, long);
          there = omega (arith, ap (up_to_end 1) b.0, past_forest n.children 0 (end ∷ s.behind) s.are_nodes.1.0, past_end 0 s.behind, at_end s.behind, size_scoped n.op n.children none scoped);
        }
    go false bare =
        let all = opcodes_plain n.op n.children none s.behind bare in
        let b = behind_first bytes n.place n.op s.behind (subst AllWhole all s.whole) (s.spelled ∙ ap concat all) le in
        record {
          opcodes = b.1.0;
          within = b.1.1;
          few = omega arith;
          there = omega (arith, at_end (opcodes_in (drop (n.place + length n.op) bytes)), size_plain n.op n.children none bare);
        }

-- a node lies inside of the package
place_within : (bytes : List ℕ) (n : Node) → StandsAt bytes n → n.place ≤ length bytes
place_within bytes n s = elim (cases_Bool (has_scope n.op)) [
  | inl scoped ↦ go (opcodes n.children ++ (end ∷ s.behind)) (opcodes_scoped n.op n.children none s.behind scoped)
  | inr bare ↦ go s.behind (opcodes_plain n.op n.children none s.behind bare)
]
  where
    go : (others : List (List ℕ)) → opcodes (node n.op n.children none) ++ s.behind ≡ n.op ∷ others → n.place ≤ length bytes
    go others all =
        let long : 2 ≤ length n.op = s.are_nodes.0.whole.long in
        omega (arith, long, ap length (s.spelled ∙ ap concat all), length-drop n.place bytes, length-append n.op (concat others))

-- and so does its end
pub end_within : (bytes : List ℕ) (place : ℕ) → SpellsForest bytes (tree_of bytes) → has_node bytes place ≡ true → end_of (node_in bytes place) ≤ length bytes
end_within bytes place s there =
    let n = node_in bytes place in
    let stood = (stands_there bytes place s there).0 in
    let its = opcodes (node n.op n.children none) in
    let all = ap (λ (l : List ℕ). length l) (stood.spelled ∙ concat-append its stood.behind) in
    omega (arith, all, place_within bytes n stood, length-drop n.place bytes, length-append (concat its) (concat stood.behind))

pub ends_first : (bytes : List ℕ) (place : ℕ) (first : Op) → SpellsForest bytes (tree_of bytes) → has_node bytes place ≡ true → op_of first ≡ mark_at bytes place
    → Ends bytes (place + length (bytes_of first)) (cond first.scope 1 0) (end_of (node_in bytes place))
ends_first bytes place first s there e =
    let n = node_in bytes place in
    let stood = stands_there bytes place s there in
    let same : mark n ≡ op_of first = sym (marked_node bytes n stood.0) ∙ ap (mark_at bytes) stood.1 ∙ sym e in
    subst (λ (m : Mark). Ends bytes (m.place + length m.op) (cond first.scope 1 0) (end_of n)) (same ∙ ap (λ (p : ℕ). record { place = p; op = bytes_of first }) (ap (λ (m : Mark). m.place) (sym same) ∙ stood.1))
    (subst (λ b. Ends bytes (n.place + length n.op) (cond b 1 0) (end_of n)) (ap (λ (m : Mark). has_scope m.op) same ∙ has_scope_spelled first.code first.scope first.body.now first.whole)
    (begins bytes n stood.0 (place_within bytes n stood.0)))

-- ---- past one opcode

few_open : (last scoped : Bool) (d : ℕ) → cond last d (cond scoped (suc (suc d)) (suc d)) ≤ suc (suc d)
few_open true scoped d = omega arith
few_open false true d = omega arith
few_open false false d = omega arith

ends_past : (bytes : List ℕ) (at d next to : ℕ) (op others : List ℕ) → Ends bytes at (suc d) to → IsWhole op → drop at bytes ≡ op ++ others → still_open op d ≡ next → Ends bytes (at + length op) next to
unfolding up_to_end
ends_past bytes at d next to op others e w is behind =
    let cut = cut_off (drop at bytes) op others e.opcodes w is in
    let rest : drop (at + length op) bytes ≡ others = sym (drop-drop (length op) at bytes) ∙ ap (drop (length op)) is ∙ drop_at op others (length op) refl in
    let first : up_to_end (suc d) (opcodes_in (drop at bytes)) ≡ length op + up_to_end next (opcodes_in (drop (at + length op) bytes)) =
    ap (up_to_end (suc d)) cut.0 ∙ ap (λ (n : ℕ). length op + up_to_end n (opcodes_in others)) behind ∙ ap (λ (l : List ℕ). length op + up_to_end next (opcodes_in l)) (sym rest) in
    let long : 2 ≤ length op = w.long in
    record {
      opcodes = subst AreOpcodes (sym rest) cut.1;
      within = omega (arith, e.within, ap length is, length-drop at bytes, length-append op others);
      few = omega (arith, e.few, long, behind, few_open (is_end op) (has_scope op) d);
      there = omega (arith, e.there, first);
    }

pub ends_past_end : (bytes : List ℕ) (at depth to : ℕ) (op others : List ℕ) → Ends bytes at depth to → 0 < depth → IsWhole op → drop at bytes ≡ op ++ others → number op ≡ END → Ends bytes (at + length op) (depth - 1) to
ends_past_end bytes at zero to op others e some w is last = absurd (omega arith)
ends_past_end bytes at (suc d) to op others e some w is last = ends_past bytes at d (suc d - 1) to op others e w is (cond-true (is_end op) _ _ (eq-eqb (number op) END last) ∙ omega arith)

pub ends_past_scoped : (bytes : List ℕ) (at depth to : ℕ) (op others : List ℕ) → Ends bytes at depth to → 0 < depth → IsWhole op → drop at bytes ≡ op ++ others → number op ≢ END → has_scope op ≡ true → Ends bytes (at + length op) (depth + 1) to
ends_past_scoped bytes at zero to op others e some w is other scoped = absurd (omega arith)
ends_past_scoped bytes at (suc d) to op others e some w is other scoped =
    ends_past bytes at d (suc d + 1) to op others e w is (cond-false (is_end op) _ _ (ne_eqb (number op) END other) ∙ cond-true (has_scope op) _ _ scoped ∙ omega arith)

pub ends_past_plain : (bytes : List ℕ) (at depth to : ℕ) (op others : List ℕ) → Ends bytes at depth to → 0 < depth → IsWhole op → drop at bytes ≡ op ++ others → number op ≢ END → has_scope op ≡ false → Ends bytes (at + length op) depth to
ends_past_plain bytes at zero to op others e some w is other bare = absurd (omega arith)
ends_past_plain bytes at (suc d) to op others e some w is other bare =
    ends_past bytes at d (suc d) to op others e w is (cond-false (is_end op) _ _ (ne_eqb (number op) END other) ∙ cond-false (has_scope op) _ _ bare)

pub ends_at : (bytes : List ℕ) (at depth to : ℕ) → Ends bytes at depth to → depth ≡ 0 → at ≡ to
ends_at bytes at depth to e closed = omega (arith, e.there, ap (λ (d : ℕ). up_to_end d (opcodes_in (drop at bytes))) closed, at_end (opcodes_in (drop at bytes)))

pub ends_missing : (bytes : List ℕ) (at depth to : ℕ) → Ends bytes at depth to → ((op more : List ℕ) → IsWhole op → drop at bytes ≡ op ++ more → ⊥) → at ≡ to
ends_missing bytes at depth to e missing = go (opcodes_in (drop at bytes)) refl e.opcodes.whole e.opcodes.joined
  where
    go : (ops : List (List ℕ)) → opcodes_in (drop at bytes) ≡ ops → AllWhole ops → concat ops ≡ drop at bytes → at ≡ to
    go [] is w joined = omega (arith, e.there, ap (up_to_end depth) is, none_left depth)
    go (op ∷ ops) is w joined = absurd (missing op (concat ops) w.0 (sym joined))
