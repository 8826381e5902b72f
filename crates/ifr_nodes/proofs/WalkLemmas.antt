-- A walk goes on by one opcode.
use Rattle.std.proofs.Common.{All, Bool, cond, ◌≡◌, ℕ, ◌+◌, ◌-◌, ◌^◌, ◌<◌, ◌≤◌, true, false, max, if◌then◌else◌, rules, IsSome, Option, Some, None, List, [], ◌∷◌, ◌++◌, length, take, drop, map, refl, sym, ap, subst, ◌∙◌, arith, inl, inr}
use Rattle.std.specs.List.{concat}
use Rattle.std.proofs.lemmas.List.{take_at, drop_at, drop-drop, length-append, length-drop, length-map, take-map, map_push, length-take, nil_from_length, append-nil}
use Rattle.std.proofs.lemmas.List.Elements.{All-take, All-push}
use Rattle.std.proofs.lemmas.Bool.{eq-eqb, ne_eqb, cases_Bool}
use Rattle.ifr_opcodes.specs.declared.codes.TheConstants.{END}
use Rattle.ifr_opcodes.specs.Opcode.{number, stated_length, has_scope, end, IsWhole}
use Rattle.ifr_opcodes.specs.Forest.{Forest, none, node, opcodes, height, Mark, Ancestor, Node, SpellsForest, as_ancestor, nodes_at, nodes, node_at, below}
use Rattle.ifr_opcodes.specs.code.Marks.{mark}
use Rattle.ifr_opcodes.specs.code.Marks.{inside, mark_at, ancestor_at}
use Rattle.ifr_opcodes.specs.Reading.{opcodes_in, levels, tree_of}
use Rattle.ifr_opcodes.proofs.OpcodeLemmas.{AllWhole, split_unique, stated_at}
use Rattle.ifr_opcodes.proofs.ForestLemmas.{all_whole, opcodes_in_spelled, opcodes_scoped}
use Rattle.ifr_nodes.specs.code.Visits.{under}
use Rattle.ifr_nodes.specs.code.Walking.{scan, is_shallow, nodes_left, IsWalking}
use Rattle.ifr_nodes.proofs.NodeLemmas.{scan_out, scan_scoped, scan_plain, scan_all, scan_inside, scan_short, nodes_at-under, shallow_out, shallow_none, shallow_end, shallow_plain, shallow-opcodes, at_scope}
use Rattle.ifr_nodes.proofs.PlaceLemmas.{StandsAt, stands_at, found_place}

record Behind (op more : List ℕ) (ops : List (List ℕ)) : Type 0 where
  others : List (List ℕ)
  is : ops ≡ op ∷ others
  joined : concat others ≡ more
  whole : AllWhole others

behind : (ops : List (List ℕ)) (op more : List ℕ) → AllWhole ops → IsWhole op → concat ops ≡ op ++ more → Behind op more ops
behind [] op more u w e = let none_left : 0 ≡ length (op ++ more) = ap length e in absurd (omega (arith, w.long, length-append op more))
behind (o ∷ os) op more u w e =
    let parts = split_unique o op (concat os) more u.0 w e in
    record { others = os; is = ap (λ (x : List ℕ). x ∷ os) parts.0; joined = parts.1; whole = u.1 }

-- the opcode at a place is op, and others follow
pub record Stepped (bytes : List ℕ) (at : ℕ) (around : List ℕ) (op : List ℕ) : Type 0 where
  pub others : List (List ℕ)
  pub now : opcodes_in (drop at bytes) ≡ op ∷ others
  pub next : opcodes_in (drop (at + length op) bytes) ≡ others
  pub joined : concat others ≡ drop (at + length op) bytes
  pub whole : AllWhole others
  pub shallow : is_shallow (length around) (op ∷ others) ≡ true
  pub within : at + length op ≤ length bytes
  pub marked : mark_at bytes at ≡ record { place = at; op = op }

-- the opcode that stands in front of other bytes is that of its place
pub marked_at : (bytes : List ℕ) (at : ℕ) (op more : List ℕ) → IsWhole op → drop at bytes ≡ op ++ more → mark_at bytes at ≡ record { place = at; op = op }
marked_at bytes at op more w e =
    let len : stated_length (drop at bytes) ≡ length op = ap stated_length e ∙ stated_at op more w in
    ap (λ n. record { place = at; op = take n (drop at bytes) }) len ∙ ap (λ (l : List ℕ). record { place = at; op = take (length op) l }) e ∙ ap (λ (l : List ℕ). record { place = at; op = l }) (take_at op more (length op) refl)

pub stepped : (bytes : List ℕ) (at : ℕ) (around op more : List ℕ) → IsWalking bytes at around → IsWhole op → drop at bytes ≡ op ++ more → Stepped bytes at around op
stepped bytes at around op more k w e =
    let b = behind (opcodes_in (drop at bytes)) op more k.whole w (k.joined ∙ e) in
    let rest : drop (at + length op) bytes ≡ more = sym (drop-drop (length op) at bytes) ∙ ap (drop (length op)) e ∙ drop_at op more (length op) refl in
    record {
      others = b.others;
      now = b.is;
      next = opcodes_in_spelled (drop (at + length op) bytes) b.others b.whole (rest ∙ sym b.joined);
      joined = b.joined ∙ sym rest;
      whole = b.whole;
      shallow = ap (is_shallow (length around)) (sym b.is) ∙ k.shallow;
      within = omega (arith, k.within, ap length e, length-drop at bytes, length-append op more);
      marked = marked_at bytes at op more w e;
    }

-- the node at a place, with its children
surrounds : (bytes : List ℕ) (at : ℕ) (around op : List ℕ) → (s : Stepped bytes at around op) → ancestor_at bytes at ≡ record { place = at; op = op; children = inside op s.others }
surrounds bytes at around op s =
    let its : List ℕ → List (List ℕ) → Ancestor = λ o ops. record { place = at; op = o; children = inside o ops } in
    ap (λ (m : Mark). its m.op (opcodes_in (drop (at + length m.op) bytes))) s.marked ∙ ap (its op) s.next

goes_on : (bytes : List ℕ) (at : ℕ) (around op next : List ℕ) → IsWalking bytes at around → (s : Stepped bytes at around op) → All (λ place. IsWhole (mark_at bytes place).op) next → is_shallow (length next) s.others ≡ true → IsWalking bytes (at + length op) next
goes_on bytes at around op next k s opened shallow = record {
  small = k.small;
  within = s.within;
  whole = subst AllWhole (sym s.next) s.whole;
  joined = ap concat s.next ∙ s.joined;
  opened = opened;
  shallow = ap (is_shallow (length next)) s.next ∙ shallow;
}

scan_past : (at : ℕ) (path : List Ancestor) (op : List ℕ) (ops : List (List ℕ)) → number op ≡ END → (length path ≡ 0 → ⊥) → scan at path (op ∷ ops) ≡ scan (at + length op) (take (length path - 1) path) ops
unfolding scan
scan_past at path op ops n some = rw (eq-eqb (number op) END n, ne_eqb (length path) 0 some) refl

-- past the END of the last scope
pub past_end : (bytes : List ℕ) (at to : ℕ) (around op more : List ℕ) → IsWalking bytes at around → IsWhole op → drop at bytes ≡ op ++ more → at + length op ≡ to → number op ≡ END → (length around ≡ 0 → ⊥)
    → IsWalking bytes to (take (length around - 1) around) × (nodes_left bytes at around ≡ nodes_left bytes to (take (length around - 1) around))
past_end bytes at to around op more k w e is n some =
    let s = stepped bytes at around op more k w e in
    let marks = map (ancestor_at bytes) around in
    let one_less : length around ≡ length (take (length around - 1) around) + 1 = omega (arith, length-take (length around - 1) around) in
    let shallow : is_shallow (length (take (length around - 1) around)) s.others ≡ true =
    sym (shallow_end (length (take (length around - 1) around)) s.others) ∙ ap (λ d. is_shallow d (end ∷ s.others)) (sym one_less) ∙ ap (λ (o : List ℕ). is_shallow (length around) (o ∷ s.others)) (sym (w.ends n)) ∙ s.shallow in
    let path : take (length marks - 1) marks ≡ map (ancestor_at bytes) (take (length around - 1) around) =
    ap (λ d. take (d - 1) marks) (length-map around (ancestor_at bytes)) ∙ take-map (ancestor_at bytes) (length around - 1) around in
    subst (λ to. IsWalking bytes to (take (length around - 1) around) × (nodes_left bytes at around ≡ nodes_left bytes to (take (length around - 1) around))) is (
      goes_on bytes at around op (take (length around - 1) around) k s (All-take (λ place. IsWhole (mark_at bytes place).op) (length around - 1) around k.opened) shallow,
      ap (scan at marks) s.now ∙ scan_past at marks op s.others n (λ z. some (sym (length-map around (ancestor_at bytes)) ∙ z))
          ∙ ap (λ (p : List Ancestor). scan (at + length op) p s.others) path
          ∙ ap (scan (at + length op) (map (ancestor_at bytes) (take (length around - 1) around))) (sym s.next),
    )

-- at the END of the scope around all
pub at_out : (bytes : List ℕ) (at : ℕ) (around op more : List ℕ) → IsWalking bytes at around → IsWhole op → drop at bytes ≡ op ++ more → number op ≡ END → length around ≡ 0 → nodes_left bytes at around ≡ []
at_out bytes at around op more k w e n empty =
    let s = stepped bytes at around op more k w e in
    ap (λ (p : List ℕ). scan at (map (ancestor_at bytes) p) (opcodes_in (drop at bytes))) (nil_from_length around empty) ∙ ap (scan at []) (s.now ∙ ap (λ (o : List ℕ). o ∷ s.others) (w.ends n)) ∙ scan_out at s.others

-- the node that is met at a place, with its children behind its opcode
abbrev pub node_here : List ℕ → ℕ → ℕ → List ℕ → List ℕ → Node
node_here bytes at to around op = record { place = at; op = op; path = map (ancestor_at bytes) around; children = inside op (opcodes_in (drop to bytes)) }

-- at a node that opens a scope
pub at_scoped : (bytes : List ℕ) (at to : ℕ) (around op more : List ℕ) → IsWalking bytes at around → IsWhole op → drop at bytes ≡ op ++ more → at + length op ≡ to → (number op ≡ END → ⊥) → has_scope op ≡ true
    → IsWalking bytes to (around ++ at ∷ []) × (length around < 64) × (nodes_left bytes at around ≡ node_here bytes at to around op ∷ nodes_left bytes to (around ++ at ∷ []))
at_scoped bytes at to around op more k w e is n scoped =
    let s = stepped bytes at around op more k w e in
    let marks = map (ancestor_at bytes) around in
    let its = at_scope (length around) op s.others n scoped s.shallow in
    let grown : length around + 1 ≡ length (around ++ at ∷ []) = omega (arith, length-append around (at ∷ [])) in
    let path : map (ancestor_at bytes) (around ++ at ∷ []) ≡ marks ++ record { place = at; op = op; children = inside op s.others } ∷ [] = map_push (ancestor_at bytes) around at ∙ ap (λ (m : Ancestor). marks ++ m ∷ []) (surrounds bytes at around op s) in
    let children : (levels s.others).0 ≡ inside op (opcodes_in (drop (at + length op) bytes)) = rw scoped (ap (λ (ops : List (List ℕ)). (levels ops).0) (sym s.next)) in
    let entered : (levels s.others).0 ≡ inside op s.others = rw scoped refl in
    subst (λ to. IsWalking bytes to (around ++ at ∷ []) × (length around < 64) × (nodes_left bytes at around ≡ node_here bytes at to around op ∷ nodes_left bytes to (around ++ at ∷ []))) is (
      goes_on bytes at around op (around ++ at ∷ []) k s (All-push (λ place. IsWhole (mark_at bytes place).op) around at k.opened (subst (λ (m : Mark). IsWhole m.op) (sym s.marked) w)) (ap (λ d. is_shallow d s.others) (sym grown) ∙ its.1),
      its.0,
      ap (scan at marks) s.now ∙ scan_scoped at marks op s.others n scoped
          ∙ ap (λ (f : Forest). record { place = at; op = op; path = marks; children = f } ∷ scan (at + length op) (marks ++ record { place = at; op = op; children = (levels s.others).0 } ∷ []) s.others) children
          ∙ ap (λ (f : Forest). node_here bytes at (at + length op) around op ∷ scan (at + length op) (marks ++ record { place = at; op = op; children = f } ∷ []) s.others) entered
          ∙ ap (λ (p : List Ancestor). node_here bytes at (at + length op) around op ∷ scan (at + length op) p s.others) (sym path)
          ∙ ap (λ (ops : List (List ℕ)). node_here bytes at (at + length op) around op ∷ scan (at + length op) (map (ancestor_at bytes) (around ++ at ∷ [])) ops) (sym s.next),
    )

-- at a node that opens none
pub at_plain : (bytes : List ℕ) (at to : ℕ) (around op more : List ℕ) → IsWalking bytes at around → IsWhole op → drop at bytes ≡ op ++ more → at + length op ≡ to → (number op ≡ END → ⊥) → has_scope op ≡ false
    → IsWalking bytes to around × (nodes_left bytes at around ≡ node_here bytes at to around op ∷ nodes_left bytes to around)
at_plain bytes at to around op more k w e is n bare =
    let s = stepped bytes at around op more k w e in
    let marks = map (ancestor_at bytes) around in
    let children : none ≡ inside op (opcodes_in (drop (at + length op) bytes)) = rw bare refl in
    subst (λ to. IsWalking bytes to around × (nodes_left bytes at around ≡ node_here bytes at to around op ∷ nodes_left bytes to around)) is (
      goes_on bytes at around op around k s k.opened (sym (shallow_plain (length around) op s.others n bare) ∙ s.shallow),
      ap (scan at marks) s.now ∙ scan_plain at marks op s.others n bare
          ∙ ap (λ (f : Forest). record { place = at; op = op; path = marks; children = f } ∷ scan (at + length op) marks s.others) children
          ∙ ap (λ (ops : List (List ℕ)). node_here bytes at (at + length op) around op ∷ scan (at + length op) marks ops) (sym s.next),
    )

-- no opcode is left, and so no node
pub at_last : (bytes : List ℕ) (at : ℕ) (around : List ℕ) → IsWalking bytes at around → ((op more : List ℕ) → IsWhole op → drop at bytes ≡ op ++ more → ⊥) → nodes_left bytes at around ≡ []
unfolding scan
at_last bytes at around k missing = go (opcodes_in (drop at bytes)) k.whole k.joined
  where
    go : (ops : List (List ℕ)) → AllWhole ops → concat ops ≡ drop at bytes → scan at (map (ancestor_at bytes) around) ops ≡ []
    go [] u e = refl
    go (op ∷ ops) u e = absurd (missing op (concat ops) u.0 (sym e))

-- where some bytes are left, a whole opcode stands in front of them
pub opcode_here : (bytes : List ℕ) (at : ℕ) (around : List ℕ) → IsWalking bytes at around → at < length bytes
    → IsWhole (mark_at bytes at).op × (drop at bytes ≡ (mark_at bytes at).op ++ drop (length (mark_at bytes at).op) (drop at bytes))
opcode_here bytes at around k some = go (opcodes_in (drop at bytes)) k.whole k.joined
  where
    Here : List ℕ → Type 0
    Here op = IsWhole op × (drop at bytes ≡ op ++ drop (length op) (drop at bytes))

    go : (ops : List (List ℕ)) → AllWhole ops → concat ops ≡ drop at bytes → Here (mark_at bytes at).op
    go [] u e = absurd (omega (arith, some, ap length e, length-drop at bytes))
    go (op ∷ ops) u e =
        let behind_it : drop (length op) (drop at bytes) ≡ concat ops = ap (drop (length op)) (sym e) ∙ drop_at op (concat ops) (length op) refl in
        subst Here (sym (ap (λ (m : Mark). m.op) (marked_at bytes at op (concat ops) u.0 (sym e)))) (u.0, sym e ∙ ap (λ (l : List ℕ). op ++ l) (sym behind_it))

-- a walk over these opcodes may begin
begins : (bytes : List ℕ) (at : ℕ) (ops : List (List ℕ)) → length bytes < 2 ^ 32 → at ≤ length bytes → drop at bytes ≡ concat ops → AllWhole ops → is_shallow 0 ops ≡ true → IsWalking bytes at []
begins bytes at ops small within e w shallow =
    let cut_so : opcodes_in (drop at bytes) ≡ ops = opcodes_in_spelled (drop at bytes) ops w e in
    record {
      small = small;
      within = within;
      whole = subst AllWhole (sym cut_so) w;
      joined = ap concat cut_so ∙ sym e;
      opened = λ i d lt. absurd (omega arith);
      shallow = ap (is_shallow 0) cut_so ∙ shallow;
    }

-- a walk from the start
pub at_first : (bytes : List ℕ) → 4 ≤ length bytes → length bytes < 2 ^ 32 → SpellsForest bytes (tree_of bytes) → IsWalking bytes 4 [] × (nodes_left bytes 4 [] ≡ nodes (tree_of bytes))
at_first bytes header small s =
    let f = tree_of bytes in
    let shallow : is_shallow 0 (opcodes f) ≡ true = ap (is_shallow 0) (sym (append-nil (opcodes f))) ∙ shallow-opcodes f 0 [] s.are_nodes (omega (arith, s.within)) ∙ shallow_none 0 in
    (begins bytes 4 (opcodes f) small header s.spelled (all_whole f s.are_nodes) shallow, scan_all bytes f s)

-- a walk where nothing is left
pub at_nothing : (bytes : List ℕ) → length bytes < 2 ^ 32 → IsWalking bytes (length bytes) [] × (nodes_left bytes (length bytes) [] ≡ [])
at_nothing bytes small =
    let nothing : drop (length bytes) bytes ≡ [] = nil_from_length (drop (length bytes) bytes) (omega (arith, length-drop (length bytes) bytes)) in
    let k = begins bytes (length bytes) [] small (omega arith) nothing tt (shallow_none 0) in
    (k, at_last bytes (length bytes) [] k (λ op more w e. let size : length (op ++ more) ≡ 0 = ap length (sym e ∙ nothing) in omega (arith, w.long, length-append op more)))

-- a walk inside of a node's scope
pub at_inner : (bytes : List ℕ) (n : Node) → length bytes < 2 ^ 32 → StandsAt bytes n → has_scope n.op ≡ true
    → IsWalking bytes (n.place + length n.op) [] × (nodes_left bytes (n.place + length n.op) [] ≡ nodes_at (n.place + length n.op) [] n.children)
at_inner bytes n small s scoped =
    let at = n.place + length n.op in
    let inner = opcodes n.children ++ (end ∷ s.behind) in
    let all : opcodes (node n.op n.children none) ++ s.behind ≡ n.op ∷ inner = opcodes_scoped n.op n.children none s.behind scoped in
    let whole : AllWhole (n.op ∷ inner) = subst AllWhole all s.whole in
    let here : drop n.place bytes ≡ n.op ++ concat inner = s.spelled ∙ ap concat all in
    let rest : drop at bytes ≡ concat inner = sym (drop-drop (length n.op) n.place bytes) ∙ ap (drop (length n.op)) here ∙ drop_at n.op (concat inner) (length n.op) refl in
    let high : max (height n.children + 1) 0 ≤ 64 = subst (λ (b : Bool). max (cond b (height n.children + 1) 0) 0 ≤ 64) scoped s.within in
    let within : at ≤ length bytes = omega (arith, ap length here, length-drop n.place bytes, length-append n.op (concat inner), whole.0.long) in
    let shallow : is_shallow 0 inner ≡ true = shallow-opcodes n.children 0 (end ∷ s.behind) s.are_nodes.1.0 (omega arith) ∙ shallow_out s.behind in (
      begins bytes at inner small within rest whole.1 shallow,
      ap (scan at []) (opcodes_in_spelled (drop at bytes) inner whole.1 rest) ∙ scan_inside n.children at s.behind s.are_nodes.1.0,
    )

-- there are no more nodes than bytes
pub few_left : (bytes : List ℕ) (at : ℕ) (around : List ℕ) → IsWalking bytes at around → length (nodes_left bytes at around) < 2 ^ 32
few_left bytes at around k = omega (arith, k.small, ap length k.joined, length-drop at bytes, scan_short (opcodes_in (drop at bytes)) at (map (ancestor_at bytes) around) k.whole)

-- the path of a node that is met is that of the scopes around it
pub path_kept : (bytes around more : List ℕ) (depth : ℕ) → depth ≡ length around → map (ancestor_at bytes) around ≡ map (ancestor_at bytes) (take depth (around ++ more))
path_kept bytes around more depth e = ap (map (ancestor_at bytes)) (sym (take_at around more depth (sym e)))

-- the opcode at a node's place is the node's
pub marked_node : (bytes : List ℕ) (n : Node) → StandsAt bytes n → mark_at bytes n.place ≡ mark n
marked_node bytes n s = marked_at bytes n.place n.op _ s.are_nodes.0.whole s.spelled

-- where the nodes inside of the node at a place begin, or the package's end where it has no scope
abbrev pub inner_start : List ℕ → Mark → ℕ
inner_start bytes m = if has_scope m.op then m.place + length m.op else length bytes

abbrev IsInside : List ℕ → Node → ℕ → Type 0
IsInside bytes n start = IsWalking bytes start [] × (below n ≡ map (under (n.path ++ as_ancestor n ∷ [])) (nodes_left bytes start []))

inside_node : (bytes : List ℕ) (n : Node) → length bytes < 2 ^ 32 → StandsAt bytes n → IsInside bytes n (inner_start bytes (mark n))
inside_node bytes n small s =
    let path = n.path ++ as_ancestor n ∷ [] in
    elim (cases_Bool (has_scope n.op)) [
      | inl scoped ↦
          let k = at_inner bytes n small s scoped in
          let start : n.place + length n.op ≡ inner_start bytes (mark n) = rw scoped refl in
          subst (IsInside bytes n) start (
            k.0,
            ap (λ (p : List Ancestor). nodes_at (n.place + length n.op) p n.children) (sym (append-nil path)) ∙ nodes_at-under n.children (n.place + length n.op) path [] ∙ ap (map (under path)) (sym k.1),
          )
      | inr bare ↦
          let k = at_nothing bytes small in
          let start : length bytes ≡ inner_start bytes (mark n) = rw bare refl in
          subst (IsInside bytes n) start (
            k.0,
            ap (nodes_at (n.place + length n.op) path) (s.are_nodes.0.leaf bare) ∙ ap (map (under path)) (sym k.1),
          )
    ]

-- a walk inside of the node at a place
pub at_inside : (bytes : List ℕ) (place start : ℕ) (n : Node) → length bytes < 2 ^ 32 → SpellsForest bytes (tree_of bytes) → node_at (nodes (tree_of bytes)) place ≡ Some n → start ≡ inner_start bytes (mark_at bytes place)
    → IsWalking bytes start [] × (below n ≡ map (under (n.path ++ as_ancestor n ∷ [])) (nodes_left bytes start []))
at_inside bytes place start n small spells e is =
    let s = stands_at bytes (tree_of bytes) place n spells e in
    let there : mark_at bytes place ≡ mark n = ap (mark_at bytes) (sym (found_place (nodes (tree_of bytes)) place n e)) ∙ marked_node bytes n s in
    subst (IsInside bytes n) (ap (inner_start bytes) (sym there) ∙ sym is) (inside_node bytes n small s)

-- the opcode at a place where a node is found
pub whole_there : (bytes : List ℕ) (place : ℕ) (n : Node) → SpellsForest bytes (tree_of bytes) → node_at (nodes (tree_of bytes)) place ≡ Some n → IsWhole (mark_at bytes place).op
whole_there bytes place n spells e =
    let s = stands_at bytes (tree_of bytes) place n spells e in
    let there : mark_at bytes place ≡ mark n = ap (mark_at bytes) (sym (found_place (nodes (tree_of bytes)) place n e)) ∙ marked_node bytes n s in
    subst (λ (m : Mark). IsWhole m.op) (sym there) s.are_nodes.0.whole

pub some_node : (found : Option Node) → IsSome found → (n : Node) × (found ≡ Some n)
some_node None h = absurd (search rules)
some_node (Some n) h = (n, refl)
