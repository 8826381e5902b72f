-- A walk over the opcodes meets the nodes of the forest, each at its place and inside of its path.
use Rattle.std.proofs.Common.{◌≡◌, ◌≢◌, ℕ, ◌+◌, ◌-◌, ◌<◌, ◌≤◌, max, Bool, true, false, cond, eqb, ltb, ◌&&◌, List, [], ◌∷◌, ◌++◌, length, take, drop, map, refl, sym, ap, subst, ◌∙◌, append_assoc, arith, inl, inr}
use Rattle.std.specs.List.{concat}
use Rattle.std.proofs.lemmas.List.{append-nil, take_at, length-append, map-append}
use Rattle.std.proofs.lemmas.Bool.{ne_eqb, lt-ltb, ltb-true, cases_Bool, cond_both}
use Rattle.ifr_opcodes.specs.declared.codes.TheConstants.{END}
use Rattle.ifr_opcodes.specs.Opcode.{number, has_scope, end, is_end}
use Rattle.ifr_opcodes.specs.Forest.{Forest, none, node, opcodes, flat, height, AreNodes, SpellsForest, Mark, Ancestor, Node, nodes_at, nodes}
use Rattle.ifr_opcodes.specs.code.Marks.{mark}
use Rattle.ifr_opcodes.specs.Reading.{opcodes_in, levels}
use Rattle.ifr_opcodes.specs.code.Marks.{inside}
use Rattle.ifr_opcodes.proofs.OpcodeLemmas.{AllWhole}
use Rattle.ifr_opcodes.proofs.ForestLemmas.{all_whole, opcodes_scoped, opcodes_plain, opcodes_in_spelled, children_again, size_scoped, size_plain}
use Rattle.ifr_nodes.specs.code.Walking.{scan, is_shallow}
use Rattle.ifr_nodes.specs.code.Visits.{under}

-- the END of the scope around all ends a walk
pub scan_out : (at : ℕ) (ops : List (List ℕ)) → scan at [] (end ∷ ops) ≡ []
unfolding scan
scan_out at ops = refl

pub scan_end : (at : ℕ) (path : List Ancestor) (m : Ancestor) (ops : List (List ℕ)) → scan at (path ++ m ∷ []) (end ∷ ops) ≡ scan (at + 2) path ops
unfolding scan
scan_end at path m ops =
    let grown : length (path ++ m ∷ []) ≡ length path + 1 = length-append path (m ∷ []) in
    let some : eqb (length (path ++ m ∷ [])) 0 ≡ false = ne_eqb (length (path ++ m ∷ [])) 0 (λ e. omega arith) in
    let len : length (path ++ m ∷ []) - 1 ≡ length path = omega arith in
    rw (some, len, take_at path (m ∷ []) (length path) refl) refl

pub scan_scoped : (at : ℕ) (path : List Ancestor) (op : List ℕ) (ops : List (List ℕ)) → number op ≢ END → has_scope op ≡ true
    → scan at path (op ∷ ops) ≡ record { place = at; op = op; path = path; children = (levels ops).0 } ∷ scan (at + length op) (path ++ record { place = at; op = op; children = (levels ops).0 } ∷ []) ops
unfolding scan
scan_scoped at path op ops n s = rw (ne_eqb (number op) END n, s) refl

pub scan_plain : (at : ℕ) (path : List Ancestor) (op : List ℕ) (ops : List (List ℕ)) → number op ≢ END → has_scope op ≡ false
    → scan at path (op ∷ ops) ≡ record { place = at; op = op; path = path; children = none } ∷ scan (at + length op) path ops
unfolding scan
scan_plain at path op ops n s = rw (ne_eqb (number op) END n, s) refl

pub scan-opcodes : (f : Forest) (at : ℕ) (path : List Ancestor) (more : List (List ℕ)) → AreNodes f → scan at path (opcodes f ++ more) ≡ nodes_at at path f ++ scan (at + length (flat f)) path more
scan-opcodes none at path more h = let e : at + 0 ≡ at = omega arith in rw e refl
scan-opcodes (node op children rest) at path more h =
    let here : Node = record { place = at; op = op; path = path; children = children } in
    let mark : Ancestor = record { place = at; op = op; children = children } in
    elim (cases_Bool (has_scope op)) [
      | inl s ↦
          let inner = nodes_at (at + length op) (path ++ mark ∷ []) children in
          let behind = at + length op + length (flat children) in
          let e1 : behind + 2 ≡ at + length (flat (node op children none)) = omega (arith, size_scoped op children none s) in
          let e2 : at + length (flat (node op children none)) + length (flat rest) ≡ at + length (flat (node op children rest)) = omega (arith, size_scoped op children none s, size_scoped op children rest s) in
          let outside : scan behind (path ++ mark ∷ []) (end ∷ (opcodes rest ++ more)) ≡ nodes_at (at + length (flat (node op children none))) path rest ++ scan (at + length (flat (node op children rest))) path more =
          scan_end behind path mark (opcodes rest ++ more)
          ∙ ap (λ n. scan n path (opcodes rest ++ more)) e1
          ∙ scan-opcodes rest (at + length (flat (node op children none))) path more h.1.1
          ∙ ap (λ n. nodes_at (at + length (flat (node op children none))) path rest ++ scan n path more) e2 in
          ap (scan at path) (opcodes_scoped op children rest more s)
          ∙ scan_scoped at path op (opcodes children ++ (end ∷ (opcodes rest ++ more))) h.0.no_end s
          ∙ ap (λ (f : Forest). record { place = at; op = op; path = path; children = f } ∷ scan (at + length op) (path ++ record { place = at; op = op; children = f } ∷ []) (opcodes children ++ (end ∷ (opcodes rest ++ more)))) (children_again children (opcodes rest ++ more) h.1.0)
          ∙ ap (λ (l : List Node). here ∷ l) (scan-opcodes children (at + length op) (path ++ mark ∷ []) (end ∷ (opcodes rest ++ more)) h.1.0
          ∙ ap (λ (l : List Node). inner ++ l) outside
          ∙ sym (append_assoc inner (nodes_at (at + length (flat (node op children none))) path rest) (scan (at + length (flat (node op children rest))) path more)))
      | inr s ↦
          let bare : children ≡ none = h.0.leaf s in
          let e1 : at + length op ≡ at + length (flat (node op children none)) = omega (arith, size_plain op children none s) in
          let e2 : at + length (flat (node op children none)) + length (flat rest) ≡ at + length (flat (node op children rest)) = omega (arith, size_plain op children none s, size_plain op children rest s) in
          let childless : nodes_at (at + length op) (path ++ mark ∷ []) children ≡ [] = ap (nodes_at (at + length op) (path ++ mark ∷ [])) bare in
          ap (scan at path) (opcodes_plain op children rest more s)
          ∙ scan_plain at path op (opcodes rest ++ more) h.0.no_end s
          ∙ ap (λ (f : Forest). record { place = at; op = op; path = path; children = f } ∷ scan (at + length op) path (opcodes rest ++ more)) (sym bare)
          ∙ ap (λ (l : List Node). here ∷ l) (ap (λ n. scan n path (opcodes rest ++ more)) e1
          ∙ scan-opcodes rest (at + length (flat (node op children none))) path more h.1.1
          ∙ ap (λ n. nodes_at (at + length (flat (node op children none))) path rest ++ scan n path more) e2
          ∙ ap (λ (l : List Node). (l ++ nodes_at (at + length (flat (node op children none))) path rest) ++ scan (at + length (flat (node op children rest))) path more) (sym childless))
    ]

-- a walk from the start meets all nodes
pub scan_all : (bytes : List ℕ) (f : Forest) → SpellsForest bytes f → scan 4 [] (opcodes_in (drop 4 bytes)) ≡ nodes f
unfolding scan
scan_all bytes f s =
    ap (scan 4 []) (opcodes_in_spelled (drop 4 bytes) (opcodes f) (all_whole f s.are_nodes) s.spelled ∙ sym (append-nil (opcodes f)))
    ∙ scan-opcodes f 4 [] [] s.are_nodes ∙ append-nil (nodes f)

-- a walk up to the END of a scope meets the nodes inside of it
pub scan_inside : (f : Forest) (at : ℕ) (more : List (List ℕ)) → AreNodes f → scan at [] (opcodes f ++ (end ∷ more)) ≡ nodes_at at [] f
scan_inside f at more h = scan-opcodes f at [] (end ∷ more) h ∙ ap (λ (l : List Node). nodes_at at [] f ++ l) (scan_out (at + length (flat f)) more) ∙ append-nil (nodes_at at [] f)

-- each node takes a byte at least
pub scan_short : (ops : List (List ℕ)) (at : ℕ) (path : List Ancestor) → AllWhole ops → length (scan at path ops) ≤ length (concat ops)
unfolding scan
scan_short [] at path w = omega arith
scan_short (op ∷ ops) at path w =
    let whole : 2 ≤ length op = w.0.long in
    let joined : length (op ++ concat ops) ≡ length op + length (concat ops) = length-append op (concat ops) in
    let outside = scan_short ops (at + length op) (take (length path - 1) path) w.1 in
    let within = scan_short ops (at + length op) (cond (has_scope op) (path ++ record { place = at; op = op; children = inside op ops } ∷ []) path) w.1 in
    let ended : length (cond (eqb (length path) 0) [] (scan (at + length op) (take (length path - 1) path) ops)) ≤ length (op ++ concat ops) =
    cond_both (eqb (length path) 0) [] (scan (at + length op) (take (length path - 1) path) ops) (λ (l : List Node). length l ≤ length (op ++ concat ops)) (λ e. omega arith) (λ e. omega arith) in
    cond_both (is_end op) (cond (eqb (length path) 0) [] (scan (at + length op) (take (length path - 1) path) ops)) (record { place = at; op = op; path = path; children = inside op ops } ∷ scan (at + length op) (cond (has_scope op) (path ++ record { place = at; op = op; children = inside op ops } ∷ []) path) ops)
    (λ (l : List Node). length l ≤ length (op ++ concat ops)) (λ e. ended) (λ e. omega arith)

-- further scopes around a forest are further ancestors of its nodes
pub nodes_at-under : (f : Forest) (at : ℕ) (outer path : List Ancestor) → nodes_at at (outer ++ path) f ≡ map (under outer) (nodes_at at path f)
nodes_at-under none at outer path = refl
nodes_at-under (node op children rest) at outer path =
    let m : Ancestor = record { place = at; op = op; children = children } in
    let here : Node = record { place = at; op = op; path = outer ++ path; children = children } in
    let behind = at + length (flat (node op children none)) in
    let inner : nodes_at (at + length op) ((outer ++ path) ++ m ∷ []) children ≡ map (under outer) (nodes_at (at + length op) (path ++ m ∷ []) children) =
    ap (λ (p : List Ancestor). nodes_at (at + length op) p children) (append_assoc outer path (m ∷ [])) ∙ nodes_at-under children (at + length op) outer (path ++ m ∷ []) in
    ap (λ (l : List Node). here ∷ (l ++ nodes_at behind (outer ++ path) rest)) inner
    ∙ ap (λ (l : List Node). here ∷ (map (under outer) (nodes_at (at + length op) (path ++ m ∷ []) children) ++ l)) (nodes_at-under rest behind outer path)
    ∙ ap (λ (l : List Node). here ∷ l) (sym (map-append (under outer) (nodes_at (at + length op) (path ++ m ∷ []) children) (nodes_at behind path rest)))

pub marks_under : (outer : List Ancestor) (ns : List Node) → map mark (map (under outer) ns) ≡ map mark ns
marks_under outer [] = refl
marks_under outer (n ∷ ns) = ap (λ (l : List Mark). mark n ∷ l) (marks_under outer ns)

-- ---- how many scopes are open

pub shallow_out : (ops : List (List ℕ)) → is_shallow 0 (end ∷ ops) ≡ true
unfolding is_shallow
shallow_out ops = refl

pub shallow_none : (depth : ℕ) → is_shallow depth [] ≡ true
unfolding is_shallow
shallow_none depth = refl

pub shallow_end : (depth : ℕ) (ops : List (List ℕ)) → is_shallow (depth + 1) (end ∷ ops) ≡ is_shallow depth ops
unfolding is_shallow
shallow_end depth ops =
    let some : eqb (depth + 1) 0 ≡ false = ne_eqb (depth + 1) 0 (λ e. omega arith) in
    let less : depth + 1 - 1 ≡ depth = omega arith in
    rw (some, less) refl

pub shallow_plain : (depth : ℕ) (op : List ℕ) (ops : List (List ℕ)) → number op ≢ END → has_scope op ≡ false → is_shallow depth (op ∷ ops) ≡ is_shallow depth ops
unfolding is_shallow
shallow_plain depth op ops n s = rw (ne_eqb (number op) END n, s) refl

pub shallow_scoped : (depth : ℕ) (op : List ℕ) (ops : List (List ℕ)) → number op ≢ END → has_scope op ≡ true → is_shallow depth (op ∷ ops) ≡ ltb depth 64 && is_shallow (depth + 1) ops
unfolding is_shallow
shallow_scoped depth op ops n s = rw (ne_eqb (number op) END n, s) refl

pub at_scope : (depth : ℕ) (op : List ℕ) (ops : List (List ℕ)) → number op ≢ END → has_scope op ≡ true → is_shallow depth (op ∷ ops) ≡ true → (depth < 64) × (is_shallow (depth + 1) ops ≡ true)
at_scope depth op ops n s e = go (ltb depth 64) refl (sym (shallow_scoped depth op ops n s) ∙ e)
  where
    go : (b : Bool) → ltb depth 64 ≡ b → b && is_shallow (depth + 1) ops ≡ true → (depth < 64) × (is_shallow (depth + 1) ops ≡ true)
    go true h e = (ltb-true depth 64 h, e)
    go false h e = absurd cc

-- what follows a forest tells
pub shallow-opcodes : (f : Forest) (depth : ℕ) (more : List (List ℕ)) → AreNodes f → height f + depth ≤ 64 → is_shallow depth (opcodes f ++ more) ≡ is_shallow depth more
shallow-opcodes none depth more h le = refl
shallow-opcodes (node op children rest) depth more h le =
    elim (cases_Bool (has_scope op)) [
      | inl s ↦
          let le' : max (height children + 1) (height rest) + depth ≤ 64 = subst (λ (b : Bool). max (cond b (height children + 1) 0) (height rest) + depth ≤ 64) s le in
          let lt : depth < 64 = omega arith in
          ap (is_shallow depth) (opcodes_scoped op children rest more s)
          ∙ shallow_scoped depth op (opcodes children ++ (end ∷ (opcodes rest ++ more))) h.0.no_end s
          ∙ ap (λ (b : Bool). b && is_shallow (depth + 1) (opcodes children ++ (end ∷ (opcodes rest ++ more)))) (lt-ltb depth 64 lt)
          ∙ shallow-opcodes children (depth + 1) (end ∷ (opcodes rest ++ more)) h.1.0 (omega arith)
          ∙ shallow_end depth (opcodes rest ++ more)
          ∙ shallow-opcodes rest depth more h.1.1 (omega arith)
      | inr s ↦
          ap (is_shallow depth) (opcodes_plain op children rest more s)
          ∙ shallow_plain depth op (opcodes rest ++ more) h.0.no_end s
          ∙ shallow-opcodes rest depth more h.1.1 (omega arith)
    ]
