-- The scopes that are open in a walk, and how many nodes there are.
use Rattle.std.proofs.Common.{◌≡◌, ℕ, zero, suc, ◌+◌, ◌-◌, ◌<◌, ◌≤◌, ◌^◌, Bool, true, false, cond, Some, List, [], ◌∷◌, ◌++◌, length, map, take, get_or, refl, sym, ap, ◌∙◌, subst, inl, inr, arith, append_assoc}
use Rattle.std.specs.Prelude.{filter, max, Contains}
use Rattle.std.specs.List.{slice_get}
use Rattle.std.proofs.lemmas.Bool.{cases_Bool, cases_lt}
use Rattle.std.proofs.lemmas.List.{append-nil, length-append, length-take-le, take_all, take-append-le, get_or-take, length-map}
use Rattle.std.proofs.Math.ListN.{get_or-append}
use Rattle.std.proofs.Math.Seq.{get_or-append_seam}
use Rattle.std.proofs.lemmas.Option.{get_or_from_slice_get}
use Rattle.ifr_opcodes.specs.Opcode.{has_scope}
use Rattle.ifr_opcodes.specs.Forest.{Forest, none, node, flat, height, AreNodes, Ancestor, Node, as_ancestor, nodes_at, SpellsForest}
use Rattle.ifr_opcodes.specs.code.Marks.{ancestor_at}
use Rattle.ifr_opcodes.specs.Reading.{tree_of}
use Rattle.ifr_nodes.specs.Checked.{IsChecked}
use Rattle.ifr_nodes.specs.Nodes.{nodes_of}
use Rattle.ifr_index.specs.code.Index.{is_indexed}
use Rattle.ifr_index.specs.code.Tables.{entry_table, kept_entry}
use Rattle.ifr_index.specs.code.Levels.{AreLevels, level_of}
use Rattle.ifr_index.specs.declared.level.Level.{Level}
use Rattle.ifr_nodes.proofs.WalkLemmas.{at_first, few_left}

abbrev place_of : Node → ℕ
place_of n = n.place

-- ---- each node stands in scopes that are open behind the node before it

-- The node stands in the first of these scopes, and there is room for its own.
pub record Follow (around : List Ancestor) (n : Node) : Type 0 where
  pub more : List Ancestor
  pub split : around ≡ n.path ++ more
  pub few : length n.path ≤ 64
  pub room : has_scope n.op ≡ true → length n.path < 64

-- the scopes that are open behind its opcode
abbrev pub entered : Node → List Ancestor
entered n = n.path ++ cond (has_scope n.op) (as_ancestor n ∷ []) []

abbrev pub Follows : List Ancestor → List Node → Type 0
Follows around [] = Unit {0}
Follows around (n ∷ ns) = Follow around n × Follows (entered n) ns

abbrev IsFirst : List Ancestor → List Ancestor → Type 0
IsFirst path around = (more : List Ancestor) × (around ≡ path ++ more)

follows : (f : Forest) (at : ℕ) (path around : List Ancestor) (more : List Node) → AreNodes f → length path + height f ≤ 64 → IsFirst path around
    → ((others : List Ancestor) → IsFirst path others → Follows others more) → Follows around (nodes_at at path f ++ more)
follows none at path around more h few first go = go around first
follows (node op c rest) at path around more h few first go =
    let here : Node = record { place = at; op = op; path = path; children = c } in
    let a = as_ancestor here in
    let past = at + length (flat (node op c none)) in
    let its = nodes_at (at + length op) (path ++ a ∷ []) c in
    let after = nodes_at past path rest in
    elim (cases_Bool (has_scope op)) [
      | inl s ↦
          let lower : length path + (height c + 1) ≤ 64 = scoped path op c rest s few in
          let follow : Follow around here = record { more = first.0; split = first.1; few = omega arith; room = λ _. omega arith } in
          let deeper : Follows (path ++ a ∷ []) (its ++ (after ++ more)) =
          follows c (at + length op) (path ++ a ∷ []) (path ++ a ∷ []) (after ++ more) h.1.0 (omega (arith, length-append path (a ∷ []))) ([], sym (append-nil (path ++ a ∷ [])))
          (λ others inside. follows rest past path others more h.1.1 (higher path op c rest few) (a ∷ inside.0, inside.1 ∙ append_assoc path (a ∷ []) inside.0) go) in
          let entering : entered here ≡ path ++ a ∷ [] = ap (λ (b : Bool). path ++ cond b (a ∷ []) []) s in
          (follow, subst (λ (l : List Node). Follows (entered here) l) (sym (append_assoc its after more)) (subst (λ (l : List Ancestor). Follows l (its ++ (after ++ more))) (sym entering) deeper))
      | inr s ↦
          let leaf : c ≡ none = h.0.leaf s in
          let bare : its ≡ [] = ap (nodes_at (at + length op) (path ++ a ∷ [])) leaf in
          let follow : Follow around here = record { more = first.0; split = first.1; few = omega arith; room = λ scope. absurd (cc) } in
          let later : Follows (path ++ []) (after ++ more) = follows rest past path (path ++ []) more h.1.1 (higher path op c rest few) ([], refl) go in
          let passing : entered here ≡ path ++ [] = ap (λ (b : Bool). path ++ cond b (a ∷ []) []) s in
          (follow, subst (λ (l : List Node). Follows (entered here) ((l ++ after) ++ more)) (sym bare) (subst (λ (l : List Ancestor). Follows l (after ++ more)) (sym passing) later))
    ]
  where
    scoped : (path : List Ancestor) (op : List ℕ) (c rest : Forest) → has_scope op ≡ true → length path + height (node op c rest) ≤ 64 → length path + (height c + 1) ≤ 64
    scoped path op c rest s few = let all : length path + max (height c + 1) (height rest) ≤ 64 = rw s at few in omega arith

    higher : (path : List Ancestor) (op : List ℕ) (c rest : Forest) → length path + height (node op c rest) ≤ 64 → length path + height rest ≤ 64
    higher path op c rest few = omega arith

pub nodes_follow : (bytes : List ℕ) → SpellsForest bytes (tree_of bytes) → Follows [] (nodes_of bytes)
nodes_follow bytes s = subst (Follows []) (append-nil (nodes_of bytes)) (follows (tree_of bytes) 4 [] [] [] s.are_nodes (omega (arith, s.within)) ([], refl) (λ others first. tt))

pub path_few : (around : List Ancestor) (ns : List Node) (n : Node) → Follows around ns → Contains ns n → length n.path ≤ 64
path_few around [] n f (k, lt, e) = absurd (omega arith)
path_few around (m ∷ ns) n f (zero, lt, e) = subst (λ (p : Node). length p.path ≤ 64) e f.0.few
path_few around (m ∷ ns) n f (suc k, lt, e) = path_few (entered m) ns n f.1 (k, omega arith, e)

-- ---- the scopes that are open

-- those of a node, among those behind the node before it
pub cut : (ns : List Node) (around path more : List Ancestor) (levels : List Level) → around ≡ path ++ more → AreLevels ns around levels → AreLevels ns path (take (length path) levels)
cut ns around path more levels e s =
    let all : length around ≡ length path + length more = ap (λ (l : List Ancestor). length l) e ∙ length-append path more in
    record {
      long = length-take-le (length path) levels (omega (arith, s.long));
      each = λ k lt.
          get_or-take (length path) levels k (level_of ns []) lt ∙ s.each k (omega arith) ∙ ap (λ (l : List Ancestor). level_of ns (take (k + 1) l)) e
          ∙ ap (level_of ns) (take-append-le (k + 1) path more (omega arith));
    }

-- the last of them
pub last_level : (ns : List Node) (path : List Ancestor) (levels : List Level) (level : Level) → AreLevels ns path levels → Some level ≡ slice_get levels (length levels - 1) → level ≡ level_of ns path
last_level ns [] [] level s e = absurd cc
last_level ns [] (x ∷ levels) level s e = absurd (omega (arith, s.long))
last_level ns (a ∷ path) levels level s e =
    let last : ℕ = length path in
    let here : length levels - 1 ≡ last = omega (arith, s.long) in
    sym (get_or_from_slice_get levels last level (level_of ns []) (ap (slice_get levels) (sym here) ∙ sym e)) ∙ s.each last (omega arith) ∙ ap (level_of ns) (take_all (last + 1) (a ∷ path) (omega arith))

-- one more
pushed : (ns : List Node) (path : List Ancestor) (a : Ancestor) (levels : List Level) (x : Level) → x ≡ level_of ns (path ++ a ∷ []) → AreLevels ns path levels → AreLevels ns (path ++ a ∷ []) (levels ++ x ∷ [])
pushed ns path a levels x e s =
    let more : length (path ++ a ∷ []) ≡ length path + 1 = length-append path (a ∷ []) in
    record {
      long = omega (arith, s.long, length-append levels (x ∷ []), more);
      each = λ k lt. elim (cases_lt k (length path)) [
        | inl below ↦
            get_or-append levels (x ∷ []) (level_of ns []) k (omega (arith, s.long)) ∙ s.each k below ∙ ap (level_of ns) (sym (take-append-le (k + 1) path (a ∷ []) (omega arith)))
        | inr from ↦
            let last : k ≡ length levels = omega (arith, s.long, more) in
            ap (λ (j : ℕ). get_or (levels ++ x ∷ []) j (level_of ns [])) last ∙ get_or-append_seam levels x [] (level_of ns []) ∙ e ∙ ap (level_of ns) (sym (take_all (k + 1) (path ++ a ∷ []) (omega (arith, more))))
      ];
    }

pub scope_entered : (ns : List Node) (n : Node) (levels more : List Level) (x : Level) → has_scope n.op ≡ true → x ≡ level_of ns (n.path ++ as_ancestor n ∷ []) → more ≡ levels ++ x ∷ [] → AreLevels ns n.path levels → AreLevels ns (entered n) more
scope_entered ns n levels more x scope is put s = rw (scope, put) (pushed ns n.path (as_ancestor n) levels x is s)

pub none_entered : (ns : List Node) (n : Node) (levels : List Level) → has_scope n.op ≡ false → AreLevels ns n.path levels → AreLevels ns (entered n) levels
none_entered ns n levels plain s = rw plain (subst (λ (l : List Ancestor). AreLevels ns l levels) (sym (append-nil n.path)) s)

-- ---- the numbers fit

pub few_of : {X : Type 0} (is : X → Bool) (ns : List X) → length (filter is ns) ≤ length ns
few_of is [] = omega arith
few_of is (n ∷ ns) =
    let later = few_of is ns in
    elim (cases_Bool (is n)) [ inl kept ↦ rw kept (omega arith) | inr other ↦ rw other (omega arith) ]

pub few_nodes : (bytes : List ℕ) → 4 ≤ length bytes → length bytes < 2 ^ 32 → SpellsForest bytes (tree_of bytes) → length (nodes_of bytes) < 2 ^ 32
few_nodes bytes header small spelled =
    let first = at_first bytes header small spelled in
    subst (λ (l : List Node). length l < 2 ^ 32) first.1 (few_left bytes 4 [] first.0)

pub few_entries : (bytes : List ℕ) → IsChecked bytes → length (entry_table (nodes_of bytes)) < 2 ^ 32
few_entries bytes checked = omega (arith, few_nodes bytes checked.header checked.small checked.spelled, few_of is_indexed (nodes_of bytes), length-map (filter is_indexed (nodes_of bytes)) (kept_entry (nodes_of bytes)))

-- the depth of a node is the length of its path
pub path_depth : (bytes around : List ℕ) (depth : ℕ) (n : Node) → depth ≤ length around → n.path ≡ map (ancestor_at bytes) (take depth around) → depth ≡ length n.path
path_depth bytes around depth n within path = sym (ap (λ (l : List Ancestor). length l) path ∙ length-map (take depth around) (ancestor_at bytes) ∙ length-take-le depth around within)
