-- Guards by their numbers.
use Rattle.std.proofs.Common.{◌≡◌, ◌⊎◌, ℕ, zero, suc, ◌+◌, ◌<◌, ◌≤◌, Bool, true, false, Option, Some, None, List, [], ◌∷◌, ◌++◌, length, map, get_or, refl, sym, ap, ◌∙◌, subst, inl, inr, arith, append_assoc}
use Rattle.std.specs.Prelude.{Contains, filter, option_map, nat_lt, reverse}
use Rattle.std.specs.List.{last_or}
use Rattle.std.proofs.lemmas.Bool.{cases_Bool}
use Rattle.std.proofs.lemmas.Bool.Decides.{nat_tests}
use Rattle.std.proofs.lemmas.List.{append-nil, get_or-map, length-map, length-append, reverse-append}
use Rattle.std.proofs.Math.Seq.{get_or-append_seam}
use Rattle.std.proofs.lemmas.List.Elements.{All-append, filter-append, filter_passes, Contains-get_or}
use Rattle.std.proofs.lemmas.Option.{slice_get-get_or}
use Rattle.hii_bytes.specs.code.FirstFaults.{Rise}
use Rattle.ifr_opcodes.specs.Opcode.{number}
use Rattle.ifr_opcodes.specs.Forest.{Ancestor, Node, as_ancestor, SpellsForest}
use Rattle.ifr_opcodes.specs.Reading.{tree_of}
use Rattle.ifr_nodes.specs.Guards.{is_guard, node_within, nodes_on, guards, guards_among}
use Rattle.ifr_nodes.specs.Nodes.{nodes_of, this_of}
use Rattle.ifr_nodes.specs.code.Checked.{node_in, or_empty}
use Rattle.ifr_nodes.specs.code.Ends.{expression_end}
use Rattle.ifr_index.specs.code.Tables.{guards_before, inner_guard, guard_of_number, guards_from, IsNumber, AreNumbers, guard_entry, guard_table, IsGuardEntry}
use Rattle.ifr_index.specs.declared.index.GuardEntry.{GuardEntry}
use Rattle.ifr_index.proofs.IndexLemmas.{nodes_rise}
use Rattle.ifr_nodes.proofs.InnermostLemmas.{last_or-push}
use Rattle.ifr_index.proofs.PathLemmas.{kept}
use Rattle.ifr_nodes.proofs.ScopeLemmas.{ancestor_node}
use Rattle.ifr_nodes.proofs.PlaceLemmas.{is_found}
use Rattle.ifr_nodes.proofs.ViewLemmas.{contains_found, is_at, node_in_place}

abbrev place_of : Node → ℕ
place_of n = n.place

abbrev guarding : Node → Bool
guarding n = is_guard (number n.op)

abbrev guarding_path : Ancestor → Bool
guarding_path a = is_guard (number a.op)

-- ---- the guard of a number

-- One of these nodes, which is a guard.
pub record IsGuardOf (ns : List Node) (guard : Node) : Type 0 where
  pub within : Contains ns guard
  pub guards : is_guard (number guard.op) ≡ true

some_guard : (ns : List Node) (k : ℕ) (d : Node) → k < length (guards_among ns) → guard_of_number ns k ≡ get_or (guards_among ns) k d
unfolding guard_of_number
some_guard ns k d lt = ap or_empty (slice_get-get_or (guards_among ns) k d lt)

pub guard_there : (ns : List Node) (k : ℕ) → k < length (guards_among ns) → IsGuardOf ns (guard_of_number ns k)
guard_there ns k lt =
    let is = some_guard ns k (or_empty None) lt in
    subst (IsGuardOf ns) (sym is) (record {
      within = kept guarding ns (get_or (guards_among ns) k (or_empty None)) (Contains-get_or (guards_among ns) k (or_empty None) lt);
      guards = filter_passes guarding ns k (or_empty None) lt;
    })

-- its entry in the table
pub entry_there : (ns : List Node) (table : List GuardEntry) (k : ℕ) (d : GuardEntry) → table ≡ guard_table ns → k < length (guards_among ns)
    → get_or table k d ≡ guard_entry (inner_guard ns (guard_of_number ns k).path) (guard_of_number ns k)
entry_there ns table k d e lt =
    ap (λ (t : List GuardEntry). get_or t k d) e ∙ get_or-map (λ (n : Node). guard_entry (inner_guard ns n.path) n) (guards_among ns) k (or_empty None) d lt
    ∙ ap (λ (n : Node). guard_entry (inner_guard ns n.path) n) (sym (some_guard ns k (or_empty None) lt))

pub as_long : (ns : List Node) (table : List GuardEntry) → table ≡ guard_table ns → length table ≡ length (guards_among ns)
as_long ns table e = ap (λ (t : List GuardEntry). length t) e ∙ length-map (guards_among ns) (λ (n : Node). guard_entry (inner_guard ns n.path) n)

pub is_guard_entry : (bytes : List ℕ) (outer : Option ℕ) (n : Node) → SpellsForest bytes (tree_of bytes) → Contains (nodes_of bytes) n → is_guard (number n.op) ≡ true → IsGuardEntry bytes (guard_entry outer n)
is_guard_entry bytes outer n s within guards =
    let at = is_at bytes n s within in
    let same : n ≡ node_in bytes n.place = sym (node_in_place bytes n s within) in
    record {
      stands = rw (at.there, at.opcode) guards;
      code = ap (λ (m : Node). number m.op) same;
      within = ap this_of same;
      ends = ap expression_end same;
    }

-- ---- the number of a guard

-- none stands before a place where all are behind it
none_before : (is : Node → Bool) (low place : ℕ) (ns : List Node) → place ≤ low → Rise place_of low ns → filter (λ n. nat_lt n.place place) (filter is ns) ≡ []
none_before is low place [] le r = refl
none_before is low place (n ∷ ns) le r =
    let later = none_before is (n.place + 1) place ns (omega (arith, r.0)) r.1 in
    let behind : nat_lt n.place place ≡ false = let up : low ≤ n.place = r.0 in grind (arith, nat_tests) in
    elim (cases_Bool (is n)) [ inl kept ↦ rw (kept, behind) later | inr other ↦ rw other later ]

-- The guard is found by how many stand before it.
pub record IsFoundGuard (ns : List Node) (n : Node) : Type 0 where
  pub within : guards_before ns n.place < length (guards_among ns)
  pub is : get_or (guards_among ns) (guards_before ns n.place) n ≡ n

later_place : (low : ℕ) (ns : List Node) (n : Node) (k : ℕ) → Rise place_of low ns → k < length ns → get_or ns k n ≡ n → low ≤ n.place
later_place low [] n k r lt e = absurd (omega arith)
later_place low (m ∷ ns) n zero r lt e = omega (arith, r.0, ap place_of e)
later_place low (m ∷ ns) n (suc k) r lt e = omega (arith, r.0, later_place (m.place + 1) ns n k r.1 (omega arith) e)

guard_found : (low : ℕ) (ns : List Node) (n : Node) (k : ℕ) → Rise place_of low ns → k < length ns → get_or ns k n ≡ n → guarding n ≡ true → IsFoundGuard ns n
guard_found low [] n k r lt e is = absurd (omega arith)
guard_found low (m ∷ ns) n zero r lt e is =
    let same : m ≡ n = e in
    let guards : guarding m ≡ true = ap guarding same ∙ is in
    let here : nat_lt m.place n.place ≡ false = let at : m.place ≡ n.place = ap place_of same in grind (arith, nat_tests) in
    let none : filter (λ x. nat_lt x.place n.place) (guards_among ns) ≡ [] = none_before guarding (m.place + 1) n.place ns (omega (arith, ap place_of same)) r.1 in
    let count : guards_before (m ∷ ns) n.place ≡ 0 = rw (guards, here, none) refl in
    record {
      within = rw (count, guards) (omega arith);
      is = rw (count, guards) same;
    }
guard_found low (m ∷ ns) n (suc k) r lt e is =
    let later = guard_found (m.place + 1) ns n k r.1 (omega arith) e is in
    let behind : m.place + 1 ≤ n.place = later_place (m.place + 1) ns n k r.1 (omega arith) e in
    let before : nat_lt m.place n.place ≡ true = grind (arith, nat_tests) in
    elim (cases_Bool (guarding m)) [
      | inl guards ↦
          let count : guards_before (m ∷ ns) n.place ≡ suc (guards_before ns n.place) = rw (guards, before) refl in
          record {
            within = rw (count, guards) (omega (arith, later.within));
            is = rw (count, guards) later.is;
          }
      | inr other ↦
          let count : guards_before (m ∷ ns) n.place ≡ guards_before ns n.place = rw other refl in
          record {
            within = rw (count, other) later.within;
            is = rw (count, other) later.is;
          }
    ]

-- where these stand before a node, those of a kind do
before_place : (low : ℕ) (before rest : List Node) (n : Node) → Rise place_of low (before ++ n ∷ rest) → low ≤ n.place
before_place low [] rest n r = r.0
before_place low (m ∷ before) rest n r = omega (arith, r.0, before_place (m.place + 1) before rest n r.1)

pub so_many_before : (is : Node → Bool) (low : ℕ) (before rest : List Node) (n : Node) → Rise place_of low (before ++ n ∷ rest)
    → length (filter (λ m. nat_lt m.place n.place) (filter is (before ++ n ∷ rest))) ≡ length (filter is before)
so_many_before is low [] rest n r = ap (λ (l : List Node). length l) (none_before is n.place n.place (n ∷ rest) (omega arith) (omega arith, r.1))
so_many_before is low (m ∷ before) rest n r =
    let later = so_many_before is (m.place + 1) before rest n r.1 in
    let behind : m.place + 1 ≤ n.place = before_place (m.place + 1) before rest n r.1 in
    let earlier : nat_lt m.place n.place ≡ true = grind (arith, nat_tests) in
    elim (cases_Bool (is m)) [ inl kept ↦ rw (kept, earlier) (ap (λ (k : ℕ). suc k) later) | inr other ↦ rw other later ]

-- no guard stands before where all begin
no_lower : (low : ℕ) (ns : List Node) (k : ℕ) (d : Node) → Rise place_of low ns → k < length (guards_among ns) → low ≤ (get_or (guards_among ns) k d).place
no_lower low [] k d r lt = absurd (omega arith)
no_lower low (n ∷ ns) zero d r lt = elim (cases_Bool (guarding n)) [
  | inl is ↦ rw is r.0
  | inr other ↦ let later = no_lower (n.place + 1) ns zero d r.1 (rw other at lt) in rw other (omega (arith, r.0, later))
]
no_lower low (n ∷ ns) (suc j) d r lt = elim (cases_Bool (guarding n)) [
  | inl is ↦
      let fewer : suc j < suc (length (guards_among ns)) = rw is at lt in
      let later = no_lower (n.place + 1) ns j d r.1 (omega (arith, fewer)) in
      rw is (omega (arith, r.0, later))
  | inr other ↦ let later = no_lower (n.place + 1) ns (suc j) d r.1 (rw other at lt) in rw other (omega (arith, r.0, later))
]

-- before the guard of a number stand so many
so_many : (low : ℕ) (ns : List Node) (k : ℕ) (d : Node) → Rise place_of low ns → k < length (guards_among ns) → guards_before ns (get_or (guards_among ns) k d).place ≡ k
so_many low [] k d r lt = absurd (omega arith)
so_many low (n ∷ ns) zero d r lt = elim (cases_Bool (guarding n)) [
  | inl is ↦
      let here : nat_lt n.place n.place ≡ false = grind (arith, nat_tests) in
      rw (is, here) (ap (λ (l : List Node). length l) (none_before guarding (n.place + 1) n.place ns (omega arith) r.1))
  | inr other ↦ rw other (so_many (n.place + 1) ns zero d r.1 (rw other at lt))
]
so_many low (n ∷ ns) (suc j) d r lt = elim (cases_Bool (guarding n)) [
  | inl is ↦
      let fewer : suc j < suc (length (guards_among ns)) = rw is at lt in
      let g : Node = get_or (guards_among ns) j d in
      let behind : n.place + 1 ≤ g.place = no_lower (n.place + 1) ns j d r.1 (omega (arith, fewer)) in
      let before : nat_lt n.place g.place ≡ true = grind (arith, nat_tests) in
      rw (is, before) (ap (λ (m : ℕ). suc m) (so_many (n.place + 1) ns j d r.1 (omega (arith, fewer))))
  | inr other ↦ rw other (so_many (n.place + 1) ns (suc j) d r.1 (rw other at lt))
]

numbered_place : (ns : List Node) (k : ℕ) → Rise place_of 4 ns → k < length (guards_among ns) → guards_before ns (guard_of_number ns k).place ≡ k
numbered_place ns k r lt = ap (λ (n : Node). guards_before ns n.place) (some_guard ns k (or_empty None) lt) ∙ so_many 4 ns k (or_empty None) r lt

-- ---- the innermost guard of a path

pub inner_guard-push : (ns : List Node) (path : List Ancestor) (a : Ancestor) → is_guard (number a.op) ≡ true → inner_guard ns (path ++ a ∷ []) ≡ Some (guards_before ns a.place)
inner_guard-push ns path a is =
    let last : filter guarding_path (path ++ a ∷ []) ≡ filter guarding_path path ++ a ∷ [] = filter-append guarding_path path (a ∷ []) ∙ rw is refl in
    ap (λ (l : List Ancestor). option_map (λ (b : Ancestor). guards_before ns b.place) (last_or None l)) last ∙ ap (option_map (λ (b : Ancestor). guards_before ns b.place)) (last_or-push None (filter guarding_path path) a)

pub inner_guard-other : (ns : List Node) (path : List Ancestor) (a : Ancestor) → is_guard (number a.op) ≡ false → inner_guard ns (path ++ a ∷ []) ≡ inner_guard ns path
inner_guard-other ns path a other =
    let same : filter guarding_path (path ++ a ∷ []) ≡ filter guarding_path path = filter-append guarding_path path (a ∷ []) ∙ rw other (append-nil (filter guarding_path path)) in
    ap (λ (l : List Ancestor). option_map (λ (b : Ancestor). guards_before ns b.place) (last_or None l)) same

-- A path has an innermost guard.
record HasInner (path : List Ancestor) : Type 0 where
  before : List Ancestor
  after : List Ancestor
  guard : Ancestor
  split : path ≡ before ++ guard ∷ after
  guards : is_guard (number guard.op) ≡ true
  none : filter guarding_path after ≡ []

inner_of : (path : List Ancestor) → (filter guarding_path path ≡ []) ⊎ HasInner path
inner_of [] = inl refl
inner_of (a ∷ path) = elim (inner_of path) [
  | inl none ↦ elim (cases_Bool (guarding_path a)) [
    | inl is ↦ inr (record { before = []; after = path; guard = a; split = refl; guards = is; none = none })
    | inr other ↦ inl (rw other none)
  ]
  | inr i ↦ inr (record { before = a ∷ i.before; after = i.after; guard = i.guard; split = ap (λ (l : List Ancestor). a ∷ l) i.split; guards = i.guards; none = i.none })
]

no_guards_on : (around path : List Ancestor) → filter guarding_path path ≡ [] → guards_among (nodes_on around path) ≡ []
no_guards_on around [] e = refl
no_guards_on around (a ∷ path) e = elim (cases_Bool (guarding_path a)) [
  | inl is ↦ let bad : ◌≡◌ {A = List Ancestor} (a ∷ filter guarding_path path) [] = rw is at e in absurd cc
  | inr other ↦ rw other (no_guards_on (around ++ a ∷ []) path (rw other at e))
]

nodes_on-append : (around xs ys : List Ancestor) → nodes_on around (xs ++ ys) ≡ nodes_on around xs ++ nodes_on (around ++ xs) ys
nodes_on-append around [] ys = ap (λ (l : List Ancestor). nodes_on l ys) (sym (append-nil around))
nodes_on-append around (x ∷ xs) ys =
    ap (λ (l : List Node). node_within around x ∷ l)
    (nodes_on-append (around ++ x ∷ []) xs ys ∙ ap (λ (l : List Ancestor). nodes_on (around ++ x ∷ []) xs ++ nodes_on l ys) (append_assoc around (x ∷ []) xs))

-- The guards of a node are those from the number of the innermost.
pub record AreFrom (ns : List Node) (n : Node) : Type 0 where
  pub numbered : IsNumber ns (inner_guard ns n.path)
  pub guards : guards n ≡ guards_from ns (inner_guard ns n.path)

bare : (ns : List Node) (n : Node) → filter guarding_path n.path ≡ [] → AreFrom ns n
bare ns n none =
    let inner : inner_guard ns n.path ≡ None = ap (λ (l : List Ancestor). option_map (λ (a : Ancestor). guards_before ns a.place) (last_or None l)) none in
    record {
      numbered = rw inner tt;
      guards = rw inner (no_guards_on [] n.path none);
    }

inner_there : (bytes : List ℕ) (n : Node) → SpellsForest bytes (tree_of bytes) → Contains (nodes_of bytes) n → HasInner n.path → AreFrom (nodes_of bytes) n
inner_there bytes n s within i =
    let ns = nodes_of bytes in
    let a = i.guard in
    let found = ancestor_node bytes n i.before i.after a s (is_found bytes (tree_of bytes) n s within) i.split in
    let m = found.0 in
    let there : Contains ns m = contains_found ns m.place m found.1 in
    let place : m.place ≡ a.place = ap (λ (b : Ancestor). b.place) found.2 in
    let rank = guard_found 4 ns m there.0 (nodes_rise bytes s) there.1 there.2 (ap guarding_path found.2 ∙ i.guards) in
    let number : ℕ = guards_before ns a.place in
    let count : guards_before ns m.place ≡ number = ap (guards_before ns) place in
    let lt : number < length (guards_among ns) = subst (λ (k : ℕ). k < length (guards_among ns)) count rank.within in
    let is : guard_of_number ns number ≡ m = some_guard ns number m lt ∙ ap (λ (k : ℕ). get_or (guards_among ns) k m) (sym count) ∙ rank.is in
    let inner : inner_guard ns n.path ≡ Some number =
    ap (inner_guard ns) (i.split ∙ sym (append_assoc i.before (a ∷ []) i.after)) ∙ past (i.before ++ a ∷ []) i.after i.none ∙ inner_guard-push ns i.before a i.guards in
    let same : node_within i.before a ≡ m =
    ap (λ (b : Ancestor). node_within i.before b) (sym found.2) ∙ ap (λ (l : List Ancestor). node_within l (as_ancestor m)) (sym found.3) in
    let outer : guards m ≡ guards_among (nodes_on [] i.before) = ap (λ (l : List Ancestor). guards_among (nodes_on [] l)) found.3 in
    let split : guards n ≡ guards_among (nodes_on [] i.before) ++ guards_among (node_within i.before a ∷ nodes_on (i.before ++ a ∷ []) i.after) =
    ap (λ (l : List Ancestor). guards_among (nodes_on [] l)) i.split ∙ ap guards_among (nodes_on-append [] i.before (a ∷ i.after)) ∙ filter-append guarding (nodes_on [] i.before) (nodes_on i.before (a ∷ i.after)) in
    let last : guards_among (node_within i.before a ∷ nodes_on (i.before ++ a ∷ []) i.after) ≡ m ∷ [] =
    rw i.guards (ap (λ (x : Node). x ∷ guards_among (nodes_on (i.before ++ a ∷ []) i.after)) same ∙ ap (λ (l : List Node). m ∷ l) (no_guards_on (i.before ++ a ∷ []) i.after i.none)) in
    record {
      numbered = rw inner lt;
      guards = rw inner (split ∙ ap (λ (l : List Node). guards_among (nodes_on [] i.before) ++ l) last ∙ ap (λ (l : List Node). l ++ m ∷ []) (sym outer) ∙ ap (λ (x : Node). guards x ++ x ∷ []) (sym is));
    }
  where
    past : (path more : List Ancestor) → filter guarding_path more ≡ [] → inner_guard (nodes_of bytes) (path ++ more) ≡ inner_guard (nodes_of bytes) path
    past path more none =
        ap (λ (l : List Ancestor). option_map (λ (b : Ancestor). guards_before (nodes_of bytes) b.place) (last_or None l))
        (filter-append guarding_path path more ∙ ap (λ (l : List Ancestor). filter guarding_path path ++ l) none ∙ append-nil (filter guarding_path path))

pub guards_are : (bytes : List ℕ) (n : Node) → SpellsForest bytes (tree_of bytes) → Contains (nodes_of bytes) n → AreFrom (nodes_of bytes) n
guards_are bytes n s within = elim (inner_of n.path) [
  | inl none ↦ bare (nodes_of bytes) n none
  | inr i ↦ inner_there bytes n s within i
]

few_on : (around path : List Ancestor) → length (guards_among (nodes_on around path)) ≤ length path
few_on around [] = omega arith
few_on around (a ∷ path) =
    let later = few_on (around ++ a ∷ []) path in
    elim (cases_Bool (guarding_path a)) [ inl is ↦ rw is (omega arith) | inr other ↦ rw other (omega arith) ]

pub few_guards : (n : Node) → length (guards n) ≤ length n.path
few_guards n = few_on [] n.path

-- ---- from one guard to the next

-- what is read past a table
abbrev pub no_guard : GuardEntry
no_guard = record { place = 0; code = 0; this = 0; outer = None; ends = 0 }

-- This is the entry of the guard of a number, and its own leads to those around it.
pub record LeadsOn (bytes : List ℕ) (next : Option ℕ) (k : ℕ) (guard : GuardEntry) : Type 0 where
  pub kept : IsGuardEntry bytes guard
  pub is : node_in bytes guard.place ≡ guard_of_number (nodes_of bytes) k
  pub before : k ≡ guards_before (nodes_of bytes) guard.place
  pub numbered : IsNumber (nodes_of bytes) guard.outer
  pub split : guards_from (nodes_of bytes) next ≡ guards_from (nodes_of bytes) guard.outer ++ node_in bytes guard.place ∷ []
  pub count : length (guards_from (nodes_of bytes) next) ≡ length (guards_from (nodes_of bytes) guard.outer) + 1

pub leads_on : (bytes : List ℕ) (table : List GuardEntry) (next : Option ℕ) (k : ℕ) (d : GuardEntry) → SpellsForest bytes (tree_of bytes) → table ≡ guard_table (nodes_of bytes) → next ≡ Some k → k < length (guards_among (nodes_of bytes))
    → LeadsOn bytes next k (get_or table k d)
leads_on bytes table next k d s e is lt =
    let ns = nodes_of bytes in
    let n = guard_of_number ns k in
    let there = guard_there ns k lt in
    let around = guards_are bytes n s there.within in
    let node : node_in bytes n.place ≡ n = node_in_place bytes n s there.within in
    let outer = guards_from ns (inner_guard ns n.path) in
    let split : guards_from ns next ≡ outer ++ node_in bytes n.place ∷ [] =
    ap (guards_from ns) is ∙ ap (λ (l : List Node). l ++ n ∷ []) around.guards ∙ ap (λ (m : Node). outer ++ m ∷ []) (sym node) in
    subst (LeadsOn bytes next k) (sym (entry_there ns table k d e lt)) (record {
      kept = is_guard_entry bytes (inner_guard ns n.path) n s there.within there.guards;
      is = node;
      before = sym (numbered_place ns k (nodes_rise bytes s) lt);
      numbered = around.numbered;
      split = split;
      count = ap (λ (l : List Node). length l) split ∙ length-append outer (node_in bytes n.place ∷ []);
    })

-- the guard, and then those around it
pub turned : (bytes : List ℕ) (next : Option ℕ) (k : ℕ) (guard : GuardEntry) → LeadsOn bytes next k guard → reverse (guards_from (nodes_of bytes) next) ≡ node_in bytes guard.place ∷ reverse (guards_from (nodes_of bytes) guard.outer)
turned bytes next k guard on = ap reverse on.split ∙ reverse-append (guards_from (nodes_of bytes) guard.outer) (node_in bytes guard.place ∷ [])

pub joined : (bytes : List ℕ) (next : Option ℕ) (k : ℕ) (guard : GuardEntry) (old new : List ℕ) → LeadsOn bytes next k guard → new ≡ old ++ k ∷ []
    → guards_from (nodes_of bytes) guard.outer ++ map (guard_of_number (nodes_of bytes)) (reverse new) ≡ guards_from (nodes_of bytes) next ++ map (guard_of_number (nodes_of bytes)) (reverse old)
joined bytes next k guard old new on e =
    let ns = nodes_of bytes in
    let outer = guards_from ns guard.outer in
    let rest = map (guard_of_number ns) (reverse old) in
    ap (λ (l : List ℕ). outer ++ map (guard_of_number ns) (reverse l)) e ∙ ap (λ (l : List ℕ). outer ++ map (guard_of_number ns) l) (reverse-append old (k ∷ []))
    ∙ sym (append_assoc outer (guard_of_number ns k ∷ []) rest) ∙ ap (λ (n : Node). (outer ++ n ∷ []) ++ rest) (sym on.is) ∙ ap (λ (l : List Node). l ++ rest) (sym on.split)

pub number_within : (ns : List Node) (next : Option ℕ) (k : ℕ) → next ≡ Some k → IsNumber ns next → k < length (guards_among ns)
number_within ns next k e numbered = subst (IsNumber ns) e numbered

pub more_numbers : (ns : List Node) (old new : List ℕ) (k : ℕ) → new ≡ old ++ k ∷ [] → k < length (guards_among ns) → AreNumbers ns old → AreNumbers ns new
more_numbers ns old new k e lt are = subst (AreNumbers ns) (sym e) (All-append (λ (j : ℕ). j < length (guards_among ns)) old (k ∷ []) are (one lt))
  where
    one : k < length (guards_among ns) → AreNumbers ns (k ∷ [])
    one lt zero d below = lt
    one lt (suc i) d below = absurd (omega arith)

pub last_number : (ns : List Node) (all rest : List ℕ) (k : ℕ) → all ≡ rest ++ k ∷ [] → AreNumbers ns all → k < length (guards_among ns)
last_number ns all rest k e are =
    let its : AreNumbers ns (rest ++ k ∷ []) = subst (AreNumbers ns) e are in
    subst (λ (j : ℕ). j < length (guards_among ns)) (get_or-append_seam rest k [] 0) (its (length rest) 0 (omega (arith, length-append rest (k ∷ []))))
