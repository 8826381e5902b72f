-- Forms, statements and options get the LOCKED that decide for them, node by node.
use Rattle.std.proofs.Common.{◌≡◌, ℕ, ◌+◌, ◌<◌, true, false, Option, None, List, [], ◌∷◌, ◌++◌, length, map, get_or, refl, sym, ap, ◌∙◌, arith, append_assoc}
use Rattle.std.specs.Prelude.{filter}
use Rattle.std.specs.BTreeMap.{BTreeMap, btree_map_len, IsEmpty}
use Rattle.std.proofs.lemmas.List.{append-nil, map-append, length-append, length-map, nil_from_length}
use Rattle.std.proofs.Math.ListN.{set}
use Rattle.std.proofs.Math.Seq.{get_or-append_seam, set-append_seam}
use Rattle.std.proofs.lemmas.List.Elements.{filter-append}
use Rattle.ifr_opcodes.specs.Opcode.{number}
use Rattle.ifr_opcodes.specs.Forest.{Node}
use Rattle.ifr_opcodes.specs.Opcode.{number}
use Rattle.ifr_nodes.specs.Locks.{chain}
use Rattle.ifr_index.specs.code.Index.{is_indexed}
use Rattle.ifr_index.specs.code.LockIndex.{first_place, first_some, lock_place}
use Rattle.ifr_index.specs.code.Tables.{inner_guard, entry_of_node, entries_unlocked, kept_entry, entry_table}
use Rattle.ifr_index.specs.declared.index.Entry.{Entry}
use Rattle.ifr_index.proofs.LockLemmas.{decides}

abbrev bare : List Node → Node → Entry
bare ns n = entry_of_node (inner_guard ns n.path) n

-- The entries of the nodes before those that are left have their locks.
pub record Locking (ns : List Node) (entries : List Entry) (next : ℕ) (left : List Node) : Type 0 where
  pub before : List Node
  pub split : ns ≡ before ++ left
  pub so_many : next ≡ length (filter is_indexed before)
  pub are : entries ≡ map (kept_entry ns) (filter is_indexed before) ++ map (bare ns) (filter is_indexed left)

pub locking_other : (ns : List Node) (entries : List Entry) (next : ℕ) (n : Node) (rest : List Node) → is_indexed n ≡ false → Locking ns entries next (n ∷ rest) → Locking ns entries next rest
locking_other ns entries next n rest other l =
    let same : filter is_indexed (l.before ++ n ∷ []) ≡ filter is_indexed l.before = filter-append is_indexed l.before (n ∷ []) ∙ rw other (append-nil (filter is_indexed l.before)) in
    let past : filter is_indexed (n ∷ rest) ≡ filter is_indexed rest = rw other refl in
    record {
      before = l.before ++ n ∷ [];
      split = l.split ∙ sym (append_assoc l.before (n ∷ []) rest);
      so_many = l.so_many ∙ ap (λ (x : List Node). length x) (sym same);
      are = l.are ∙ ap (λ (x : List Node). map (kept_entry ns) x ++ map (bare ns) (filter is_indexed (n ∷ rest))) (sym same) ∙ ap (λ (x : List Node). map (kept_entry ns) (filter is_indexed (l.before ++ n ∷ [])) ++ map (bare ns) x) past;
    }

-- The next entry is that of the node.
pub record IsNext (ns : List Node) (entries : List Entry) (next : ℕ) (n : Node) : Type 0 where
  pub within : next < length entries
  pub is : (d : Entry) → get_or entries next d ≡ bare ns n

at_next : (ns : List Node) (entries : List Entry) (next : ℕ) (n : Node) (rest : List Node) → is_indexed n ≡ true → (l : Locking ns entries next (n ∷ rest))
    → entries ≡ map (kept_entry ns) (filter is_indexed l.before) ++ bare ns n ∷ map (bare ns) (filter is_indexed rest)
at_next ns entries next n rest is l =
    let here : filter is_indexed (n ∷ rest) ≡ n ∷ filter is_indexed rest = rw is refl in
    l.are ∙ ap (λ (x : List Node). map (kept_entry ns) (filter is_indexed l.before) ++ map (bare ns) x) here

pub is_next : (ns : List Node) (entries : List Entry) (next : ℕ) (n : Node) (rest : List Node) → is_indexed n ≡ true → Locking ns entries next (n ∷ rest) → IsNext ns entries next n
is_next ns entries next n rest is l =
    let done = map (kept_entry ns) (filter is_indexed l.before) in
    let e = at_next ns entries next n rest is l in
    let count : next ≡ length done = l.so_many ∙ sym (length-map (filter is_indexed l.before) (kept_entry ns)) in
    record {
      within = omega (arith, count, ap (λ (x : List Entry). length x) e, length-append done (bare ns n ∷ map (bare ns) (filter is_indexed rest)));
      is = λ d. ap (λ (x : List Entry). get_or x next d) e ∙ ap (λ (k : ℕ). get_or (done ++ bare ns n ∷ map (bare ns) (filter is_indexed rest)) k d) count ∙ get_or-append_seam done (bare ns n) (map (bare ns) (filter is_indexed rest)) d;
    }

pub locking_one : (ns : List Node) (entries : List Entry) (next : ℕ) (n : Node) (rest : List Node) (found : ℕ → Option ℕ) (entry : Entry) → is_indexed n ≡ true → Locking ns entries next (n ∷ rest)
    → ((scope : ℕ) → found scope ≡ first_place ns scope) → entry.place ≡ n.place → entry.code ≡ number n.op → entry.guard ≡ inner_guard ns n.path → entry.lock ≡ first_some found (chain n) → Locking ns (set entries next entry) (next + 1) rest
locking_one ns entries next n rest found entry is l firsts place code guard lock =
    let done = map (kept_entry ns) (filter is_indexed l.before) in
    let more = map (bare ns) (filter is_indexed rest) in
    let e = at_next ns entries next n rest is l in
    let count : next ≡ length done = l.so_many ∙ sym (length-map (filter is_indexed l.before) (kept_entry ns)) in
    let same : filter is_indexed (l.before ++ n ∷ []) ≡ filter is_indexed l.before ++ n ∷ [] = filter-append is_indexed l.before (n ∷ []) ∙ rw is refl in
    let decided : entry.lock ≡ lock_place ns n = lock ∙ decides ns found n firsts in
    let its : entry ≡ kept_entry ns n = λ i. record { place = place i; code = code i; guard = guard i; lock = decided i } in
    record {
      before = l.before ++ n ∷ [];
      split = l.split ∙ sym (append_assoc l.before (n ∷ []) rest);
      so_many = omega (arith, l.so_many, ap (λ (x : List Node). length x) same, length-append (filter is_indexed l.before) (n ∷ []));
      are =
          ap (λ (x : List Entry). set x next entry) e ∙ ap (λ (k : ℕ). set (done ++ bare ns n ∷ more) k entry) count ∙ set-append_seam done (bare ns n) more entry
          ∙ ap (λ (x : Entry). done ++ x ∷ more) its ∙ sym (append_assoc done (kept_entry ns n ∷ []) more)
          ∙ ap (λ (x : List Entry). x ++ more) (sym (map-append (kept_entry ns) (filter is_indexed l.before) (n ∷ [])) ∙ ap (map (kept_entry ns)) (sym same));
    }

-- where nothing is locked
pub unlocked : (ns : List Node) (found : ℕ → Option ℕ) → ((scope : ℕ) → found scope ≡ first_place ns scope) → ((scope : ℕ) → found scope ≡ None) → entries_unlocked ns ≡ entry_table ns
unlocked ns found firsts none = each (filter is_indexed ns)
  where
    nowhere : (places : List ℕ) → first_some found places ≡ None
    nowhere [] = refl
    nowhere (p ∷ places) = rw (none p) (nowhere places)

    each : (its : List Node) → map (bare ns) its ≡ map (kept_entry ns) its
    each [] = refl
    each (n ∷ its) =
        let lock : ◌≡◌ {A = Option ℕ} None (lock_place ns n) = sym (nowhere (chain n)) ∙ decides ns found n firsts in
        ap (λ (o : Option ℕ). record { place = n.place; code = number n.op; guard = inner_guard ns n.path; lock = o } ∷ map (bare ns) its) lock ∙ ap (λ (x : List Entry). kept_entry ns n ∷ x) (each its)

pub no_entries : (found : BTreeMap ℕ ℕ) → btree_map_len found ≡ 0 → IsEmpty found
no_entries found e = nil_from_length found.entries e
