-- Stores have no fault exactly where their ids differ and none is 0.
use Rattle.std.proofs.Common.{◌≡◌, ℕ, Bool, true, false, List, [], ◌∷◌, map, refl, sym, ap, ◌∙◌, subst, inl, inr}
use Rattle.std.specs.Prelude.{filter, nat_eq, ◌==◌}
use Rattle.std.specs.List.{IsDistinct, list_any}
use Rattle.std.proofs.lemmas.Bool.{cases_Bool, false≢true, ne_eqb, or_from, or_parts}
use Rattle.hii_bytes.specs.Faults.{HasNone}
use Rattle.hii_bytes.specs.declared.cause.Cause.{Cause}
use Rattle.hii_bytes.specs.declared.cause.Cause.TheVariants.{DuplicateVarstore}
use Rattle.ifr_opcodes.specs.Forest.{Node}
use Rattle.ifr_nodes.specs.Nodes.{is_store}
use Rattle.ifr_nodes.specs.ReferenceFaults.{Ranked}
use Rattle.ifr_scopes.specs.Stores.{store_id}
use Rattle.hii_varstore.specs.StoreNodes.{is_taken, repeats_store, IsStoreFault}
use Rattle.rules_laws.specs.laws.Ids.{AreStores}
use Rattle.rules_laws.proofs.FoundLemmas.{given, gives}
use Rattle.rules_laws.proofs.RankedLemmas.{IsPart, part_of, part_at, part_there, ranked_part, no_repeat, differ}

abbrev any_node : Node → Bool
any_node n = true

abbrev id_of : Node → ℕ
id_of n = store_id n.op

all_kept : (ns : List Node) → filter any_node ns ≡ ns
all_kept [] = refl
all_kept (n ∷ ns) = ap (λ l. n ∷ l) (all_kept ns)

abbrev stores_of : List Node → List Node
stores_of ns = filter is_store ns

free_id : (ns : List Node) → AreStores ns → (before : List Node) (n : Node) → IsPart (stores_of ns) before n → is_taken (store_id n.op) before ≡ false
free_id ns good before n part =
    or_from (store_id n.op == 0) (list_any (λ m. store_id m.op == store_id n.op) before)
    (ne_eqb (store_id n.op) 0 (good.ids (store_id n.op) (gives id_of (stores_of ns) n (part_there (stores_of ns) before n part))))
    (no_repeat any_node id_of (stores_of ns) before n part refl (subst (λ l. IsDistinct nat_eq (map id_of l)) (sym (all_kept (stores_of ns))) good.differ))

repeats : (r : Ranked) (cause : Cause) → repeats_store r cause ≡ true → is_taken (store_id r.node.op) r.before ≡ true
repeats r DuplicateVarstore e = e
repeats r _ e = absurd (false≢true e)

pub stores_sound : (ns : List Node) → AreStores ns → HasNone (IsStoreFault ns)
stores_sound ns good cause place (r, there, at, bad) =
    false≢true (sym (free_id ns good r.before r.node (part_of (stores_of ns) r there)) ∙ repeats r cause bad)

none_taken : (ns : List Node) → HasNone (IsStoreFault ns) → (before : List Node) (n : Node) → IsPart (stores_of ns) before n → is_taken (store_id n.op) before ≡ false
none_taken ns none before n part = elim (cases_Bool (is_taken (store_id n.op) before)) [
  | inl bad ↦ absurd (none DuplicateVarstore n.place (record { before = before; node = n }, ranked_part (stores_of ns) before n part, refl, bad))
  | inr free ↦ free
]

pub stores_complete : (ns : List Node) → HasNone (IsStoreFault ns) → AreStores ns
stores_complete ns none = record {
  differ = subst (λ l. IsDistinct nat_eq (map id_of l)) (all_kept (stores_of ns))
      (differ any_node id_of (stores_of ns) (λ before n part is. (or_parts (store_id n.op == 0) (list_any (λ m. store_id m.op == store_id n.op) before) (none_taken ns none before n part)).1));
  ids = λ id there zero_id. (
      let from = given id_of (stores_of ns) id there in
      let part = part_at (stores_of ns) from.0 from.1 in
      let some = (or_parts (store_id from.0.op == 0) (list_any (λ m. store_id m.op == store_id from.0.op) part.0) (none_taken ns none part.0 from.0 part.1)).0 in
      false≢true (sym some ∙ ap (λ i. i == 0) (from.2 ∙ zero_id))
      );
}
