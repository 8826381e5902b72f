-- Stores without a fault have different ids.
use Rattle.std.proofs.Common.{◌≡◌, ◌∙◌, ◌==◌, ◌++◌, ◌∷◌, ℕ, Bool, true, false, List, [], Option, None, Some, nat_eq, map, arith, refl, sym, inl, inr, subst, suc}
use Rattle.std.specs.Prelude.{Contains, filter}
use Rattle.std.specs.List.{AllByRecursion, IsDistinct, filter_map, list_any}
use Rattle.std.proofs.lemmas.Bool.{cases_Bool, eq-eqb, eqb-true}
use Rattle.hii_bytes.specs.Faults.{HasNone}
use Rattle.hii_bytes.specs.declared.cause.Cause.TheVariants.{DuplicateVarstore}
use Rattle.ifr_opcodes.specs.Forest.{Node}
use Rattle.ifr_nodes.specs.Nodes.{is_store}
use Rattle.ifr_nodes.specs.ReferenceFaults.{Ranked, ranked}
use Rattle.ifr_scopes.specs.Stores.{store_id, store_size}
use Rattle.hii_varstore.specs.StoreNodes.{IsStoreFault, declared_buffer, is_taken, layout_of, repeats_store}
use Rattle.hii_varstore.specs.declared.buffer.Buffer.{Buffer}

any_left : (p : Node → Bool) (xs ys : List Node) → list_any p xs ≡ true → list_any p (xs ++ ys) ≡ true
any_left p [] ys has = let bad : false ≡ true = has in cc
any_left p (x ∷ xs) ys has = elim (cases_Bool (p x)) [
  | inl e ↦ rw e refl
  | inr e ↦ rw e (any_left p xs ys (rw e at has))
]

any_last : (p : Node → Bool) (xs : List Node) (n : Node) → p n ≡ true → list_any p (xs ++ n ∷ []) ≡ true
any_last p [] n is = rw is refl
any_last p (x ∷ xs) n is = elim (cases_Bool (p x)) [
  | inl e ↦ rw e refl
  | inr e ↦ rw e (any_last p xs n is)
]

abbrev NoneRepeats : List Ranked → Type 0
NoneRepeats rs = (r : Ranked) → Contains rs r → repeats_store r DuplicateVarstore ≡ false

later : (r : Ranked) (rs : List Ranked) → NoneRepeats (r ∷ rs) → NoneRepeats rs
later r rs none = λ x within. none x (suc within.0, omega (arith, within.1), within.2)

-- the id of a store is that of none behind it
apart_from : (before ns : List Node) (i : ℕ) → list_any (λ n. store_id n.op == i) before ≡ true → NoneRepeats (ranked before ns)
    → AllByRecursion (λ y. nat_eq i y ≡ false) (map (λ (b : Buffer). b.id) (filter_map declared_buffer ns))
apart_from before [] i has none = tt
apart_from before (n ∷ ns) i has none =
    go (apart_from (before ++ n ∷ []) ns i (any_left (λ n. store_id n.op == i) before (n ∷ []) has) (later _ _ none)) (store_size n.op) refl
  where
    here : nat_eq i (store_id n.op) ≡ false
    here = elim (cases_Bool (nat_eq i (store_id n.op))) [
      | inl e ↦
          let same : i ≡ store_id n.op = eqb-true i (store_id n.op) e in
          let met = subst (λ (i : ℕ). list_any (λ n. store_id n.op == i) before ≡ true) same has in
          let fresh : is_taken (store_id n.op) before ≡ false = none (record { before = before; node = n }) (0, omega arith, refl) in
          let taken : is_taken (store_id n.op) before ≡ true = elim (cases_Bool (store_id n.op == 0)) [ inl z ↦ rw z refl | inr z ↦ rw (z, met) refl ] in
          let bad : true ≡ false = sym taken ∙ fresh in
          cc
      | inr e ↦ e
    ]

    go : AllByRecursion (λ y. nat_eq i y ≡ false) (map (λ (b : Buffer). b.id) (filter_map declared_buffer ns)) → (size : Option ℕ) → store_size n.op ≡ size
        → AllByRecursion (λ y. nat_eq i y ≡ false) (map (λ (b : Buffer). b.id) (filter_map declared_buffer (n ∷ ns)))
    go rest None e = rw e rest
    go rest (Some size) e = rw e (here, rest)

distinct : (before ns : List Node) → NoneRepeats (ranked before ns) → IsDistinct nat_eq (map (λ (b : Buffer). b.id) (filter_map declared_buffer ns))
unfolding IsDistinct
distinct before [] none = tt
distinct before (n ∷ ns) none =
    go (distinct (before ++ n ∷ []) ns (later _ _ none)) (store_size n.op) refl
  where
    go : IsDistinct nat_eq (map (λ (b : Buffer). b.id) (filter_map declared_buffer ns)) → (size : Option ℕ) → store_size n.op ≡ size
        → IsDistinct nat_eq (map (λ (b : Buffer). b.id) (filter_map declared_buffer (n ∷ ns)))
    go rest None e = rw e rest
    go rest (Some size) e = rw e (apart_from (before ++ n ∷ []) ns (store_id n.op) (any_last (λ m. store_id m.op == store_id n.op) before n (eq-eqb (store_id n.op) (store_id n.op) refl)) (later _ _ none), rest)

pub stores_differ : (ns : List Node) → HasNone (IsStoreFault ns) → IsDistinct nat_eq (map (λ (b : Buffer). b.id) (layout_of ns).buffers)
stores_differ ns none = distinct [] (filter is_store ns) (λ r within. elim (cases_Bool (repeats_store r DuplicateVarstore)) [
  | inl bad ↦ absurd (none DuplicateVarstore r.node.place (r, within, refl, bad))
  | inr e ↦ e
])
