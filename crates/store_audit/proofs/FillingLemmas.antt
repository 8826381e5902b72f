-- What stands in the stores while they are filled.
use Rattle.std.proofs.Common.{◌≡◌, ℕ, zero, suc, add-one, ◌+◌, ◌<◌, ◌≤◌, true, false, eqb, cond, nat_eq, List, [], ◌∷◌, ◌++◌, length, map, take, replicate, get_or, Option, Some, None, option_map, refl, sym, ap, subst, ◌∙◌, arith, inl, inr, rules}
use Rattle.std.specs.Prelude.{find, filter, filter_map, flat_map, is_some, unwrap_or}
use Rattle.std.specs.List.{AllByRecursion, IsDistinct, cons_option}
use Rattle.std.specs.Option.{IsSomeAnd}
use Rattle.std.proofs.lemmas.Bool.{and_parts, cases_Bool, eqb-true, eqb-false, ne_eqb, eq-eqb}
use Rattle.std.proofs.lemmas.List.{length-replicate, places, same_lists, take_more, flat_map_more}
use Rattle.ifr_opcodes.specs.Forest.{Node}
use Rattle.ifr_nodes.specs.Nodes.{is_store}
use Rattle.ifr_scopes.specs.Stores.{store_id, store_size}
use Rattle.hii_varstore.specs.declared.buffer.Buffer.{Buffer}
use Rattle.hii_varstore.specs.StoreNodes.{declared_buffer, layout_of}
use Rattle.hii_varstore.specs.Stores.{Store, buffer_of, shape_of, zeros_in, overwritten, store_with, with_bytes}
use Rattle.hii_varstore.specs.code.Ranges.{HasRange}
use Rattle.hii_varstore.specs.code.Table.{AreBuffers}
use Rattle.hii_varstore.proofs.TableLemmas.{zeros_laid}
use Rattle.store_audit.specs.declared.fillings.Filling.{Filling}
use Rattle.store_audit.specs.declared.fillings.Source.{Source}
use Rattle.store_audit.specs.declared.fillings.Source.TheVariants.{File, Config, Zeros, Missing}
use Rattle.store_audit.specs.Fillings.{has_bytes, buffer_stores, wanted_of, bytes_from, are_fit}
use Rattle.audit_json.specs.declared.telling.Telling.{Telling}
use Rattle.store_audit.specs.code.Fillings.{filling_node, buffer_in, filling_told, filling_id, wanted, filling_buffer, filling_bytes, is_fit, is_unfit, file_bytes, filled_from, filled_with, filled_store, stores_of}

-- the stores, of which the first ones are filled
abbrev pub filled_up_to : ℕ → List Filling → List Store
filled_up_to zero fs = map zeros_in (map filling_buffer fs)
filled_up_to (suc i) [] = []
filled_up_to (suc i) (f ∷ fs) = filled_store f ∷ filled_up_to i fs

pub all_filled : (fs : List Filling) → filled_up_to (length fs) fs ≡ map filled_store fs
all_filled [] = refl
all_filled (f ∷ fs) = ap (λ ss. filled_store f ∷ ss) (all_filled fs)

-- ---- what is given fits

fit_bytes : (size : ℕ) (source : Source) → are_fit size source ≡ true → length (bytes_from size source) ≡ size
fit_bytes size (File path bytes is_variable) fit = eqb-true (length bytes.items) size fit
fit_bytes size (Config given) fit = eqb-true (length given.bytes.items) size (and_parts _ _ fit).1
fit_bytes size Zeros fit = length-replicate size 0
fit_bytes size Missing fit = let bad : false ≡ true = fit in cc

pub all_fit : (fs : List Filling) → find is_unfit fs ≡ None → AllByRecursion (λ f. is_fit f ≡ true) fs
all_fit [] none = tt
all_fit (f ∷ fs) none =
    elim (cases_Bool (is_fit f)) [
      | inl fit ↦ (fit, all_fit fs (rw fit at none))
      | inr unfit ↦ let bad : Some f ≡ None = rw unfit at none in cc
    ]

fit_at : (fs : List Filling) (i : ℕ) (d : Filling) → AllByRecursion (λ f. is_fit f ≡ true) fs → i < length fs → is_fit (get_or fs i d) ≡ true
fit_at [] i d fit within = absurd (omega (arith, within))
fit_at (f ∷ fs) zero d fit within = fit.0
fit_at (f ∷ fs) (suc i) d fit within = fit_at fs i d fit.1 (omega (arith, within))

-- the stores are those of the layout, however many are filled
pub laid_up_to : (i : ℕ) (fs : List Filling) → AllByRecursion (λ f. is_fit f ≡ true) fs → map buffer_of (filled_up_to i fs) ≡ map filling_buffer fs
laid_up_to zero fs fit = zeros_laid (map filling_buffer fs)
laid_up_to (suc i) [] fit = refl
laid_up_to (suc i) (f ∷ fs) fit = let size = fit_bytes (wanted f) f.source fit.0 in rw (size, laid_up_to i fs fit.1) refl

-- ---- one store is filled

-- new bytes in the store of an id
abbrev pub changed : ℕ → List ℕ → Store → Store
changed id new s = cond (eqb s.id id) (store_with s 0 new) s

others_stay : (fs : List Filling) (id : ℕ) (new : List ℕ) → AllByRecursion (λ k. nat_eq id k ≡ false) (map (λ (b : Buffer). b.id) (map filling_buffer fs)) → map (changed id new) (map zeros_in (map filling_buffer fs)) ≡ map zeros_in (map filling_buffer fs)
others_stay [] id new apart = refl
others_stay (f ∷ fs) id new apart =
    let other : eqb (filling_id f) id ≡ false = ne_eqb (filling_id f) id (λ e. eqb-false id (filling_id f) apart.0 (sym e)) in
    rw (other, others_stay fs id new apart.1) refl

apart_at : (fs : List Filling) (id i : ℕ) (d : Filling) → AllByRecursion (λ k. nat_eq id k ≡ false) (map (λ (b : Buffer). b.id) (map filling_buffer fs)) → i < length fs → eqb id (filling_id (get_or fs i d)) ≡ false
apart_at [] id i d apart within = absurd (omega (arith, within))
apart_at (f ∷ fs) id zero d apart within = apart.0
apart_at (f ∷ fs) id (suc i) d apart within = apart_at fs id i d apart.1 (omega (arith, within))

whole_overwritten : (old new : List ℕ) → length new ≡ length old → overwritten old 0 new ≡ new
whole_overwritten old new size = same_lists _ _ (search (rules, places)) (λ k d h. grind (arith, places))

pub fills_next : (fs : List Filling) (i : ℕ) (d : Filling) (new : List ℕ) → IsDistinct nat_eq (map (λ (b : Buffer). b.id) (map filling_buffer fs)) → i < length fs
    → length new ≡ wanted (get_or fs i d) → new ≡ filling_bytes (get_or fs i d) → map (changed (filling_id (get_or fs i d)) new) (filled_up_to i fs) ≡ filled_up_to (suc i) fs
unfolding IsDistinct
fills_next [] i d new apart within size is = absurd (omega (arith, within))
fills_next (f ∷ fs) zero d new apart within size is =
    let same = eq-eqb (filling_id f) (filling_id f) refl in
    let zeros : length {A = ℕ} (replicate (wanted f) 0) ≡ wanted f = length-replicate (wanted f) 0 in
    let whole = whole_overwritten (replicate (wanted f) 0) new (size ∙ sym zeros) in
    rw (same, whole, others_stay fs (filling_id f) new apart.0) (rw is refl)
fills_next (f ∷ fs) (suc i) d new apart within size is =
    let other = apart_at fs (filling_id f) i d apart.0 (omega (arith, within)) in
    rw (other, fills_next fs i d new apart.1 (omega (arith, within)) size is) refl

-- a store that is given zeros holds them from the first
zeros_next : (fs : List Filling) (i : ℕ) (d : Filling) → i < length fs → Zeros ≡ (get_or fs i d).source → filled_up_to i fs ≡ filled_up_to (suc i) fs
zeros_next [] i d within is = absurd (omega (arith, within))
zeros_next (f ∷ fs) zero d within is = rw (← is) refl
zeros_next (f ∷ fs) (suc i) d within is = ap (λ ss. filled_store f ∷ ss) (zeros_next fs i d (omega (arith, within)) is)

filled_next : (guid : List ℕ) (fs : List Filling) (i : ℕ) (d : Filling) (s : Source) → s ≡ (get_or fs i d).source → IsDistinct nat_eq (map (λ (b : Buffer). b.id) (map filling_buffer fs))
    → AllByRecursion (λ f. is_fit f ≡ true) fs → i < length fs → filled_from s (filling_id (get_or fs i d)) record { guid = guid; stores = filled_up_to i fs } ≡ record { guid = guid; stores = filled_up_to (suc i) fs }
unfolding with_bytes
filled_next guid fs i d (File path bytes is_variable) is apart fit within =
    let size : length bytes.items ≡ wanted (get_or fs i d) = eqb-true _ _ (subst (λ (s : Source). are_fit (wanted (get_or fs i d)) s ≡ true) (sym is) (fit_at fs i d fit within)) in
    let given : bytes.items ≡ filling_bytes (get_or fs i d) = ap (bytes_from (wanted (get_or fs i d))) is in
    ap (λ (ss : List Store). record { guid = guid; stores = ss }) (fills_next fs i d bytes.items apart within size given)
filled_next guid fs i d (Config text) is apart fit within =
    let whole = subst (λ (s : Source). are_fit (wanted (get_or fs i d)) s ≡ true) (sym is) (fit_at fs i d fit within) in
    let size : length text.bytes.items ≡ wanted (get_or fs i d) = eqb-true _ _ (and_parts _ _ whole).1 in
    let given : text.bytes.items ≡ filling_bytes (get_or fs i d) = ap (bytes_from (wanted (get_or fs i d))) is in
    ap (λ (ss : List Store). record { guid = guid; stores = ss }) (fills_next fs i d text.bytes.items apart within size given)
filled_next guid fs i d Zeros is apart fit within = ap (λ (ss : List Store). record { guid = guid; stores = ss }) (zeros_next fs i d within is)
filled_next guid fs i d Missing is apart fit within =
    let bad : false ≡ true = subst (λ (s : Source). are_fit (wanted (get_or fs i d)) s ≡ true) (sym is) (fit_at fs i d fit within) in cc

pub filled_more : (guid : List ℕ) (fs : List Filling) (i : ℕ) (d : Filling) → IsDistinct nat_eq (map (λ (b : Buffer). b.id) (map filling_buffer fs))
    → AllByRecursion (λ f. is_fit f ≡ true) fs → i < length fs → filled_with (get_or fs i d) record { guid = guid; stores = filled_up_to i fs } ≡ record { guid = guid; stores = filled_up_to (i + 1) fs }
filled_more guid fs i d apart fit within = rw (add-one i) (filled_next guid fs i d _ refl apart fit within)

-- ---- there is room for what is given

room_in : (fs : List Filling) (i : ℕ) (d : Filling) (n : ℕ) → IsDistinct nat_eq (map (λ (b : Buffer). b.id) (map filling_buffer fs)) → i < length fs → n ≤ wanted (get_or fs i d)
    → IsSomeAnd (option_map (λ (b : Buffer). b.size) (find (λ (b : Buffer). eqb b.id (filling_id (get_or fs i d))) (map filling_buffer fs))) (λ size. 0 + n ≤ size)
unfolding IsDistinct
room_in [] i d n apart within fits = absurd (omega (arith, within))
room_in (f ∷ fs) zero d n apart within fits = rw (eq-eqb (filling_id f) (filling_id f) refl) (omega (arith, fits))
room_in (f ∷ fs) (suc i) d n apart within fits =
    rw (apart_at fs (filling_id f) i d apart.0 (omega (arith, within))) (room_in fs i d n apart.1 (omega (arith, within)) fits)

file_within : (size : ℕ) (s : Source) → are_fit size s ≡ true → length (file_bytes s) ≤ size
file_within size (File path bytes is_variable) fit = omega (arith, eqb-true (length bytes.items) size fit)
file_within size (Config given) fit = let long : length given.bytes.items ≡ size = eqb-true _ _ (and_parts _ _ fit).1 in omega (arith, long)
file_within size Zeros fit = omega arith
file_within size Missing fit = omega arith

pub room : (guid : List ℕ) (fs : List Filling) (i : ℕ) (d : Filling) → IsDistinct nat_eq (map (λ (b : Buffer). b.id) (map filling_buffer fs)) → AllByRecursion (λ f. is_fit f ≡ true) fs → i < length fs
    → HasRange (shape_of record { guid = guid; stores = filled_up_to i fs }) (filling_id (get_or fs i d)) 0 (length (file_bytes (get_or fs i d).source))
room guid fs i d apart fit within =
    rw (laid_up_to i fs fit) (room_in fs i d (length (file_bytes (get_or fs i d).source)) apart within (file_within _ _ (fit_at fs i d fit within)))

-- ---- the stores that are filled

pub filled_laid : (guid : List ℕ) (fs : List Filling) → AllByRecursion (λ f. is_fit f ≡ true) fs → shape_of (stores_of guid fs) ≡ record { guid = guid; buffers = map filling_buffer fs }
filled_laid guid fs fit = ap (λ (bs : List Buffer). record { guid = guid; buffers = bs }) (ap (map buffer_of) (sym (all_filled fs)) ∙ laid_up_to (length fs) fs fit)

pub bytes_filled : (fs : List Filling) → map (λ (s : Store). s.bytes) (map filled_store fs) ≡ map filling_bytes fs
bytes_filled [] = refl
bytes_filled (f ∷ fs) = ap (λ (ss : List (List ℕ)). filling_bytes f ∷ ss) (bytes_filled fs)

-- the ids of the stores are different
pub apart_in : (bs : List Buffer) (fs : List Filling) → AreBuffers bs → map filling_buffer fs ≡ bs → IsDistinct nat_eq (map (λ (b : Buffer). b.id) (map filling_buffer fs))
unfolding IsDistinct
apart_in bs fs sound all = rw all sound.apart.1

-- ---- the stores of a layout

buffer_more : (n : Node) (ns : List Node) (bs : List Buffer) (o : Option ℕ) → o ≡ store_size n.op → map buffer_in ns ≡ bs
    → map buffer_in (cond (is_some o) (n ∷ ns) ns) ≡ cons_option (option_map (λ (size : ℕ). record { id = store_id n.op; size = size }) o) bs
buffer_more n ns bs None told so_far = so_far
buffer_more n ns bs (Some size) told so_far =
    let wanted : wanted_of n ≡ size = ap (λ (o : Option ℕ). unwrap_or o 0) (sym told) in
    rw (so_far, wanted) refl

buffers_of : (ns : List Node) → map buffer_in (filter has_bytes ns) ≡ filter_map declared_buffer ns
buffers_of [] = refl
buffers_of (n ∷ ns) = buffer_more n (filter has_bytes ns) (filter_map declared_buffer ns) (store_size n.op) refl (buffers_of ns)

nodes_to_buffers : (fs : List Filling) → map filling_buffer fs ≡ map buffer_in (map filling_node fs)
nodes_to_buffers [] = refl
nodes_to_buffers (f ∷ fs) = ap (λ (bs : List Buffer). filling_buffer f ∷ bs) (nodes_to_buffers fs)

-- the stores that are filled are those of the layout
pub all_buffers : (ns : List Node) (fs : List Filling) → map filling_node fs ≡ buffer_stores ns → map filling_buffer fs ≡ (layout_of ns).buffers
all_buffers ns fs all = nodes_to_buffers fs ∙ ap (map buffer_in) all ∙ buffers_of (filter is_store ns)

-- ---- lines

pub told_more : (telling : Telling) (fs : List Filling) (i : ℕ) (d : Filling) → i < length fs → flat_map (filling_told telling) (take i fs) ++ filling_told telling (get_or fs i d) ≡ flat_map (filling_told telling) (take (i + 1) fs)
told_more telling fs i d within = rw (take_more fs i d within) (flat_map_more (filling_told telling) [] (take i fs) (get_or fs i d))
