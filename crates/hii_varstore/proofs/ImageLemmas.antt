-- The parts of an image.
use Rattle.std.proofs.Common.{◌≡◌, ◌≢◌, ℕ, ◌+◌, ◌<◌, ◌≤◌, true, false, not, eqb, List, [], ◌∷◌, ◌++◌, length, map, take, drop, get_or, refl, sym, ap, subst, ◌∙◌, arith, inr, append_assoc, take-append-drop}
use Rattle.std.specs.List.{flat_map}
use Rattle.std.specs.Cmp.Lexicographic.{pointwise}
use Rattle.std.specs.Int.{to_le_bytes, w16}
use Rattle.std.proofs.lemmas.Bool.{not-false}
use Rattle.std.proofs.lemmas.List.Concat.{flat_map-append}
use Rattle.std.proofs.lemmas.List.{flat_map_more, map_push, drop-drop, length-drop, append-nil, drop_more, take_more}
use Rattle.std.proofs.lemmas.Slice.Eq.{bytes_eq-Decides}
use Rattle.hii_bytes.specs.declared.cause.Cause.{Cause}
use Rattle.hii_bytes.specs.declared.cause.Cause.TheVariants.{StoreId, StoreSize, StoreTrailing}
use Rattle.hii_bytes.specs.declared.cause.Fault.{Fault}
use Rattle.hii_varstore.specs.declared.buffer.Buffer.{Buffer}
use Rattle.hii_varstore.specs.Stores.{Store, buffer_of}
use Rattle.hii_varstore.specs.Image.{store_image}
use Rattle.hii_varstore.specs.code.Reading.{Reads, IsFaultOf}
use Rattle.hii_varstore.specs.Faults.{ImagePart, Told, Any, part_width, IsMet, IsPartFault, store_parts}

pub same_bytes : (xs ys : List ℕ) → false ≡ not (pointwise eqb xs ys) → xs ≡ ys
same_bytes xs ys told = (bytes_eq-Decides xs ys).0 (not-false (pointwise eqb xs ys) (sym told))

pub other_bytes : (xs ys : List ℕ) → true ≡ not (pointwise eqb xs ys) → xs ≢ ys
other_bytes xs ys told same = let e = (bytes_eq-Decides xs ys).1 same in let bad : true ≡ false = told ∙ ap not e in cc

-- Where one part stands, and the later ones have a fault, all have it.
behind : (part : ImagePart) (later : List ImagePart) (image : List ℕ) (place end : ℕ) (cause : Cause) (at : ℕ) → IsMet part (drop place image) → end ≡ place + part_width part → IsPartFault end later (drop end image) cause at → IsPartFault place (part ∷ later) (drop place image) cause at
behind part later image place end cause at met width fault =
    inr (met, rw (drop-drop (part_width part) place image, ← width) fault)

-- bytes that are told stand at a place
pub reads_told : (image wanted : List ℕ) (place : ℕ) (other : Cause) → place + length wanted ≤ length image → take (length wanted) (drop place image) ≡ wanted → Reads (Told wanted other ∷ []) wanted image place (place + length wanted)
reads_told image wanted place other within met = record {
  within = within;
  stand = sym (take-append-drop (length wanted) (drop place image)) ∙ rw (met, drop-drop (length wanted) place image) refl;
  passed = λ later cause at fault. behind (Told wanted other) later image place (place + length wanted) cause at met refl fault;
}

-- some parts, and then others
pub reads_both : {ps qs : List ImagePart} {xs ys image : List ℕ} {a b c : ℕ} → Reads ps xs image a b → Reads qs ys image b c → Reads (ps ++ qs) (xs ++ ys) image a c
reads_both {ps} {qs} {xs} {ys} {image} {a} {b} {c} p q = record {
  within = q.within;
  stand = p.stand ∙ ap (λ t. xs ++ t) q.stand ∙ sym (append_assoc xs ys (drop c image));
  passed = λ later cause at fault. rw (append_assoc ps qs later) (p.passed (qs ++ later) cause at (q.passed later cause at fault));
}

-- a fault behind some parts
pub fault_behind : {ps : List ImagePart} {xs image : List ℕ} {a b : ℕ} (qs : List ImagePart) (fault : Fault) → Reads ps xs image a b → IsFaultOf qs image b fault → IsFaultOf (ps ++ qs) image a fault
fault_behind {ps} {xs} {image} {a} {b} qs fault p wrong later =
    rw (append_assoc ps qs later) (p.passed (qs ++ later) fault.cause fault.place (wrong later))

-- bytes that do not begin as the older form does
pub not_older : (mark bytes : List ℕ) → false ≡ pointwise eqb mark bytes → bytes ≡ mark → ⊥
not_older mark bytes told same = let e = (bytes_eq-Decides mark bytes).1 (sym same) in let bad : false ≡ true = told ∙ e in cc

-- the id, the size and the bytes of a store
pub store_reads : (b : Buffer) (bytes image : List ℕ) (place middle start : ℕ) → middle ≡ place + 2 → start ≡ middle + 2 → length bytes ≡ b.size → Reads (Told (to_le_bytes w16 b.id) StoreId ∷ []) (to_le_bytes w16 b.id) image place middle → Reads (Told (to_le_bytes w16 b.size) StoreSize ∷ []) (to_le_bytes w16 b.size) image middle start → Reads (Any b.size ∷ []) bytes image start (start + b.size) → Reads (store_parts b) (store_image record { id = b.id; bytes = bytes }) image place (place + 4 + b.size)
store_reads b bytes image place middle start e f size p q r =
    let end : start + b.size ≡ place + 4 + b.size = omega (arith, e, f) in
    rw size (subst (Reads (store_parts b) (to_le_bytes w16 b.id ++ (to_le_bytes w16 b.size ++ bytes)) image place) end (reads_both p (reads_both q r)))

-- what is read with one more store
pub stores_more : (bs : List Buffer) (i : ℕ) (d : Buffer) (ss : List Store) (found image front : List ℕ) (first : ImagePart) (place end : ℕ) → i < length bs → Reads (first ∷ flat_map store_parts (take i bs)) (front ++ flat_map store_image ss) image place end → Reads (store_parts (get_or bs i d)) (store_image record { id = (get_or bs i d).id; bytes = found }) image end (end + 4 + (get_or bs i d).size) → Reads (first ∷ flat_map store_parts (take (i + 1) bs)) (front ++ flat_map store_image (ss ++ record { id = (get_or bs i d).id; bytes = found } ∷ [])) image place (end + 4 + (get_or bs i d).size)
stores_more bs i d ss found image front first place end within before next =
    let b = get_or bs i d in
    let store : Store = record { id = b.id; bytes = found } in
    let parts = flat_map_more store_parts (first ∷ []) (take i bs) b in
    let bytes = flat_map_more store_image front ss store in
    rw (take_more bs i d within, ← parts, ← bytes) (reads_both before next)

-- one more store of the table
pub laid_more : (bs : List Buffer) (i : ℕ) (d : Buffer) (ss : List Store) (found : List ℕ) → i < length bs → length found ≡ (get_or bs i d).size → map buffer_of ss ≡ take i bs → map buffer_of (ss ++ record { id = (get_or bs i d).id; bytes = found } ∷ []) ≡ take (i + 1) bs
laid_more bs i d ss found within size laid =
    let b = get_or bs i d in
    let store : Store = record { id = b.id; bytes = found } in
    rw (map_push buffer_of ss store, take_more bs i d within, laid, size) refl

-- the parts of all stores, cut at one
parts_at : (bs : List Buffer) (i : ℕ) (d : Buffer) → i < length bs → flat_map store_parts (take i bs) ++ (store_parts (get_or bs i d) ++ flat_map store_parts (drop (i + 1) bs)) ≡ flat_map store_parts bs
parts_at bs i d within =
    let rest : flat_map store_parts (drop i bs) ≡ store_parts (get_or bs i d) ++ flat_map store_parts (drop (i + 1) bs) = ap (flat_map store_parts) (drop_more bs i d within) in
    rw (← rest) (sym (flat_map-append store_parts (take i bs) (drop i bs)) ∙ ap (flat_map store_parts) (take-append-drop i bs))

-- a fault of one store is one of all
pub stores_fault : (bs : List Buffer) (i : ℕ) (d : Buffer) (first : ImagePart) (xs image : List ℕ) (place end : ℕ) (fault : Fault) → i < length bs → Reads (first ∷ flat_map store_parts (take i bs)) xs image place end → IsFaultOf (store_parts (get_or bs i d)) image end fault → IsPartFault place (first ∷ flat_map store_parts bs) (drop place image) fault.cause fault.place
stores_fault bs i d first xs image place end fault within before wrong =
    let b = get_or bs i d in
    let done = flat_map store_parts (take i bs) in
    let later = flat_map store_parts (drop (i + 1) bs) in
    let all : done ++ store_parts b ++ later ≡ flat_map store_parts bs = append_assoc done (store_parts b) later ∙ parts_at bs i d within in
    subst (λ (ps : List ImagePart). IsPartFault place (first ∷ ps) (drop place image) fault.cause fault.place) all (fault_behind (store_parts b) fault before wrong later)

-- bytes behind all parts
pub left_over : (parts : List ImagePart) (xs image : List ℕ) (place end : ℕ) → Reads parts xs image place end → end < length image → IsPartFault place parts (drop place image) StoreTrailing end
left_over parts xs image place end before some =
    rw append-nil at (before.passed [] StoreTrailing end (refl, refl, omega (arith, length-drop end image)))

-- the bytes of one more store
pub text_more : (ss : List Store) (i : ℕ) (d : Store) (count : List ℕ) → i < length ss → count ++ flat_map store_image (take i ss) ++ store_image (get_or ss i d) ≡ count ++ flat_map store_image (take (i + 1) ss)
text_more ss i d count within = rw (take_more ss i d within) (flat_map_more store_image count (take i ss) (get_or ss i d))
