-- An image has one fault at most, and none where it spells stores.
use Rattle.std.proofs.Common.{◌≡◌, ℕ, ◌+◌, List, [], ◌∷◌, ◌++◌, length, map, drop, get_or, codes, refl, sym, ap, subst, ◌∙◌, arith, inl, inr, ◌⊎◌, append_assoc, length-append}
use Rattle.std.specs.List.{flat_map}
use Rattle.std.specs.Int.{to_le_bytes, w16}
use Rattle.std.proofs.lemmas.List.{append-nil, drop_all, drop_at, take_at, length-take, length-map}
use Rattle.hii_bytes.specs.declared.cause.Cause.{Cause}
use Rattle.hii_bytes.specs.declared.cause.Cause.TheVariants.{StoreMagic, StoreCount, StoreId, StoreSize, StoreFormSet}
use Rattle.hii_bytes.specs.declared.cause.Fault.{Fault}
use Rattle.hii_bytes.specs.Cause.{number_of}
use Rattle.hii_bytes.specs.Faults.{IsLeast, HasNone, Refuses, out_of_memory}
use Rattle.hii_varstore.specs.declared.buffer.Buffer.{Buffer}
use Rattle.hii_varstore.specs.Layout.{Shape}
use Rattle.hii_varstore.specs.Stores.{Store, StoreMap, shape_of, buffer_of}
use Rattle.hii_varstore.specs.Image.{store_image, stores_image, image_of, older_image_of, SpellsImage}
use Rattle.hii_varstore.specs.Faults.{ImagePart, Told, Any, part_width, IsMet, IsWrong, IsPartFault, store_parts, stores_parts, head_parts, image_parts, older_image_parts, IsOlder, IsImageFault}
use Rattle.hii_varstore.specs.code.Reading.{Reads, IsFaultOf, ReadsHead}

-- a part that is wrong is not met
wrong_or_met : (part : ImagePart) (bytes : List ℕ) (cause : Cause) → IsWrong part bytes cause → IsMet part bytes → ⊥
wrong_or_met (Told wanted other) bytes cause (inl (e, short)) met = omega (arith, short, ap length met, length-take (length wanted) bytes)
wrong_or_met (Told wanted other) bytes cause (inr (e, long, differs)) met = differs met
wrong_or_met (Any width) bytes cause (inl (e, short)) met = omega (arith, short, met)
wrong_or_met (Any width) bytes cause (inr h) met = h

-- a part is wrong in one way
one_wrong : (part : ImagePart) (bytes : List ℕ) (c d : Cause) → IsWrong part bytes c → IsWrong part bytes d → c ≡ d
one_wrong part bytes c d (inl p) (inl q) = p.0 ∙ sym q.0
one_wrong (Told wanted other) bytes c d (inl p) (inr q) = absurd (omega (arith, p.1, q.1))
one_wrong (Told wanted other) bytes c d (inr p) (inl q) = absurd (omega (arith, q.1, p.1))
one_wrong (Told wanted other) bytes c d (inr p) (inr q) = p.0 ∙ sym q.0
one_wrong (Any width) bytes c d (inl p) (inr q) = absurd q
one_wrong (Any width) bytes c d (inr p) (inl q) = absurd p
one_wrong (Any width) bytes c d (inr p) (inr q) = absurd p

-- parts have one fault at most
one_part_fault : (at : ℕ) (parts : List ImagePart) (bytes : List ℕ) (c d : Cause) (p q : ℕ) → IsPartFault at parts bytes c p → IsPartFault at parts bytes d q → (c ≡ d) × (p ≡ q)
one_part_fault at [] bytes c d p q f g = (f.0 ∙ sym g.0, f.1 ∙ sym g.1)
one_part_fault at (part ∷ parts) bytes c d p q (inl f) (inl g) = (one_wrong part bytes c d f.0 g.0, f.1 ∙ sym g.1)
one_part_fault at (part ∷ parts) bytes c d p q (inl f) (inr g) = absurd (wrong_or_met part bytes c f.0 g.0)
one_part_fault at (part ∷ parts) bytes c d p q (inr f) (inl g) = absurd (wrong_or_met part bytes d g.0 f.0)
one_part_fault at (part ∷ parts) bytes c d p q (inr f) (inr g) = one_part_fault (at + part_width part) parts (drop (part_width part) bytes) c d p q f.1 g.1

one_image_fault : (shape : Shape) (image : List ℕ) (c d : Cause) (p q : ℕ) → IsImageFault shape image c p → IsImageFault shape image d q → (c ≡ d) × (p ≡ q)
one_image_fault shape image c d p q (inl f) (inl g) = one_part_fault 0 (older_image_parts shape) image c d p q f.1 g.1
one_image_fault shape image c d p q (inl f) (inr g) = absurd (g.0 f.0)
one_image_fault shape image c d p q (inr f) (inl g) = absurd (f.0 g.0)
one_image_fault shape image c d p q (inr f) (inr g) = one_part_fault 0 (image_parts shape) image c d p q f.1 g.1

-- a fault that is told is the least
pub least_fault : (shape : Shape) (image : List ℕ) (fault : Fault) → IsImageFault shape image fault.cause fault.place → IsLeast (IsImageFault shape image) fault
least_fault shape image fault told = record {
  told = told;
  least = λ c p other. let e = one_image_fault shape image fault.cause c fault.place p told other in inr (e.1, omega (arith, ap number_of e.0));
}

-- a part that stands at the front has no fault
met_told : (at : ℕ) (wanted rest : List ℕ) (other : Cause) (parts : List ImagePart) (c : Cause) (p : ℕ) → IsPartFault at (Told wanted other ∷ parts) (wanted ++ rest) c p → IsPartFault (at + length wanted) parts rest c p
met_told at wanted rest other parts c p (inl f) = absurd (wrong_or_met (Told wanted other) (wanted ++ rest) c f.0 (take_at wanted rest (length wanted) refl))
met_told at wanted rest other parts c p (inr f) = rw (drop_at wanted rest (length wanted) refl) at f.1

met_any : (at width : ℕ) (bytes rest : List ℕ) (parts : List ImagePart) (c : Cause) (p : ℕ) → length bytes ≡ width → IsPartFault at (Any width ∷ parts) (bytes ++ rest) c p → IsPartFault (at + width) parts rest c p
met_any at width bytes rest parts c p size (inl f) = absurd (wrong_or_met (Any width) (bytes ++ rest) c f.0 (omega (arith, size, length-append bytes rest)))
met_any at width bytes rest parts c p size (inr f) = rw (drop_at bytes rest width size) at f.1

met_stores : (at : ℕ) (ss : List Store) (c : Cause) (p : ℕ) → IsPartFault at (flat_map store_parts (map buffer_of ss)) (flat_map store_image ss) c p → ⊥
met_stores at [] c p f = omega (arith, f.2)
met_stores at (s ∷ ss) c p f =
    let rest = flat_map store_image ss in
    let parts = flat_map store_parts (map buffer_of ss) in
    let id = to_le_bytes w16 s.id in
    let size = to_le_bytes w16 (length s.bytes) in
    let behind_id = met_told at id (size ++ (s.bytes ++ rest)) StoreId (Told size StoreSize ∷ Any (length s.bytes) ∷ parts) c p f in
    let behind_size = met_told (at + 2) size (s.bytes ++ rest) StoreSize (Any (length s.bytes) ∷ parts) c p behind_id in
    met_stores (at + 2 + 2 + length s.bytes) ss c p (met_any (at + 2 + 2) (length s.bytes) s.bytes rest parts c p refl behind_size)

met_all : (at : ℕ) (ss : List Store) (c : Cause) (p : ℕ) → IsPartFault at (stores_parts (map buffer_of ss)) (stores_image ss) c p → ⊥
met_all at ss c p f =
    let count = to_le_bytes w16 (length ss) in
    let told : IsPartFault at (Told count StoreCount ∷ flat_map store_parts (map buffer_of ss)) (stores_image ss) c p = rw (length-map ss buffer_of) at f in
    met_stores (at + 2) ss c p (met_told at count (flat_map store_image ss) StoreCount (flat_map store_parts (map buffer_of ss)) c p told)

-- an image that is written is not of the older form
not_older_image : (m : StoreMap) → IsOlder (image_of m) → ⊥
unfolding image_of
not_older_image m h = let digit : 50 ≡ 49 = ap (λ l. get_or l 3 0) h in omega (arith, digit)

-- an image that spells stores has no fault
no_fault_of : (m : StoreMap) (image : List ℕ) → ((image ≡ image_of m) ⊎ (image ≡ older_image_of m)) → HasNone (IsImageFault (shape_of m) image)
unfolding image_of older_image_of
no_fault_of m image (inl e) c p (inl f) = not_older_image m (rw e at f.0)
no_fault_of m image (inl e) c p (inr f) =
    let rest = stores_image m.stores in
    let parts = stores_parts (map buffer_of m.stores) in
    let behind_mark = met_told 0 (codes "HVS2") (m.guid ++ rest) StoreMagic (Told m.guid StoreFormSet ∷ parts) c p (rw e at f.1) in
    met_all (4 + length m.guid) m.stores c p (met_told 4 m.guid rest StoreFormSet parts c p behind_mark)
no_fault_of m image (inr e) c p (inl f) =
    let rest = stores_image m.stores in
    met_all 4 m.stores c p (met_told 0 (codes "HVS1") rest StoreMagic (stores_parts (map buffer_of m.stores)) c p (rw e at f.1))
no_fault_of m image (inr e) c p (inr f) = f.0 (rw e refl)

pub no_fault : (shape : Shape) (image : List ℕ) (m : StoreMap) → SpellsImage shape image m → HasNone (IsImageFault shape image)
no_fault shape image m spelled = subst (λ (s : Shape). HasNone (IsImageFault s image)) spelled.laid (no_fault_of m image spelled.form)

-- a fault behind the head is one of the image
behind_head : (guid image : List ℕ) (bs : List Buffer) (place : ℕ) (c : Cause) (p : ℕ) → ReadsHead guid image place → IsPartFault place (stores_parts bs) (drop place image) c p → IsImageFault record { guid = guid; buffers = bs } image c p
behind_head guid image bs place c p (inl h) fault = inl (h.0, h.1.passed (stores_parts bs) c p fault)
behind_head guid image bs place c p (inr h) fault = inr (h.0, h.1.passed (stores_parts bs) c p fault)

whole_image : (image head : List ℕ) (ss : List Store) (place : ℕ) → drop 0 image ≡ head ++ drop place image → drop place image ≡ stores_image ss ++ drop (length image) image → image ≡ head ++ stores_image ss
whole_image image head ss place first rest =
    let none : drop (length image) image ≡ [] = drop_all (length image) image (omega arith) in
    first ∙ ap (λ t. head ++ t) (rest ∙ ap (λ t. stores_image ss ++ t) none ∙ append-nil (stores_image ss))

-- an image that is read to its end spells the stores
spelled : (guid image : List ℕ) (bs : List Buffer) (ss : List Store) (place : ℕ) → ReadsHead guid image place → Reads (stores_parts bs) (stores_image ss) image place (length image) → (image ≡ image_of record { guid = guid; stores = ss }) ⊎ (image ≡ older_image_of record { guid = guid; stores = ss })
unfolding image_of older_image_of
spelled guid image bs ss place (inl h) rest = inr (whole_image image (codes "HVS1") ss place h.1.stand rest.stand)
spelled guid image bs ss place (inr h) rest = inl (whole_image image (codes "HVS2" ++ guid) ss place h.1.stand rest.stand ∙ append_assoc (codes "HVS2") guid (stores_image ss))

-- a fault of the head is one of the image
pub head_fault : (guid image : List ℕ) (shape : Shape) (fault : Fault) → guid ≡ shape.guid → ((IsOlder image → ⊥) × IsFaultOf (head_parts guid) image 0 fault) → IsImageFault shape image fault.cause fault.place
head_fault guid image shape fault same wrong =
    let told : IsPartFault 0 (head_parts guid ++ stores_parts shape.buffers) image fault.cause fault.place = wrong.1 (stores_parts shape.buffers) in
    inr (wrong.0, rw same at told)

-- a fault of the stores is one of the image
pub stores_fault : (guid image : List ℕ) (shape : Shape) (bs : List Buffer) (place : ℕ) (fault : Fault) → guid ≡ shape.guid → bs ≡ shape.buffers → ReadsHead guid image place → ((fault ≡ out_of_memory) ⊎ IsPartFault place (stores_parts bs) (drop place image) fault.cause fault.place) → (fault ≡ out_of_memory) ⊎ IsImageFault shape image fault.cause fault.place
stores_fault guid image shape bs place fault same_guid same head (inl none) = inl none
stores_fault guid image shape bs place fault same_guid same head (inr wrong) =
    let told = behind_head guid image bs place fault.cause fault.place head wrong in
    inr (rw (same_guid, same) at told)

pub least_of : (shape : Shape) (image : List ℕ) (fault : Fault) → ((fault ≡ out_of_memory) ⊎ IsImageFault shape image fault.cause fault.place) → Refuses (IsImageFault shape image) fault
least_of shape image fault (inl none) = inl none
least_of shape image fault (inr told) = inr (least_fault shape image fault told)

-- where the image spells stores, the only fault left is out of memory
pub no_memory_left : (shape : Shape) (image : List ℕ) (fault : Fault) (m : StoreMap) → SpellsImage shape image m → ((fault ≡ out_of_memory) ⊎ IsImageFault shape image fault.cause fault.place) → fault ≡ out_of_memory
no_memory_left shape image fault m s (inl none) = none
no_memory_left shape image fault m s (inr told) = absurd (no_fault shape image m s fault.cause fault.place told)

-- what was read of an image is what it spells
pub read_is : (guid guid' image : List ℕ) (ss : List Store) (shape : Shape) (bs : List Buffer) (place : ℕ) → guid ≡ shape.guid → guid' ≡ shape.guid → bs ≡ shape.buffers → map buffer_of ss ≡ bs → ReadsHead guid image place → Reads (stores_parts bs) (stores_image ss) image place (length image) → SpellsImage shape image record { guid = guid'; stores = ss }
read_is guid guid' image ss shape bs place e e' f laid head rest =
    let form = spelled guid image bs ss place head rest in
    record {
      form = rw (e', ← e) form;
      laid = rw (laid, f, e') refl;
    }
