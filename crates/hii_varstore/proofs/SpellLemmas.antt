-- An image without a fault spells stores.
use Rattle.std.proofs.Common.{◌≡◌, ◌⊎◌, ℕ, ◌+◌, true, false, eqb, List, [], ◌∷◌, ◌++◌, length, map, take, drop, codes, refl, sym, ap, ◌∙◌, arith, inl, inr, take-append-drop}
use Rattle.std.specs.List.{flat_map}
use Rattle.std.specs.Cmp.Lexicographic.{pointwise}
use Rattle.std.specs.Int.{to_le_bytes, w16}
use Rattle.std.proofs.lemmas.Bool.{cases_Bool, cases_lt}
use Rattle.std.proofs.lemmas.List.{nil_from_length, length-take, length-map}
use Rattle.std.proofs.lemmas.Slice.Eq.{bytes_eq-Decides}
use Rattle.hii_bytes.specs.declared.cause.Cause.{Cause}
use Rattle.hii_bytes.specs.declared.cause.Cause.TheVariants.{StoreMagic, StoreCount, StoreId, StoreSize, StoreShort, StoreFormSet, StoreTrailing}
use Rattle.hii_bytes.specs.Faults.{HasNone}
use Rattle.hii_varstore.specs.declared.buffer.Buffer.{Buffer}
use Rattle.hii_varstore.specs.Layout.{Shape}
use Rattle.hii_varstore.specs.Stores.{Store, StoreMap, buffer_of}
use Rattle.hii_varstore.specs.Image.{store_image, stores_image, image_of, older_image_of, SpellsImage}
use Rattle.hii_varstore.specs.Faults.{ImagePart, Told, Any, part_width, IsMet, IsWrong, IsPartFault, store_parts, stores_parts, IsImageFault}

-- bytes are the same, or they are not
same_or_other : (xs ys : List ℕ) → (xs ≡ ys) ⊎ (xs ≡ ys → ⊥)
same_or_other xs ys = elim (cases_Bool (pointwise eqb xs ys)) [
  | inl same ↦ inl ((bytes_eq-Decides xs ys).0 same)
  | inr other ↦ inr (λ e. let same = (bytes_eq-Decides xs ys).1 e in let bad : true ≡ false = sym same ∙ other in cc)
]

-- a part that is not wrong is met
met_unless_wrong : (part : ImagePart) (bytes : List ℕ) → ((cause : Cause) → IsWrong part bytes cause → ⊥) → IsMet part bytes
met_unless_wrong (Told wanted other) bytes right = elim (cases_lt (length bytes) (length wanted)) [
  | inl short ↦ absurd (right StoreShort (inl (refl, short)))
  | inr long ↦ elim (same_or_other (take (length wanted) bytes) wanted) [ inl same ↦ same | inr differs ↦ absurd (right other (inr (refl, long, differs))) ]
]
met_unless_wrong (Any width) bytes right = elim (cases_lt (length bytes) width) [
  | inl short ↦ absurd (right StoreShort (inl (refl, short)))
  | inr long ↦ long
]

-- Where parts have no fault, the first is met and the others have none behind it.
first_met : (at : ℕ) (part : ImagePart) (parts : List ImagePart) (bytes : List ℕ) → HasNone (IsPartFault at (part ∷ parts) bytes) → IsMet part bytes × HasNone (IsPartFault (at + part_width part) parts (drop (part_width part) bytes))
first_met at part parts bytes none =
    let met : IsMet part bytes = met_unless_wrong part bytes (λ cause wrong. none cause at (inl (wrong, refl))) in
    (met, λ cause place fault. none cause place (inr (met, fault)))

-- bytes that begin with what is told
told_first : (wanted bytes : List ℕ) → take (length wanted) bytes ≡ wanted → bytes ≡ wanted ++ drop (length wanted) bytes
told_first wanted bytes met = sym (take-append-drop (length wanted) bytes) ∙ ap (λ l. l ++ drop (length wanted) bytes) met

-- bytes in which each of these stores stands
pub record AreImage (bs : List Buffer) (bytes : List ℕ) : Type 0 where
  pub stores : List Store
  pub laid : map buffer_of stores ≡ bs
  pub spelled : bytes ≡ flat_map store_image stores

stores_spelled : (at : ℕ) (bs : List Buffer) (bytes : List ℕ) → HasNone (IsPartFault at (flat_map store_parts bs) bytes) → AreImage bs bytes
stores_spelled at [] bytes none = record {
  stores = [];
  laid = refl;
  spelled = elim (cases_lt 0 (length bytes)) [ inl left ↦ absurd (none StoreTrailing at (refl, refl, left)) | inr all ↦ nil_from_length bytes (omega (arith, all)) ];
}
stores_spelled at (b ∷ bs) bytes none =
    let id = to_le_bytes w16 b.id in
    let size = to_le_bytes w16 b.size in
    let parts = flat_map store_parts bs in
    let first = first_met at (Told id StoreId) (Told size StoreSize ∷ Any b.size ∷ parts) bytes none in
    let second = first_met (at + 2) (Told size StoreSize) (Any b.size ∷ parts) (drop 2 bytes) first.1 in
    let held = drop 2 (drop 2 bytes) in
    let third = first_met (at + 2 + 2) (Any b.size) parts held second.1 in
    let others = stores_spelled (at + 2 + 2 + b.size) bs (drop b.size held) third.1 in
    let own : length (take b.size held) ≡ b.size = omega (arith, length-take b.size held, third.0) in
    let here : Store = record { id = b.id; bytes = take b.size held } in
    let buffer : buffer_of here ≡ b = let fields : ◌≡◌ {A = Buffer} record { id = b.id; size = length (take b.size held) } record { id = b.id; size = b.size } = cc own in fields in
    let behind : held ≡ take b.size held ++ flat_map store_image others.stores = sym (take-append-drop b.size held) ∙ ap (λ l. take b.size held ++ l) others.spelled in
    let sized : drop 2 bytes ≡ size ++ (take b.size held ++ flat_map store_image others.stores) = told_first size (drop 2 bytes) second.0 ∙ ap (λ l. size ++ l) behind in
    let whole : bytes ≡ id ++ (size ++ (take b.size held ++ flat_map store_image others.stores)) = told_first id bytes first.0 ∙ ap (λ l. id ++ l) sized in
    let counted : size ≡ to_le_bytes w16 (length (take b.size held)) = ap (to_le_bytes w16) (sym own) in
    record {
      stores = here ∷ others.stores;
      laid = cc (buffer, others.laid);
      spelled = whole ∙ ap (λ (l : List ℕ). id ++ (l ++ (take b.size held ++ flat_map store_image others.stores))) counted;
    }

-- the count and the stores
all_spelled : (at : ℕ) (bs : List Buffer) (bytes : List ℕ) → HasNone (IsPartFault at (stores_parts bs) bytes) → (ss : List Store) × (map buffer_of ss ≡ bs) × (bytes ≡ stores_image ss)
all_spelled at bs bytes none =
    let count = to_le_bytes w16 (length bs) in
    let first = first_met at (Told count StoreCount) (flat_map store_parts bs) bytes none in
    let others = stores_spelled (at + 2) bs (drop 2 bytes) first.1 in
    let number : length bs ≡ length others.stores = sym (ap length others.laid) ∙ length-map others.stores buffer_of in
    let whole : bytes ≡ count ++ flat_map store_image others.stores = told_first count bytes first.0 ∙ ap (λ l. count ++ l) others.spelled in
    (others.stores, others.laid, whole ∙ ap (λ (n : ℕ). to_le_bytes w16 n ++ flat_map store_image others.stores) number)

pub spelled_without_fault : (shape : Shape) (image : List ℕ) → HasNone (IsImageFault shape image) → (m : StoreMap) × SpellsImage shape image m
unfolding image_of older_image_of
spelled_without_fault shape image none = elim (same_or_other (take 4 image) (codes "HVS1")) [
  | inl older ↦
      let first = first_met 0 (Told (codes "HVS1") StoreMagic) (stores_parts shape.buffers) image (λ cause place fault. none cause place (inl (older, fault))) in
      let behind = all_spelled 4 shape.buffers (drop 4 image) first.1 in
      let whole : image ≡ codes "HVS1" ++ stores_image behind.0 = told_first (codes "HVS1") image first.0 ∙ ap (λ l. codes "HVS1" ++ l) behind.2 in
      (record { guid = shape.guid; stores = behind.0 }, record { form = inr whole; laid = ap (λ (bs : List Buffer). record { guid = shape.guid; buffers = bs }) behind.1 })
  | inr newer ↦
      let first = first_met 0 (Told (codes "HVS2") StoreMagic) (Told shape.guid StoreFormSet ∷ stores_parts shape.buffers) image (λ cause place fault. none cause place (inr (newer, fault))) in
      let second = first_met 4 (Told shape.guid StoreFormSet) (stores_parts shape.buffers) (drop 4 image) first.1 in
      let behind = all_spelled (4 + length shape.guid) shape.buffers (drop (length shape.guid) (drop 4 image)) second.1 in
      let named : drop 4 image ≡ shape.guid ++ stores_image behind.0 = told_first shape.guid (drop 4 image) second.0 ∙ ap (λ l. shape.guid ++ l) behind.2 in
      let whole : image ≡ codes "HVS2" ++ (shape.guid ++ stores_image behind.0) = told_first (codes "HVS2") image first.0 ∙ ap (λ l. codes "HVS2" ++ l) named in
      (record { guid = shape.guid; stores = behind.0 }, record { form = inl whole; laid = ap (λ (bs : List Buffer). record { guid = shape.guid; buffers = bs }) behind.1 })
]
