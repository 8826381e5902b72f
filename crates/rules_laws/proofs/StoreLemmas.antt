-- The stores of the chapters are those of the contracts.
use Rattle.std.proofs.Common.{◌≡◌, ◌⊎◌, ◌==◌, ℕ, ◌+◌, Bool, true, false, Option, Some, None, suc, List, [], ◌∷◌, ◌++◌, length, map, refl, sym, ap, ◌∙◌, inl, inr, append_assoc}
use Rattle.std.specs.Prelude.{◌||◌, not, if◌then◌else◌, filter, option_map, unwrap_or, codes, take, drop}
use Rattle.std.specs.List.{filter_map, cons_option, find, flat_map}
use Rattle.std.proofs.lemmas.Bool.{cases_Bool, eqb-true}
use Rattle.std.proofs.lemmas.List.Folds.{flat_map-map}
use Rattle.byteorder.specs.Endian.{little_bytes}
use Rattle.browser_rules.specs.Opcodes as rows
use Rattle.browser_rules.specs.Opcodes.{a_store, is_a}
use Rattle.browser_rules.specs.Stores as chapter
use Rattle.browser_rules.specs.Words.{first}
use Rattle.ifr_opcodes.specs.Opcode.{number}
use Rattle.ifr_opcodes.specs.Forest.{Node}
use Rattle.ifr_opcodes.specs.Rows.{row_of, is_store_number}
use Rattle.ifr_opcodes.proofs.StatementLemmas.{none_stores}
use Rattle.ifr_opcodes.proofs.TableLemmas.{numbers, of_kind}
use Rattle.ifr_nodes.specs.Nodes.{is_store}
use Rattle.ifr_scopes.specs.Stores as node
use Rattle.hii_varstore.specs.declared.buffer.Buffer.{Buffer}
use Rattle.hii_varstore.specs.Image.{SpellsImage, store_image, stores_image, image_of, older_image_of}
use Rattle.hii_varstore.specs.Layout.{Shape, size_of}
use Rattle.hii_varstore.specs.StoreNodes.{layout_of, guid_of, declared_buffer}
use Rattle.hii_varstore.specs.Stores.{Store, StoreMap, bytes_of, with_bytes, store_with, buffer_of}
use Rattle.browser_rules.specs.Stores.{image_behind}
use Rattle.rules_laws.specs.laws.Stores.{buffer_for, shape_for, store_for, stores_for}
use Rattle.rules_laws.proofs.NodeLemmas.{same_filter}
use Rattle.rules_laws.proofs.OpcodeScopeLemmas.{store_same}

-- ---- which opcodes are stores

pub stores_same : (ns : List Node) → chapter.store_nodes ns ≡ filter is_store ns
stores_same ns = same_filter (λ (n : Node). is_a a_store n.op) is_store ns (λ n. store_same (number n.op))

-- ---- what a store says of itself

data IsKind (code : ℕ) : Type 0 where
  buffer : code ≡ 0x24 → IsKind code
  efi : code ≡ 0x26 → IsKind code
  names : code ≡ 0x25 → IsKind code

is_one : ℕ → Bool
is_one code = (0x24 == code) || ((0x26 == code) || (0x25 == code))

each_is_one : map (λ c. not (is_store_number c) || is_one c) numbers ≡ map (λ c. true) numbers
unfolding is_store_number row_of is_one
each_is_one = refl

kind_of : (code : ℕ) → is_store_number code ≡ true → IsKind code
unfolding is_one
kind_of code is = by_tests (0x24 == code) (0x26 == code) (0x25 == code) refl refl refl (of_kind is_store_number is_one each_is_one none_stores code is)
  where
    by_tests : (a b c : Bool) → (0x24 == code) ≡ a → (0x26 == code) ≡ b → (0x25 == code) ≡ c → (a || (b || c)) ≡ true → IsKind code
    by_tests true b c e f g told = buffer (sym (eqb-true 0x24 code e))
    by_tests false true c e f g told = efi (sym (eqb-true 0x26 code f))
    by_tests false false true e f g told = names (sym (eqb-true 0x25 code g))
    by_tests false false false e f g told = cc

pub id_same : (n : Node) → is_store n ≡ true → chapter.store_id n ≡ node.store_id n.op
id_same n is = by_kind (kind_of (number n.op) is)
  where
    by_kind : IsKind (number n.op) → chapter.store_id n ≡ node.store_id n.op
    by_kind (buffer e) = rw e refl
    by_kind (efi e) = rw e refl
    by_kind (names e) = rw e refl

pub guid_same : (n : Node) → is_store n ≡ true → chapter.store_guid n ≡ node.store_guid n.op
guid_same n is = by_kind (kind_of (number n.op) is)
  where
    by_kind : IsKind (number n.op) → chapter.store_guid n ≡ node.store_guid n.op
    by_kind (buffer e) = rw e refl
    by_kind (efi e) = rw e refl
    by_kind (names e) = rw e refl

pub name_same : (n : Node) → is_store n ≡ true → chapter.store_name n ≡ node.store_name n.op
name_same n is = by_kind (kind_of (number n.op) is)
  where
    by_kind : IsKind (number n.op) → chapter.store_name n ≡ node.store_name n.op
    by_kind (buffer e) = rw e refl
    by_kind (efi e) = rw e refl
    by_kind (names e) = rw e refl

pub size_same : (n : Node) → is_store n ≡ true → chapter.store_size n ≡ node.store_size n.op
size_same n is = by_kind (kind_of (number n.op) is)
  where
    by_kind : IsKind (number n.op) → chapter.store_size n ≡ node.store_size n.op
    by_kind (buffer e) = rw e refl
    by_kind (efi e) = rw e refl
    by_kind (names e) = rw e refl

-- ---- shapes

chapter_buffer : Node → Option (ℕ × ℕ)
chapter_buffer n = option_map (λ size. (chapter.store_id n, size)) (chapter.store_size n)

buffer_same : (n : Node) → is_store n ≡ true → chapter_buffer n ≡ option_map buffer_for (declared_buffer n)
unfolding chapter_buffer
buffer_same n is = rw (id_same n is, size_same n is) (of_size (node.store_size n.op))
  where
    of_size : (size : Option ℕ) → option_map (λ s. (node.store_id n.op, s)) size ≡ option_map buffer_for (option_map (λ s. record { id = node.store_id n.op; size = s }) size)
    of_size None = refl
    of_size (Some s) = refl

put_same : (o : Option Buffer) (bs : List Buffer) → cons_option (option_map buffer_for o) (map buffer_for bs) ≡ map buffer_for (cons_option o bs)
put_same None bs = refl
put_same (Some b) bs = refl

buffers_same : (ns : List Node) → filter_map chapter_buffer (filter is_store ns) ≡ map buffer_for (filter_map declared_buffer (filter is_store ns))
buffers_same [] = refl
buffers_same (n ∷ ns) = elim (cases_Bool (is_store n)) [
  | inl h ↦ rw (h, buffer_same n h, buffers_same ns) (put_same (declared_buffer n) (filter_map declared_buffer (filter is_store ns)))
  | inr h ↦ rw h (buffers_same ns)
]

guid_of_first : (ns : List Node) → unwrap_or (option_map (λ (n : Node). rows.bytes_in (rows.row rows.FORM_SET).layout "Guid" n.op) (first ns)) [] ≡ guid_of ns
guid_of_first [] = refl
guid_of_first (n ∷ ns) = refl

pub shape_same : (ns : List Node) → chapter.shape_of ns ≡ shape_for (layout_of ns)
unfolding chapter_buffer
shape_same ns =
    ap (λ (guid : List ℕ). record { guid = guid; buffers = (chapter.shape_of ns).buffers }) (guid_of_first ns)
    ∙ ap (λ (bs : List (ℕ × ℕ)). record { guid = guid_of ns; buffers = bs })
    (ap (filter_map chapter_buffer) (stores_same ns) ∙ buffers_same ns)

find_buffer : (bs : List Buffer) (id : ℕ) → option_map (λ (b : ℕ × ℕ). b.1) (find (λ (b : ℕ × ℕ). b.0 == id) (map buffer_for bs)) ≡ option_map (λ (b : Buffer). b.size) (find (λ (b : Buffer). b.id == id) bs)
find_buffer [] id = refl
find_buffer (b ∷ bs) id = elim (cases_Bool (b.id == id)) [
  | inl h ↦ rw h refl
  | inr h ↦ rw h (find_buffer bs id)
]

pub size_of_same : (ns : List Node) (id : ℕ) → chapter.size_of ns id ≡ size_of (layout_of ns) id
size_of_same ns id =
    ap (λ (s : chapter.Shape). option_map (λ (b : ℕ × ℕ). b.1) (find (λ (b : ℕ × ℕ). b.0 == id) s.buffers)) (shape_same ns)
    ∙ find_buffer (layout_of ns).buffers id

-- ---- what stores hold

find_store : (ss : List Store) (id : ℕ) → option_map (λ (s : ℕ × List ℕ). s.1) (find (λ (s : ℕ × List ℕ). s.0 == id) (map store_for ss)) ≡ option_map (λ (s : Store). s.bytes) (find (λ (s : Store). s.id == id) ss)
find_store [] id = refl
find_store (s ∷ ss) id = elim (cases_Bool (s.id == id)) [
  | inl h ↦ rw h refl
  | inr h ↦ rw h (find_store ss id)
]

pub bytes_same : (m : StoreMap) (id : ℕ) → chapter.bytes_of (stores_for m) id ≡ bytes_of m id
bytes_same m id = find_store m.stores id

-- a store with new bytes, as the chapters have it
abbrev chapter_put : ℕ → ℕ → List ℕ → ℕ × List ℕ → ℕ × List ℕ
chapter_put id offset new s = if s.0 == id then (s.0, take (length s.1) (take offset s.1 ++ new ++ drop (offset + length new) s.1)) else s

abbrev put : ℕ → ℕ → List ℕ → Store → Store
put id offset new s = if s.id == id then store_with s offset new else s

put_alike : (id offset : ℕ) (new : List ℕ) (s : Store) → chapter_put id offset new (store_for s) ≡ store_for (put id offset new s)
put_alike id offset new s = elim (cases_Bool (s.id == id)) [
  | inl h ↦ rw h (ap (λ l. (s.id, take (length s.bytes) l)) (append_assoc (take offset s.bytes) new (drop (offset + length new) s.bytes)))
  | inr h ↦ rw h refl
]

puts_alike : (id offset : ℕ) (new : List ℕ) (ss : List Store) → map (chapter_put id offset new) (map store_for ss) ≡ map store_for (map (put id offset new) ss)
puts_alike id offset new [] = refl
puts_alike id offset new (s ∷ ss) = rw (put_alike id offset new s, puts_alike id offset new ss) refl

pub written_same : (m : StoreMap) (id offset : ℕ) (new : List ℕ) → chapter.with_bytes (stores_for m) id offset new ≡ stores_for (with_bytes m id offset new)
unfolding chapter.with_bytes with_bytes
written_same m id offset new = puts_alike id offset new m.stores

-- ---- images

abbrev image_of_store : ℕ × List ℕ → List ℕ
image_of_store (id, bytes) = little_bytes 2 id ++ little_bytes 2 (length bytes) ++ bytes

images_same : (ss : List Store) → flat_map image_of_store (map store_for ss) ≡ flat_map store_image ss
images_same ss = flat_map-map image_of_store store_for ss

lengths_same : (ss : List Store) → length (map store_for ss) ≡ length ss
lengths_same [] = refl
lengths_same (s ∷ ss) = ap (λ n. suc n) (lengths_same ss)

behind_same : (head : List ℕ) (ss : List Store) → image_behind head (map store_for ss) ≡ head ++ stores_image ss
behind_same head ss =
    ap (λ n. head ++ little_bytes 2 n ++ flat_map image_of_store (map store_for ss)) (lengths_same ss)
    ∙ ap (λ l. head ++ little_bytes 2 (length ss) ++ l) (images_same ss)
    ∙ append_assoc head (little_bytes 2 (length ss)) (flat_map store_image ss)

pub image_same : (m : StoreMap) → chapter.image_of m.guid (stores_for m) ≡ image_of m
unfolding chapter.image_of image_of
image_same m = behind_same (codes "HVS2" ++ m.guid) m.stores ∙ append_assoc (codes "HVS2") m.guid (stores_image m.stores)

older_same : (m : StoreMap) → image_behind (codes "HVS1") (stores_for m) ≡ older_image_of m
unfolding older_image_of
older_same m = behind_same (codes "HVS1") m.stores

laid_same : (ss : List Store) → map (λ (s : ℕ × List ℕ). (s.0, length s.1)) (map store_for ss) ≡ map buffer_for (map buffer_of ss)
laid_same [] = refl
laid_same (s ∷ ss) = rw (laid_same ss) refl

pub spelled_same : (shape : Shape) (image : List ℕ) (m : StoreMap) → SpellsImage shape image m → chapter.SpellsImage (shape_for shape) image (stores_for m)
spelled_same shape image m s = record {
  form = by_form s.form;
  laid = laid_same m.stores ∙ ap (λ (t : Shape). map buffer_for t.buffers) s.laid;
}
  where
    guid : shape.guid ≡ m.guid
    guid = sym (ap (λ (t : Shape). t.guid) s.laid)

    by_form : (image ≡ image_of m) ⊎ (image ≡ older_image_of m) → (image ≡ chapter.image_of shape.guid (stores_for m)) ⊎ (image ≡ image_behind (codes "HVS1") (stores_for m))
    by_form (inl e) = inl (e ∙ sym (image_same m) ∙ ap (λ g. chapter.image_of g (stores_for m)) (sym guid))
    by_form (inr e) = inr (e ∙ sym (older_same m))

-- the stores of the chapters as the contracts hold them
back_to : List ℕ → chapter.Stores → StoreMap
back_to guid ss = record { guid = guid; stores = map (λ (s : ℕ × List ℕ). record { id = s.0; bytes = s.1 }) ss }

there_and_back : (guid : List ℕ) (ss : chapter.Stores) → stores_for (back_to guid ss) ≡ ss
unfolding back_to
there_and_back guid [] = refl
there_and_back guid (s ∷ ss) = ap (λ (r : chapter.Stores). s ∷ r) (there_and_back guid ss)

buffer_again : ℕ × ℕ → Buffer
buffer_again b = record { id = b.0; size = b.1 }

buffers_again : (bs : List Buffer) → map buffer_again (map buffer_for bs) ≡ bs
unfolding buffer_again
buffers_again [] = refl
buffers_again (b ∷ bs) = ap (λ (l : List Buffer). b ∷ l) (buffers_again bs)

same_buffers : (bs cs : List Buffer) → map buffer_for bs ≡ map buffer_for cs → bs ≡ cs
same_buffers bs cs e = sym (buffers_again bs) ∙ ap (λ (l : List (ℕ × ℕ)). map buffer_again l) e ∙ buffers_again cs

pub spelled_back : (shape : Shape) (image : List ℕ) (stores : chapter.Stores) → chapter.SpellsImage (shape_for shape) image stores → (m : StoreMap) × (stores_for m ≡ stores) × SpellsImage shape image m
unfolding back_to
spelled_back shape image stores s = (back_to shape.guid stores, there, record { form = by_form s.form; laid = ap (λ (bs : List Buffer). record { guid = shape.guid; buffers = bs }) laid })
  where
    there : stores_for (back_to shape.guid stores) ≡ stores
    there = there_and_back shape.guid stores

    laid : map buffer_of (back_to shape.guid stores).stores ≡ shape.buffers
    laid =
        same_buffers (map buffer_of (back_to shape.guid stores).stores) shape.buffers
        (sym (laid_same (back_to shape.guid stores).stores) ∙ ap (λ (l : chapter.Stores). map (λ (r : ℕ × List ℕ). (r.0, length r.1)) l) there ∙ s.laid)

    by_form : (image ≡ chapter.image_of shape.guid stores) ⊎ (image ≡ image_behind (codes "HVS1") stores) → (image ≡ image_of (back_to shape.guid stores)) ⊎ (image ≡ older_image_of (back_to shape.guid stores))
    by_form (inl e) = inl (e ∙ ap (λ (l : chapter.Stores). chapter.image_of shape.guid l) (sym there) ∙ image_same (back_to shape.guid stores))
    by_form (inr e) = inr (e ∙ ap (λ (l : chapter.Stores). image_behind (codes "HVS1") l) (sym there) ∙ older_same (back_to shape.guid stores))
