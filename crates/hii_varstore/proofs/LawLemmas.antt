-- An image spells one map of stores.
use Rattle.std.proofs.Common.{◌≡◌, ◌⊎◌, ℕ, List, [], ◌∷◌, ◌++◌, length, map, take, drop, get_or, refl, sym, ap, ◌∙◌, arith, inl, inr}
use Rattle.std.specs.List.{flat_map}
use Rattle.std.proofs.lemmas.List.{append_cancel_left, take_at, drop_at}
use Rattle.hii_varstore.specs.declared.buffer.Buffer.{Buffer}
use Rattle.hii_varstore.specs.Layout.{Shape}
use Rattle.hii_varstore.specs.Stores.{Store, StoreMap, shape_of, buffer_of}
use Rattle.hii_varstore.specs.Image.{store_image, stores_image, image_of, older_image_of, SpellsImage}

-- stores of the same ids and sizes, whose images are the same, are the same
same_stores : (ss ts : List Store) → map buffer_of ss ≡ map buffer_of ts → flat_map store_image ss ≡ flat_map store_image ts → ss ≡ ts
same_stores [] [] laid image = refl
same_stores [] (t ∷ ts) laid image = cc
same_stores (s ∷ ss) [] laid image = cc
same_stores (s ∷ ss) (t ∷ ts) laid image =
    let head : buffer_of s ≡ buffer_of t = cc in
    let id : s.id ≡ t.id = ap (λ (b : Buffer). b.id) head in
    let size : length s.bytes ≡ length t.bytes = ap (λ (b : Buffer). b.size) head in
    let both : s.bytes ++ flat_map store_image ss ≡ t.bytes ++ flat_map store_image ts = ap (drop 4) image in
    let bytes : s.bytes ≡ t.bytes = sym (take_at s.bytes (flat_map store_image ss) (length t.bytes) size) ∙ ap (take (length t.bytes)) both ∙ take_at t.bytes (flat_map store_image ts) (length t.bytes) refl in
    let rest : flat_map store_image ss ≡ flat_map store_image ts = sym (drop_at s.bytes (flat_map store_image ss) (length t.bytes) size) ∙ ap (drop (length t.bytes)) both ∙ drop_at t.bytes (flat_map store_image ts) (length t.bytes) refl in
    let tails : map buffer_of ss ≡ map buffer_of ts = cc in
    let later : ss ≡ ts = same_stores ss ts tails rest in
    let fields : ◌≡◌ {A = Store} record { id = s.id; bytes = s.bytes } record { id = t.id; bytes = t.bytes } = cc in
    let store : s ≡ t = fields in
    cc (store, later)

same_map : (m n : StoreMap) → shape_of m ≡ shape_of n → stores_image m.stores ≡ stores_image n.stores → m ≡ n
same_map m n laid image =
    let guid : m.guid ≡ n.guid = ap (λ (s : Shape). s.guid) laid in
    let stores : m.stores ≡ n.stores = same_stores m.stores n.stores (ap (λ (s : Shape). s.buffers) laid) (ap (drop 2) image) in
    let whole : ◌≡◌ {A = StoreMap} record { guid = m.guid; stores = m.stores } record { guid = n.guid; stores = n.stores } = cc in
    whole

two_forms : (m n : StoreMap) → image_of m ≡ older_image_of n → ⊥
unfolding image_of older_image_of
two_forms m n same = let digit : 50 ≡ 49 = ap (λ l. get_or l 3 0) same in omega (arith, digit)

one_map_of : (m n : StoreMap) (image : List ℕ) → shape_of m ≡ shape_of n → ((image ≡ image_of m) ⊎ (image ≡ older_image_of m)) → ((image ≡ image_of n) ⊎ (image ≡ older_image_of n)) → m ≡ n
unfolding image_of older_image_of
one_map_of m n image laid (inl p) (inl q) =
    let guid : m.guid ≡ n.guid = ap (λ (s : Shape). s.guid) laid in
    let behind : m.guid ++ stores_image m.stores ≡ n.guid ++ stores_image n.stores = ap (drop 4) (sym p ∙ q) in
    same_map m n laid (append_cancel_left n.guid (stores_image m.stores) (stores_image n.stores) (rw guid at behind))
one_map_of m n image laid (inl p) (inr q) = absurd (two_forms m n (sym p ∙ q))
one_map_of m n image laid (inr p) (inl q) = absurd (two_forms n m (sym q ∙ p))
one_map_of m n image laid (inr p) (inr q) = same_map m n laid (ap (drop 4) (sym p ∙ q))

pub one_map : (shape : Shape) (image : List ℕ) (m n : StoreMap) → SpellsImage shape image m → SpellsImage shape image n → m ≡ n
one_map shape image m n p q = one_map_of m n image (p.laid ∙ sym q.laid) p.form q.form

-- what an older image spells are its stores
pub written_anew : (m read : StoreMap) → SpellsImage (shape_of m) (older_image_of m) read → image_of read ≡ image_of m
written_anew m read spelled =
    let own : SpellsImage (shape_of m) (older_image_of m) m = record { form = inr refl; laid = refl } in
    ap image_of (one_map (shape_of m) (older_image_of m) read m spelled own)
