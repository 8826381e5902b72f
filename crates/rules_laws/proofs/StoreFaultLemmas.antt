-- The chapters finds the faults of stores and of an image that the contracts say.
use Rattle.std.proofs.Common.{◌≡◌, ◌≢◌, ◌==◌, ℕ, ◌+◌, ◌<◌, ◌≤◌, Bool, true, false, List, [], ◌∷◌, ◌++◌, length, take, drop, map, refl, ap, sym, ◌∙◌, inl, inr, arith}
use Rattle.std.specs.Prelude.{if◌then◌else◌, nat_lt, filter, codes, bytes_eq}
use Rattle.std.specs.List.{AllByRecursion, flat_map, list_any}
use Rattle.std.proofs.lemmas.List.{length-map, length-take}
use Rattle.std.proofs.lemmas.Slice.Eq.{bytes_eq-Decides}
use Rattle.std.proofs.lemmas.Bool.{cases_Bool, cases_lt, true≢false, lt-ltb, le-ltb}
use Rattle.byteorder.specs.Endian.{little_bytes}
use Rattle.hii_bytes.specs.declared.cause.Cause.{Cause}
use Rattle.hii_bytes.specs.declared.cause.Cause.TheVariants.{DuplicateVarstore, StoreMagic, StoreShort, StoreTrailing}
use Rattle.hii_varstore.specs.Faults.{ImagePart, Told, Any, part_width, IsPartFault, store_parts, stores_parts, image_parts, older_image_parts, IsOlder, IsImageFault}
use Rattle.hii_varstore.specs.Layout.{Shape}
use Rattle.hii_varstore.specs.StoreNodes.{repeats_store, IsStoreFault}
use Rattle.hii_varstore.specs.declared.buffer.Buffer.{Buffer}
use Rattle.ifr_opcodes.specs.Forest.{Node}
use Rattle.ifr_nodes.specs.Nodes.{is_store}
use Rattle.ifr_nodes.specs.ReferenceFaults.{Ranked, ranked}
use Rattle.ifr_scopes.specs.Stores as node
use Rattle.browser_rules.specs.Faults.{Fault, Part, these, any, image_faults, image_faults_from, store_faults, buffer_parts, fault_if, ranked as chapter_ranked, store_fault as chapter_fault}
use Rattle.browser_rules.specs.Stores as chapter
use Rattle.browser_rules.specs.Words as words
use Rattle.hii_bytes.specs.Faults.{AreFaults}
use Rattle.hii_bytes.specs.Causes.{cause_for, fault_for}
use Rattle.rules_laws.specs.laws.Stores.{buffer_for, shape_for}
use Rattle.rules_laws.proofs.FaultLemmas.{said_as, if_fault, each_fault, flat_ranked, same_ranked}
use Rattle.hii_bytes.proofs.ChapterFaultLemmas.{where_same, one_fault, no_faults}
use Rattle.rules_laws.proofs.StoreLemmas.{id_same, stores_same}

-- ---- stores

abbrev AreStores : List Node → Type 0
AreStores ns = AllByRecursion (λ n. is_store n ≡ true) ns

are_stores : (ns : List Node) → AreStores (filter is_store ns)
are_stores [] = tt
are_stores (n ∷ ns) = elim (cases_Bool (is_store n)) [
  | inl is ↦ rw is (is, are_stores ns)
  | inr other ↦ rw other (are_stores ns)
]

any_same : (ns : List Node) (id : ℕ) → AreStores ns → list_any (λ m. chapter.store_id m == id) ns ≡ list_any (λ m. node.store_id m.op == id) ns
any_same [] id are = refl
any_same (n ∷ ns) id are = rw (id_same n are.0, any_same ns id are.1) refl

-- the fault of a store with those before it, as the chapters and as the contracts have its id

abbrev old_fault : Ranked → List Fault
old_fault r = fault_if (repeats_store r DuplicateVarstore) words.DuplicateVarstore r.node.place

fault_same : (before : List Node) (n : Node) → AreStores before → is_store n ≡ true → chapter_fault (before, n) ≡ old_fault (record { before = before; node = n })
fault_same before n are is = rw (id_same n is, any_same before (node.store_id n.op) are) refl

one_store : (r : Ranked) → AreFaults (old_fault r) (λ c p. (r.node.place ≡ p) × (repeats_store r c ≡ true))
one_store r =
    said_as (old_fault r) (λ c p. (r.node.place ≡ p) × (c ≡ DuplicateVarstore) × (repeats_store r DuplicateVarstore ≡ true)) (λ c p. (r.node.place ≡ p) × (repeats_store r c ≡ true))
    (if_fault (repeats_store r DuplicateVarstore) DuplicateVarstore r.node.place)
    (λ c p. (λ is. (is.0, ap (repeats_store r) is.1 ∙ is.2), λ is. by c p is))
  where
    by : (c : Cause) (p : ℕ) → (r.node.place ≡ p) × (repeats_store r c ≡ true) → (r.node.place ≡ p) × (c ≡ DuplicateVarstore) × (repeats_store r DuplicateVarstore ≡ true)
    by DuplicateVarstore p is = (is.0, refl, is.1)
    by _ p is = absurd (true≢false (sym is.1))

pub same_store_faults : (ns : List Node) → AreFaults (store_faults ns) (IsStoreFault ns)
same_store_faults ns =
    where_same (IsStoreFault ns)
    (ap (λ (ms : List Node). flat_map chapter_fault (chapter_ranked [] ms)) (stores_same ns) ∙ flat_ranked chapter_fault [] (filter is_store ns) ∙ same_ranked (λ (r : Ranked). chapter_fault (r.before, r.node)) old_fault (λ (n : Node). is_store n ≡ true) fault_same [] (filter is_store ns) tt (are_stores ns))
    (each_fault old_fault (λ (r : Ranked). r.node.place) repeats_store (ranked [] (filter is_store ns)) one_store)

-- ---- parts of an image

abbrev part_for : ImagePart → Part
part_for (Told bytes cause) = these bytes (cause_for cause)
part_for (Any width) = any width

abbrev parts_for : List ImagePart → List Part
parts_for parts = map part_for parts

too_short : (wanted image : List ℕ) → length image < length wanted → take (length wanted) image ≡ wanted → ⊥
too_short wanted image short e = omega (arith, short, ap length e, length-take (length wanted) image)

-- the faults from a place on, one way of the chapters after the other
at_short : (at : ℕ) (part : ImagePart) (parts : List Part) (image : List ℕ) → length image < part_width part → image_faults_from at (part_for part ∷ parts) image ≡ fault_for StoreShort at ∷ []
at_short at (Told wanted cause) parts image short = let is : nat_lt (length image) (length wanted) ≡ true = lt-ltb _ _ short in rw is refl
at_short at (Any width) parts image short = let is : nat_lt (length image) width ≡ true = lt-ltb _ _ short in rw is refl

at_any : (at width : ℕ) (parts : List Part) (image : List ℕ) → width ≤ length image → image_faults_from at (any width ∷ parts) image ≡ image_faults_from (at + width) parts (drop width image)
at_any at width parts image long = let is : nat_lt (length image) width ≡ false = le-ltb _ _ long in rw is refl

at_met : (at : ℕ) (wanted : List ℕ) (cause : Cause) (parts : List Part) (image : List ℕ) → length wanted ≤ length image → take (length wanted) image ≡ wanted
    → image_faults_from at (these wanted (cause_for cause) ∷ parts) image ≡ image_faults_from (at + length wanted) parts (drop (length wanted) image)
at_met at wanted cause parts image long met =
    let is : nat_lt (length image) (length wanted) ≡ false = le-ltb _ _ long in
    let same : bytes_eq wanted (take (length wanted) image) ≡ true = (bytes_eq-Decides wanted (take (length wanted) image)).1 (sym met) in
    rw (is, same) refl

at_other : (at : ℕ) (wanted : List ℕ) (cause : Cause) (parts : List Part) (image : List ℕ) → length wanted ≤ length image → bytes_eq wanted (take (length wanted) image) ≡ false
    → image_faults_from at (these wanted (cause_for cause) ∷ parts) image ≡ fault_for cause at ∷ []
at_other at wanted cause parts image long other =
    let is : nat_lt (length image) (length wanted) ≡ false = le-ltb _ _ long in
    rw (is, other) refl

at_left : (at : ℕ) (image : List ℕ) → 0 < length image → image_faults_from at [] image ≡ fault_for StoreTrailing at ∷ []
at_left at image some = let is : nat_lt 0 (length image) ≡ true = lt-ltb _ _ some in rw is refl

at_all : (at : ℕ) (image : List ℕ) → length image ≤ 0 → image_faults_from at [] image ≡ []
at_all at image none = let is : nat_lt 0 (length image) ≡ false = le-ltb _ _ none in rw is refl

alone_short : (at : ℕ) (part : ImagePart) (parts : List ImagePart) (image : List ℕ) → length image < part_width part → (c : Cause) (p : ℕ) → IsPartFault at (part ∷ parts) image c p → (c ≡ StoreShort) × (p ≡ at)
alone_short at (Told wanted cause) parts image short c p (inl (inl is, here)) = (is.0, here)
alone_short at (Told wanted cause) parts image short c p (inl (inr is, here)) = absurd (omega (arith, short, is.1))
alone_short at (Told wanted cause) parts image short c p (inr (met, is)) = absurd (too_short wanted image short met)
alone_short at (Any width) parts image short c p (inl (inl is, here)) = (is.0, here)
alone_short at (Any width) parts image short c p (inl (inr is, here)) = absurd is
alone_short at (Any width) parts image short c p (inr (met, is)) = absurd (omega (arith, short, met))

alone_other : (at : ℕ) (wanted : List ℕ) (cause : Cause) (parts : List ImagePart) (image : List ℕ) → length wanted ≤ length image → take (length wanted) image ≢ wanted
    → (c : Cause) (p : ℕ) → IsPartFault at (Told wanted cause ∷ parts) image c p → (c ≡ cause) × (p ≡ at)
alone_other at wanted cause parts image long other c p (inl (inl is, here)) = absurd (omega (arith, long, is.1))
alone_other at wanted cause parts image long other c p (inl (inr is, here)) = (is.0, here)
alone_other at wanted cause parts image long other c p (inr (met, is)) = absurd (other met)

-- behind a part that is met
behind_any : (at width : ℕ) (parts : List ImagePart) (image : List ℕ) → width ≤ length image → (c : Cause) (p : ℕ) → IsPartFault at (Any width ∷ parts) image c p → IsPartFault (at + width) parts (drop width image) c p
behind_any at width parts image long c p (inl (inl is, here)) = absurd (omega (arith, long, is.1))
behind_any at width parts image long c p (inl (inr is, here)) = absurd is
behind_any at width parts image long c p (inr (met, is)) = is

behind_told : (at : ℕ) (wanted : List ℕ) (cause : Cause) (parts : List ImagePart) (image : List ℕ) → length wanted ≤ length image → take (length wanted) image ≡ wanted
    → (c : Cause) (p : ℕ) → IsPartFault at (Told wanted cause ∷ parts) image c p → IsPartFault (at + length wanted) parts (drop (length wanted) image) c p
behind_told at wanted cause parts image long met c p (inl (inl is, here)) = absurd (omega (arith, long, is.1))
behind_told at wanted cause parts image long met c p (inl (inr is, here)) = absurd (is.2 met)
behind_told at wanted cause parts image long met c p (inr (_, is)) = is

part_faults_same : (at : ℕ) (parts : List ImagePart) (image : List ℕ) → AreFaults (image_faults_from at (parts_for parts) image) (IsPartFault at parts image)
part_faults_same at [] image = elim (cases_lt 0 (length image)) [
  | inl some ↦ where_same (IsPartFault at [] image) (at_left at image some) (one_fault (IsPartFault at [] image) StoreTrailing at (refl, refl, some) (λ c p is. (is.0, is.1)))
  | inr none ↦ where_same (IsPartFault at [] image) (at_all at image none) (no_faults (IsPartFault at [] image) (λ c p is. omega (arith, none, is.2)))
]
part_faults_same at (Any width ∷ parts) image = elim (cases_lt (length image) width) [
  | inl short ↦
      where_same (IsPartFault at (Any width ∷ parts) image) (at_short at (Any width) (parts_for parts) image short)
      (one_fault (IsPartFault at (Any width ∷ parts) image) StoreShort at (inl (inl (refl, short), refl)) (alone_short at (Any width) parts image short))
  | inr long ↦
      where_same (IsPartFault at (Any width ∷ parts) image) (at_any at width (parts_for parts) image long)
      (said_as (image_faults_from (at + width) (parts_for parts) (drop width image)) (IsPartFault (at + width) parts (drop width image)) (IsPartFault at (Any width ∷ parts) image)
      (part_faults_same (at + width) parts (drop width image)) (λ c p. (λ is. inr (long, is), behind_any at width parts image long c p)))
]
part_faults_same at (Told wanted cause ∷ parts) image = elim (cases_lt (length image) (length wanted)) [
  | inl short ↦
      where_same (IsPartFault at (Told wanted cause ∷ parts) image) (at_short at (Told wanted cause) (parts_for parts) image short)
      (one_fault (IsPartFault at (Told wanted cause ∷ parts) image) StoreShort at (inl (inl (refl, short), refl)) (alone_short at (Told wanted cause) parts image short))
  | inr long ↦ elim (cases_Bool (bytes_eq wanted (take (length wanted) image))) [
    | inl same ↦ (
        let met : take (length wanted) image ≡ wanted = sym ((bytes_eq-Decides wanted (take (length wanted) image)).0 same) in
        where_same (IsPartFault at (Told wanted cause ∷ parts) image) (at_met at wanted cause (parts_for parts) image long met)
        (said_as (image_faults_from (at + length wanted) (parts_for parts) (drop (length wanted) image)) (IsPartFault (at + length wanted) parts (drop (length wanted) image)) (IsPartFault at (Told wanted cause ∷ parts) image)
        (part_faults_same (at + length wanted) parts (drop (length wanted) image)) (λ c p. (λ is. inr (met, is), behind_told at wanted cause parts image long met c p))))
    | inr differs ↦ (
        let other : take (length wanted) image ≢ wanted = λ e. true≢false (sym ((bytes_eq-Decides wanted (take (length wanted) image)).1 (sym e)) ∙ differs) in
        where_same (IsPartFault at (Told wanted cause ∷ parts) image) (at_other at wanted cause (parts_for parts) image long differs)
        (one_fault (IsPartFault at (Told wanted cause ∷ parts) image) cause at (inl (inr (refl, long, other), refl)) (alone_other at wanted cause parts image long other)))
  ]
]

-- ---- an image

-- as the chapters have them

abbrev chapter_parts : chapter.Shape → List Part
chapter_parts shape = these (little_bytes 2 (length shape.buffers)) words.StoreCount ∷ flat_map buffer_parts shape.buffers

each_buffer : (bs : List Buffer) → flat_map buffer_parts (map buffer_for bs) ≡ parts_for (flat_map store_parts bs)
each_buffer [] = refl
each_buffer (b ∷ bs) =
    ap (λ (l : List Part). these (little_bytes 2 b.id) words.StoreId ∷ these (little_bytes 2 b.size) words.StoreSize ∷ any b.size ∷ l) (each_buffer bs)

parts_same : (shape : Shape) → chapter_parts (shape_for shape) ≡ parts_for (stores_parts shape.buffers)
parts_same shape =
    ap (λ n. these (little_bytes 2 n) words.StoreCount ∷ flat_map buffer_parts (map buffer_for shape.buffers)) (length-map shape.buffers buffer_for)
    ∙ ap (λ (l : List Part). these (little_bytes 2 (length shape.buffers)) words.StoreCount ∷ l) (each_buffer shape.buffers)

-- in the older form
older_faults : (shape : Shape) (image : List ℕ) → bytes_eq (take 4 image) (codes "HVS1") ≡ true
    → image_faults (shape_for shape) image ≡ image_faults_from 0 (parts_for (Any 4 ∷ stores_parts shape.buffers)) image
older_faults shape image older =
    ap (λ (b : Bool). image_faults_from 0 ((if b then any 4 ∷ [] else these (codes "HVS2") words.StoreMagic ∷ these shape.guid words.StoreFormSet ∷ []) ++ chapter_parts (shape_for shape)) image) older
    ∙ ap (λ (l : List Part). image_faults_from 0 (any 4 ∷ l) image) (parts_same shape)

-- in the form that is written
written_faults : (shape : Shape) (image : List ℕ) → bytes_eq (take 4 image) (codes "HVS1") ≡ false
    → image_faults (shape_for shape) image ≡ image_faults_from 0 (parts_for (image_parts shape)) image
written_faults shape image other =
    ap (λ (b : Bool). image_faults_from 0 ((if b then any 4 ∷ [] else these (codes "HVS2") words.StoreMagic ∷ these shape.guid words.StoreFormSet ∷ []) ++ chapter_parts (shape_for shape)) image) other
    ∙ ap (λ (l : List Part). image_faults_from 0 (these (codes "HVS2") words.StoreMagic ∷ these shape.guid words.StoreFormSet ∷ l) image) (parts_same shape)

-- its mark is four bytes of any kind there
mark_long : (image : List ℕ) → IsOlder image → 4 ≤ length image
mark_long image older = let e : length (take 4 image) ≡ 4 = ap length older in omega (arith, e, length-take 4 image)

to_mark : (shape : Shape) (image : List ℕ) → IsOlder image → (c : Cause) (p : ℕ) → IsPartFault 0 (Any 4 ∷ stores_parts shape.buffers) image c p → IsPartFault 0 (older_image_parts shape) image c p
to_mark shape image older c p is = inr (older, behind_any 0 4 (stores_parts shape.buffers) image (mark_long image older) c p is)

from_mark : (shape : Shape) (image : List ℕ) → IsOlder image → (c : Cause) (p : ℕ) → IsPartFault 0 (older_image_parts shape) image c p → IsPartFault 0 (Any 4 ∷ stores_parts shape.buffers) image c p
from_mark shape image older c p is =
    inr (mark_long image older, behind_told 0 (codes "HVS1") StoreMagic (stores_parts shape.buffers) image (mark_long image older) older c p is)

pub same_image_faults : (shape : Shape) (image : List ℕ) → AreFaults (image_faults (shape_for shape) image) (IsImageFault shape image)
same_image_faults shape image = elim (cases_Bool (bytes_eq (take 4 image) (codes "HVS1"))) [
  | inl same ↦ (
      let older : IsOlder image = (bytes_eq-Decides (take 4 image) (codes "HVS1")).0 same in
      where_same (IsImageFault shape image) (older_faults shape image same)
      (said_as (image_faults_from 0 (parts_for (Any 4 ∷ stores_parts shape.buffers)) image) (IsPartFault 0 (Any 4 ∷ stores_parts shape.buffers) image) (IsImageFault shape image)
      (part_faults_same 0 (Any 4 ∷ stores_parts shape.buffers) image) (λ c p. (λ is. inl (older, to_mark shape image older c p is), back_to_older older c p))))
  | inr differs ↦ (
      let other : IsOlder image → ⊥ = λ e. true≢false (sym ((bytes_eq-Decides (take 4 image) (codes "HVS1")).1 e) ∙ differs) in
      where_same (IsImageFault shape image) (written_faults shape image differs)
      (said_as (image_faults_from 0 (parts_for (image_parts shape)) image) (IsPartFault 0 (image_parts shape) image) (IsImageFault shape image)
      (part_faults_same 0 (image_parts shape) image) (λ c p. (λ is. inr (other, is), back_to_written other c p))))
]
  where
    back_to_older : IsOlder image → (c : Cause) (p : ℕ) → IsImageFault shape image c p → IsPartFault 0 (Any 4 ∷ stores_parts shape.buffers) image c p
    back_to_older older c p (inl is) = from_mark shape image older c p is.1
    back_to_older older c p (inr is) = absurd (is.0 older)

    back_to_written : (IsOlder image → ⊥) → (c : Cause) (p : ℕ) → IsImageFault shape image c p → IsPartFault 0 (image_parts shape) image c p
    back_to_written other c p (inl is) = absurd (other is.0)
    back_to_written other c p (inr is) = is.1
