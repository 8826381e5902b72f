-- The stores that a form set declares: their places rise, and the first that repeats an id has the least fault.
use Rattle.std.proofs.Common.{◌≡◌, ◌⊎◌, ℕ, ◌+◌, ◌^◌, ◌<◌, ◌≤◌, Bool, true, false, eqb, nat_eq, Option, option_map, Some, None, List, [], ◌∷◌, ◌++◌, append_assoc, map, refl, sym, ap, subst, ◌∙◌, arith, inl, inr, lit≤}
use Rattle.std.specs.Prelude.{Contains, filter}
use Rattle.std.specs.List.{AllByRecursion, IsDistinct, list_any, filter_map, cons_option}
use Rattle.std.proofs.lemmas.Bool.{cases_Bool, ne_eqb, false≢true}
use Rattle.std.proofs.lemmas.Option.{none-some, same_Some}
use Rattle.std.proofs.lemmas.List.{map-append, append-nil}
use Rattle.std.proofs.lemmas.List.Elements.{filter_map-append}
use Rattle.hii_bytes.specs.Faults.{IsLeast, HasNone}
use Rattle.hii_bytes.specs.code.FirstFaults.{AreAll, first_fault, Rise}
use Rattle.hii_bytes.specs.declared.cause.Cause.{Cause}
use Rattle.hii_bytes.specs.declared.cause.Cause.TheVariants.{DuplicateVarstore}
use Rattle.hii_bytes.specs.declared.cause.Fault.{Fault}
use Rattle.hii_bytes.proofs.FirstFaultLemmas.{first_among, none_among}
use Rattle.ifr_opcodes.specs.Forest.{Node}
use Rattle.ifr_nodes.specs.Accepted.{IsAccepted}
use Rattle.ifr_nodes.specs.Nodes.{nodes_of, is_store}
use Rattle.ifr_nodes.specs.ReferenceFaults.{Ranked, ranked}
use Rattle.ifr_scopes.specs.Stores.{store_id, store_size}
use Rattle.ifr_index.proofs.IndexLemmas.{nodes_rise}
use Rattle.hii_varstore.specs.declared.buffer.Buffer.{Buffer}
use Rattle.hii_varstore.specs.StoreNodes.{declared_buffer, is_taken, repeats_store, IsRepeatedStore}
use Rattle.hii_varstore.specs.code.Ids.{AreIdsOf}
use Rattle.hii_varstore.specs.code.Table.{AreBuffers}

-- ---- places rise

abbrev node_place : Node → ℕ
node_place n = n.place

abbrev ranked_place : Ranked → ℕ
ranked_place r = r.node.place

rise_lower : (ns : List Node) (low lower : ℕ) → lower ≤ low → Rise node_place low ns → Rise node_place lower ns
rise_lower [] low lower h r = tt
rise_lower (n ∷ ns) low lower h r = (omega (arith, r.0), r.1)

filter_rises : (test : Node → Bool) (ns : List Node) (low : ℕ) → Rise node_place low ns → Rise node_place low (filter test ns)
filter_rises test [] low r = tt
filter_rises test (n ∷ ns) low r = elim (cases_Bool (test n)) [
  | inl h ↦ rw h (r.0, filter_rises test ns (n.place + 1) r.1)
  | inr h ↦ rw h (rise_lower _ (n.place + 1) low (omega (arith, r.0)) (filter_rises test ns (n.place + 1) r.1))
]

ranked_rise : (before ns : List Node) (low : ℕ) → Rise node_place low ns → Rise ranked_place low (ranked before ns)
ranked_rise before [] low r = tt
ranked_rise before (n ∷ ns) low r = (r.0, ranked_rise (before ++ n ∷ []) ns (n.place + 1) r.1)

-- the stores of a package
pub stores_rise : (bytes : List ℕ) (ns : List Node) → IsAccepted bytes → ns ≡ filter is_store (nodes_of bytes) → Rise node_place 0 ns
stores_rise bytes ns accepted e = subst (Rise node_place 0) (sym e) (filter_rises is_store (nodes_of bytes) 0 (rise_lower (nodes_of bytes) 4 0 (omega arith) (nodes_rise bytes accepted.checked.spelled)))

-- ---- the first store that repeats an id

abbrev causes : List Cause
causes = DuplicateVarstore ∷ []

abbrev pub first_repeat : List Node → List Node → Option Fault
first_repeat before ns = first_fault ranked_place repeats_store causes (ranked before ns)

among : (r : Ranked) (d : Cause) → repeats_store r d ≡ true → Contains causes d
among r DuplicateVarstore h = (0, omega arith, refl)
among r _ h = absurd (false≢true h)

all_causes : AreAll repeats_store causes
all_causes = record { rise = (lit≤ tt, tt); all = among }

pub refused_among : (ns : List Node) (fault : Fault) → Rise node_place 0 ns → first_repeat [] ns ≡ Some fault → IsLeast (IsRepeatedStore ns) fault
refused_among ns fault rise e = first_among ranked_place repeats_store causes 0 (ranked [] ns) fault all_causes (ranked_rise [] ns 0 rise) e

pub sound_among : (ns : List Node) → first_repeat [] ns ≡ None → HasNone (IsRepeatedStore ns)
sound_among ns e = none_among ranked_place repeats_store causes (ranked [] ns) all_causes e

-- ---- the stores so far

-- Some stores were met, and their ids are known; the first fault of all is that of those which are left.
pub record HasMet (all left : List Node) (ids : List Bool) (buffers : List Buffer) : Type 0 where
  pub before : List Node
  pub parts : all ≡ before ++ left
  pub known : AreIdsOf before ids
  pub built : buffers ≡ filter_map declared_buffer before
  pub sound : AreBuffers buffers
  pub same : first_repeat before left ≡ first_repeat [] all

AllByRecursion-push : {X : Type 0} (P : X → Type 0) (xs : List X) (x : X) → AllByRecursion P xs → P x → AllByRecursion P (xs ++ x ∷ [])
AllByRecursion-push P [] x all here = (here, tt)
AllByRecursion-push P (y ∷ ys) x all here = (all.0, AllByRecursion-push P ys x all.1 here)

apart_push : (xs : List ℕ) (x : ℕ) → IsDistinct nat_eq xs → list_any (λ y. eqb y x) xs ≡ false → IsDistinct nat_eq (xs ++ x ∷ [])
unfolding IsDistinct
apart_push [] x apart other = (tt, tt)
apart_push (y ∷ ys) x apart other =
    elim (cases_Bool (eqb y x)) [
      | inl same ↦ absurd (false≢true (sym (rw same at other)))
      | inr here ↦ (AllByRecursion-push (λ z. nat_eq y z ≡ false) ys x apart.0 here, apart_push ys x apart.1 (rw here at other))
    ]

cases_size : (o : Option ℕ) → (o ≡ None) ⊎ ((size : ℕ) × (o ≡ Some size))
cases_size None = inl refl
cases_size (Some size) = inr (size, refl)

id_of_buffer : (id : ℕ) (size : Option ℕ) (b : Buffer) → option_map (λ s. record { id = id; size = s }) size ≡ Some b → id ≡ b.id
id_of_buffer id None b is = absurd (none-some b is)
id_of_buffer id (Some s) b is = ap (λ (c : Buffer). c.id) (same_Some _ b is)

-- an id that no store has is that of no buffer store
not_known : (ns : List Node) (id : ℕ) → list_any (λ n. eqb (store_id n.op) id) ns ≡ false → list_any (λ y. eqb y id) (map (λ (b : Buffer). b.id) (filter_map declared_buffer ns)) ≡ false
not_known [] id h = refl
not_known (n ∷ ns) id h =
    elim (cases_Bool (eqb (store_id n.op) id)) [
      | inl same ↦ absurd (false≢true (sym (rw same at h)))
      | inr other ↦
          let rest = not_known ns id (rw other at h) in
          elim (cases_size (store_size n.op)) [
            | inl none ↦ rw none rest
            | inr size ↦ rw (size.1, other) rest
          ]
    ]

not_taken : (ns : List Node) (id : ℕ) → is_taken id ns ≡ false → list_any (λ y. eqb y id) (0 ∷ map (λ (b : Buffer). b.id) (filter_map declared_buffer ns)) ≡ false
not_taken ns id h = elim (cases_Bool (eqb id 0)) [
  | inl zero_id ↦ absurd (false≢true (sym (rw zero_id at h)))
  | inr other ↦
      let here : eqb 0 id ≡ false = ne_eqb 0 id (λ e. false≢true (sym other ∙ ap (λ k. eqb k 0) (sym e))) in
      rw here (not_known ns id (rw other at h))
]

-- one more buffer store, with an id that no store before it has
buffers_more : (before : List Node) (buffers : List Buffer) (b : Buffer) → AreBuffers buffers → buffers ≡ filter_map declared_buffer before
    → (b.id < 2 ^ 16) × (b.size < 2 ^ 16) → is_taken b.id before ≡ false → AreBuffers (buffers ++ b ∷ [])
buffers_more before buffers b sound built fits free =
    let other = ap (λ (bs : List Buffer). list_any (λ y. eqb y b.id) (0 ∷ map (λ (c : Buffer). c.id) bs)) built ∙ not_taken before b.id free in
    let ids_apart = apart_push (0 ∷ map (λ (c : Buffer). c.id) buffers) b.id sound.apart other in
    record {
      fit = AllByRecursion-push (λ (c : Buffer). (c.id < 2 ^ 16) × (c.size < 2 ^ 16)) buffers b sound.fit fits;
      apart = subst (λ (xs : List ℕ). IsDistinct nat_eq (0 ∷ xs)) (sym (map-append (λ (c : Buffer). c.id) buffers (b ∷ []))) ids_apart;
    }

-- one more store, with the buffers that there are then
met_next : (all left : List Node) (n : Node) (ids more : List Bool) (buffers next : List Buffer) → (met : HasMet all (n ∷ left) ids buffers)
    → next ≡ buffers ++ cons_option (declared_buffer n) [] → AreBuffers next → is_taken (store_id n.op) met.before ≡ false → AreIdsOf (met.before ++ n ∷ []) more → HasMet all left more next
met_next all left n ids more buffers next met grown sound free known = record {
  before = met.before ++ n ∷ [];
  parts = met.parts ∙ sym (append_assoc met.before (n ∷ []) left);
  known = known;
  built = grown ∙ ap (λ (bs : List Buffer). bs ++ cons_option (declared_buffer n) []) met.built ∙ sym (filter_map-append declared_buffer met.before (n ∷ []));
  sound = sound;
  same = rw free at met.same;
}

-- a buffer store more
pub met_more : (all left : List Node) (n : Node) (ids more : List Bool) (buffers : List Buffer) (b : Buffer) → (met : HasMet all (n ∷ left) ids buffers)
    → declared_buffer n ≡ Some b → (b.id < 2 ^ 16) × (b.size < 2 ^ 16) → is_taken (store_id n.op) met.before ≡ false → AreIdsOf (met.before ++ n ∷ []) more → HasMet all left more (buffers ++ b ∷ [])
met_more all left n ids more buffers b met is fits free known =
    let its : store_id n.op ≡ b.id = id_of_buffer (store_id n.op) (store_size n.op) b is in
    met_next all left n ids more buffers (buffers ++ b ∷ []) met (ap (λ (o : Option Buffer). buffers ++ cons_option o []) (sym is))
    (buffers_more met.before buffers b met.sound met.built fits (rw its at free)) free known

-- a store more that is no buffer store
pub met_no_buffer : (all left : List Node) (n : Node) (ids more : List Bool) (buffers : List Buffer) → (met : HasMet all (n ∷ left) ids buffers)
    → declared_buffer n ≡ None → is_taken (store_id n.op) met.before ≡ false → AreIdsOf (met.before ++ n ∷ []) more → HasMet all left more buffers
met_no_buffer all left n ids more buffers met is free known =
    met_next all left n ids more buffers buffers met (sym (append-nil buffers) ∙ ap (λ (o : Option Buffer). buffers ++ cons_option o []) (sym is)) met.sound free known

pub met_all : (all left : List Node) (ids : List Bool) (buffers : List Buffer) → HasMet all left ids buffers → left ≡ [] → (buffers ≡ filter_map declared_buffer all) × (first_repeat [] all ≡ None)
met_all all left ids buffers met e =
    let whole : all ≡ met.before = met.parts ∙ ap (λ (ns : List Node). met.before ++ ns) e ∙ append-nil met.before in
    (met.built ∙ ap (filter_map declared_buffer) (sym whole), sym met.same ∙ ap (first_repeat met.before) e)

-- a store that repeats an id is the first fault
pub met_again : (all left : List Node) (n : Node) (ids : List Bool) (buffers : List Buffer) → (met : HasMet all (n ∷ left) ids buffers) → is_taken (store_id n.op) met.before ≡ true
    → first_repeat [] all ≡ Some record { cause = DuplicateVarstore; place = n.place }
met_again all left n ids buffers met taken = sym (rw taken at met.same)

pub met_none : (all : List Node) (ids : List Bool) (buffers : List Buffer) → AreIdsOf [] ids → buffers ≡ [] → HasMet all all ids buffers
unfolding IsDistinct
met_none all ids buffers known none = record {
  before = [];
  parts = refl;
  known = known;
  built = none;
  sound = rw none record { fit = tt; apart = (tt, tt) };
  same = refl;
}
