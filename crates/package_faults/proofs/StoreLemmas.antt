-- The faults of stores, store by store.
use Rattle.std.proofs.Common.{◌≡◌, ℕ, ◌+◌, Bool, true, List, [], ◌∷◌, ◌++◌, append_assoc, append-nil, refl, sym, ap, ◌∙◌, subst, arith, lit≤}
use Rattle.std.specs.Prelude.{Contains, filter}
use Rattle.std.proofs.lemmas.Bool.{false≢true}
use Rattle.hii_bytes.specs.code.FirstFaults.{Rise}
use Rattle.hii_bytes.specs.declared.cause.Cause.{Cause}
use Rattle.hii_bytes.specs.declared.cause.Cause.TheVariants.{DuplicateVarstore}
use Rattle.hii_bytes.specs.declared.cause.Fault.{Fault}
use Rattle.ifr_opcodes.specs.Forest.{Node}
use Rattle.ifr_nodes.specs.Accepted.{IsAccepted}
use Rattle.ifr_nodes.specs.Nodes.{nodes_of, is_store}
use Rattle.ifr_nodes.specs.ReferenceFaults.{Ranked, ranked}
use Rattle.ifr_scopes.specs.Stores.{store_id}
use Rattle.hii_varstore.specs.StoreNodes.{is_taken, repeats_store, IsRepeatedStore, IsStoreFault}
use Rattle.hii_varstore.specs.code.Ids.{AreIdsOf}
use Rattle.hii_varstore.proofs.StoreNodeLemmas.{stores_rise}
use Rattle.package_faults.specs.AllFaults.{AreAll}
use Rattle.package_faults.specs.code.Gathering.{where_it_is}
use Rattle.package_faults.specs.code.Parts.{node_place, ranked_place, repeated_stores, store_causes}
use Rattle.package_faults.proofs.GatheringLemmas.{all_of, its_split}

among : (r : Ranked) (cause : Cause) → repeats_store r cause ≡ true → Contains store_causes cause
among r DuplicateVarstore h = (0, omega arith, refl)
among r _ h = absurd (false≢true h)

ranked_rise : (before ns : List Node) (low : ℕ) → Rise node_place low ns → Rise ranked_place low (ranked before ns)
ranked_rise before [] low r = tt
ranked_rise before (n ∷ ns) low r = (r.0, ranked_rise (before ++ n ∷ []) ns (n.place + 1) r.1)

pub all_stores : (bytes : List ℕ) (stores : List Node) → IsAccepted bytes → stores ≡ filter is_store (nodes_of bytes) → AreAll (IsStoreFault (nodes_of bytes)) (repeated_stores [] stores)
all_stores bytes stores accepted e =
    subst (λ (l : List Node). AreAll (IsRepeatedStore l) (repeated_stores [] stores)) e
    (all_of ranked_place repeats_store store_causes 0 (ranked [] stores) (record { rise = (lit≤ tt, tt); all = among }) (ranked_rise [] stores 0 (stores_rise bytes stores accepted e)))

-- Some stores were met, and their ids are known; their faults, with those of the stores that are left, are all.
pub record HasMet (all left : List Node) (ids : List Bool) (faults : List Fault) : Type 0 where
  pub before : List Node
  pub parts : before ++ left ≡ all
  pub known : AreIdsOf before ids
  pub so_far : faults ++ repeated_stores before left ≡ repeated_stores [] all

pub met_none : (all left : List Node) (ids : List Bool) (faults : List Fault) → AreIdsOf [] ids → faults ≡ [] → left ≡ all → HasMet all left ids faults
met_none all left ids faults known none e = record { before = []; parts = e; known = known; so_far = ap (λ (l : List Fault). l ++ repeated_stores [] left) none ∙ ap (repeated_stores []) e }

pub met_next : (all left rest : List Node) (n : Node) (ids more : List Bool) (faults next : List Fault) (again : Bool) → (met : HasMet all left ids faults) → left ≡ n ∷ rest
    → again ≡ is_taken (store_id n.op) met.before → AreIdsOf (met.before ++ n ∷ []) more → next ≡ faults ++ where_it_is again DuplicateVarstore n.place → HasMet all rest more next
met_next all left rest n ids more faults next again met steps told known added =
    let r : Ranked = record { before = met.before; node = n } in
    let later = repeated_stores (met.before ++ n ∷ []) rest in
    let own = where_it_is (is_taken (store_id n.op) met.before) DuplicateVarstore n.place in
    record {
      before = met.before ++ n ∷ [];
      parts = append_assoc met.before (n ∷ []) rest ∙ ap (λ (l : List Node). met.before ++ l) (sym steps) ∙ met.parts;
      known = known;
      so_far = ap (λ (l : List Fault). l ++ later) (added ∙ ap (λ (b : Bool). faults ++ where_it_is b DuplicateVarstore n.place) told)
          ∙ append_assoc faults own later
          ∙ ap (λ (l : List Fault). faults ++ (l ++ later)) (sym (its_split ranked_place repeats_store DuplicateVarstore [] r ∙ append-nil own))
          ∙ ap (λ (l : List Node). faults ++ repeated_stores met.before l) (sym steps) ∙ met.so_far;
    }

pub met_all : (all left : List Node) (ids : List Bool) (faults : List Fault) → HasMet all left ids faults → left ≡ [] → faults ≡ repeated_stores [] all
met_all all left ids faults met e = sym (append-nil faults) ∙ ap (λ (l : List Node). faults ++ repeated_stores met.before l) (sym e) ∙ met.so_far
