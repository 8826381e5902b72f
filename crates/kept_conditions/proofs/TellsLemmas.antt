-- What is kept over some stores tells of them.
use Rattle.std.proofs.Common.{sym, true, subst, ◌≡◌, ℕ, ◌+◌, ◌<◌, ◌≤◌, ◌==◌, false, Some, List, [], ◌∷◌, length, map, filter, refl, ap, ◌∙◌, arith}
use Rattle.std.specs.List.{AllByRecursion, find}
use Rattle.std.proofs.lemmas.Bool.{cond-true, cond-false, eq-eqb, ne_eqb}
use Rattle.ifr_opcodes.specs.Forest.{Node, flat}
use Rattle.ifr_opcodes.specs.Reading.{tree_of}
use Rattle.ifr_nodes.specs.Nodes.{nodes_of}
use Rattle.ifr_nodes.proofs.PlaceLemmas.{nodes_within}
use Rattle.ifr_nodes.proofs.StructureLemmas.{rising}
use Rattle.ifr_nodes.specs.Accepted.{IsAccepted}
use Rattle.hii_varstore.specs.Stores.{StoreMap}
use Rattle.guard_policy.specs.laws.Support.{IsSubjectOf, conditions}
use Rattle.guard_policy.specs.Conditions.{is_kept}
use Rattle.guard_policy.specs.code.KeptConditions.{Tells, TellsAll, is_by_kept}
use Rattle.guard_policy.specs.code.Views.{bytes_of, world}
use Rattle.guard_policy.specs.declared.policy.Policy.{Policy}
use Rattle.guard_policy.specs.declared.support.Decision.{Decision}
use Rattle.guard_policy.proofs.ToldLemmas.{decision_told}
use Rattle.guard_policy.specs.World.{is_met_over}
use Rattle.guard_policy.proofs.RemovedLemmas.{Ascend, places_ascend}
use Rattle.kept_conditions.specs.Kept.{Told, KeptValues, told, told_over, kept_over, held, holds_if}
use Rattle.kept_conditions.specs.laws.Tells.{KeptTells}

module _ (ns : List Node) (stores : StoreMap) where
  abbrev IsTold : List Node → Node → Type 0
  IsTold all c = held (map (told ns stores) all) c.place ≡ is_met_over ns stores c

  -- a node in front of others, whose place is less than theirs
  behind : (x : Node) (all cs : List Node) (low : ℕ) → x.place < low → Ascend low (map (λ (n : Node). n.place) cs) → AllByRecursion (IsTold all) cs → AllByRecursion (IsTold (x ∷ all)) cs
  behind x all [] low less r h = tt
  behind x all (c ∷ cs) low less r h =
      let first : low ≤ c.place = r.0 in
      let other : x.place == c.place ≡ false = ne_eqb x.place c.place (λ e. omega (arith, e, first, less)) in (
        ap holds_if (cond-false (x.place == c.place) (Some (told ns stores x)) (find (λ (t : Told). t.place == c.place) (map (told ns stores) all)) other) ∙ h.0,
        behind x all cs (c.place + 1) (omega (arith, first, less)) r.1 h.1,
      )

  pub all_told : (cs : List Node) (low : ℕ) → Ascend low (map (λ (n : Node). n.place) cs) → AllByRecursion (IsTold cs) cs
  all_told [] low r = tt
  all_told (c ∷ cs) low r = (
    ap holds_if (cond-true (c.place == c.place) (Some (told ns stores c)) (find (λ (t : Told). t.place == c.place) (map (told ns stores) cs)) (eq-eqb c.place c.place refl)),
    behind c cs cs (c.place + 1) (omega arith) r.1 (all_told cs (c.place + 1) r.1),
  )

pub tells : KeptTells
tells ifr removed stores accepted =
    let ns = nodes_of ifr in
    all_told ns stores (filter is_kept ns) 4 (places_ascend is_kept 4 ns (rising ns 4 (4 + length (flat (tree_of ifr))) (nodes_within (tree_of ifr) 4 [] accepted.checked.spelled.are_nodes)))

-- ---- so decisions by it are those over the stores

pub kept_tells : (policy : Policy) (kept : KeptValues) (ifr : List ℕ) (stores : StoreMap) (decision : Decision) → IsAccepted (bytes_of policy) → bytes_of policy ≡ ifr → kept ≡ kept_over ifr stores
    → IsSubjectOf (bytes_of policy) decision → is_by_kept decision ≡ true → Tells (held kept.values) (world policy stores) (conditions (world policy stores) decision)
kept_tells policy kept ifr stores decision accepted same is subject by =
    let bytes = bytes_of policy in
    let values : kept.values ≡ told_over bytes stores = ap (λ (k : KeptValues). k.values) is ∙ ap (λ (b : List ℕ). told_over b stores) (sym same) in
    let all : TellsAll (held kept.values) (world policy stores) = subst (λ (v : List Told). TellsAll (held v) (world policy stores)) (sym values) (tells bytes policy.removed.now stores accepted) in
    decision_told bytes policy.removed.now stores (held kept.values) accepted all decision subject by
