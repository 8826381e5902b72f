-- The node with a condition at a place is a guard, or one of the conditions of questions.
use Rattle.std.proofs.Common.{◌≡◌, ℕ, ◌+◌, Bool, eqb, Option, Some, None, List, [], ◌∷◌, refl, sym, ap, ◌∙◌, inl, inr, arith, subst}
use Rattle.std.specs.Prelude.{◌||◌, option_map}
use Rattle.std.specs.Option.{option_or}
use Rattle.std.proofs.lemmas.Bool.{cases_Bool, eqb-true, and_right}
use Rattle.hii_bytes.specs.code.FirstFaults.{Rise}
use Rattle.ifr_opcodes.specs.Opcode.{number}
use Rattle.ifr_opcodes.specs.Forest.{Node, SpellsForest}
use Rattle.ifr_opcodes.specs.Reading.{tree_of}
use Rattle.ifr_nodes.specs.Guards.{is_guard}
use Rattle.ifr_nodes.specs.Nodes.{nodes_of}
use Rattle.ifr_nodes.specs.code.Checked.{node_in}
use Rattle.ifr_index.specs.code.Index.{kind_at, conditional_at}
use Rattle.ifr_index.specs.code.Tables.{inner_guard, guard_entry, is_question_condition, kept_condition, IsGuardEntry, IsConditionEntry}
use Rattle.ifr_index.specs.declared.index.GuardEntry.{GuardEntry}
use Rattle.ifr_index.specs.declared.index.ConditionEntry.{ConditionEntry}
use Rattle.ifr_index.proofs.IndexLemmas.{behind, nodes_rise}
use Rattle.ifr_index.proofs.NoSubmitLemmas.{is_entry}
use Rattle.ifr_index.proofs.NumberLemmas.{is_guard_entry}
use Rattle.ifr_index.proofs.PathLemmas.{find_within}
use Rattle.ifr_nodes.proofs.ViewLemmas.{node_in_place}

abbrev place_of : Node → ℕ
place_of n = n.place

-- of one kind or of another
pub either_at : (one other : Node → Bool) (low place : ℕ) (ns : List Node) → Rise place_of low ns → kind_at (λ n. one n || other n) ns place ≡ option_or (kind_at one ns place) (kind_at other ns place)
either_at one other low place [] r = refl
either_at one other low place (n ∷ ns) r =
    let later = either_at one other (n.place + 1) place ns r.1 in
    elim (cases_Bool (eqb n.place place)) [
      | inl at ↦
          let past : kind_at one ns place ≡ None = behind one (n.place + 1) place ns (omega (arith, eqb-true n.place place at)) r.1 in
          elim (cases_Bool (one n)) [
            | inl is ↦ rw (at, is) refl
            | inr not_one ↦ elim (cases_Bool (other n)) [
              | inl is ↦ rw (at, not_one, is, past) refl
              | inr not_other ↦ rw (at, not_one, not_other) later
            ]
          ]
      | inr elsewhere ↦
          rw (and_right (one n || other n) (eqb n.place place) elsewhere, and_right (one n) (eqb n.place place) elsewhere, and_right (other n) (eqb n.place place) elsewhere) later
    ]

abbrev guarding : Node → Bool
guarding n = is_guard (number n.op)

-- the guard or the condition of a question at a place
either : (bytes : List ℕ) (place : ℕ) → SpellsForest bytes (tree_of bytes) → conditional_at (nodes_of bytes) place ≡ option_or (kind_at guarding (nodes_of bytes) place) (kind_at is_question_condition (nodes_of bytes) place)
either bytes place s = either_at guarding is_question_condition 4 place (nodes_of bytes) (nodes_rise bytes s)

-- The guard has this entry, and is the node with a condition at the place.
pub record IsGuardAt (bytes : List ℕ) (place : ℕ) (guard : GuardEntry) : Type 0 where
  pub kept : IsGuardEntry bytes guard
  pub is : conditional_at (nodes_of bytes) place ≡ Some (node_in bytes guard.place)

pub guard_some : (bytes : List ℕ) (place : ℕ) (guard : GuardEntry) → SpellsForest bytes (tree_of bytes) → Some guard ≡ option_map (λ n. guard_entry (inner_guard (nodes_of bytes) n.path) n) (kind_at guarding (nodes_of bytes) place) → IsGuardAt bytes place guard
guard_some bytes place guard s e = go (kind_at guarding (nodes_of bytes) place) refl e
  where
    go : (found : Option Node) → kind_at guarding (nodes_of bytes) place ≡ found → Some guard ≡ option_map (λ n. guard_entry (inner_guard (nodes_of bytes) n.path) n) found → IsGuardAt bytes place guard
    go None at e = absurd cc
    go (Some n) at e =
        let its = find_within guarding (nodes_of bytes) place n at in
        let same : guard ≡ guard_entry (inner_guard (nodes_of bytes) n.path) n = cc in
        subst (IsGuardAt bytes place) (sym same) (record {
          kept = is_guard_entry bytes (inner_guard (nodes_of bytes) n.path) n s its.within its.holds;
          is = either bytes place s ∙ ap (λ (o : Option Node). option_or o (kind_at is_question_condition (nodes_of bytes) place)) at ∙ ap (λ (m : Node). Some m) (sym (node_in_place bytes n s its.within));
        })

no_guard_at : (ns : List Node) (found : Option Node) → ◌≡◌ {A = Option GuardEntry} None (option_map (λ n. guard_entry (inner_guard ns n.path) n) found) → found ≡ None
no_guard_at ns None e = refl
no_guard_at ns (Some n) e = absurd cc

no_condition_at : (ns : List Node) (found : Option Node) → ◌≡◌ {A = Option ConditionEntry} None (option_map (kept_condition ns) found) → found ≡ None
no_condition_at ns None e = refl
no_condition_at ns (Some n) e = absurd cc

-- The condition of a question has this entry, and is the node with a condition at the place.
pub record IsConditionAt (bytes : List ℕ) (place : ℕ) (condition : ConditionEntry) : Type 0 where
  pub kept : IsConditionEntry bytes condition
  pub is : conditional_at (nodes_of bytes) place ≡ Some (node_in bytes condition.place)

pub condition_some : (bytes : List ℕ) (place : ℕ) (condition : ConditionEntry) → SpellsForest bytes (tree_of bytes)
    → ◌≡◌ {A = Option GuardEntry} None (option_map (λ n. guard_entry (inner_guard (nodes_of bytes) n.path) n) (kind_at guarding (nodes_of bytes) place))
    → Some condition ≡ option_map (kept_condition (nodes_of bytes)) (kind_at is_question_condition (nodes_of bytes) place) → IsConditionAt bytes place condition
condition_some bytes place condition s no_guard e = go (kind_at is_question_condition (nodes_of bytes) place) refl e
  where
    go : (found : Option Node) → kind_at is_question_condition (nodes_of bytes) place ≡ found → Some condition ≡ option_map (kept_condition (nodes_of bytes)) found → IsConditionAt bytes place condition
    go None at e = absurd cc
    go (Some n) at e =
        let its = find_within is_question_condition (nodes_of bytes) place n at in
        let same : condition ≡ kept_condition (nodes_of bytes) n = cc in
        subst (IsConditionAt bytes place) (sym same) (record {
          kept = is_entry bytes n s its.within its.holds;
          is =
              either bytes place s ∙ ap (λ (o : Option Node). option_or o (kind_at is_question_condition (nodes_of bytes) place)) (no_guard_at (nodes_of bytes) (kind_at guarding (nodes_of bytes) place) no_guard) ∙ at
              ∙ ap (λ (m : Node). Some m) (sym (node_in_place bytes n s its.within));
        })

pub none_there : (bytes : List ℕ) (place : ℕ) → SpellsForest bytes (tree_of bytes)
    → ◌≡◌ {A = Option GuardEntry} None (option_map (λ n. guard_entry (inner_guard (nodes_of bytes) n.path) n) (kind_at guarding (nodes_of bytes) place))
    → ◌≡◌ {A = Option ConditionEntry} None (option_map (kept_condition (nodes_of bytes)) (kind_at is_question_condition (nodes_of bytes) place)) → ◌≡◌ {A = Option Node} None (conditional_at (nodes_of bytes) place)
none_there bytes place s no_guard no_condition =
    sym (either bytes place s ∙ ap (λ (o : Option Node). option_or o (kind_at is_question_condition (nodes_of bytes) place)) (no_guard_at (nodes_of bytes) (kind_at guarding (nodes_of bytes) place) no_guard)
    ∙ no_condition_at (nodes_of bytes) (kind_at is_question_condition (nodes_of bytes) place) no_condition)
