-- Forms that are found by their ids.
use Rattle.std.proofs.Common.{◌≡◌, ℕ, zero, suc, Bool, true, false, cond, Option, Some, None, List, [], ◌∷◌, ◌++◌, refl, sym, ap, subst, ◌∙◌, arith, inl, inr}
use Rattle.std.specs.Prelude.{Contains, ◌==◌, ◌&&◌, ◌||◌, option_and_then, filter, is_none}
use Rattle.std.specs.List.{list_any}
use Rattle.std.proofs.Math.Bool.{or-true}
use Rattle.std.proofs.lemmas.Bool.{and_parts, cases_Bool, cond-true, cond-false, eqb-true, eq-eqb}
use Rattle.std.proofs.lemmas.List.Folds.{list_any-append}
use Rattle.hii_bytes.specs.Faults.{HasNone, IsFaultOf}
use Rattle.hii_bytes.specs.declared.cause.Cause.TheVariants.{DuplicateForm}
use Rattle.ifr_opcodes.specs.Fields.{ref_target}
use Rattle.ifr_opcodes.specs.Forest.{Node}
use Rattle.ifr_nodes.specs.Accepted.{IsAccepted}
use Rattle.ifr_nodes.specs.Nodes.{nodes_of, is_form, is_reference}
use Rattle.ifr_nodes.specs.ReferenceFaults.{Ranked, ranked, has_form_id, has_reference_fault, form_with}
use Rattle.ifr_scopes.proofs.FormPlaceLemmas.{found}
use Rattle.ifr_nodes.proofs.ViewLemmas.{further}
use Rattle.hii_questions.proofs.FieldLemmas.{passing}
use Rattle.guard_policy.specs.Policy.{fixed}
use Rattle.guard_policy.specs.World.{World}
use Rattle.question_audit.specs.Reach.{led_to}
use Rattle.question_audit.proofs.MetLemmas.{id_of}

-- ---- forms that are found by their own ids

abbrev pub IsFound : List Node → Node → Type 0
IsFound ns form = form_with ns (id_of form) ≡ Some form

-- no two of one id are found
pub same_found : (ns : List Node) (f g : Node) → IsFound ns f → IsFound ns g → id_of f ≡ id_of g → f ≡ g
same_found ns f g one other e = let same : Some f ≡ Some g = sym one ∙ ap (form_with ns) e ∙ other in cc

-- the first form is found
pub first_found : (ns : List Node) (first : Node) (others : List Node) → filter is_form ns ≡ first ∷ others → IsFound ns first
first_found [] first others e = absurd cc
first_found (n ∷ ns) first others e = elim (cases_Bool (is_form n)) [
  | inl is ↦
      let same : n ≡ first = let filled = rw is at e in cc in
      subst (λ (f : Node). IsFound (n ∷ ns) f) same (cond-true (has_form_id (id_of n) n) (Some n) (form_with ns (id_of n)) (rw (is, eq-eqb (id_of n) (id_of n) refl) refl))
  | inr other ↦
      cond-false (has_form_id (id_of first) n) (Some n) (form_with ns (id_of first)) (rw other refl) ∙ first_found ns first others (rw other at e)
]

-- so is a form to which a statement leads
pub led_found : (w : World) (n to : Node) → led_to w n ≡ Some to → IsFound w.nodes to
led_found w n to e = through (is_reference n && is_none (fixed w n)) (ref_target n.op) e
  where
    through : (b : Bool) (target : Option ℕ) → cond b (option_and_then (form_with w.nodes) target) None ≡ Some to → IsFound w.nodes to
    through true (Some id) e =
        let its = and_parts (is_form to) (id_of to == id) (found (has_form_id id) w.nodes to e).1 in
        ap (form_with w.nodes) (eqb-true (id_of to) id its.1) ∙ e
    through true None e = absurd cc
    through false target e = absurd cc

-- ---- the forms of an accepted package are found by their ids

-- a node among others that were ranked behind some
pub record IsRanked (before ns : List Node) (n : Node) (p : Node → Bool) : Type 0 where
  pub rank : Ranked
  pub within : Contains (ranked before ns) rank
  pub node : rank.node ≡ n
  pub behind : list_any p before ≡ true → list_any p rank.before ≡ true

ranked_of : (before ns : List Node) (n : Node) (p : Node → Bool) → Contains ns n → IsRanked before ns n p
ranked_of before [] n p (k, lt, e) = absurd (omega arith)
ranked_of before (m ∷ ns) n p (zero, lt, e) = record { rank = record { before = before; node = m }; within = (0, omega arith, refl); node = e; behind = λ h. h }
ranked_of before (m ∷ ns) n p (suc k, lt, e) =
    let later = ranked_of (before ++ m ∷ []) ns n p (k, omega arith, e) in
    record {
      rank = later.rank;
      within = further (record { before = before; node = m }) (ranked (before ++ m ∷ []) ns) later.rank later.within;
      node = later.node;
      behind = λ h. later.behind (list_any-append p before (m ∷ []) ∙ ap (λ (b : Bool). b || list_any p (m ∷ [])) h);
    }

abbrev pub rank_place : Ranked → ℕ
rank_place r = r.node.place

form_found : (all before ns : List Node) (form : Node) → HasNone (IsFaultOf rank_place (has_reference_fault all) (ranked before ns)) → is_form form ≡ true → Contains ns form → IsFound ns form
form_found all before [] form none is (k, lt, e) = absurd (omega arith)
form_found all before (n ∷ ns) form none is (zero, lt, e) =
    subst (λ (f : Node). IsFound (n ∷ ns) f) e (cond-true (has_form_id (id_of n) n) (Some n) (form_with ns (id_of n)) (rw (ap is_form e ∙ is, eq-eqb (id_of n) (id_of n) refl) refl))
form_found all before (n ∷ ns) form none is (suc k, lt, e) =
    let p = has_form_id (id_of form) in
    let there : Contains ns form = (k, omega arith, e) in
    let rank = ranked_of (before ++ n ∷ []) ns form p there in
    elim (cases_Bool (p n)) [
      | inl again ↦
          let behind = rank.behind (list_any-append p before (n ∷ []) ∙ rw (ap (λ (b : Bool). b || false) again) (or-true (list_any p before))) in
          let fault : has_reference_fault all rank.rank DuplicateForm ≡ true = rw rank.node (rw (is, behind) refl) in
          absurd (none DuplicateForm rank.rank.node.place (rank.rank, further (record { before = before; node = n }) (ranked (before ++ n ∷ []) ns) rank.rank rank.within, refl, fault))
      | inr other ↦
          cond-false (p n) (Some n) (form_with ns (id_of form)) other
          ∙ form_found all (before ++ n ∷ []) ns form (λ cause place fault. none cause place (fault.0, further (record { before = before; node = n }) (ranked (before ++ n ∷ []) ns) fault.0 fault.1, fault.2, fault.3)) is there
    ]

pub accepted_found : (bytes : List ℕ) → IsAccepted bytes → (form : Node) → Contains (filter is_form (nodes_of bytes)) form → IsFound (nodes_of bytes) form
accepted_found bytes accepted form there =
    let its = passing is_form (nodes_of bytes) form there in
    form_found (nodes_of bytes) [] (nodes_of bytes) form (λ cause place fault. accepted.referred cause place (inr fault)) its.1 its.0
