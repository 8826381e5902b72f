-- What opens a question was run.
use Rattle.std.proofs.Common.{◌≡◌, ℕ, Bool, true, false, Option, Some, None, List, [], ◌∷◌, refl, sym, ap, ◌∙◌, inl, inr}
use Rattle.std.specs.Prelude.{if◌then◌else◌, length, nat_le}
use Rattle.std.specs.List.{find, list_any}
use Rattle.std.proofs.lemmas.Bool.{cases_Bool}
use Rattle.browser_rules.specs.Script as script
use Rattle.ifr_opcodes.specs.Fields.{question_id}
use Rattle.ifr_nodes.specs.Nodes.{nodes_of}
use Rattle.hii_varstore.specs.Stores.{StoreMap}
use Rattle.hii_questions.specs.Fields.{Asked}
use Rattle.guard_policy.specs.Policy.{fixed}
use Rattle.guard_policy.specs.declared.denial.Denial.{Denial}
use Rattle.session_steps.specs.State.{State, world_of}
use Rattle.session_steps.specs.Step.{step}
use Rattle.session_steps.specs.declared.reply.Reply.TheVariants.{Accepted}
use Rattle.unlock_audit.specs.Asking.{asking}
use Rattle.unlock_audit.specs.Moves.{moves}
use Rattle.unlock_audit.specs.Tries.{Try, begun_over, commands, is_accepted, is_answered, is_open, is_open_anew, longer, made, opens, opens_behind, run, submits, with_written, write}
use Rattle.unlock_audit.specs.Unlock.{Answer, answer_with, driver, final_reason, found, more, needs_new_run, none, searched, unfound, unlock_by, unlock_unless, written}
use Rattle.unlock_audit.specs.declared.moves.Move.{Move}
use Rattle.unlock_audit.specs.laws.Anew.{OpensAnew}
use Rattle.unlock_audit.specs.laws.Sound.{AreAnswered, FoundAgainOpens, FoundOpens, IsOpen, WrittenOpens}
use Rattle.unlock_audit.proofs.RunLemmas.{accepted_is, run_answers}

-- ---- an answer that is found is a try that opens the question

found_passes : {X : Type 0} (test : X → Bool) (xs : List X) (x : X) → find test xs ≡ Some x → test x ≡ true
found_passes test [] x e = absurd cc
found_passes test (y ∷ ys) x e = elim (cases_Bool (test y)) [
  | inl is ↦ let same : y ≡ x = cc (rw is at e) in ap test (sym same) ∙ is
  | inr not ↦ found_passes test ys x (rw not at e)
]

-- it is not one that was found
data IsOther : Answer → Type 0 where
  more_is : IsOther more
  none_is : IsOther none
  driver_is : IsOther driver

other_unfound : (b c : Bool) → IsOther (if b then more else if c then none else driver)
other_unfound true c = more_is
other_unfound false true = none_is
other_unfound false false = driver_is

-- the try by which commands were found
found_try : (again which : Bool) (otherwise : Answer) (o : Option Try) (list : List Move) → IsOther otherwise → answer_with again otherwise o ≡ found which list → (again ≡ which) × (o ≡ Some (commands list))
found_try again which otherwise None list more_is e = absurd cc
found_try again which otherwise None list none_is e = absurd cc
found_try again which otherwise None list driver_is e = absurd cc
found_try again which otherwise (Some (commands l)) list is e = let one : again ≡ which = cc in let two : l ≡ list = cc in (one, ap (λ (l : List Move). Some (commands l)) two)
found_try again which otherwise (Some (write m)) list is e = absurd cc

written_try : (again : Bool) (otherwise : Answer) (o : Option Try) (m : Move) → IsOther otherwise → answer_with again otherwise o ≡ written m → o ≡ Some (write m)
written_try again otherwise None m more_is e = absurd cc
written_try again otherwise None m none_is e = absurd cc
written_try again otherwise None m driver_is e = absurd cc
written_try again otherwise (Some (commands l)) m is e = absurd cc
written_try again otherwise (Some (write other)) m is e = let same : other ≡ m = cc in ap (λ (m : Move). Some (write m)) same

-- ---- such an answer comes of a search

searched_found : (s : State) (most : ℕ) (q : Asked) (v : Denial) (ids : List ℕ) (ms : List Move) (which : Bool) (list : List Move)
    → (searched s most q v ids ms).answer ≡ found which list → (needs_new_run s q ≡ which) × (opens which s (question_id q.node.op) (commands list) ≡ true)
searched_found s most q v ids ms which list e =
    let id = question_id q.node.op in
    let again = needs_new_run s q in
    let its = made again s id most ms in
    let tried = found_try again which (unfound s ms (nat_le most (length its))) (find (opens again s id) its) list (other_unfound (nat_le most (length its)) (list_any (is_answered s) (longer ms []))) e in
    (tried.0, ap (λ (b : Bool). opens b s id (commands list)) (sym tried.0) ∙ found_passes (opens again s id) its (commands list) tried.1)

searched_written : (s : State) (most : ℕ) (q : Asked) (v : Denial) (ids : List ℕ) (ms : List Move) (m : Move)
    → (searched s most q v ids ms).answer ≡ written m → is_open_anew s (question_id q.node.op) (with_written s m) ≡ true
searched_written s most q v ids ms m e =
    let id = question_id q.node.op in
    let again = needs_new_run s q in
    let its = made again s id most ms in
    found_passes (opens again s id) its (write m)
    (written_try again (unfound s ms (nat_le most (length its))) (find (opens again s id) its) m (other_unfound (nat_le most (length its)) (list_any (is_answered s) (longer ms []))) e)

unless_found : (s : State) (most : ℕ) (q : Asked) (v : Denial) (reason : Option Denial) (which : Bool) (list : List Move)
    → (unlock_unless s most q v reason).answer ≡ found which list → (needs_new_run s q ≡ which) × (opens which s (question_id q.node.op) (commands list) ≡ true)
unless_found s most q v (Some reason) which list e = absurd cc
unless_found s most q v None which list e =
    let a = asking (nodes_of s.ifr) q.node in searched_found s most q v a.ids (moves (nodes_of s.ifr) a) which list e

by_found : (s : State) (most : ℕ) (q : Asked) (v : Option Denial) (which : Bool) (list : List Move)
    → (unlock_by s most q v).answer ≡ found which list → (needs_new_run s q ≡ which) × (opens which s (question_id q.node.op) (commands list) ≡ true)
by_found s most q None which list e = absurd cc
by_found s most q (Some v) which list e = unless_found s most q v (final_reason s q) which list e

unless_written : (s : State) (most : ℕ) (q : Asked) (v : Denial) (reason : Option Denial) (m : Move)
    → (unlock_unless s most q v reason).answer ≡ written m → is_open_anew s (question_id q.node.op) (with_written s m) ≡ true
unless_written s most q v (Some reason) m e = absurd cc
unless_written s most q v None m e =
    let a = asking (nodes_of s.ifr) q.node in searched_written s most q v a.ids (moves (nodes_of s.ifr) a) m e

by_written : (s : State) (most : ℕ) (q : Asked) (v : Option Denial) (m : Move)
    → (unlock_by s most q v).answer ≡ written m → is_open_anew s (question_id q.node.op) (with_written s m) ≡ true
by_written s most q None m e = absurd cc
by_written s most q (Some v) m e = unless_written s most q v (final_reason s q) m e

-- ---- what such a try did

open_is : (s : State) (id : ℕ) → is_open s id ≡ true → IsOpen s id
open_is s id e = accepted_is (step s (script.Why id)).reply e

opened_at_once : (s : State) (id : ℕ) (list : List Move) (o : Option State) → run s list ≡ o → opens_behind false s id o ≡ true
    → (end : State) × AreAnswered s list end × IsOpen end id
opened_at_once s id list None is e = absurd cc
opened_at_once s id list (Some end) is e = (end, run_answers s list end is, open_is end id e)

pub found_opens : FoundOpens
found_opens s most q list e =
    let id = question_id q.node.op in
    opened_at_once s id list (run s list) refl (by_found s most q (fixed (world_of s) q.node) false list e).1

submitted_opens : (s end : State) (id : ℕ) → is_open_anew s id (submits (Some end)) ≡ true
    → ((step end script.Submit).reply ≡ Accepted) × IsOpen (begun_over s (step end script.Submit).state.committed) id
submitted_opens s end id e = elim (cases_Bool (is_accepted (step end script.Submit).reply)) [
  | inl is ↦ (accepted_is (step end script.Submit).reply is, open_is (begun_over s (step end script.Submit).state.committed) id (rw is at e))
  | inr not ↦ absurd (no (rw not at e))
]
  where
    no : false ≡ true → ⊥
    no h = cc

opened_again : (s : State) (id : ℕ) (list : List Move) (o : Option State) → run s list ≡ o → opens_behind true s id o ≡ true
    → (end : State) × AreAnswered s list end × ((step end script.Submit).reply ≡ Accepted) × IsOpen (begun_over s (step end script.Submit).state.committed) id
opened_again s id list None is e = absurd cc
opened_again s id list (Some end) is e =
    let its = submitted_opens s end id e in (end, run_answers s list end is, its.0, its.1)

pub found_again_opens : FoundAgainOpens
found_again_opens s most q list e =
    let id = question_id q.node.op in
    opened_again s id list (run s list) refl (by_found s most q (fixed (world_of s) q.node) true list e).1

opened_over : (s : State) (id : ℕ) (m : Move) (o : Option StoreMap) → with_written s m ≡ o → is_open_anew s id o ≡ true
    → (stores : StoreMap) × (with_written s m ≡ Some stores) × IsOpen (begun_over s stores) id
opened_over s id m None is e = absurd cc
opened_over s id m (Some stores) is e = (stores, is, open_is (begun_over s stores) id e)

pub written_opens : WrittenOpens
written_opens s most q m e =
    let id = question_id q.node.op in
    opened_over s id m (with_written s m) refl (by_written s most q (fixed (world_of s) q.node) m e)

-- ---- a new run is an opening

pub opens_anew : OpensAnew
opens_anew list n image language s stores o laid = record {
  source = o.source;
  found = o.found;
  bytes = o.bytes;
  path = o.path;
  texts = o.texts;
  language_is = o.language_is;
  browsable = o.browsable;
  stores = record { form = inl refl; laid = laid };
  submitted = refl;
  removed = refl;
  others = o.others;
  forms = o.forms;
  history = o.history;
}
