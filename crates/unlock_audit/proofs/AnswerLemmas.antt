-- What the tries come to.
use Rattle.std.proofs.Common.{◌≡◌, ℕ, zero, suc, ◌+◌, ◌-◌, ◌≤◌, Bool, Option, Some, None, Ok, Err, List, [], ◌∷◌, length, refl, ap, ◌∙◌, inl, inr, arith}
use Rattle.std.specs.Prelude.{◌==◌, nat_le, take}
use Rattle.std.specs.List.{find, list_any}
use Rattle.std.proofs.lemmas.Bool.{cases_Bool}
use Rattle.std.proofs.lemmas.Bool.Decides.{nat_tests}
use Rattle.ifr_opcodes.specs.Fields.{question_id}
use Rattle.ifr_nodes.specs.Nodes.{nodes_of}
use Rattle.hii_questions.specs.Fields.{Asked}
use Rattle.guard_policy.specs.World.{World}
use Rattle.guard_policy.specs.code.Answers.{unless}
use Rattle.guard_policy.specs.declared.denial.Denial.{Denial}
use Rattle.question_audit.specs.Reasons.{all_reasons}
use Rattle.session_steps.specs.State.{State, world_of}
use Rattle.unlock_audit.specs.Asking as asked
use Rattle.unlock_audit.specs.Moves.{moves}
use Rattle.unlock_audit.specs.Rising.{up_to}
use Rattle.unlock_audit.specs.Tries.{Try, made, opens, tries}
use Rattle.unlock_audit.specs.Unlock.{Answer, Unlock, answer_with, final_reason, is_final, is_removal, needs_new_run, searched, unfound}
use Rattle.unlock_audit.specs.code.Counting.{Tally, begun_tally, with_tries}
use Rattle.unlock_audit.specs.declared.moves.Move.{Move}
use Rattle.unlock_audit.proofs.CountLemmas.{all_made}

none_left : (most n : ℕ) → (most - n == 0) ≡ nat_le most n
none_left most n = grind (arith, nat_tests)

up_short : {X : Type 0} (test : X → Bool) (n : ℕ) (xs : List X) → length (up_to test (take n xs)) ≤ n
up_short test zero [] = omega arith
up_short test (suc n) [] = omega arith
up_short test zero (x ∷ xs) = omega arith
up_short test (suc n) (x ∷ xs) = elim (cases_Bool (test x)) [
  | inl is ↦ rw is (omega arith)
  | inr not ↦ let rest = up_short test n xs in rw not (omega (arith, rest))
]

pub tried_few : {X : Type 0} (test : X → Bool) (most : ℕ) (xs : List X) (begun t : Tally X) → begun ≡ begun_tally most → t ≡ with_tries test begun xs → t.tried ≤ most
tried_few test most xs begun t b e =
    let is = e ∙ ap (λ u. with_tries test u xs) b ∙ all_made test most 0 xs in
    let count : t.tried ≡ 0 + length (up_to test (take most xs)) = ap (λ u. u.tried) is in
    let short = up_short test most xs in
    omega (arith, count, short)

same_unlock : (v : Option Denial) (ids : List ℕ) {a b : Answer} {m n : ℕ} → a ≡ b → m ≡ n → record { verdict = v; answer = a; ids = ids; tried = m } ≡ (let u : Unlock = record { verdict = v; answer = b; ids = ids; tried = n } in u)
same_unlock v ids e f = cc

found_by : (s : State) (most : ℕ) (q : Asked) (verdict : Denial) (ids : List ℕ) (ms : List Move) (begun t : Tally Try) (answer : Answer)
    → begun ≡ begun_tally most → t ≡ with_tries (opens (needs_new_run s q) s (question_id q.node.op)) begun (tries s ms) → answer ≡ answer_with (needs_new_run s q) (unfound s ms (t.left == 0)) t.found
    → record { verdict = Some verdict; answer = answer; ids = ids; tried = t.tried } ≡ searched s most q verdict ids ms
found_by s most q verdict ids ms begun t answer b e f =
    let again = needs_new_run s q in
    let test = opens again s (question_id q.node.op) in
    let its = made again s (question_id q.node.op) most ms in
    let is = e ∙ ap (λ u. with_tries test u (tries s ms)) b ∙ all_made test most 0 (tries s ms) in
    let left : (t.left == 0) ≡ nat_le most (length its) = ap (λ u. u.left == 0) is ∙ none_left most (length its) in
    let count : t.tried ≡ 0 + length its = ap (λ u. u.tried) is in
    let tried : t.tried ≡ length its = omega (arith, count) in
    let found : t.found ≡ find test its = ap (λ u. u.found) is in
    same_unlock (Some verdict) ids (f ∙ ap (λ (l : Bool). answer_with again (unfound s ms l) t.found) left ∙ ap (answer_with again (unfound s ms (nat_le most (length its)))) found) tried

pub searched_is : (s : State) (most : ℕ) (q : Asked) (verdict : Denial) (a : asked.Asking) (ms : List Move) (again : Bool) (id : ℕ) (begun t : Tally Try) (answer : Answer)
    → ms ≡ moves (nodes_of s.ifr) a → again ≡ needs_new_run s q → id ≡ question_id q.node.op → begun ≡ begun_tally most → t ≡ with_tries (opens again s id) begun (tries s ms)
    → answer ≡ answer_with again (unfound s ms (t.left == 0)) t.found
    → record { verdict = Some verdict; answer = answer; ids = a.ids; tried = t.tried } ≡ searched s most q verdict a.ids (moves (nodes_of s.ifr) a)
searched_is s most q verdict a ms again id begun t answer same is_again is_id b e f =
    let tried = e ∙ ap (λ (x : Bool). with_tries (opens x s id) begun (tries s ms)) is_again ∙ ap (λ (x : ℕ). with_tries (opens (needs_new_run s q) s x) begun (tries s ms)) is_id in
    let answered = f ∙ ap (λ (x : Bool). answer_with x (unfound s ms (t.left == 0)) t.found) is_again in
    found_by s most q verdict a.ids ms begun t answer b tried answered ∙ ap (searched s most q verdict a.ids) same

-- ---- reasons

pub final_is : (s : State) (q : Asked) (bytes : List ℕ) (w : World) (reasons : List Denial) (o : Option Denial) → o ≡ find (is_final (nodes_of bytes) q.node) reasons → bytes ≡ s.ifr → reasons ≡ all_reasons w q → w ≡ world_of s
    → o ≡ final_reason s q
final_is s q bytes w reasons o e f g h =
    e ∙ ap (λ (b : List ℕ). find (is_final (nodes_of b) q.node) reasons) f ∙ ap (find (is_final (nodes_of s.ifr) q.node)) (g ∙ ap (λ (x : World). all_reasons x q) h)

pub new_run_is : (s : State) (q : Asked) (w : World) (reasons : List Denial) (again : Bool) → again ≡ list_any is_removal reasons → reasons ≡ all_reasons w q → w ≡ world_of s → again ≡ needs_new_run s q
new_run_is s q w reasons again e g h = e ∙ ap (list_any is_removal) (g ∙ ap (λ (x : World). all_reasons x q) h)

-- ---- the verdict

pub allowed : (o : Option Denial) (done : Unit {0}) → Ok done ≡ unless o → o ≡ None
allowed None done e = refl
allowed (Some denial) done e = absurd cc

pub denied : (o : Option Denial) (verdict : Denial) → Err verdict ≡ unless o → o ≡ Some verdict
denied None verdict e = absurd cc
denied (Some denial) verdict e = cc
