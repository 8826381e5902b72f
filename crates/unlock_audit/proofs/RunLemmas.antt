-- What commands leave of a session.
use Rattle.std.proofs.Common.{◌≡◌, ℕ, true, false, Bool, Option, Some, None, Result, Ok, Err, List, [], ◌∷◌, refl, sym, ap, ◌∙◌, subst}
use Rattle.std.specs.Prelude.{if◌then◌else◌, is_none, is_ok, is_some, option_and_then, option_map}
use Rattle.browser_rules.specs.Script as script
use Rattle.ifr_opcodes.specs.Forest.{Node}
use Rattle.ifr_nodes.specs.Nodes.{nodes_of}
use Rattle.hii_varstore.specs.Stores.{StoreMap}
use Rattle.hii_values.specs.Inputs.{Offer, whole}
use Rattle.hii_values.specs.declared.denial.DenialKind.{DenialKind}
use Rattle.hii_questions.specs.Changes.{with_field}
use Rattle.hii_questions.specs.Fields.{Asked, Field, asked, field_of, question_with, questions}
use Rattle.hii_questions.specs.Fits.{fits, values_offered}
use Rattle.hii_varstore.specs.Layout.{Shape}
use Rattle.hii_varstore.specs.code.Ranges.{HasRange}
use Rattle.hii_questions.specs.code.LyingIn.{LieIn, LiesIn}
use Rattle.question_audit.proofs.QuestionsLemmas.{question_lies}
use Rattle.question_audit.proofs.AskedLemmas.{IsFoundWith, with_id_asks}
use Rattle.guard_policy.specs.World.{world_over}
use Rattle.guard_policy.specs.Policy.{fixed, unsubmitted}
use Rattle.guard_policy.specs.code.Answers.{unless}
use Rattle.guard_policy.specs.declared.denial.Denial.{Denial}
use Rattle.session_steps.specs.State.{State, world_of}
use Rattle.session_steps.specs.Step.{Outcome, question_denial, set_fitting, set_question, set_unless_fixed, set_unless_forbidden, step, submit_unless, told_why, value_denial}
use Rattle.session_steps.specs.declared.reply.Reply.{Reply}
use Rattle.session_steps.specs.declared.reply.Reply.TheVariants.{Accepted, Denied, Refused}
use Rattle.unlock_audit.specs.Moves.{command}
use Rattle.unlock_audit.specs.Tries.{discarded, is_accepted, is_open, left_if_accepted, run, run_on, stores_left, submits, with_value, with_written}
use Rattle.unlock_audit.specs.declared.moves.Move.{Move}
use Rattle.unlock_audit.specs.laws.Sound.{AreAnswered}

pub accepted_is : (reply : Reply) → is_accepted reply ≡ true → reply ≡ Accepted
accepted_is Accepted e = refl
accepted_is (Denied denial) e = absurd cc
accepted_is (Refused cause) e = absurd cc

-- ---- a `set` changes the working stores alone

unforbidden : (s : State) (new : StoreMap) (q : Node) (denial : Option Denial) → discarded (set_unless_forbidden s new q denial).state ≡ discarded s
unforbidden s new q (Some denial) = refl
unforbidden s new q None = refl

fitting : (s : State) (q : Node) (values : List ℕ) (fit : Result (List ℕ) DenialKind) → discarded (set_fitting s q values fit).state ≡ discarded s
fitting s q values (Err why) = refl
fitting s q values (Ok bytes) =
    let new = with_field s.working (field_of (nodes_of s.ifr) q) bytes in
    unforbidden s new q (value_denial (world_of s) new q values)

unfixed : (s : State) (q : Node) (offer : Offer) (denial : Option Denial) → discarded (set_unless_fixed s q offer denial).state ≡ discarded s
unfixed s q offer (Some denial) = refl
unfixed s q offer None = fitting s q (values_offered q offer) (fits (nodes_of s.ifr) q offer)

one_question : (s : State) (q : Option Node) (offer : Offer) → discarded (set_question s q offer).state ≡ discarded s
one_question s None offer = refl
one_question s (Some q) offer = unfixed s q offer (fixed (world_of s) q)

pub set_keeps : (s : State) (m : Move) → discarded (step s (command m)).state ≡ discarded s
set_keeps s m = one_question s (question_with (nodes_of s.ifr) m.id) (whole m.value)

-- ---- `why` changes nothing

told_keeps : (s : State) (denial : Option Denial) → (told_why s denial).state ≡ s
told_keeps s None = refl
told_keeps s (Some denial) = refl

pub why_keeps : (s : State) (id : ℕ) → (step s (script.Why id)).state ≡ s
why_keeps s id = told_keeps s (question_denial s (question_with (nodes_of s.ifr) id))

-- ---- commands that are run

pub nothing_runs : (list : List Move) → run_on None list ≡ None
nothing_runs [] = refl
nothing_runs (m ∷ list) = refl

pub run_next : (s new : State) (m : Move) (left rest : List Move) (all : Option State) → left ≡ m ∷ rest → left_if_accepted (step s (command m)) ≡ Some new → run s left ≡ all → run new rest ≡ all
run_next s new m left rest all e is inv = ap (λ (o : Option State). run_on o rest) (sym is) ∙ ap (run s) (sym e) ∙ inv

pub run_ends : (s : State) (m : Move) (left rest : List Move) (all : Option State) → left ≡ m ∷ rest → left_if_accepted (step s (command m)) ≡ None → run s left ≡ all → all ≡ None
run_ends s m left rest all e is inv = sym inv ∙ ap (run s) e ∙ ap (λ (o : Option State). run_on o rest) is ∙ nothing_runs rest

-- ---- what an answer of the code says

pub left_is : (o : Outcome) (s : State) (answered : Bool) → answered ≡ is_accepted o.reply → s ≡ o.state → left_if_accepted o ≡ (if answered then Some s else None)
left_is o s answered e f = ap (λ (b : Bool). if b then Some o.state else None) (sym e) ∙ ap (λ (t : State). if answered then Some t else None) (sym f)

pub some_if : {A : Type 0} (x : A) (b : Bool) → b ≡ is_some (if b then Some x else None)
some_if x true = refl
some_if x false = refl

-- ---- whether a question is open

told_open : (s : State) (denial : Option Denial) → is_accepted (told_why s denial).reply ≡ is_none denial
told_open s None = refl
told_open s (Some denial) = refl

pub open_where : (s : State) (id : ℕ) → is_open s id ≡ is_none (question_denial s (question_with (nodes_of s.ifr) id))
open_where s id = told_open s (question_denial s (question_with (nodes_of s.ifr) id))

unless_ok : (denial : Option Denial) → is_ok (unless denial) ≡ is_none denial
unless_ok None = refl
unless_ok (Some denial) = refl

-- of the question of an id, by what decides
pub open_by : (s : State) (id : ℕ) (n : Node) (answer : Result (Unit {0}) Denial) → question_with (nodes_of s.ifr) id ≡ Some n → answer ≡ unless (fixed (world_of s) n) → is_ok answer ≡ is_open s id
open_by s id n answer e f =
    ap (λ (r : Result (Unit {0}) Denial). is_ok r) f ∙ unless_ok (fixed (world_of s) n) ∙ sym (open_where s id ∙ ap (λ (o : Option Node). is_none (question_denial s o)) e)

pub shut_without : (s : State) (id : ℕ) → question_with (nodes_of s.ifr) id ≡ None → false ≡ is_open s id
shut_without s id e = sym (open_where s id ∙ ap (λ (o : Option Node). is_none (question_denial s o)) e)

-- ---- a submission

submits_by : (s : State) (denial : Option Denial) → stores_left (left_if_accepted (submit_unless s denial)) ≡ (if is_none denial then Some s.working else None)
submits_by s None = refl
submits_by s (Some denial) = refl

no_denial : (denial : Option Denial) (done : Unit {0}) → Ok done ≡ unless denial → is_none denial ≡ true
no_denial None done e = refl
no_denial (Some denial) done e = absurd cc

some_denial : (denial : Option Denial) (other : Denial) → Err other ≡ unless denial → is_none denial ≡ false
some_denial None other e = absurd cc
some_denial (Some denial) other e = refl

pub submits_all : (s : State) (done : Unit {0}) → Ok done ≡ unless (unsubmitted (world_of s)) → submits (Some s) ≡ Some s.working
submits_all s done e = submits_by s (unsubmitted (world_of s)) ∙ ap (λ (b : Bool). if b then Some s.working else None) (no_denial (unsubmitted (world_of s)) done e)

pub submits_none : (s : State) (denial : Denial) → Err denial ≡ unless (unsubmitted (world_of s)) → submits (Some s) ≡ None
submits_none s denial e = submits_by s (unsubmitted (world_of s)) ∙ ap (λ (b : Bool). if b then Some s.working else None) (some_denial (unsubmitted (world_of s)) denial e)

-- ---- a field that is written

pub written_none : (s : State) (m : Move) → question_with (nodes_of s.ifr) m.id ≡ None → with_written s m ≡ None
written_none s m e = ap (λ (o : Option Node). option_and_then (with_value s.committed m.value) (option_map (asked (nodes_of s.ifr)) o)) e

pub written_with : (s : State) (m : Move) (q : Asked) → question_with (nodes_of s.ifr) m.id ≡ Some q.node → q ≡ asked (nodes_of s.ifr) q.node → with_written s m ≡ with_value s.committed m.value q
written_with s m q e own =
    ap (λ (o : Option Node). option_and_then (with_value s.committed m.value) (option_map (asked (nodes_of s.ifr)) o)) e ∙ ap (with_value s.committed m.value) (sym own)

none_is_some : (end : State) → ◌≡◌ {A = Option State} None (Some end) → ⊥
none_is_some end h = cc

reply_some : (r : Reply) (s : State) (list : List Move) (end : State) → run_on (if is_accepted r then Some s else None) list ≡ Some end → (r ≡ Accepted) × (run s list ≡ Some end)
reply_some Accepted s list end e = (refl, e)
reply_some (Denied denial) s list end e = absurd (none_is_some end (sym (nothing_runs list) ∙ e))
reply_some (Refused cause) s list end e = absurd (none_is_some end (sym (nothing_runs list) ∙ e))

-- those that are run to their end are answered with OK
pub run_answers : (s : State) (list : List Move) (end : State) → run s list ≡ Some end → AreAnswered s list end
run_answers s [] end e = let same : end ≡ s = cc in same
run_answers s (m ∷ list) end e =
    let both = reply_some (step s (command m)).reply (step s (command m)).state list end e in
    (both.0, run_answers (step s (command m)).state list end both.1)

-- ---- a new run over other stores

pub same_answer : (a b : List ℕ) (r t : List ℕ) (stores : StoreMap) (n m : Node) → a ≡ b → r ≡ t → n ≡ m
    → unless (fixed (world_over (nodes_of a) r stores) n) ≡ unless (fixed (world_over (nodes_of b) t stores) m)
same_answer a b r t stores n m e f g =
    ap (λ (l : List ℕ). unless (fixed (world_over (nodes_of l) r stores) n)) e ∙ ap (λ (l : List ℕ). unless (fixed (world_over (nodes_of b) l stores) n)) f ∙ ap (λ (x : Node). unless (fixed (world_over (nodes_of b) t stores) x)) g

-- a field of a question has its bytes in the stores
pub has_range : (bytes : List ℕ) (id : ℕ) (q : Asked) (field : Field) (shape : Shape) → LieIn shape (questions (nodes_of bytes)) → IsFoundWith bytes id q → q.field ≡ Some field → HasRange shape field.store field.offset field.width
has_range bytes id q field shape lie found e =
    let lies : LiesIn shape (asked (nodes_of bytes) q.node) = question_lies shape bytes q.node lie found.node (with_id_asks (nodes_of bytes) id q.node found.with_id) in
    let own : LiesIn shape q = subst (λ (r : Asked). LiesIn shape r) (sym found.own) lies in
    own field e
