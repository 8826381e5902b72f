-- Commands and lines do what the chapters say.
use Rattle.std.proofs.Common.{◌≡◌, ◌==◌, ℕ, zero, suc, ◌+◌, ◌-◌, Bool, true, false, Option, Some, None, Result, Ok, Err, List, [], ◌∷◌, ◌++◌, length, map, refl, sym, ap, subst, ◌∙◌, arith, inl, inr}
use Rattle.std.specs.Prelude.{◌&&◌, if◌then◌else◌, not, nat_lt, Contains, filter, option_map, option_and_then, unwrap_or, is_none, is_some, slice_get, take}
use Rattle.std.specs.List.{find, flat_map}
use Rattle.std.specs.Option.{ok_or}
use Rattle.std.specs.Str.{bytes_eq}
use Rattle.std.proofs.lemmas.Bool.{cases_Bool, cond-false, cond-true, false≢true, ltb-true, ltb-false, ne_eqb}
use Rattle.browser_rules.specs.Nodes as rows
use Rattle.browser_rules.specs.Pages as pages
use Rattle.browser_rules.specs.Policy as policy
use Rattle.browser_rules.specs.Questions as questions
use Rattle.browser_rules.specs.Script as script
use Rattle.browser_rules.specs.Script.{Command, command_of, without_return}
use Rattle.browser_rules.specs.Session as chapter
use Rattle.browser_rules.specs.Opcodes.{field, REF, RESET_BUTTON}
use Rattle.browser_rules.specs.Stores as held
use Rattle.browser_rules.specs.Strings.{chosen}
use Rattle.hii_values.specs.Denials.{has_text}
use Rattle.hii_values.specs.declared.denial.DenialKind.{DenialKind}
use Rattle.rules_laws.specs.Denials.{kind_for}
use Rattle.browser_rules.specs.Words as words
use Rattle.browser_rules.specs.Words.{is_some_and}
use Rattle.hii_commands.specs.code.Reading.{command_in}
use Rattle.hii_commands.proofs.ReadingLemmas.{long_line, short_line}
use Rattle.ifr_opcodes.specs.Fields.{ref_target, reset_default}
use Rattle.ifr_opcodes.specs.Forest.{Node}
use Rattle.ifr_opcodes.specs.Opcode.{number}
use Rattle.ifr_opcodes.specs.declared.codes.TheConstants as numbers
use Rattle.ifr_nodes.specs.Nodes as node
use Rattle.ifr_nodes.specs.Nodes.{is_question, is_reference, nodes_of, statements}
use Rattle.ifr_nodes.specs.ReferenceFaults.{form_with}
use Rattle.ifr_scopes.proofs.FormPlaceLemmas.{found}
use Rattle.ifr_nodes.proofs.ViewLemmas.{further}
use Rattle.hii_varstore.specs.Layout.{Shape}
use Rattle.hii_varstore.specs.Stores.{Store, StoreMap, are_same_bytes, buffer_of, bytes_of, bytes_of_field, shape_of}
use Rattle.hii_varstore.specs.declared.buffer.Buffer.{Buffer}
use Rattle.hii_values.specs.Inputs.{Offer, whole, listed, utf8}
use Rattle.hii_values.specs.declared.denial.DenialKind.TheVariants.{DeepHistory, NoBack, NoQuestion, NoRow, NotButton, NotRef, Outside}
use Rattle.hii_questions.specs.Changes.{field_bytes}
use Rattle.hii_questions.specs.Fields.{Field, field_of, question_with}
use Rattle.hii_questions.proofs.FieldLemmas.{passing}
use Rattle.hii_questions.proofs.LawLemmas.{finds_questions}
use Rattle.guard_policy.specs.Policy.{denied_by, fixed, hidden, unsubmitted}
use Rattle.guard_policy.specs.declared.denial.Denial.{Denial}
use Rattle.form_page.specs.Pages.{listed_statements}
use Rattle.config_text.specs.Reading.{configuration_in}
use Rattle.config_text.specs.declared.kind.TextKind.TheVariants.{Ask, Tell}
use Rattle.session_steps.specs.State.{State, texts, world_of}
use Rattle.session_steps.specs.Step.{Outcome, accepted, changed, denied, denied_by_none, follow, form_of, go_back_to, go_to, go_unless_fixed, is_other, page_at, press_statement, press_unless_fixed, question_denial, row_of_form, set_question, show_form, show_unless_hidden, step, step_line, step_reading, step_text, line_cause, submit_unless, told_why, why_question}
use Rattle.session_steps.specs.Texts.{changed_text, count_text, ok_text}
use Rattle.hii_bytes.specs.Causes.{cause_for}
use Rattle.rules_laws.specs.Denials.{denial_for}
use Rattle.rules_laws.specs.laws.Questions.{field_for, offer_for}
use Rattle.session_laws.specs.laws.Session.{Stands, outcome_for, state_for}
use Rattle.rules_laws.specs.laws.Pages.{EachAnswersAlike}
use Rattle.rules_laws.specs.laws.Stores.{stores_for}
use Rattle.session_laws.proofs.ChangeLemmas.{Sets, set_same, sets, with_stored}
use Rattle.session_laws.proofs.SeenLemmas.{alike_now, committed_is, current_is, ifr_is, with_discarded, with_language, with_submitted, working_is}
use Rattle.session_laws.proofs.OutcomeLemmas.{shown_same, plain_denied, read_same, some_same, test_same, unless_same}
use Rattle.rules_laws.proofs.PageLemmas.{each_answers, page_same, rows_same}
use Rattle.rules_laws.proofs.PolicyLemmas.{fixed_same, hidden_same, inside_there, submission_same}
use Rattle.rules_laws.proofs.QuestionLemmas.{by_id_same, field_same, questions_same, read_same as bytes_read}
use Rattle.session_laws.proofs.RequestLemmas.{extract_same, extract_stands, route_same, route_stands}
use Rattle.session_laws.proofs.StoredLemmas.{either}
use Rattle.session_laws.proofs.TakenLemmas.{defaults_alike, defaults_stand, found_at, not_some, same_some}

-- ---- page

answers_now : (s : State) → Stands s → EachAnswersAlike (nodes_of s.ifr) (state_for s).working s.working
unfolding state_for
answers_now s stands = each_answers (nodes_of s.ifr) s.working stands.browsable.questions stands.working.laid

page_by : (s : State) (o : Option Node) → form_of s ≡ o → Stands s
    → unwrap_or (option_map (pages.page (chapter.texts (state_for s)) (chapter.now (state_for s))) o) [] ≡ page_at s o
page_by s None at stands = refl
page_by s (Some form) at stands =
    page_same (chapter.texts (state_for s)) (texts s) s.ifr (chapter.now (state_for s)) (world_of s) s.working form (λ id. ap (λ (shows : ℕ → List ℕ). shows id) (shown_same s)) (alike_now s stands)
    (answers_now s stands) (found_at (nodes_of s.ifr) s.form form at)

page_alike : (s : State) → Stands s → chapter.step (state_for s) script.Page ≡ outcome_for (step s script.Page)
page_alike s stands =
    ap (λ (o : Option Node). chapter.accepted (state_for s) (unwrap_or (option_map (pages.page (chapter.texts (state_for s)) (chapter.now (state_for s))) o) [])) (current_is s)
    ∙ ap (λ (text : List ℕ). chapter.accepted (state_for s) text) (page_by s (form_of s) refl stands)

-- ---- a question that is named

named_same : (s : State) (id : ℕ) → questions.question_with (chapter.nodes (state_for s)) id ≡ question_with (nodes_of s.ifr) id
unfolding state_for
named_same s id = by_id_same (nodes_of s.ifr) id

question_alike : (s : State) (id : ℕ) (next : Node → chapter.Outcome) (made : Option Node → Outcome) → made None ≡ denied s (denied_by_none NoQuestion)
    → ((q : Node) → Contains (nodes_of s.ifr) q → is_question q ≡ true → next q ≡ outcome_for (made (Some q)))
    → chapter.with_question (state_for s) id next ≡ outcome_for (made (question_with (nodes_of s.ifr) id))
question_alike s id next made none there =
    some_same s NoQuestion (questions.question_with (chapter.nodes (state_for s)) id) (question_with (nodes_of s.ifr) id) next made refl (named_same s id) none
    (λ q at. let h = finds_questions (nodes_of s.ifr) id q at in there q h.0 h.1)

set_alike : (s : State) (id : ℕ) (offer : Offer) → Stands s
    → chapter.with_question (state_for s) id (λ q. chapter.set (state_for s) q (offer_for offer)) ≡ outcome_for (set_question s (question_with (nodes_of s.ifr) id) offer)
set_alike s id offer stands =
    question_alike s id (λ q. chapter.set (state_for s) q (offer_for offer)) (λ o. set_question s o offer) refl (λ q within is. set_same s q offer stands within is)

fixed_now : (s : State) (n : Node) → Stands s → Contains (nodes_of s.ifr) n → policy.fixed_by (chapter.now (state_for s)) n ≡ option_map denial_for (fixed (world_of s) n)
fixed_now s n stands within = fixed_same s.ifr (chapter.now (state_for s)) (world_of s) n (alike_now s stands) within

-- what is free, or denied by what fixes it
free_alike : (s : State) (n : Node) (next : chapter.Outcome) (made : Option Denial → Outcome) → Stands s → Contains (nodes_of s.ifr) n → ((d : Denial) → made (Some d) ≡ denied s d)
    → next ≡ outcome_for (made None) → chapter.unless (state_for s) (policy.fixed_by (chapter.now (state_for s)) n) next ≡ outcome_for (made (fixed (world_of s) n))
free_alike s n next made stands within told free = unless_same s (policy.fixed_by (chapter.now (state_for s)) n) (fixed (world_of s) n) next made (fixed_now s n stands within) told free

why_alike : (s : State) (id : ℕ) → Stands s → chapter.step (state_for s) (script.Why id) ≡ outcome_for (step s (script.Why id))
why_alike s id stands =
    question_alike s id (λ q. chapter.unless (state_for s) (policy.fixed_by (chapter.now (state_for s)) q) (chapter.ok (state_for s))) (why_question s) refl
    (λ q within is. free_alike s q (chapter.ok (state_for s)) (told_why s) stands within (λ d. refl) refl)

-- ---- go and back

room_same : (s : State) → nat_lt (length (state_for s).history) 32 ≡ nat_lt (length s.history) 32
unfolding state_for
room_same s = refl

entered : (s : State) (form : Node) → (let t = state_for s in record t { form = form.place; history = t.history ++ t.form ∷ [] }) ≡ state_for (record s { form = form.place; history = s.history ++ s.form ∷ [] })
unfolding state_for
entered s form = refl

abbrev chapter_show : State → Node → chapter.Outcome
chapter_show s form = chapter.ok (let t = state_for s in record t { form = form.place; history = t.history ++ t.form ∷ [] })

show_alike : (s : State) (form : Node) → (if nat_lt (length (state_for s).history) 32 then chapter_show s form else chapter.denied_by_none (state_for s) questions.DeepHistory) ≡ outcome_for (show_form s form)
show_alike s form =
    ap (λ (room : Bool). if room then chapter_show s form else chapter.denied_by_none (state_for s) questions.DeepHistory) (room_same s)
    ∙ test_same (nat_lt (length s.history) 32) (chapter_show s form) (chapter.denied_by_none (state_for s) questions.DeepHistory) (accepted (record s { form = form.place; history = s.history ++ s.form ∷ [] }) ok_text)
    (denied s (denied_by_none DeepHistory)) (λ is. ap (λ (t : chapter.State). chapter.ok t) (entered s form)) (λ other. plain_denied s DeepHistory 0 refl)

enter_alike : (s : State) (form : Node) → Stands s → Contains (nodes_of s.ifr) form → chapter.enter (state_for s) form ≡ outcome_for (show_unless_hidden s form (hidden (world_of s) form))
enter_alike s form stands within =
    unless_same s (policy.hidden_by (chapter.now (state_for s)) form) (hidden (world_of s) form)
    (if nat_lt (length (state_for s).history) 32 then chapter_show s form else chapter.denied_by_none (state_for s) questions.DeepHistory) (show_unless_hidden s form)
    (hidden_same s.ifr (chapter.now (state_for s)) (world_of s) form (alike_now s stands) within) (λ d. refl) (show_alike s form)

target_alike : (s : State) (q : Node) (o : Option Node) → Stands s → ((form : Node) → o ≡ Some form → Contains (nodes_of s.ifr) form)
    → unwrap_or (option_map (chapter.enter (state_for s)) o) (chapter.denied (state_for s) (policy.denied_by questions.Outside q)) ≡ outcome_for (go_to s q o)
target_alike s q None stands there = plain_denied s Outside q.place refl
target_alike s q (Some form) stands there = enter_alike s form stands (there form refl)

target_there : (ns : List Node) (o : Option ℕ) (form : Node) → option_and_then (form_with ns) o ≡ Some form → Contains ns form
target_there ns None form at = not_some form at
target_there ns (Some id) form at = (found _ ns form at).0

target_same : (s : State) (q : Node) → option_and_then (rows.form_with (chapter.nodes (state_for s))) (rows.ref_target q) ≡ option_and_then (form_with (nodes_of s.ifr)) (ref_target q.op)
unfolding state_for
target_same s q = refl

leads_alike : (s : State) (q : Node) → Stands s
    → unwrap_or (option_map (chapter.enter (state_for s)) (option_and_then (rows.form_with (chapter.nodes (state_for s))) (rows.ref_target q))) (chapter.denied (state_for s) (policy.denied_by questions.Outside q))
    ≡ outcome_for (go_to s q (option_and_then (form_with (nodes_of s.ifr)) (ref_target q.op)))
leads_alike s q stands =
    ap (λ (o : Option Node). unwrap_or (option_map (chapter.enter (state_for s)) o) (chapter.denied (state_for s) (policy.denied_by questions.Outside q))) (target_same s q)
    ∙ target_alike s q (option_and_then (form_with (nodes_of s.ifr)) (ref_target q.op)) stands (target_there (nodes_of s.ifr) (ref_target q.op))

-- what is carried out where a test holds, and denied else
where_alike : (s : State) (is : Bool) (kind : DenialKind) (place : ℕ) (next : chapter.Outcome) (made : Outcome) → has_text kind ≡ false → next ≡ outcome_for made
    → (if not is then chapter.denied (state_for s) (record { kind = kind_for kind; place = place; message = None }) else next) ≡ outcome_for (if is then made else denied s (record { kind = kind; place = place; message = 0 }))
where_alike s true kind place next made plain same = same
where_alike s false kind place next made plain same = plain_denied s kind place plain

is_reference_same : (q : Node) → rows.is REF q ≡ is_reference q
is_reference_same q = refl

go_question : (s : State) (q : Node) → Stands s → Contains (nodes_of s.ifr) q → chapter.go (state_for s) q ≡ outcome_for (follow s (Some q))
go_question s q stands within =
    ap (λ (is : Bool). if not is then chapter.denied (state_for s) (policy.denied_by questions.NotRef q) else chapter_led) (is_reference_same q)
    ∙ where_alike s (is_reference q) NotRef q.place chapter_led (go_unless_fixed s q (fixed (world_of s) q)) refl
    (free_alike s q chapter_to (go_unless_fixed s q) stands within (λ d. refl) (leads_alike s q stands))
  where
    chapter_to : chapter.Outcome
    chapter_to = unwrap_or (option_map (chapter.enter (state_for s)) (option_and_then (rows.form_with (chapter.nodes (state_for s))) (rows.ref_target q))) (chapter.denied (state_for s) (policy.denied_by questions.Outside q))

    chapter_led : chapter.Outcome
    chapter_led = chapter.unless (state_for s) (policy.fixed_by (chapter.now (state_for s)) q) chapter_to

go_alike : (s : State) (id : ℕ) → Stands s → chapter.step (state_for s) (script.Go id) ≡ outcome_for (step s (script.Go id))
go_alike s id stands = question_alike s id (chapter.go (state_for s)) (follow s) refl (λ q within is. go_question s q stands within)

last_same : (s : State) → slice_get (state_for s).history (length (state_for s).history - 1) ≡ slice_get s.history (length s.history - 1)
unfolding state_for
last_same s = refl

left : (s : State) (place : ℕ) → (let t = state_for s in record t { form = place; history = take (length t.history - 1) t.history }) ≡ state_for (record s { form = place; history = take (length s.history - 1) s.history })
unfolding state_for
left s place = refl

back_alike : (s : State) → chapter.step (state_for s) script.Back ≡ outcome_for (step s script.Back)
back_alike s =
    some_same s NoBack (slice_get (state_for s).history (length (state_for s).history - 1)) (slice_get s.history (length s.history - 1))
    (λ place. chapter.ok (let t = state_for s in record t { form = place; history = take (length t.history - 1) t.history })) (go_back_to s) refl (last_same s) refl
    (λ place at. ap (λ (t : chapter.State). chapter.ok t) (left s place))

-- ---- press

row_by : (s : State) (row : ℕ) (o : Option Node) → form_of s ≡ o → Stands s
    → (if row == 0 then None else option_and_then (λ form. slice_get (pages.rows_of (chapter.now (state_for s)) form) (row - 1)) o) ≡ row_of_form s row o
row_by s row None at stands = elim (cases_Bool (row == 0)) [ inl is ↦ rw is refl | inr other ↦ rw other refl ]
row_by s row (Some form) at stands =
    ap (λ (ns : List Node). if row == 0 then None else slice_get ns (row - 1)) (rows_same s.ifr (chapter.now (state_for s)) (world_of s) form (alike_now s stands) (found_at (nodes_of s.ifr) s.form form at))

pub row_same : (s : State) (row : ℕ) → Stands s → chapter.row_at (state_for s) row ≡ row_of_form s row (form_of s)
row_same s row stands =
    ap (λ (o : Option Node). if row == 0 then None else option_and_then (λ form. slice_get (pages.rows_of (chapter.now (state_for s)) form) (row - 1)) o) (current_is s)
    ∙ row_by s row (form_of s) refl stands

got : {X : Type 0} (xs : List X) (k : ℕ) (x : X) → slice_get xs k ≡ Some x → Contains xs x
got [] k x at = not_some x at
got (y ∷ xs) zero x at = (0, omega arith, same_some y x at)
got (y ∷ xs) (suc k) x at = further y xs x (got xs k x at)

row_there : (s : State) (row : ℕ) (o : Option Node) (n : Node) → form_of s ≡ o → row_of_form s row o ≡ Some n → Contains (nodes_of s.ifr) n
row_there s row None n at told = not_some n told
row_there s row (Some form) n at told = elim (cases_Bool (row == 0)) [
  | inl none ↦ not_some n (sym (cond-true (row == 0) None (slice_get (listed_statements (world_of s) form) (row - 1)) none) ∙ told)
  | inr some ↦
      let there = got (listed_statements (world_of s) form) (row - 1) n (sym (cond-false (row == 0) None (slice_get (listed_statements (world_of s) form) (row - 1)) some) ∙ told) in
      (inside_there s.ifr node.is_statement form n (found_at (nodes_of s.ifr) s.form form at) (passing (λ (m : Node). is_none (hidden (world_of s) m)) (statements form) n there).0).0
]

is_button_same : (n : Node) → rows.is RESET_BUTTON n ≡ (number n.op == numbers.RESET_BUTTON)
is_button_same n = refl

class_same : (n : Node) → field RESET_BUTTON "DefaultId" n.op ≡ reset_default n.op
class_same n = refl

press_button : (s : State) (n : Node) → Stands s → Contains (nodes_of s.ifr) n
    → (if not (rows.is RESET_BUTTON n) then chapter.denied (state_for s) (policy.denied_by questions.NotButton n)
    else chapter.unless (state_for s) (policy.fixed_by (chapter.now (state_for s)) n) (chapter.defaults (state_for s) (field RESET_BUTTON "DefaultId" n.op)))
    ≡ outcome_for (press_statement s (Some n))
press_button s n stands within =
    ap (λ (is : Bool). if not is then chapter.denied (state_for s) (policy.denied_by questions.NotButton n) else pressed) (is_button_same n)
    ∙ where_alike s (number n.op == numbers.RESET_BUTTON) NotButton n.place pressed (press_unless_fixed s n (fixed (world_of s) n)) refl
    (free_alike s n (chapter.defaults (state_for s) (field RESET_BUTTON "DefaultId" n.op)) (press_unless_fixed s n) stands within (λ d. refl)
    (ap (chapter.defaults (state_for s)) (class_same n) ∙ defaults_alike s (reset_default n.op) stands))
  where
    pressed : chapter.Outcome
    pressed = chapter.unless (state_for s) (policy.fixed_by (chapter.now (state_for s)) n) (chapter.defaults (state_for s) (field RESET_BUTTON "DefaultId" n.op))

press_alike : (s : State) (row : ℕ) → Stands s → chapter.step (state_for s) (script.Press row) ≡ outcome_for (step s (script.Press row))
press_alike s row stands =
    some_same s NoRow (chapter.row_at (state_for s) row) (row_of_form s row (form_of s))
    (λ button. if not (rows.is RESET_BUTTON button) then chapter.denied (state_for s) (policy.denied_by questions.NotButton button)
    else chapter.unless (state_for s) (policy.fixed_by (chapter.now (state_for s)) button) (chapter.defaults (state_for s) (field RESET_BUTTON "DefaultId" button.op)))
    (press_statement s) refl (row_same s row stands) refl
    (λ n at. press_button s n stands (row_there s row (form_of s) n refl at))

-- ---- submit

filtered : {X : Type 0} (p q r : X → Bool) (xs : List X) → ((x : X) → q x ≡ r x) → filter q (filter p xs) ≡ filter (λ x. p x && r x) xs
filtered p q r [] same = refl
filtered {X = X} p q r (x ∷ xs) same = elim (cases_Bool (p x)) [
  | inl is ↦ rw is (ap (λ (b : Bool). if b then x ∷ filter q (filter p xs) else filter q (filter p xs)) (same x) ∙ ap (λ (l : List X). if r x then x ∷ l else l) (filtered p q r xs same))
  | inr other ↦ rw other (filtered p q r xs same)
]

held_same : (o p : Option (List ℕ)) → is_some o ≡ is_some p → not (bytes_eq (unwrap_or o []) (unwrap_or p [])) ≡ not (are_same_bytes o p)
held_same None None same = refl
held_same None (Some ys) same = absurd (false≢true same)
held_same (Some xs) None same = absurd (false≢true (sym same))
held_same (Some xs) (Some ys) same = refl

mapped_some : {X Y : Type 0} (f : X → Y) (o : Option X) → is_some (option_map f o) ≡ is_some o
mapped_some f None = refl
mapped_some f (Some x) = refl

store_there : (ss : List Store) (id : ℕ) → is_some (find (λ (s : Store). s.id == id) ss) ≡ is_some (find (λ (b : Buffer). b.id == id) (map buffer_of ss))
store_there [] id = refl
store_there (s ∷ ss) id = elim (cases_Bool (s.id == id)) [
  | inl here ↦ rw here refl
  | inr other ↦ rw other (store_there ss id)
]

field_there : (m : StoreMap) (id offset width : ℕ) → is_some (bytes_of_field m id offset width) ≡ is_some (find (λ (b : Buffer). b.id == id) (shape_of m).buffers)
field_there m id offset width = mapped_some _ (bytes_of m id) ∙ mapped_some (λ (s : Store). s.bytes) (find (λ (s : Store). s.id == id) m.stores) ∙ store_there m.stores id

-- what another question holds by the chapters, over stores and nodes
abbrev chapter_other : List Node → held.Stores → held.Stores → Node → Bool
chapter_other ns committed working q =
    is_some_and (λ f. not (bytes_eq (unwrap_or (questions.field_bytes committed f) []) (unwrap_or (questions.field_bytes working f) []))) (questions.field_of ns q)

other_same : (s : State) (q : Node) → Stands s → chapter_other (nodes_of s.ifr) (stores_for s.committed) (stores_for s.working) q ≡ is_other s q
other_same s q stands = ap (is_some_and test) (field_same (nodes_of s.ifr) q) ∙ of_field (field_of (nodes_of s.ifr) q)
  where
    test : questions.Field → Bool
    test f = not (bytes_eq (unwrap_or (questions.field_bytes (stores_for s.committed) f) []) (unwrap_or (questions.field_bytes (stores_for s.working) f) []))

    of_field : (o : Option Field) → is_some_and test (option_map field_for o) ≡ not (are_same_bytes (field_bytes s.committed o) (field_bytes s.working o))
    of_field None = refl
    of_field (Some f) =
        ap (λ (held : Option (List ℕ)). not (bytes_eq (unwrap_or held []) (unwrap_or (questions.field_bytes (stores_for s.working) (field_for f)) []))) (bytes_read s.committed (Some f))
        ∙ ap (λ (held : Option (List ℕ)). not (bytes_eq (unwrap_or (field_bytes s.committed (Some f)) []) (unwrap_or held []))) (bytes_read s.working (Some f))
        ∙ held_same (field_bytes s.committed (Some f)) (field_bytes s.working (Some f))
        (field_there s.committed f.store f.offset f.width
        ∙ ap (λ (shape : Shape). is_some (find (λ (b : Buffer). b.id == f.store) shape.buffers)) (stands.committed.laid ∙ sym stands.working.laid)
        ∙ sym (field_there s.working f.store f.offset f.width))

changed_by : (s : State) (ns : List Node) (committed working : held.Stores) → Stands s → ns ≡ nodes_of s.ifr → committed ≡ stores_for s.committed → working ≡ stores_for s.working
    → filter (chapter_other ns committed working) (questions.questions ns) ≡ changed s
changed_by s ns committed working stands nodes first second =
    rw (nodes, first, second)
    (ap (filter (chapter_other (nodes_of s.ifr) (stores_for s.committed) (stores_for s.working))) (questions_same (nodes_of s.ifr))
    ∙ filtered is_question (chapter_other (nodes_of s.ifr) (stores_for s.committed) (stores_for s.working)) (is_other s) (nodes_of s.ifr) (λ q. other_same s q stands))

changed_same : (s : State) → Stands s → filter (chapter.is_changed (state_for s)) (questions.questions (chapter.nodes (state_for s))) ≡ changed s
changed_same s stands = changed_by s (chapter.nodes (state_for s)) (state_for s).committed (state_for s).working stands (ap nodes_of (ifr_is s)) (committed_is s) (working_is s)

abbrev submitted_text : List Node → List ℕ
submitted_text qs = count_text (length qs) ++ flat_map (λ n. changed_text (rows.question_id n)) qs

submit_alike : (s : State) → Stands s → chapter.step (state_for s) script.Submit ≡ outcome_for (step s script.Submit)
submit_alike s stands =
    unless_same s (policy.submission_denied_by (chapter.now (state_for s))) (unsubmitted (world_of s))
    (chapter.accepted (let t = state_for s in record t { committed = t.working }) (submitted_text (filter (chapter.is_changed (state_for s)) (questions.questions (chapter.nodes (state_for s))))))
    (submit_unless s) (submission_same s.ifr (chapter.now (state_for s)) (world_of s) (alike_now s stands)) (λ d. refl)
    (ap (λ (qs : List Node). chapter.accepted (let t = state_for s in record t { committed = t.working }) (submitted_text qs)) (changed_same s stands)
    ∙ ap (λ (t : chapter.State). chapter.accepted t (submitted_text (changed s))) (with_submitted s))

-- ---- a command

lang_alike : (s : State) (language : List ℕ) → chapter.step (state_for s) (script.Lang language) ≡ outcome_for (step s (script.Lang language))
unfolding state_for
lang_alike s language = ap (λ (t : chapter.State). chapter.ok t) (with_language s (chosen s.spoken language))

discard_alike : (s : State) → chapter.step (state_for s) script.Discard ≡ outcome_for (step s script.Discard)
discard_alike s = ap (λ (t : chapter.State). chapter.ok t) (with_discarded s)

pub step_alike : (s : State) (command : Command) → Stands s → chapter.step (state_for s) command ≡ outcome_for (step s command)
step_alike s script.Page stands = page_alike s stands
step_alike s (script.Set id n) stands = set_alike s id (whole n) stands
step_alike s (script.Order id ns) stands = set_alike s id (listed ns) stands
step_alike s (script.Text id text) stands = set_alike s id (utf8 text) stands
step_alike s (script.Go id) stands = go_alike s id stands
step_alike s script.Back stands = back_alike s
step_alike s (script.Press row) stands = press_alike s row stands
step_alike s (script.Defaults class) stands = defaults_alike s class stands
step_alike s (script.Why id) stands = why_alike s id stands
step_alike s (script.Lang language) stands = lang_alike s language
step_alike s script.Submit stands = submit_alike s stands
step_alike s script.Discard stands = discard_alike s
step_alike s (script.Extract text) stands = extract_same s text
step_alike s (script.Route text) stands = route_same s text stands

-- ---- a session stands behind it

set_stands : (s : State) (offer : Offer) (o : Option Node) → Stands s → Stands (set_question s o offer).state
set_stands s offer None stands = stands
set_stands s offer (Some q) stands = of_set (sets s q offer stands)
  where
    of_set : Sets s (set_question s (Some q) offer) → Stands (set_question s (Some q) offer).state
    of_set (inl (d, is)) = subst (λ (o : Outcome). Stands o.state) (sym is) stands
    of_set (inr (m, text, is, stored)) = subst (λ (o : Outcome). Stands o.state) (sym is) (with_stored s m stands stored)

-- the same in another form
moved : (s : State) (form : ℕ) (history : List ℕ) → Stands s → Stands (record s { form = form; history = history })
moved s form history stands = record { browsable = stands.browsable; are_bytes = stands.are_bytes; committed = stands.committed; working = stands.working }

why_stands : (s : State) (o : Option Denial) → Stands s → Stands (told_why s o).state
why_stands s None stands = stands
why_stands s (Some d) stands = stands

hidden_stands : (s : State) (form : Node) (o : Option Denial) → Stands s → Stands (show_unless_hidden s form o).state
hidden_stands s form (Some d) stands = stands
hidden_stands s form None stands =
    either (λ (o : Outcome). Stands o.state) (nat_lt (length s.history) 32) (accepted (record s { form = form.place; history = s.history ++ s.form ∷ [] }) ok_text) (denied s (denied_by_none DeepHistory))
    (moved s form.place (s.history ++ s.form ∷ []) stands) stands

to_stands : (s : State) (q : Node) (o : Option Node) → Stands s → Stands (go_to s q o).state
to_stands s q None stands = stands
to_stands s q (Some form) stands = hidden_stands s form (hidden (world_of s) form) stands

unfixed_stands : (s : State) (q : Node) (o : Option Denial) → Stands s → Stands (go_unless_fixed s q o).state
unfixed_stands s q (Some d) stands = stands
unfixed_stands s q None stands = to_stands s q (option_and_then (form_with (nodes_of s.ifr)) (ref_target q.op)) stands

follow_stands : (s : State) (o : Option Node) → Stands s → Stands (follow s o).state
follow_stands s None stands = stands
follow_stands s (Some q) stands =
    either (λ (o : Outcome). Stands o.state) (is_reference q) (go_unless_fixed s q (fixed (world_of s) q)) (denied s (denied_by NotRef q)) (unfixed_stands s q (fixed (world_of s) q) stands) stands

back_stands : (s : State) (o : Option ℕ) → Stands s → Stands (go_back_to s o).state
back_stands s None stands = stands
back_stands s (Some place) stands = moved s place _ stands

pressed_stands : (s : State) (n : Node) (o : Option Denial) → Stands s → Stands (press_unless_fixed s n o).state
pressed_stands s n (Some d) stands = stands
pressed_stands s n None stands = defaults_stand s (reset_default n.op) stands

press_stands : (s : State) (o : Option Node) → Stands s → Stands (press_statement s o).state
press_stands s None stands = stands
press_stands s (Some n) stands =
    either (λ (o : Outcome). Stands o.state) (number n.op == numbers.RESET_BUTTON) (press_unless_fixed s n (fixed (world_of s) n)) (denied s (denied_by NotButton n)) (pressed_stands s n (fixed (world_of s) n) stands) stands

submit_stands : (s : State) (o : Option Denial) → Stands s → Stands (submit_unless s o).state
submit_stands s (Some d) stands = stands
submit_stands s None stands = record { browsable = stands.browsable; are_bytes = stands.are_bytes; committed = stands.working; working = stands.working }

pub step_stands : (s : State) (command : Command) → Stands s → Stands (step s command).state
step_stands s script.Page stands = stands
step_stands s (script.Set id n) stands = set_stands s (whole n) (question_with (nodes_of s.ifr) id) stands
step_stands s (script.Order id ns) stands = set_stands s (listed ns) (question_with (nodes_of s.ifr) id) stands
step_stands s (script.Text id text) stands = set_stands s (utf8 text) (question_with (nodes_of s.ifr) id) stands
step_stands s (script.Go id) stands = follow_stands s (question_with (nodes_of s.ifr) id) stands
step_stands s script.Back stands = back_stands s (slice_get s.history (length s.history - 1)) stands
step_stands s (script.Press row) stands = press_stands s (row_of_form s row (form_of s)) stands
step_stands s (script.Defaults class) stands = defaults_stand s class stands
step_stands s (script.Why id) stands = why_stands s (question_denial s (question_with (nodes_of s.ifr) id)) stands
step_stands s (script.Lang language) stands = record { browsable = stands.browsable; are_bytes = stands.are_bytes; committed = stands.committed; working = stands.working }
step_stands s script.Submit stands = submit_stands s (unsubmitted (world_of s)) stands
step_stands s script.Discard stands = record { browsable = stands.browsable; are_bytes = stands.are_bytes; committed = stands.committed; working = stands.committed }
step_stands s (script.Extract text) stands = extract_stands s (configuration_in Ask text) stands
step_stands s (script.Route text) stands = route_stands s (configuration_in Tell text) stands

-- ---- a line

cause_back : (told cause : words.Cause) → ◌≡◌ {A = Result Command words.Cause} (Err told) (Err cause) → cause_for (line_cause told) ≡ told → cause_for (line_cause cause) ≡ cause
cause_back told cause same back = let e : told ≡ cause = cc in subst (λ (c : words.Cause). cause_for (line_cause c) ≡ c) e back

read_back : (o : Option Command) (cause : words.Cause) → ok_or o words.BadCommand ≡ Err cause → cause_for (line_cause cause) ≡ cause
read_back None cause same = cause_back words.BadCommand cause same refl
read_back (Some command) cause same = let bad : ◌≡◌ {A = Result Command words.Cause} (Ok command) (Err cause) = same in absurd (cc)

told_back : (line : List ℕ) (cause : words.Cause) → command_of line ≡ Err cause → cause_for (line_cause cause) ≡ cause
told_back line cause at = elim (cases_Bool (nat_lt 4096 (length line))) [
  | inl long ↦ cause_back words.LineTooLong cause (sym (long_line line (ltb-true 4096 (length line) long)) ∙ at) refl
  | inr short ↦ read_back (command_in (without_return line)) cause (short_line line (ltb-false 4096 (length line) short) ∙ at)
]

text_alike : (s : State) (line text : List ℕ) → Stands s
    → (if length text == 0 then chapter.accepted (state_for s) [] else chapter.with_read (state_for s) (command_of line) (chapter.step (state_for s))) ≡ outcome_for (step_text s line text)
text_alike s line [] stands = refl
text_alike s line (b ∷ bytes) stands =
    cond-false (length (b ∷ bytes) == 0) (chapter.accepted (state_for s) []) (chapter.with_read (state_for s) (command_of line) (chapter.step (state_for s))) (ne_eqb (length (b ∷ bytes)) 0 (λ e. omega (arith, e)))
    ∙ read_same s (command_of line) (chapter.step (state_for s)) line_cause (step_reading s) (told_back line) (λ cause. refl) (λ command at. step_alike s command stands)

pub line_alike : (s : State) (line : List ℕ) → Stands s → chapter.step_line (state_for s) line ≡ outcome_for (step_line s line)
line_alike s line stands = text_alike s line (without_return line) stands

pub line_stands : (s : State) (line : List ℕ) → Stands s → Stands (step_line s line).state
line_stands s line stands = of_text (without_return line)
  where
    of_command : (r : Result Command words.Cause) → Stands (step_reading s r).state
    of_command (Ok command) = step_stands s command stands
    of_command (Err cause) = stands

    of_text : (text : List ℕ) → Stands (step_text s line text).state
    of_text [] = stands
    of_text (b ∷ bytes) = of_command (command_of line)
