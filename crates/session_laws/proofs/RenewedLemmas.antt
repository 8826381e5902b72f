-- How many kept conditions commands and lines evaluate anew is what the chapters say.
use Rattle.std.proofs.Common.{◌≡◌, ◌==◌, ℕ, ◌-◌, ◌^◌, Bool, true, false, Option, Some, None, Result, Ok, Err, List, [], ◌∷◌, ◌++◌, length, refl, sym, ap, subst, ◌∙◌, arith, inl, inr, append_assoc}
use Rattle.std.specs.Prelude.{if◌then◌else◌, count_by, filter, min, option_map, unwrap_or}
use Rattle.std.specs.List.{flat_map, sum_by}
use Rattle.std.proofs.Math.Path.{fun_ext}
use Rattle.std.proofs.lemmas.Bool.{ne_eqb}
use Rattle.std.proofs.lemmas.List.{append-nil}
use Rattle.browser_rules.specs.Configuration.{Block, Header, response_in}
use Rattle.browser_rules.specs.Questions as questions
use Rattle.browser_rules.specs.Renewed as chapter
use Rattle.browser_rules.specs.Script as script
use Rattle.browser_rules.specs.Script.{Command, command_of, without_return}
use Rattle.browser_rules.specs.Session as session
use Rattle.browser_rules.specs.Words as words
use Rattle.ifr_opcodes.specs.Fields.{reset_default}
use Rattle.ifr_opcodes.specs.Forest.{Node}
use Rattle.ifr_nodes.specs.Nodes.{nodes_of}
use Rattle.hii_varstore.specs.Stores.{StoreMap}
use Rattle.hii_values.specs.Types.{is_password}
use Rattle.hii_values.specs.Inputs as inputs
use Rattle.hii_values.specs.declared.denial.DenialKind.TheVariants.{Password}
use Rattle.hii_questions.specs.Fields.{Field, field_of, question_with}
use Rattle.guard_policy.specs.Conditions.{is_kept}
use Rattle.guard_policy.specs.Policy.{denied_by}
use Rattle.kept_conditions.specs.Touching.{difference}
use Rattle.config_text.specs.Reading.{as_told}
use Rattle.session_steps.specs.Configuration.{block_bytes, block_field, question_of_field, store_named}
use Rattle.session_steps.specs.Renewed.{Blocks, Shown, Write, and_back, and_then, field_write, field_writes, named_if, pressed_if, renewed_by, renewed_text, response_writes, route_writes, shown_line, write_of, writes_of, written_by}
use Rattle.session_steps.specs.State.{State, world_of}
use Rattle.session_steps.specs.Step.{Outcome, denied, form_of, go_on, row_of_form, set_block, set_blocks, set_field, set_question, step, taken}
use Rattle.session_steps.specs.Texts.{count_text}
use Rattle.session_steps.specs.declared.reply.Reply.{Reply}
use Rattle.session_steps.specs.declared.reply.Reply.TheVariants.{Accepted, Denied, Refused}
use Rattle.session_laws.specs.Replies.{reply_for}
use Rattle.session_laws.specs.laws.Session.{AreStored, Stands, outcome_for, state_for}
use Rattle.rules_laws.specs.laws.Questions.{field_for}
use Rattle.rules_laws.specs.laws.Stores.{stores_for}
use Rattle.rules_laws.proofs.NodeLemmas.{same_flat}
use Rattle.rules_laws.proofs.QuestionLemmas.{by_id_same, field_same}
use Rattle.session_laws.proofs.ChangeLemmas.{Sets, sets, with_stored}
use Rattle.session_laws.proofs.RequestLemmas.{block_same, question_same, store_same}
use Rattle.session_laws.proofs.SessionLemmas.{row_same, step_alike}
use Rattle.session_laws.proofs.TakenLemmas.{takes, with}
use Rattle.session_laws.proofs.TouchLemmas.{difference_same, range_same, renewals_same}

-- ---- the field of a question

abbrev chapter_write : List Node → Node → List Write
chapter_write ns q = unwrap_or (option_map (λ f. chapter.of_field f ∷ []) (questions.field_of ns q)) []

write_same : (ns : List Node) (q : Node) → chapter_write ns q ≡ field_write ns q
write_same ns q = ap (λ (o : Option questions.Field). unwrap_or (option_map (λ f. chapter.of_field f ∷ []) o) []) (field_same ns q) ∙ of_field (field_of ns q)
  where
    of_field : (o : Option Field) → unwrap_or (option_map (λ f. chapter.of_field f ∷ []) (option_map field_for o)) [] ≡ write_of o
    of_field None = refl
    of_field (Some f) = ap (λ (write : Write). write ∷ []) (range_same f)

-- ---- set, order and text

named_writes : (ns : List Node) (o : Option Node) (r : Reply) → chapter.writes_if (reply_for r) (unwrap_or (option_map (chapter_write ns) o) []) ≡ field_writes ns (named_if o r)
named_writes ns None Accepted = refl
named_writes ns None (Denied d) = refl
named_writes ns None (Refused cause) = refl
named_writes ns (Some q) Accepted = write_same ns q ∙ sym (append-nil (field_write ns q))
named_writes ns (Some q) (Denied d) = refl
named_writes ns (Some q) (Refused cause) = refl

set_writes : (s : State) (id : ℕ) (told : session.Outcome) (o : Outcome) → told ≡ outcome_for o
    → chapter.writes_if told.reply (unwrap_or (option_map (chapter_write (nodes_of s.ifr)) (questions.question_with (nodes_of s.ifr) id)) [])
    ≡ field_writes (nodes_of s.ifr) (named_if (question_with (nodes_of s.ifr) id) o.reply)
set_writes s id told o same =
    ap (λ (t : session.Outcome). chapter.writes_if t.reply (unwrap_or (option_map (chapter_write (nodes_of s.ifr)) (questions.question_with (nodes_of s.ifr) id)) [])) same
    ∙ ap (λ (q : Option Node). chapter.writes_if (reply_for o.reply) (unwrap_or (option_map (chapter_write (nodes_of s.ifr)) q) [])) (by_id_same (nodes_of s.ifr) id)
    ∙ named_writes (nodes_of s.ifr) (question_with (nodes_of s.ifr) id) o.reply

-- ---- defaults and press

defaults_writes : (s : State) (class : ℕ) → Stands s → chapter.of_defaults (state_for s) class ≡ field_writes (nodes_of s.ifr) (taken s class).questions
unfolding state_for
defaults_writes s class stands =
    ap (λ (told : session.State × List Node). flat_map (chapter_write (nodes_of s.ifr)) told.1) (takes s class stands).4
    ∙ same_flat (chapter_write (nodes_of s.ifr)) (field_write (nodes_of s.ifr)) (taken s class).questions (write_same (nodes_of s.ifr))

abbrev chapter_pressed : State → Option Node → List Write
chapter_pressed s o = unwrap_or (option_map (λ button. chapter.of_defaults (state_for s) (reset_default button.op)) o) []

pressed_writes : (s : State) (o : Option Node) (r : Reply) → Stands s → chapter.writes_if (reply_for r) (chapter_pressed s o) ≡ field_writes (nodes_of s.ifr) (pressed_if s o r)
pressed_writes s None Accepted stands = refl
pressed_writes s None (Denied d) stands = refl
pressed_writes s None (Refused cause) stands = refl
pressed_writes s (Some button) Accepted stands = defaults_writes s (reset_default button.op) stands
pressed_writes s (Some button) (Denied d) stands = refl
pressed_writes s (Some button) (Refused cause) stands = refl

press_writes : (s : State) (row : ℕ) (told : session.Outcome) (o : Outcome) → Stands s → told ≡ outcome_for o
    → chapter.writes_if told.reply (chapter_pressed s (session.row_at (state_for s) row)) ≡ field_writes (nodes_of s.ifr) (pressed_if s (row_of_form s row (form_of s)) o.reply)
unfolding state_for
press_writes s row told o stands same =
    ap (λ (t : session.Outcome). chapter.writes_if t.reply (chapter_pressed s (session.row_at (state_for s) row))) same
    ∙ ap (λ (button : Option Node). chapter.writes_if (reply_for o.reply) (chapter_pressed s button)) (row_same s row stands)
    ∙ pressed_writes s (row_of_form s row (form_of s)) o.reply stands

-- ---- route: blocks over stores that those before them have left

abbrev chapter_block : State → State → Option Node → session.Outcome → List Write → List Write
chapter_block s t q told others = chapter.of_block (state_for s) (state_for t) (unwrap_or (option_map (chapter_write (nodes_of s.ifr)) q) []) others told.reply

-- what a question writes that takes its block, by what later blocks write
taken_back : (s t : State) (q : Node) (later : Blocks) (r : Reply) → chapter_write (nodes_of t.ifr) q ++ and_back s later r ≡ and_back s (and_then t (Some q) Accepted later) r
taken_back s t q later Accepted = ap (λ (writes : List Write). writes ++ later.writes) (write_same (nodes_of t.ifr) q)
taken_back s t q later (Denied d) =
    ap (λ (writes : List Write). writes ++ (later.writes ++ difference later.state.working s.working ∷ [])) (write_same (nodes_of t.ifr) q)
    ∙ sym (append_assoc (field_write (nodes_of t.ifr) q) later.writes (difference later.state.working s.working ∷ []))
taken_back s t q later (Refused cause) =
    ap (λ (writes : List Write). writes ++ (later.writes ++ difference later.state.working s.working ∷ [])) (write_same (nodes_of t.ifr) q)
    ∙ sym (append_assoc (field_write (nodes_of t.ifr) q) later.writes (difference later.state.working s.working ∷ []))

-- what is given back where a block is denied
given_back : (s t : State) → ◌≡◌ {A = List Write} (chapter.difference (stores_for t.working) (stores_for s.working) ∷ []) (difference t.working s.working ∷ [])
given_back s t = ap (λ (write : Write). write ∷ []) (difference_same t.working s.working)

sets_field : (s : State) (q : Node) (bytes : List ℕ) → Stands s → Sets s (set_field s (Some q) bytes)
sets_field s q bytes stands = by_test (is_password q)
  where
    by_test : (is : Bool) → Sets s (if is then denied s (denied_by Password q) else set_question s (Some q) (inputs.field bytes))
    by_test true = inl (denied_by Password q, refl)
    by_test false = sets s q (inputs.field bytes) stands

-- What blocks write is what the chapters say, over stores that those before them have left.
abbrev BlocksWrite : State → StoreMap → List ℕ → ℕ → List Block → Type 0
BlocksWrite s m text store blocks =
    chapter.of_blocks (state_for s) store blocks (state_for (with s m)) ≡ and_back s (written_by (with s m) store blocks) (set_blocks s text store (with s m) blocks).reply

blocks_write : (s : State) (m : StoreMap) (text : List ℕ) (store : ℕ) (blocks : List Block) → Stands s → AreStored s.ifr m → BlocksWrite s m text store blocks
unfolding state_for
blocks_write s m text store [] stands stored = refl
blocks_write s m text store (b ∷ blocks) stands stored =
    ap (λ (told : session.Outcome). chapter_block s t (session.question_of_block (state_for t) store b) told (chapter.of_blocks (state_for s) store blocks told.state)) (block_same t store b stood)
    ∙ ap (λ (q : Option Node). chapter_block s t q (outcome_for made) (chapter.of_blocks (state_for s) store blocks (state_for made.state))) (question_same t store b stood)
    ∙ behind (question_of_field (world_of t) (nodes_of t.ifr) (block_field store b)) (λ n kept. blocks_write s n text store blocks stands kept)
  where
    t : State
    t = with s m

    made : Outcome
    made = set_block (with s m) store b

    stood : Stands (with s m)
    stood = with_stored s m stands stored

    Writes : Option Node → Outcome → Type 0
    Writes q o =
        chapter_block s (with s m) q (outcome_for o) (chapter.of_blocks (state_for s) store blocks (state_for o.state))
        ≡ and_back s (and_then (with s m) q o.reply (written_by o.state store blocks)) (go_on s o.reply (set_blocks s text store o.state blocks)).reply

    of_question : (q : Node) (o : Outcome) → Sets (with s m) o → ((n : StoreMap) → AreStored s.ifr n → BlocksWrite s n text store blocks) → Writes (Some q) o
    of_question q o (inl (d, is)) later = subst (Writes (Some q)) (sym is) (given_back s (with s m))
    of_question q o (inr (n, told, is, kept)) later =
        subst (Writes (Some q)) (sym is)
        (ap (λ (writes : List Write). chapter_write (nodes_of s.ifr) q ++ writes) (later n kept)
        ∙ taken_back s (with s m) q (written_by (with s n) store blocks) (set_blocks s text store (with s n) blocks).reply)

    behind : (q : Option Node) → ((n : StoreMap) → AreStored s.ifr n → BlocksWrite s n text store blocks) → Writes q (set_field (with s m) q (block_bytes b))
    behind None later = given_back s (with s m)
    behind (Some q) later = of_question q (set_field (with s m) (Some q) (block_bytes b)) (sets_field (with s m) q (block_bytes b) stood) later

route_of : (s : State) (blocks : List Block) (o : Option ℕ) → Stands s
    → unwrap_or (option_map (λ store. chapter.of_blocks (state_for s) store blocks (state_for s)) o) [] ≡ route_writes s blocks o
route_of s blocks None stands = refl
route_of s blocks (Some store) stands = blocks_write s s.working (count_text (length blocks)) store blocks stands stands.working

response_same : (s : State) (r : Result (Header × List Block) words.Cause) → Stands s → chapter.of_route (state_for s) r ≡ response_writes s (as_told r)
unfolding state_for
response_same s (Err cause) stands = refl
response_same s (Ok (header, blocks)) stands =
    ap (λ (o : Option ℕ). unwrap_or (option_map (λ store. chapter.of_blocks (state_for s) store blocks (state_for s)) o) []) (store_same s header)
    ∙ route_of s blocks (store_named (nodes_of s.ifr) s.path header) stands

-- ---- a command

writes_same : (s : State) (command : Command) → Stands s → chapter.writes_of (state_for s) command ≡ writes_of s command
unfolding state_for
writes_same s (script.Set id n) stands = set_writes s id (session.step (state_for s) (script.Set id n)) (step s (script.Set id n)) (step_alike s (script.Set id n) stands)
writes_same s (script.Order id ns) stands = set_writes s id (session.step (state_for s) (script.Order id ns)) (step s (script.Order id ns)) (step_alike s (script.Order id ns) stands)
writes_same s (script.Text id text) stands = set_writes s id (session.step (state_for s) (script.Text id text)) (step s (script.Text id text)) (step_alike s (script.Text id text) stands)
writes_same s (script.Press row) stands = press_writes s row (session.step (state_for s) (script.Press row)) (step s (script.Press row)) stands (step_alike s (script.Press row) stands)
writes_same s (script.Defaults class) stands = defaults_writes s class stands
writes_same s (script.Route text) stands = response_same s (response_in text) stands
writes_same s script.Discard stands = ap (λ (write : Write). write ∷ []) (difference_same s.working s.committed)
writes_same s script.Page stands = refl
writes_same s script.Back stands = refl
writes_same s script.Submit stands = refl
writes_same s (script.Why id) stands = refl
writes_same s (script.Go id) stands = refl
writes_same s (script.Lang language) stands = refl
writes_same s (script.Extract text) stands = refl

-- the conditions that writes touch, at most 2^64 - 1
abbrev at_most : (Write → ℕ) → List Write → ℕ
at_most touched writes = min (sum_by touched writes) (2 ^ 64 - 1)

pub renewed_same : (s : State) (command : Command) → Stands s → chapter.renewed (state_for s) command ≡ renewed_by s command
unfolding state_for
renewed_same s command stands =
    ap (λ (writes : List Write). at_most touched writes) (writes_same s command stands)
    ∙ ap (λ (renews : Write → ℕ). at_most renews (writes_of s command)) (fun_ext (λ write. renewals_same s.ifr write stands.browsable.accepted.checked stands.are_bytes))
  where
    touched : Write → ℕ
    touched write = count_by (chapter.touches (nodes_of s.ifr) write) (filter is_kept (nodes_of s.ifr))

-- ---- a line

some_there : (b : ℕ) (bytes : List ℕ) → (length (b ∷ bytes) == 0) ≡ false
some_there b bytes = ne_eqb (length (b ∷ bytes)) 0 (λ e. omega (arith, e))

line_by : (shown : Shown) (line text : List ℕ) (r : Result Command words.Cause) → without_return line ≡ text → command_of line ≡ r → Stands shown.state
    → chapter.renewed_line (state_for shown.state) shown.renewed line ≡ renewed_text shown line text
line_by shown line [] r at means stands = rw at refl
line_by shown line (b ∷ bytes) (Ok command) at means stands = rw (means, at, some_there b bytes) (renewed_same shown.state command stands)
line_by shown line (b ∷ bytes) (Err cause) at means stands = rw (means, at, some_there b bytes) refl

pub renewed_line_same : (shown : Shown) (line : List ℕ) → Stands shown.state → chapter.renewed_line (state_for shown.state) shown.renewed line ≡ (shown_line shown line).renewed
renewed_line_same shown line stands = line_by shown line (without_return line) (command_of line) refl refl stands
