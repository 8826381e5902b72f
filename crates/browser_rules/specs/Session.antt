-- What each command does: the state that it leaves, its text, each refusal in its order (own rule; sections are those
-- of UEFI 2.8).
--
--   command               refused or denied by, in this order
--   page                  -
--   set, order, text      NoQuestion, fixed, the value, the options of the value, INCONSISTENT_IF
--   go                    NoQuestion, NotRef, fixed, the form hidden, DeepHistory
--   back                  NoBack
--   press                 NoRow, NotButton, fixed
--   defaults              -
--   why                   NoQuestion, fixed
--   lang, discard         -
--   submit                NO_SUBMIT_IF
--   extract               BadHeader to BadNumber, NoStore; by block: NoField, Password
--   route                 BadHeader to ValueWidth, NoStore; by block: NoField, Password, as set
use Rattle.std.specs.Prelude.{◌&&◌, ℕ, ◌+◌, ◌-◌, ◌==◌, Bool, not, nat_lt, if◌then◌else◌, Option, Some, None}
use Rattle.std.specs.Prelude.{option_and_then, option_map, unwrap_or, is_none, Result, Ok, Err, List, [], ◌∷◌, ◌++◌}
use Rattle.std.specs.Prelude.{length, slice_get, take, filter, codes, decimal, bytes_eq}
use Rattle.std.specs.List.{find, flat_map}
use Rattle.std.specs.Option.{option_or}
use Rattle.std.specs.Str.Parse.{digits_value}
use Rattle.byteorder.specs.Endian.{little_bytes}
use Rattle.browser_rules.specs.Words.{Cause, refused_text, place_text, first, is_some_and}
use Rattle.browser_rules.specs.Opcodes.{field, RESET_BUTTON, PASSWORD, REF, WARNING_IF}
use Rattle.browser_rules.specs.Forest.{Node, nodes_of, node_at}
use Rattle.browser_rules.specs.Nodes.{is, is_question, question_id, statements, form_with, ref_target}
use Rattle.browser_rules.specs.Strings.{Spoken, shown, text_of, chosen}
use Rattle.browser_rules.specs.Stores.{Stores, bytes_of}
use Rattle.browser_rules.specs.Questions.{Field, field_of, question_with, questions, is_same_field, meets, field_bytes}
use Rattle.browser_rules.specs.Questions.{with_field, Offer, whole, listed, utf8, in_field, fits, values_offered}
use Rattle.browser_rules.specs.Questions.{DenialKind, NoQuestion, NotRef, NotButton, NoRow, NoBack, DeepHistory}
use Rattle.browser_rules.specs.Questions.{NoStore, NoField, Password, Outside, default_of}
use Rattle.browser_rules.specs.Policy.{World, Denial, denied_by, hidden_by, fixed_by, values_denied_by, inconsistent_by}
use Rattle.browser_rules.specs.Policy.{warnings, submission_denied_by, kind_name}
use Rattle.browser_rules.specs.Pages.{in_utf8, rows_of, page}
use Rattle.browser_rules.specs.Configuration.{Block, request_in, response_in, response_text, blocks_asked, store_named}
use Rattle.browser_rules.specs.Script.{Command, Page, Back, Submit, Discard, Why, Go, Press, Defaults, Lang, Extract}
use Rattle.browser_rules.specs.Script.{Route, Set, Order, Text, command_of, without_return}

-- What stays: the forms package, the device path, the places of the DISABLE_IFs removed at opening, the string
-- packages. What commands change: the number of the chosen string package; the stores as last submitted, and as read
-- and changed; the place of the current form, and of those that references have led away from, the oldest first.
pub record State : Type 0 where
  pub ifr : List ℕ
  pub path : List ℕ
  pub removed : List ℕ
  pub spoken : List Spoken
  pub language : Option ℕ
  pub committed : Stores
  pub working : Stores
  pub form : ℕ
  pub history : List ℕ

pub data Reply : Type 0 where
  Accepted : Reply
  Denied : Denial → Reply
  Refused : Cause → Reply

pub record Outcome : Type 0 where
  pub state : State
  pub text : List ℕ
  pub reply : Reply

-- ---- words for what follows

abbrev pub nodes : State → List Node
nodes s = nodes_of s.ifr

abbrev pub over : State → Stores → World
over s stores = record { nodes = nodes s; removed = s.removed; stores = stores }

abbrev pub now : State → World
now s = over s s.working

abbrev pub texts : State → ℕ → List ℕ
texts s id = shown s.spoken s.language id

abbrev pub current_form : State → Option Node
current_form s = node_at (nodes s) s.form

abbrev pub accepted : State → List ℕ → Outcome
accepted s text = record { state = s; text = text; reply = Accepted }

abbrev pub ok : State → Outcome
ok s = accepted s (codes "OK\n")

abbrev pub count_text : ℕ → List ℕ
count_text n = codes "OK " ++ decimal n ++ codes "\n"

-- What is denied or refused changes nothing.
abbrev pub denied : State → Denial → Outcome
denied s d = record {
  state = s;
  text = codes "DENIED " ++ kind_name d.kind ++ codes " at " ++ place_text d.place
      ++ unwrap_or (option_map (λ id. codes " " ++ in_utf8 (texts s id)) d.message) [] ++ codes "\n";
  reply = Denied d;
}

abbrev pub denied_by_none : State → DenialKind → Outcome
denied_by_none s kind = denied s record { kind = kind; place = 0; message = None }

abbrev pub refused : State → Cause → Outcome
refused s cause = record { state = s; text = refused_text cause; reply = Refused cause }

-- denied, or else; with what is there, or denied; with what was read, or refused; with the question of an id
abbrev pub unless : State → Option Denial → Outcome → Outcome
unless s None outcome = outcome
unless s (Some d) outcome = denied s d

abbrev pub with_some : {X : Type 0} → State → DenialKind → Option X → (X → Outcome) → Outcome
with_some s denial None next = denied_by_none s denial
with_some s denial (Some x) next = next x

abbrev pub with_read : {X : Type 0} → State → Result X Cause → (X → Outcome) → Outcome
with_read s (Err cause) next = refused s cause
with_read s (Ok x) next = next x

abbrev pub with_question : State → ℕ → (Node → Outcome) → Outcome
with_question s id next = with_some s NoQuestion (question_with (nodes s) id) next

-- ---- set, order, text: over the stores as they were the question is not fixed and takes the value, whose options are
-- not all fixed; over those with the new field none of its INCONSISTENT_IFs is met, and the WARNING_IFs that are met
-- are told, which `defaults`, `press` and `route` leave out

abbrev pub warning_text : State → Node → List ℕ
warning_text s n =
    codes "WARNING at " ++ place_text n.place ++ codes " "
    ++ in_utf8 (texts s (field WARNING_IF "Warning" n.op)) ++ codes "\n"

abbrev pub with_fit : State → Node → Result (List ℕ) DenialKind → (List ℕ → Outcome) → Outcome
with_fit s q (Err kind) next = denied s (denied_by kind q)
with_fit s q (Ok bytes) next = next bytes

abbrev pub set : State → Node → Offer → Outcome
set s q offer =
    unless s (fixed_by (now s) q) (with_fit s q (fits (nodes s) q offer) λ bytes.
    let new = with_field s.working (field_of (nodes s) q) bytes in
    unless s (option_or (values_denied_by (now s) q (values_offered q offer)) (inconsistent_by (over s new) q))
    (accepted (record s { working = new })
    (codes "OK\n" ++ flat_map (warning_text s) (warnings (over s new) q))))

-- ---- defaults: the questions of the current form, by place, take their defaults of a class, each over the stores that
-- those before it left; one that has none, or may not take it, stays as it is, of which nothing is told (33.2.5.8)

abbrev pub if_accepted : State × List Node → Node → Outcome → Reply → State × List Node
if_accepted (s, qs) q outcome Accepted = (outcome.state, qs ++ q ∷ [])
if_accepted before q outcome reply = before

abbrev pub take_default : ℕ → State × List Node → Node → State × List Node
take_default class (s, qs) q =
    let offered = default_of (nodes s) s.working (text_of s.spoken s.language) q class in
    unwrap_or (option_map (λ offer. if_accepted (s, qs) q (set s q offer) (set s q offer).reply) offered) (s, qs)

abbrev pub take_defaults : ℕ → State × List Node → List Node → State × List Node
take_defaults class before [] = before
take_defaults class before (q ∷ qs) = take_defaults class (take_default class before q) qs

-- the state that is left, and the questions that took their defaults
abbrev pub defaults_taken : State → ℕ → State × List Node
defaults_taken s class =
    take_defaults class (s, [])
    (unwrap_or (option_map (λ form. filter is_question (statements form)) (current_form s)) [])

abbrev pub defaults : State → ℕ → Outcome
defaults s class = accepted (defaults_taken s class).0 (count_text (length (defaults_taken s class).1))

-- ---- press: the button in a row of the page

abbrev pub row_at : State → ℕ → Option Node
row_at s n =
    if n == 0 then None else option_and_then (λ form. slice_get (rows_of (now s) form) (n - 1)) (current_form s)

abbrev pub press : State → ℕ → Outcome
press s n = with_some s NoRow (row_at s n) λ button.
    if not (is RESET_BUTTON button) then denied s (denied_by NotButton button)
    else unless s (fixed_by (now s) button) (defaults s (field RESET_BUTTON "DefaultId" button.op))

-- ---- go, back: a reference that is not fixed leads to a form that is not hidden, where fewer than 32 forms were left
-- before (33.3.8.3, EFI_IFR_REF); back leads to the form that was left last, whatever hides it. That a reference leads
-- to no form is told by `fixed_by`, or as a fault at opening, so that the last case of `go` does not come.

abbrev pub enter : State → Node → Outcome
enter s form =
    unless s (hidden_by (now s) form)
    (if nat_lt (length s.history) 32 then ok (record s { form = form.place; history = s.history ++ s.form ∷ [] })
    else denied_by_none s DeepHistory)

abbrev pub go : State → Node → Outcome
go s q =
    let target = option_and_then (form_with (nodes s)) (ref_target q) in
    if not (is REF q) then denied s (denied_by NotRef q)
    else unless s (fixed_by (now s) q) (unwrap_or (option_map (enter s) target) (denied s (denied_by Outside q)))

abbrev pub back : State → Outcome
back s = with_some s NoBack (slice_get s.history (length s.history - 1)) λ place.
    ok (record s { form = place; history = take (length s.history - 1) s.history })

-- ---- extract: the bytes of blocks as last submitted, of which none has a byte of a password (34.2.1)

abbrev pub has_field : List Node → (Field → Bool) → Node → Bool
has_field ns test q = is_some_and test (field_of ns q)

abbrev pub as_field : ℕ → Block → Field
as_field store b = record { store = store; offset = b.offset; width = b.width }

abbrev pub block_denied_by : State → ℕ → ℕ → Block → Option Denial
block_denied_by s store size b =
    if nat_lt size (b.offset + b.width) then Some record { kind = NoField; place = 0; message = None }
    else option_map (denied_by Password)
    (find (λ q. is PASSWORD q && has_field (nodes s) (meets (as_field store b)) q) (questions (nodes s)))

abbrev pub first_denied_by : (Block → Option Denial) → List Block → Option Denial
first_denied_by by [] = None
first_denied_by by (b ∷ blocks) = option_or (by b) (first_denied_by by blocks)

abbrev pub extract : State → List ℕ → Outcome
extract s text = with_read s (request_in text) λ (header, blocks).
    with_some s NoStore (store_named (nodes s) s.path header) λ store.
    let bytes = unwrap_or (bytes_of s.committed store) [] in
    let asked = blocks_asked blocks (length bytes) in
    unless s (first_denied_by (block_denied_by s store (length bytes)) asked)
    (accepted s (codes "CONFIG " ++ response_text header asked bytes ++ codes "\n"))

-- ---- route: the questions of all blocks take their values, each over what those before it left, or none (own rule)

-- of the questions that have exactly a block's field the first by place that is not fixed, or else the first
abbrev pub question_of_block : State → ℕ → Block → Option Node
question_of_block s store b =
    let all = filter (has_field (nodes s) (is_same_field (as_field store b))) (questions (nodes s)) in
    option_or (find (λ q. is_none (fixed_by (now s) q)) all) (first all)

abbrev pub set_block : State → ℕ → Block → Outcome
set_block s store b = with_some s NoField (question_of_block s store b) λ q.
    if is PASSWORD q then denied s (denied_by Password q)
    else set s q (in_field (little_bytes b.width (digits_value 16 b.digits)))

-- What is denied gives back the state from before all blocks.
abbrev pub or_back : State → Reply → Outcome → Outcome
or_back before Accepted next = next
or_back before (Denied d) next = denied before d
or_back before (Refused cause) next = refused before cause

abbrev pub set_blocks : State → ℕ → ℕ → List Block → State → Outcome
set_blocks before count store [] s = accepted s (count_text count)
set_blocks before count store (b ∷ blocks) s =
    or_back before (set_block s store b).reply (set_blocks before count store blocks (set_block s store b).state)

abbrev pub route : State → List ℕ → Outcome
route s text = with_read s (response_in text) λ (header, blocks).
    with_some s NoStore (store_named (nodes s) s.path header) λ store.
    set_blocks s (length blocks) store blocks s

-- ---- submit: what commands left is submitted; the questions whose fields differed are told by place, each of several
-- over one field, and one of id 0 too

abbrev pub is_changed : State → Node → Bool
is_changed s q =
    let held : Stores → Field → List ℕ = λ stores f. unwrap_or (field_bytes stores f) [] in
    has_field (nodes s) (λ f. not (bytes_eq (held s.committed f) (held s.working f))) q

abbrev pub submit : State → Outcome
submit s =
    let changed = filter (is_changed s) (questions (nodes s)) in
    unless s (submission_denied_by (now s))
    (accepted (record s { committed = s.working })
    (count_text (length changed) ++ flat_map (λ q. codes "CHANGED " ++ decimal (question_id q) ++ codes "\n") changed))

-- ---- a command, and a line, of which an empty one does nothing

abbrev pub step : State → Command → Outcome
step s Page = accepted s (unwrap_or (option_map (page (texts s) (now s)) (current_form s)) [])
step s (Set id n) = with_question s id λ q. set s q (whole n)
step s (Order id ns) = with_question s id λ q. set s q (listed ns)
step s (Text id text) = with_question s id λ q. set s q (utf8 text)
step s (Go id) = with_question s id (go s)
step s Back = back s
step s (Press n) = press s n
step s (Defaults class) = defaults s class
step s (Why id) = with_question s id λ q. unless s (fixed_by (now s) q) (ok s)
step s (Lang language) = ok (record s { language = chosen s.spoken language })
step s Submit = submit s
step s Discard = ok (record s { working = s.committed })
step s (Extract text) = extract s text
step s (Route text) = route s text

abbrev pub step_line : State → List ℕ → Outcome
step_line s line =
    if length (without_return line) == 0 then accepted s [] else with_read s (command_of line) (step s)
