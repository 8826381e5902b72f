-- A command leaves the forms package, by the chapters.
use Rattle.std.proofs.Common.{◌≡◌, ◌==◌, ◌-◌, ℕ, Bool, true, false, Option, Some, None, Result, Ok, Err, List, [], ◌∷◌, length, refl, ◌∙◌}
use Rattle.std.specs.Prelude.{if◌then◌else◌, filter, nat_lt, not, option_and_then, option_map, slice_get, unwrap_or}
use Rattle.std.specs.Option.{option_or}
use Rattle.std.specs.Str.Parse.{digits_value}
use Rattle.byteorder.specs.Endian.{little_bytes}
use Rattle.browser_rules.specs.Configuration.{Block, blocks_asked, request_in, response_in, store_named}
use Rattle.browser_rules.specs.Forest.{Node}
use Rattle.browser_rules.specs.Nodes.{form_with, is, is_question, ref_target, statements}
use Rattle.browser_rules.specs.Opcodes.{field, PASSWORD, REF, RESET_BUTTON}
use Rattle.browser_rules.specs.Policy.{Denial, fixed_by, hidden_by, inconsistent_by, submission_denied_by, values_denied_by}
use Rattle.browser_rules.specs.Questions.{DenialKind, NoBack, NoField, NoQuestion, NoRow, NoStore, Offer, default_of, field_of, fits, in_field, listed, question_with, utf8, values_offered, whole, with_field}
use Rattle.browser_rules.specs.Script as script
use Rattle.browser_rules.specs.Script.{Command, command_of, without_return}
use Rattle.browser_rules.specs.Session.{State, Outcome, Reply, Accepted, Denied, Refused, accepted, block_denied_by, current_form, defaults, enter, extract, first_denied_by, go, if_accepted, nodes, now, or_back, over, press, question_of_block, route, row_at, set, set_block, set_blocks, step, step_line, take_default, take_defaults, unless, with_fit, with_question, with_read, with_some}
use Rattle.browser_rules.specs.Stores.{bytes_of}
use Rattle.browser_rules.specs.Strings.{text_of}
use Rattle.browser_rules.specs.Words.{Cause}

-- an outcome with the package of a state
record Stays (s : State) (o : Outcome) : Type 0 where
  pub same : o.state.ifr ≡ s.ifr

unless_stays : (s : State) (d : Option Denial) (o : Outcome) → Stays s o → Stays s (unless s d o)
unless_stays s None o stays = stays
unless_stays s (Some d) o stays = record { same = refl }

some_stays : {X : Type 0} (s : State) (why : DenialKind) (o : Option X) (next : X → Outcome) → ((x : X) → Stays s (next x)) → Stays s (with_some s why o next)
some_stays s why None next stays = record { same = refl }
some_stays s why (Some x) next stays = stays x

read_stays : {X : Type 0} (s : State) (r : Result X Cause) (next : X → Outcome) → ((x : X) → Stays s (next x)) → Stays s (with_read s r next)
read_stays s (Err cause) next stays = record { same = refl }
read_stays s (Ok x) next stays = stays x

fit_stays : (s : State) (q : Node) (r : Result (List ℕ) DenialKind) (next : List ℕ → Outcome) → ((bytes : List ℕ) → Stays s (next bytes)) → Stays s (with_fit s q r next)
fit_stays s q (Err why) next stays = record { same = refl }
fit_stays s q (Ok bytes) next stays = stays bytes

test_stays : (s : State) (b : Bool) (o p : Outcome) → Stays s o → Stays s p → Stays s (if b then o else p)
test_stays s true o p first second = first
test_stays s false o p first second = second

else_stays : {X : Type 0} (s : State) (o : Option X) (next : X → Outcome) (other : Outcome) → ((x : X) → Stays s (next x)) → Stays s other → Stays s (unwrap_or (option_map next o) other)
else_stays s None next other stays last = last
else_stays s (Some x) next other stays last = stays x

set_stays : (s : State) (q : Node) (offer : Offer) → Stays s (set s q offer)
set_stays s q offer =
    unless_stays s (fixed_by (now s) q) _ (fit_stays s q (fits (nodes s) q offer) _ (λ bytes.
    unless_stays s (option_or (values_denied_by (now s) q (values_offered q offer)) (inconsistent_by (over s (with_field s.working (field_of (nodes s) q) bytes)) q)) _ (record { same = refl })))

-- ---- defaults

kept_if : (s t : State) (qs : List Node) (q : Node) (o : Outcome) (reply : Reply) → t.ifr ≡ s.ifr → Stays s o → (if_accepted (t, qs) q o reply).0.ifr ≡ s.ifr
kept_if s t qs q o Accepted before stays = stays.same
kept_if s t qs q o (Denied d) before stays = before
kept_if s t qs q o (Refused cause) before stays = before

offer_stays : (s t : State) (qs : List Node) (q : Node) (o : Option Offer) → t.ifr ≡ s.ifr
    → (unwrap_or (option_map (λ offer. if_accepted (t, qs) q (set t q offer) (set t q offer).reply) o) (t, qs)).0.ifr ≡ s.ifr
offer_stays s t qs q None before = before
offer_stays s t qs q (Some offer) before = kept_if s t qs q (set t q offer) (set t q offer).reply before (record { same = (set_stays t q offer).same ∙ before })

defaults_stay : (s : State) (class : ℕ) (before : State × List Node) (qs : List Node) → before.0.ifr ≡ s.ifr → (take_defaults class before qs).0.ifr ≡ s.ifr
defaults_stay s class before [] same = same
defaults_stay s class (t, taken) (q ∷ qs) same = defaults_stay s class (take_default class (t, taken) q) qs (offer_stays s t taken q (default_of (nodes t) t.working (text_of t.spoken t.language) q class) same)

-- ---- route

back_stays : (s : State) (reply : Reply) (o : Outcome) → Stays s o → Stays s (or_back s reply o)
back_stays s Accepted o stays = stays
back_stays s (Denied d) o stays = record { same = refl }
back_stays s (Refused cause) o stays = record { same = refl }

block_stays : (s : State) (store : ℕ) (b : Block) → Stays s (set_block s store b)
block_stays s store b =
    some_stays s NoField (question_of_block s store b) _ (λ q. test_stays s (is PASSWORD q) _ _ (record { same = refl }) (set_stays s q (in_field (little_bytes b.width (digits_value 16 b.digits)))))

blocks_stay : (before s : State) (count store : ℕ) (blocks : List Block) → s.ifr ≡ before.ifr → Stays before (set_blocks before count store blocks s)
blocks_stay before s count store [] same = record { same = same }
blocks_stay before s count store (b ∷ blocks) same =
    let next = set_block s store b in
    back_stays before next.reply (set_blocks before count store blocks next.state) (blocks_stay before next.state count store blocks ((block_stays s store b).same ∙ same))

-- ---- a command, and a line

-- ---- a command, and a line

-- what stays where a question of an id does
with_question_stays : (s : State) (id : ℕ) (next : Node → Outcome) → ((q : Node) → Stays s (next q)) → Stays s (with_question s id next)
with_question_stays s id next stays = some_stays s NoQuestion (question_with (nodes s) id) next stays

enter_stays : (s : State) (form : Node) → Stays s (enter s form)
enter_stays s form = unless_stays s (hidden_by (now s) form) _ (test_stays s (nat_lt (length s.history) 32) _ _ (record { same = refl }) (record { same = refl }))

go_stays : (s : State) (q : Node) → Stays s (go s q)
go_stays s q =
    test_stays s (not (is REF q)) _ _ (record { same = refl })
    (unless_stays s (fixed_by (now s) q) _ (else_stays s (option_and_then (form_with (nodes s)) (ref_target q)) (enter s) _ (enter_stays s) (record { same = refl })))

taken_stays : (s : State) (class : ℕ) → Stays s (defaults s class)
taken_stays s class = record { same = defaults_stay s class (s, []) (unwrap_or (option_map (λ form. filter is_question (statements form)) (current_form s)) []) refl }

press_stays : (s : State) (n : ℕ) → Stays s (press s n)
press_stays s n =
    some_stays s NoRow (row_at s n) _ (λ button. test_stays s (not (is RESET_BUTTON button)) _ _ (record { same = refl })
    (unless_stays s (fixed_by (now s) button) _ (taken_stays s (field RESET_BUTTON "DefaultId" button.op))))

extract_stays : (s : State) (text : List ℕ) → Stays s (extract s text)
extract_stays s text = read_stays s (request_in text) _ (λ (header, blocks). some_stays s NoStore (store_named (nodes s) s.path header) _ (λ store.
    let bytes = unwrap_or (bytes_of s.committed store) [] in
    unless_stays s (first_denied_by (block_denied_by s store (length bytes)) (blocks_asked blocks (length bytes))) _ (record { same = refl })))

route_stays : (s : State) (text : List ℕ) → Stays s (route s text)
route_stays s text =
    read_stays s (response_in text) _ (λ (header, blocks). some_stays s NoStore (store_named (nodes s) s.path header) _ (λ store. blocks_stay s s (length blocks) store blocks refl))

stays : (s : State) (command : Command) → Stays s (step s command)
stays s script.Page = record { same = refl }
stays s (script.Set id n) = with_question_stays s id _ (λ q. set_stays s q (whole n))
stays s (script.Order id ns) = with_question_stays s id _ (λ q. set_stays s q (listed ns))
stays s (script.Text id text) = with_question_stays s id _ (λ q. set_stays s q (utf8 text))
stays s (script.Go id) = with_question_stays s id (go s) (go_stays s)
stays s script.Back = some_stays s NoBack (slice_get s.history (length s.history - 1)) _ (λ place. record { same = refl })
stays s (script.Press n) = press_stays s n
stays s (script.Defaults class) = taken_stays s class
stays s (script.Why id) = with_question_stays s id _ (λ q. unless_stays s (fixed_by (now s) q) _ (record { same = refl }))
stays s (script.Lang language) = record { same = refl }
stays s script.Submit = unless_stays s (submission_denied_by (now s)) _ (record { same = refl })
stays s script.Discard = record { same = refl }
stays s (script.Extract text) = extract_stays s text
stays s (script.Route text) = route_stays s text

pub package_stays : (s : State) (command : Command) → (step s command).state.ifr ≡ s.ifr
package_stays s command = (stays s command).same

pub package_stays_behind : (s : State) (line : List ℕ) → (step_line s line).state.ifr ≡ s.ifr
package_stays_behind s line =
    (test_stays s (length (without_return line) == 0) (accepted s []) (with_read s (command_of line) (step s)) record { same = refl } (read_stays s (command_of line) (step s) (stays s))).same
