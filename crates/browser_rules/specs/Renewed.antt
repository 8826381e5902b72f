-- How many kept conditions the writes of a command touch, those of SUPPRESS_IF, GRAY_OUT_IF and NO_SUBMIT_IF (own
-- rule): a promise of its own, which the headline needs not.
use Rattle.std.specs.Prelude.{ℕ, zero, suc, ◌+◌, ◌-◌, ◌^◌, ◌==◌, ◌&&◌, ◌||◌, nat_le, nat_lt, min, Bool, true, false}
use Rattle.std.specs.Prelude.{not, if◌then◌else◌, Option, Some, None, option_map, option_and_then, unwrap_or, Result}
use Rattle.std.specs.Prelude.{Ok, Err, List, [], ◌∷◌, ◌++◌, length, filter, slice_get, count_by}
use Rattle.std.specs.List.{flat_map, sum_by, list_any}
use Rattle.browser_rules.specs.Words.{Cause, is_some_and}
use Rattle.browser_rules.specs.Opcodes.{field, is_the, RULE_REF, QUESTION_REF1, EQ_ID_VAL, EQ_ID_ID, EQ_ID_VAL_LIST}
use Rattle.browser_rules.specs.Opcodes.{THIS, SUPPRESS_IF, GRAY_OUT_IF, NO_SUBMIT_IF, RESET_BUTTON}
use Rattle.browser_rules.specs.Forest.{Node}
use Rattle.browser_rules.specs.Expressions.{Mark, Rule, is_named}
use Rattle.browser_rules.specs.Nodes.{is, this_of, expression_of, rules_of}
use Rattle.browser_rules.specs.Stores.{Stores, bytes_of}
use Rattle.browser_rules.specs.Questions.{Field, field_of, question_with}
use Rattle.browser_rules.specs.Configuration.{Header, Block, response_in, store_named}
use Rattle.browser_rules.specs.Script.{Command, Set, Order, Text, Press, Defaults, Route, Discard, command_of}
use Rattle.browser_rules.specs.Script.{without_return}
use Rattle.browser_rules.specs.Session.{State, Reply, Accepted, nodes, row_at, step, set_block, question_of_block}
use Rattle.browser_rules.specs.Session.{defaults_taken}

-- ---- support: the ids of the questions that a condition's opcodes name, and those of the rules that it names

abbrev pub ids_of : (ℕ → ℕ → List ℕ) → ℕ → Mark → List ℕ
ids_of rules this m =
    if is_the RULE_REF m.op then rules (field RULE_REF "RuleId" m.op) m.place
    else if is_the THIS m.op then this ∷ []
    else if is_the EQ_ID_ID m.op
    then field EQ_ID_ID "QuestionId1" m.op ∷ field EQ_ID_ID "QuestionId2" m.op ∷ []
    else if is_the EQ_ID_VAL m.op || is_the EQ_ID_VAL_LIST m.op || is_the QUESTION_REF1 m.op
    then field QUESTION_REF1 "QuestionId" m.op ∷ []
    else []

unfoldable pub rule_ids : List Rule → ℕ → ℕ → List ℕ
rule_ids [] id place = []
rule_ids (r ∷ earlier) id place =
    if is_named id place r then flat_map (ids_of (rule_ids earlier) 0) r.opcodes else rule_ids earlier id place

abbrev pub support : List Node → Node → List ℕ
support ns n = flat_map (ids_of (rule_ids (rules_of ns)) (this_of n)) (expression_of n)

-- ---- writes: which bytes each has, by a store's id and an offset

abbrev pub Write : Type 0
Write = ℕ → ℕ → Bool

-- that of a question's whole field
abbrev pub of_field : Field → Write
of_field f store at = store == f.store && nat_le f.offset at && nat_lt at (f.offset + f.width)

abbrev pub of_fields : State → Node → List Write
of_fields s q = unwrap_or (option_map (λ f. of_field f ∷ []) (field_of (nodes s) q)) []

-- that of the bytes in which stores differ
abbrev pub difference : Stores → Stores → Write
difference old new store at = not (alike (byte old) (byte new))
  where
    byte : Stores → Option ℕ
    byte stores = option_and_then (λ bytes. slice_get bytes at) (bytes_of stores store)

    alike : Option ℕ → Option ℕ → Bool
    alike (Some b) (Some c) = b == c
    alike None None = true
    alike _ _ = false

-- the blocks of a route that were set, also before one that was denied, and then the giving back
abbrev pub of_block : State → State → List Write → List Write → Reply → List Write
of_block before s own others Accepted = own ++ others
of_block before s own others _ = difference s.working before.working ∷ []

abbrev pub of_blocks : State → ℕ → List Block → State → List Write
of_blocks before store [] s = []
of_blocks before store (b ∷ blocks) s =
    of_block before s (unwrap_or (option_map (of_fields s) (question_of_block s store b)) [])
    (of_blocks before store blocks (set_block s store b).state) (set_block s store b).reply

abbrev pub of_route : State → Result (Header × List Block) Cause → List Write
of_route s (Err cause) = []
of_route s (Ok (header, blocks)) =
    unwrap_or (option_map (λ store. of_blocks s store blocks s) (store_named (nodes s) s.path header)) []

-- what an accepted command writes, and one that is denied or refused does not
abbrev pub writes_if : Reply → List Write → List Write
writes_if Accepted writes = writes
writes_if _ writes = []

abbrev pub of_set : State → ℕ → List Write
of_set s id = unwrap_or (option_map (of_fields s) (question_with (nodes s) id)) []

abbrev pub of_defaults : State → ℕ → List Write
of_defaults s class = flat_map (of_fields s) (defaults_taken s class).1

abbrev pub of_press : State → ℕ → List Write
of_press s n =
    unwrap_or (option_map (λ button. of_defaults s (field RESET_BUTTON "DefaultId" button.op)) (row_at s n)) []

abbrev pub writes_of : State → Command → List Write
writes_of s (Set id n) = writes_if (step s (Set id n)).reply (of_set s id)
writes_of s (Order id ns) = writes_if (step s (Order id ns)).reply (of_set s id)
writes_of s (Text id text) = writes_if (step s (Text id text)).reply (of_set s id)
writes_of s (Defaults class) = of_defaults s class
writes_of s (Press n) = writes_if (step s (Press n)).reply (of_press s n)
writes_of s (Route text) = of_route s (response_in text)
writes_of s Discard = difference s.working s.committed ∷ []
writes_of s _ = []

-- ---- the number: for each write the kept conditions of whose support a field has one of its bytes; at most 2^64 - 1

abbrev pub has_byte : Write → ℕ → ℕ → ℕ → Bool
has_byte write store at zero = false
has_byte write store at (suc width) = write store at || has_byte write store (at + 1) width

abbrev pub touches : List Node → Write → Node → Bool
touches ns write n =
    let has_one : Field → Bool = λ f. has_byte write f.store f.offset f.width in
    list_any (λ id. is_some_and has_one (option_and_then (field_of ns) (question_with ns id))) (support ns n)

abbrev pub renewed : State → Command → ℕ
renewed s command =
    let kept = filter (λ n. is SUPPRESS_IF n || is GRAY_OUT_IF n || is NO_SUBMIT_IF n) (nodes s) in
    min (sum_by (λ write. count_by (touches (nodes s) write) kept) (writes_of s command)) (2 ^ 64 - 1)

-- behind a line; one that is empty or no command leaves the number as it was, which is 0 at first
abbrev pub renewed_line : State → ℕ → List ℕ → ℕ
renewed_line s before line = if length (without_return line) == 0 then before else by (command_of line)
  where
    by : Result Command Cause → ℕ
    by (Err cause) = before
    by (Ok command) = renewed s command
