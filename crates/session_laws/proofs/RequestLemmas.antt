-- Configuration texts are answered and taken as the chapters say.
use Rattle.std.proofs.Common.{◌≡◌, ℕ, ◌+◌, Bool, true, false, Option, Some, None, Result, Ok, Err, List, [], ◌∷◌, ◌++◌, length, map, refl, sym, ap, subst, ◌∙◌, arith, inl, inr}
use Rattle.std.specs.Prelude.{◌&&◌, if◌then◌else◌, nat_lt, Contains, codes, filter, option_map, unwrap_or, is_none, is_some}
use Rattle.std.specs.List.{find}
use Rattle.std.specs.Option.{option_or}
use Rattle.std.specs.Str.{bytes_eq}
use Rattle.browser_rules.specs.Configuration as texts
use Rattle.browser_rules.specs.Configuration.{Block, Header, blocks_asked, request_in, response_in, response_text}
use Rattle.browser_rules.specs.Nodes as rows
use Rattle.browser_rules.specs.Opcodes.{PASSWORD}
use Rattle.browser_rules.specs.Policy as policy
use Rattle.browser_rules.specs.Questions as questions
use Rattle.browser_rules.specs.Session as chapter
use Rattle.browser_rules.specs.Stores as held
use Rattle.browser_rules.specs.Words as words
use Rattle.browser_rules.specs.Words.{first, is_some_and}
use Rattle.hii_bytes.specs.declared.cause.Cause.{Cause}
use Rattle.ifr_opcodes.specs.Forest.{Node}
use Rattle.ifr_nodes.specs.Nodes.{is_question, is_store, nodes_of}
use Rattle.ifr_scopes.specs.Stores as node
use Rattle.ifr_scopes.proofs.FormPlaceLemmas.{found}
use Rattle.hii_varstore.specs.Stores.{StoreMap, bytes_of}
use Rattle.hii_values.specs.Types.{is_password}
use Rattle.hii_values.specs.Inputs as inputs
use Rattle.hii_values.specs.declared.denial.DenialKind.TheVariants.{NoField, NoStore, Password}
use Rattle.hii_questions.specs.Fields.{Asked, Field, asked, field_of, field_passes, has_field, is_password_in, is_same_field, meets}
use Rattle.hii_questions.proofs.FieldLemmas.{passing}
use Rattle.guard_policy.specs.Policy.{denied_by, fixed}
use Rattle.guard_policy.specs.declared.denial.Denial.{Denial}
use Rattle.config_text.specs.Reading.{as_told, text_cause}
use Rattle.config_text.specs.laws.Texts.{is_of_texts}
use Rattle.config_text.proofs.RuleLemmas.{by_four}
use Rattle.session_steps.specs.Configuration.{block_bytes, block_field, first_free, first_question, leaves_store, password_in, question_of_field, store_named}
use Rattle.session_steps.specs.State.{State, world_of}
use Rattle.session_steps.specs.Step.{Outcome, denied, denied_by_none, extract_bytes, extract_from, extract_reading, extract_unless, configuration_text, first_untold, go_on, route_reading, route_to, set_block, set_blocks, set_field, set_question, telling_denial}
use Rattle.session_steps.specs.Texts.{count_text}
use Rattle.hii_bytes.specs.Causes.{cause_for}
use Rattle.rules_laws.specs.Denials.{denial_for}
use Rattle.rules_laws.specs.laws.Questions.{field_for, offer_for}
use Rattle.session_laws.specs.laws.Session.{AreStored, Stands, outcome_for, state_for}
use Rattle.session_laws.proofs.ChangeLemmas.{Sets, set_same, sets, with_stored}
use Rattle.session_laws.proofs.SeenLemmas.{alike_now, ifr_is}
use Rattle.session_laws.proofs.OutcomeLemmas.{denied_same, plain_denied, read_same, some_same, test_same, unless_same}
use Rattle.rules_laws.proofs.PolicyLemmas.{fixed_same, none_same, or_same, same_find}
use Rattle.rules_laws.proofs.QuestionLemmas.{field_same, questions_same}
use Rattle.rules_laws.proofs.StoreLemmas.{bytes_same, guid_same, id_same, name_same, size_same, stores_same}
use Rattle.session_laws.proofs.TakenLemmas.{not_some, same_some, with}

-- ---- causes

told_back : (cause : words.Cause) → is_of_texts cause ≡ true → cause_for (text_cause cause) ≡ cause
told_back words.BadHeader is = refl
told_back words.BadElement is = refl
told_back words.BadNumber is = refl
told_back words.ValueWidth is = refl
told_back cause is = absurd cc

-- ---- the store that a header names

and_same : (a b c d : Bool) → (a && b && c && d) ≡ (a && (b && (c && d)))
and_same true true c d = refl
and_same true false c d = refl
and_same false b c d = refl

named_same : (path : List ℕ) (header : Header) (n : Node) → is_store n ≡ true
    → (is_some (held.store_size n) && bytes_eq header.guid (held.store_guid n) && bytes_eq header.name (held.store_name n) && bytes_eq header.path path)
    ≡ (is_some (node.store_size n.op) && (bytes_eq header.guid (node.store_guid n.op) && (bytes_eq header.name (node.store_name n.op) && bytes_eq header.path path)))
named_same path header n is =
    rw (size_same n is, guid_same n is, name_same n is)
    (and_same (is_some (node.store_size n.op)) (bytes_eq header.guid (node.store_guid n.op)) (bytes_eq header.name (node.store_name n.op)) (bytes_eq header.path path))

named_in : (ns : List Node) (path : List ℕ) (header : Header) → texts.store_named ns path header ≡ store_named ns path header
named_in ns path header =
    ap (λ (stores : List Node). option_map held.store_id (find names stores)) (stores_same ns)
    ∙ ap (λ (o : Option Node). option_map held.store_id o) (same_find names here (filter is_store ns) (λ n there. named_same path header n (passing is_store ns n there).1))
    ∙ of_found (find here (filter is_store ns)) refl
  where
    names : Node → Bool
    names n = is_some (held.store_size n) && bytes_eq header.guid (held.store_guid n) && bytes_eq header.name (held.store_name n) && bytes_eq header.path path

    here : Node → Bool
    here n = is_some (node.store_size n.op) && (bytes_eq header.guid (node.store_guid n.op) && (bytes_eq header.name (node.store_name n.op) && bytes_eq header.path path))

    of_found : (o : Option Node) → find here (filter is_store ns) ≡ o → option_map held.store_id o ≡ option_map (λ (n : Node). node.store_id n.op) o
    of_found None at = refl
    of_found (Some n) at = ap (λ (id : ℕ). Some id) (id_same n (passing is_store ns n (found here (filter is_store ns) n at).0).1)

pub store_same : (s : State) (header : Header) → texts.store_named (chapter.nodes (state_for s)) (state_for s).path header ≡ store_named (nodes_of s.ifr) s.path header
unfolding state_for
store_same s header = named_in (nodes_of s.ifr) s.path header

-- ---- fields of questions

passes_same : (test : questions.Field → Bool) (passes : Field → Bool) → ((g : Field) → test (field_for g) ≡ passes g) → (ns : List Node) (q : Node) → is_some_and test (questions.field_of ns q) ≡ field_passes passes (field_of ns q)
passes_same test passes same ns q = ap (is_some_and test) (field_same ns q) ∙ of_field (field_of ns q)
  where
    of_field : (o : Option Field) → is_some_and test (option_map field_for o) ≡ field_passes passes o
    of_field None = refl
    of_field (Some g) = same g

abbrev chapter_field : ℕ → Block → questions.Field
chapter_field store b = record { store = store; offset = b.offset; width = b.width }

-- ---- extract

-- the first password by place whose field a block meets
abbrev chapter_password : List Node → ℕ → Block → Node → Bool
chapter_password ns store b q = rows.is PASSWORD q && is_some_and (questions.meets (chapter_field store b)) (questions.field_of ns q)

password_same : (ns : List Node) (store : ℕ) (b : Block) (qs : List Node)
    → option_map (policy.denied_by questions.Password) (find (chapter_password ns store b) qs)
    ≡ option_map denial_for (option_map (λ (q : Asked). denied_by Password q.node) (find (is_password_in (block_field store b)) (map (asked ns) qs)))
password_same ns store b [] = refl
password_same ns store b (q ∷ qs) =
    ap (λ (is : Bool). option_map (policy.denied_by questions.Password) (if is_password q && is then Some q else find (chapter_password ns store b) qs))
    (passes_same (questions.meets (chapter_field store b)) (meets (block_field store b)) (λ g. refl) ns q)
    ∙ by_test (is_password_in (block_field store b) (asked ns q)) (password_same ns store b qs)
  where
    by_test : (is : Bool) → option_map (policy.denied_by questions.Password) (find (chapter_password ns store b) qs)
        ≡ option_map denial_for (option_map (λ (q : Asked). denied_by Password q.node) (find (is_password_in (block_field store b)) (map (asked ns) qs)))
        → option_map (policy.denied_by questions.Password) (if is then Some q else find (chapter_password ns store b) qs)
        ≡ option_map denial_for (option_map (λ (q : Asked). denied_by Password q.node) (if is then Some (asked ns q) else find (is_password_in (block_field store b)) (map (asked ns) qs)))
    by_test true same = refl
    by_test false same = same

denies_same : (s : State) (store size : ℕ) (b : Block) → chapter.block_denied_by (state_for s) store size b ≡ option_map denial_for (telling_denial (nodes_of s.ifr) store size b)
unfolding state_for
denies_same s store size b =
    ap (λ (qs : List Node). if nat_lt size (b.offset + b.width) then Some record { kind = questions.NoField; place = 0; message = None }
    else option_map (policy.denied_by questions.Password) (find (chapter_password ns store b) qs)) (questions_same ns)
    ∙ by_test (leaves_store size b)
  where
    ns : List Node
    ns = nodes_of s.ifr

    by_test : (out : Bool)
        → (if out then Some record { kind = questions.NoField; place = 0; message = None }
        else option_map (policy.denied_by questions.Password) (find (chapter_password ns store b) (filter is_question ns)))
        ≡ option_map denial_for (if out then Some (denied_by_none NoField) else option_map (λ (q : Asked). denied_by Password q.node) (password_in ns (block_field store b)))
    by_test true = refl
    by_test false = password_same ns store b (filter is_question ns)

first_same : (s : State) (store size : ℕ) (blocks : List Block) → chapter.first_denied_by (chapter.block_denied_by (state_for s) store size) blocks ≡ option_map denial_for (first_untold (nodes_of s.ifr) store size blocks)
first_same s store size [] = refl
first_same s store size (b ∷ blocks) =
    ap (λ (o : Option policy.Denial). option_or o (chapter.first_denied_by (chapter.block_denied_by (state_for s) store size) blocks)) (denies_same s store size b)
    ∙ ap (λ (o : Option policy.Denial). option_or (option_map denial_for (telling_denial (nodes_of s.ifr) store size b)) o) (first_same s store size blocks)
    ∙ or_same (telling_denial (nodes_of s.ifr) store size b) (first_untold (nodes_of s.ifr) store size blocks)

committed_bytes : (s : State) (store : ℕ) → held.bytes_of (state_for s).committed store ≡ bytes_of s.committed store
unfolding state_for
committed_bytes s store = bytes_same s.committed store

abbrev chapter_told : State → Header → List Block → ℕ → List ℕ → chapter.Outcome
chapter_told s header blocks store bytes =
    chapter.unless (state_for s) (chapter.first_denied_by (chapter.block_denied_by (state_for s) store (length bytes)) (blocks_asked blocks (length bytes)))
    (chapter.accepted (state_for s) (codes "CONFIG " ++ response_text header (blocks_asked blocks (length bytes)) bytes ++ codes "\n"))

bytes_told : (s : State) (header : Header) (blocks : List Block) (store : ℕ) (bytes : List ℕ) → chapter_told s header blocks store bytes ≡ outcome_for (extract_bytes s (header, blocks) store bytes)
bytes_told s header blocks store bytes =
    unless_same s (chapter.first_denied_by (chapter.block_denied_by (state_for s) store (length bytes)) (blocks_asked blocks (length bytes))) (first_untold (nodes_of s.ifr) store (length bytes) (blocks_asked blocks (length bytes)))
    (chapter.accepted (state_for s) (codes "CONFIG " ++ response_text header (blocks_asked blocks (length bytes)) bytes ++ codes "\n")) (extract_unless s (configuration_text (header, blocks) bytes))
    (first_same s store (length bytes) (blocks_asked blocks (length bytes))) (λ d. refl) refl

abbrev chapter_request : State → Header × List Block → chapter.Outcome
chapter_request s (header, blocks) =
    chapter.with_some (state_for s) questions.NoStore (texts.store_named (chapter.nodes (state_for s)) (state_for s).path header) λ store.
    chapter_told s header blocks store (unwrap_or (held.bytes_of (state_for s).committed store) [])

request_same : (s : State) (x : Header × List Block) → chapter_request s x ≡ outcome_for (extract_from s x (store_named (nodes_of s.ifr) s.path x.0))
request_same s (header, blocks) =
    some_same s NoStore (texts.store_named (chapter.nodes (state_for s)) (state_for s).path header) (store_named (nodes_of s.ifr) s.path header)
    (λ store. chapter_told s header blocks store (unwrap_or (held.bytes_of (state_for s).committed store) [])) (extract_from s (header, blocks)) refl (store_same s header) refl
    (λ store at. ap (λ (o : Option (List ℕ)). chapter_told s header blocks store (unwrap_or o [])) (committed_bytes s store)
    ∙ bytes_told s header blocks store (unwrap_or (bytes_of s.committed store) []))

pub extract_same : (s : State) (text : List ℕ) → chapter.with_read (state_for s) (request_in text) (chapter_request s) ≡ outcome_for (extract_reading s (as_told (request_in text)))
extract_same s text =
    read_same s (request_in text) (chapter_request s) text_cause (λ r. extract_reading s (as_told r)) (λ cause at. told_back cause (by_four text cause (inl at))) (λ cause. refl)
    (λ x at. request_same s x)

-- ---- the question of a block

abbrev chapter_has : List Node → ℕ → Block → Node → Bool
chapter_has ns store b q = is_some_and (questions.is_same_field (chapter_field store b)) (questions.field_of ns q)

kept_same : (ns : List Node) (store : ℕ) (b : Block) (qs : List Node) → filter (has_field (block_field store b)) (map (asked ns) qs) ≡ map (asked ns) (filter (chapter_has ns store b) qs)
kept_same ns store b [] = refl
kept_same ns store b (q ∷ qs) =
    let same = passes_same (questions.is_same_field (chapter_field store b)) (is_same_field (block_field store b)) (λ g. refl) ns q in
    by_test (has_field (block_field store b) (asked ns q)) (kept_same ns store b qs) ∙ ap (λ (is : Bool). map (asked ns) (if is then q ∷ filter (chapter_has ns store b) qs else filter (chapter_has ns store b) qs)) (sym same)
  where
    by_test : (is : Bool) → filter (has_field (block_field store b)) (map (asked ns) qs) ≡ map (asked ns) (filter (chapter_has ns store b) qs) → (if is then asked ns q ∷ filter (has_field (block_field store b)) (map (asked ns) qs) else filter (has_field (block_field store b)) (map (asked ns) qs))
        ≡ map (asked ns) (if is then q ∷ filter (chapter_has ns store b) qs else filter (chapter_has ns store b) qs)
    by_test true same = ap (λ (l : List Asked). asked ns q ∷ l) same
    by_test false same = same

free_among : (s : State) (ns : List Node) (qs : List Node) → first_free (world_of s) (map (asked ns) qs) ≡ find (λ q. is_none (fixed (world_of s) q)) qs
free_among s ns [] = refl
free_among s ns (q ∷ qs) = by_test (is_none (fixed (world_of s) q)) (free_among s ns qs)
  where
    by_test : (is : Bool) → first_free (world_of s) (map (asked ns) qs) ≡ find (λ q. is_none (fixed (world_of s) q)) qs → option_map (λ (q : Asked). q.node) (if is then Some (asked ns q) else find (λ (q : Asked). is_none (fixed (world_of s) q.node)) (map (asked ns) qs))
        ≡ (if is then Some q else find (λ q. is_none (fixed (world_of s) q)) qs)
    by_test true same = refl
    by_test false same = same

first_among : (ns : List Node) (qs : List Node) → first_question (map (asked ns) qs) ≡ first qs
first_among ns [] = refl
first_among ns (q ∷ qs) = refl

-- the questions that have exactly a block's field
abbrev of_block : State → ℕ → Block → List Node
of_block s store b = filter (chapter_has (nodes_of s.ifr) store b) (filter is_question (nodes_of s.ifr))

of_block_there : (s : State) (store : ℕ) (b : Block) (q : Node) → Contains (of_block s store b) q → Contains (nodes_of s.ifr) q × (is_question q ≡ true)
of_block_there s store b q there = passing is_question (nodes_of s.ifr) q (passing (chapter_has (nodes_of s.ifr) store b) (filter is_question (nodes_of s.ifr)) q there).0

chosen_same : (s : State) (store : ℕ) (b : Block)
    → question_of_field (world_of s) (nodes_of s.ifr) (block_field store b) ≡ option_or (find (λ q. is_none (fixed (world_of s) q)) (of_block s store b)) (first (of_block s store b))
chosen_same s store b =
    ap (λ (l : List Asked). option_or (first_free (world_of s) l) (first_question l)) (kept_same (nodes_of s.ifr) store b (filter is_question (nodes_of s.ifr)))
    ∙ ap (λ (o : Option Node). option_or o (first_question (map (asked (nodes_of s.ifr)) (of_block s store b)))) (free_among s (nodes_of s.ifr) (of_block s store b))
    ∙ ap (λ (o : Option Node). option_or (find (λ q. is_none (fixed (world_of s) q)) (of_block s store b)) o) (first_among (nodes_of s.ifr) (of_block s store b))

-- the question of a block by the chapters, by the nodes of the package
abbrev chapter_chosen : State → List Node → ℕ → Block → Option Node
chapter_chosen s ns store b =
    let all = filter (chapter_has ns store b) (questions.questions ns) in
    option_or (find (λ q. is_none (policy.fixed_by (chapter.now (state_for s)) q)) all) (first all)

pub question_same : (s : State) (store : ℕ) (b : Block) → Stands s → chapter.question_of_block (state_for s) store b ≡ question_of_field (world_of s) (nodes_of s.ifr) (block_field store b)
question_same s store b stands =
    ap (λ (ifr : List ℕ). chapter_chosen s (nodes_of ifr) store b) (ifr_is s)
    ∙ ap (λ (qs : List Node). option_or (find (λ q. is_none (policy.fixed_by (chapter.now (state_for s)) q)) (filter (chapter_has (nodes_of s.ifr) store b) qs)) (first (filter (chapter_has (nodes_of s.ifr) store b) qs))) (questions_same (nodes_of s.ifr))
    ∙ ap (λ (o : Option Node). option_or o (first (of_block s store b)))
    (same_find (λ q. is_none (policy.fixed_by (chapter.now (state_for s)) q)) (λ q. is_none (fixed (world_of s) q)) (of_block s store b)
    (λ q there. ap (λ (o : Option policy.Denial). is_none o) (fixed_same s.ifr (chapter.now (state_for s)) (world_of s) q (alike_now s stands) (of_block_there s store b q there).0) ∙ none_same (fixed (world_of s) q)))
    ∙ sym (chosen_same s store b)

one_of_them : {X : Type 0} (test : X → Bool) (xs : List X) (x : X) → option_or (find test xs) (first xs) ≡ Some x → Contains xs x
one_of_them {X = X} test xs x e = go (find test xs) refl e
  where
    at_first : (ys : List X) → first ys ≡ Some x → Contains ys x
    at_first [] at = not_some x at
    at_first (y ∷ ys) at = (0, omega arith, same_some y x at)

    go : (o : Option X) → find test xs ≡ o → option_or o (first xs) ≡ Some x → Contains xs x
    go None at told = at_first xs told
    go (Some y) at told = (found test xs x (at ∙ told)).0

block_there : (s : State) (store : ℕ) (b : Block) (q : Node) → question_of_field (world_of s) (nodes_of s.ifr) (block_field store b) ≡ Some q → Contains (nodes_of s.ifr) q × (is_question q ≡ true)
block_there s store b q at = of_block_there s store b q (one_of_them (λ q. is_none (fixed (world_of s) q)) (of_block s store b) q (sym (chosen_same s store b) ∙ at))

-- ---- route

abbrev chapter_put : State → Block → Node → chapter.Outcome
chapter_put s b q =
    if is_password q then chapter.denied (state_for s) (policy.denied_by questions.Password q)
    else chapter.set (state_for s) q (offer_for (inputs.field (block_bytes b)))

pub block_same : (s : State) (store : ℕ) (b : Block) → Stands s → chapter.set_block (state_for s) store b ≡ outcome_for (set_block s store b)
block_same s store b stands =
    some_same s NoField (chapter.question_of_block (state_for s) store b) (question_of_field (world_of s) (nodes_of s.ifr) (block_field store b)) (chapter_put s b) (λ o. set_field s o (block_bytes b)) refl
    (question_same s store b stands) refl
    (λ q at. test_same (is_password q) (chapter.denied (state_for s) (policy.denied_by questions.Password q)) (chapter.set (state_for s) q (offer_for (inputs.field (block_bytes b))))
    (denied s (denied_by Password q)) (set_question s (Some q) (inputs.field (block_bytes b))) (λ is. plain_denied s Password q.place refl)
    (λ other. set_same s q (inputs.field (block_bytes b)) stands (block_there s store b q at).0 (block_there s store b q at).1))

sets_field : (s : State) (o : Option Node) (bytes : List ℕ) → Stands s → Sets s (set_field s o bytes)
sets_field s None bytes stands = inl (denied_by_none NoField, refl)
sets_field s (Some q) bytes stands = by_test (is_password q)
  where
    by_test : (is : Bool) → Sets s (if is then denied s (denied_by Password q) else set_question s (Some q) (inputs.field bytes))
    by_test true = inl (denied_by Password q, refl)
    by_test false = sets s q (inputs.field bytes) stands

sets_block : (s : State) (store : ℕ) (b : Block) → Stands s → Sets s (set_block s store b)
sets_block s store b stands = sets_field s (question_of_field (world_of s) (nodes_of s.ifr) (block_field store b)) (block_bytes b) stands

-- What blocks come to by the chapters, and that the session stands behind them.
abbrev Routes : State → chapter.Outcome → Outcome → Type 0
Routes s told o = (told ≡ outcome_for o) × Stands o.state

blocks_same : (s : State) (m : StoreMap) (count store : ℕ) (blocks : List Block) → Stands s → AreStored s.ifr m
    → Routes s (chapter.set_blocks (state_for s) count store blocks (state_for (with s m))) (set_blocks s (count_text count) store (with s m) blocks)
blocks_same s m count store [] stands stored = (refl, with_stored s m stands stored)
blocks_same s m count store (b ∷ blocks) stands stored =
    subst (λ (told : chapter.Outcome). Routes s (chapter.or_back (state_for s) told.reply (chapter.set_blocks (state_for s) count store blocks told.state)) (set_blocks s (count_text count) store (with s m) (b ∷ blocks)))
    (sym (block_same (with s m) store b (with_stored s m stands stored)))
    (behind (set_block (with s m) store b) (sets_block (with s m) store b (with_stored s m stands stored)) (λ n kept. blocks_same s n count store blocks stands kept))
  where
    next : Outcome → chapter.Outcome
    next o = chapter.or_back (state_for s) (outcome_for o).reply (chapter.set_blocks (state_for s) count store blocks (outcome_for o).state)

    here : Outcome → Outcome
    here o = go_on s o.reply (set_blocks s (count_text count) store o.state blocks)

    behind : (o : Outcome) → Sets (with s m) o
        → ((n : StoreMap) → AreStored s.ifr n → Routes s (chapter.set_blocks (state_for s) count store blocks (state_for (with s n))) (set_blocks s (count_text count) store (with s n) blocks)) → Routes s (next o) (here o)
    behind o (inl (d, is)) later = subst (λ (o : Outcome). Routes s (next o) (here o)) (sym is) (denied_same s d, stands)
    behind o (inr (n, text, is, kept)) later = subst (λ (o : Outcome). Routes s (next o) (here o)) (sym is) (later n kept)

abbrev chapter_response : State → Header × List Block → chapter.Outcome
chapter_response s (header, blocks) =
    chapter.with_some (state_for s) questions.NoStore (texts.store_named (chapter.nodes (state_for s)) (state_for s).path header) λ store.
    chapter.set_blocks (state_for s) (length blocks) store blocks (state_for s)

response_same : (s : State) (x : Header × List Block) → Stands s → chapter_response s x ≡ outcome_for (route_reading s (Ok x))
response_same s (header, blocks) stands =
    some_same s NoStore (texts.store_named (chapter.nodes (state_for s)) (state_for s).path header) (store_named (nodes_of s.ifr) s.path header)
    (λ store. chapter.set_blocks (state_for s) (length blocks) store blocks (state_for s)) (route_to s blocks) refl (store_same s header) refl
    (λ store at. (blocks_same s s.working (length blocks) store blocks stands stands.working).0)

pub route_same : (s : State) (text : List ℕ) → Stands s → chapter.with_read (state_for s) (response_in text) (chapter_response s) ≡ outcome_for (route_reading s (as_told (response_in text)))
route_same s text stands =
    read_same s (response_in text) (chapter_response s) text_cause (λ r. route_reading s (as_told r)) (λ cause at. told_back cause (by_four text cause (inr at))) (λ cause. refl)
    (λ x at. response_same s x stands)

pub route_stands : (s : State) (r : Result (Header × List Block) Cause) → Stands s → Stands (route_reading s r).state
route_stands s (Err cause) stands = stands
route_stands s (Ok (header, blocks)) stands = of_store (store_named (nodes_of s.ifr) s.path header)
  where
    of_store : (o : Option ℕ) → Stands (route_to s blocks o).state
    of_store None = stands
    of_store (Some store) = (blocks_same s s.working (length blocks) store blocks stands stands.working).1

pub extract_stands : (s : State) (r : Result (Header × List Block) Cause) → Stands s → Stands (extract_reading s r).state
extract_stands s (Err cause) stands = stands
extract_stands s (Ok (header, blocks)) stands = of_store (store_named (nodes_of s.ifr) s.path header)
  where
    of_denial : (text : List ℕ) (o : Option Denial) → Stands (extract_unless s text o).state
    of_denial text None = stands
    of_denial text (Some d) = stands

    of_store : (o : Option ℕ) → Stands (extract_from s (header, blocks) o).state
    of_store None = stands
    of_store (Some store) =
        let bytes = unwrap_or (bytes_of s.committed store) [] in
        of_denial (configuration_text (header, blocks) bytes) (first_untold (nodes_of s.ifr) store (length bytes) (blocks_asked blocks (length bytes)))
