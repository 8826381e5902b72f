-- What a node is, and what stands in and around it.
use Rattle.std.proofs.Common.{◌≡◌, ◌==◌, ℕ, Bool, true, Option, Some, None, List, [], ◌∷◌, map, refl, ap, ◌∙◌}
use Rattle.std.specs.Prelude.{◌&&◌, ◌||◌, filter, option_map, unwrap_or}
use Rattle.std.specs.List.{flat_map, last_or}
use Rattle.std.specs.Option.{option_or}
use Rattle.browser_rules.specs.Nodes as chapter
use Rattle.browser_rules.specs.Opcodes.{a_default, a_guard, a_question, a_statement, an_option, is_a, row_of, INCONSISTENT_IF, NO_SUBMIT_IF, WARNING_IF, LOCKED}
use Rattle.browser_rules.specs.Words.{first, last, is_some_and}
use Rattle.ifr_opcodes.specs.Fields.{question_id}
use Rattle.ifr_opcodes.specs.Forest.{Ancestor, Node, below}
use Rattle.ifr_opcodes.specs.Opcode.{number}
use Rattle.ifr_opcodes.specs.Rows.{is_question_number}
use Rattle.ifr_nodes.specs.Guards.{guards, is_guard, nodes_on}
use Rattle.ifr_nodes.specs.Locks.{chain, first_lock, has_place, is_locked, locked_in, locks_scope}
use Rattle.ifr_nodes.specs.Nodes as node
use Rattle.ifr_nodes.specs.Nodes.{id_or_0, is_option, is_default, questions_among}
use Rattle.ifr_opcodes.proofs.TableLemmas.{numbers, agree, not_this}
use Rattle.rules_laws.proofs.OpcodeListLemmas.{question_same, statement_same}
use Rattle.rules_laws.proofs.OpcodeScopeLemmas.{guard_same}

-- ---- lists

pub same_filter : {X : Type 0} (p q : X → Bool) (xs : List X) → ((x : X) → p x ≡ q x) → filter p xs ≡ filter q xs
same_filter p q [] same = refl
same_filter p q (x ∷ xs) same = rw (same x, same_filter p q xs same) refl

pub same_flat : {X Y : Type 0} (f g : X → List Y) (xs : List X) → ((x : X) → f x ≡ g x) → flat_map f xs ≡ flat_map g xs
same_flat f g [] same = refl
same_flat f g (x ∷ xs) same = rw (same x, same_flat f g xs same) refl

-- the last of a list that is not empty is there
last_found : {X : Type 0} (x y : X) (xs : List X) → option_or (last_or (Some y) xs) (Some x) ≡ last_or (Some y) xs
last_found x y [] = refl
last_found x y (z ∷ zs) = last_found x z zs

last_behind : {X : Type 0} (x : X) (xs : List X) → last (x ∷ xs) ≡ last_or (Some x) xs
last_behind x [] = refl
last_behind x (y ∷ ys) = ap (λ o. option_or o (Some x)) (last_behind y ys) ∙ last_found x y ys

pub last_same : {X : Type 0} (xs : List X) → last xs ≡ last_or None xs
last_same [] = refl
last_same (x ∷ xs) = last_behind x xs

-- ---- what a node is

option_in_rows : map (λ c. is_a an_option (c ∷ [])) numbers ≡ map (λ c. c == 0x09) numbers
unfolding row_of
option_in_rows = refl

option_same : (code : ℕ) → is_a an_option (code ∷ []) ≡ (code == 0x09)
option_same code = agree (λ c. is_a an_option (c ∷ [])) (λ c. c == 0x09) option_in_rows (λ c none. rw (none, not_this 0x09 c refl none) refl) code

default_in_rows : map (λ c. is_a a_default (c ∷ [])) numbers ≡ map (λ c. c == 0x5b) numbers
unfolding row_of
default_in_rows = refl

default_same : (code : ℕ) → is_a a_default (code ∷ []) ≡ (code == 0x5b)
default_same code = agree (λ c. is_a a_default (c ∷ [])) (λ c. c == 0x5b) default_in_rows (λ c none. rw (none, not_this 0x5b c refl none) refl) code

pub is_question_same : (n : Node) → chapter.is_question n ≡ node.is_question n
is_question_same n = question_same (number n.op)

-- ---- what stands in it

pub statements_same : (form : Node) → chapter.statements form ≡ node.statements form
statements_same form =
    same_filter (λ (n : Node). is_a a_statement n.op || is_a a_question n.op) node.is_statement (below form) (λ n. statement_same (number n.op))

pub options_same : (q : Node) → node.is_question q ≡ true → chapter.options q ≡ node.options q
options_same q is = rw is (same_filter (λ (n : Node). is_a an_option n.op) is_option (below q) (λ n. option_same (number n.op)))

pub defaults_same : (q : Node) → node.is_question q ≡ true → chapter.in_question (λ (n : Node). is_a a_default n.op) q ≡ node.defaults q
defaults_same q is = rw is (same_filter (λ (n : Node). is_a a_default n.op) is_default (below q) (λ n. default_same (number n.op)))

pub inconsistents_same : (q : Node) → node.is_question q ≡ true → chapter.in_question (chapter.is INCONSISTENT_IF) q ≡ node.inconsistents q
inconsistents_same q is = rw is refl

pub no_submits_same : (q : Node) → node.is_question q ≡ true → chapter.in_question (chapter.is NO_SUBMIT_IF) q ≡ node.no_submits q
no_submits_same q is = rw is refl

pub warnings_same : (q : Node) → node.is_question q ≡ true → chapter.in_question (chapter.is WARNING_IF) q ≡ node.warnings q
warnings_same q is = rw is refl

-- ---- what is around it

pub guards_same : (n : Node) → chapter.guards n ≡ guards n
guards_same n = same_filter (λ (m : Node). is_a a_guard m.op) (λ (m : Node). is_guard (number m.op)) (nodes_on [] n.path) (λ m. guard_same (number m.op))

id_of_found : (o : Option Ancestor) → unwrap_or (option_map (λ (a : Ancestor). question_id a.op) o) 0 ≡ id_or_0 o
id_of_found None = refl
id_of_found (Some a) = refl

pub this_same : (n : Node) → chapter.this_of n ≡ node.this_of n
this_same n =
    ap (λ (path : List Ancestor). unwrap_or (option_map (λ (a : Ancestor). question_id a.op) (last path)) 0)
    (same_filter (λ (a : Ancestor). is_a a_question a.op) (λ (a : Ancestor). is_question_number (number a.op)) n.path (λ a. question_same (number a.op)))
    ∙ ap (λ (o : Option Ancestor). unwrap_or (option_map (λ (a : Ancestor). question_id a.op) o) 0) (last_same (questions_among n.path))
    ∙ id_of_found (last_or None (questions_among n.path))

-- a LOCKED that stands directly in what stands at a place
locks_same : (place : ℕ) (m : Node) → (chapter.is LOCKED m && is_some_and (λ (a : Ancestor). a.place == place) (last m.path)) ≡ locks_scope place m
locks_same place m = ap (λ (b : Bool). is_locked m && b) (ap (λ (o : Option Ancestor). is_some_and (λ (a : Ancestor). a.place == place) o) (last_same m.path) ∙ of_found (last_or None m.path))
  where
    of_found : (o : Option Ancestor) → is_some_and (λ (a : Ancestor). a.place == place) o ≡ has_place place (option_map (λ (a : Ancestor). record { place = a.place; op = a.op }) o)
    of_found None = refl
    of_found (Some a) = refl

pub lock_same : (ns : List Node) (n : Node) → chapter.lock_of ns n ≡ first_lock ns n
lock_same ns n =
    ap (λ (ms : List Node). first ms)
    (same_flat (λ place. filter (λ (m : Node). chapter.is LOCKED m && is_some_and (λ (a : Ancestor). a.place == place) (last m.path)) ns) (locked_in ns) (chain n)
    (λ place. same_filter (λ (m : Node). chapter.is LOCKED m && is_some_and (λ (a : Ancestor). a.place == place) (last m.path)) (locks_scope place) ns (λ m. locks_same place m)))
