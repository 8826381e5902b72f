-- What holds of the warnings of each word holds of all warnings, in whatever order they are told.
use Rattle.std.proofs.Common.{◌==◌, ◌+◌, ◌||◌, not, ℕ, suc, Bool, cond, List, [], ◌∷◌, ◌++◌, drop, filter, length, is_some, Option, Some, None, IfSome, option_map, refl, sym, subst}
use Rattle.std.specs.List.{AllByRecursion, cons_option, filter_map, flat_map}
use Rattle.std.specs.List.Sorted.{IsStableByKey}
use Rattle.std.specs.Ordering.{nat_cmp}
use Rattle.std.proofs.lemmas.Bool.{cond_both, eq-eqb}
use Rattle.browser_rules.specs.Strings.{Spoken}
use Rattle.hii_bytes.proofs.SearchLemmas.{kept_of_key}
use Rattle.ifr_opcodes.specs.Fields.{default_kind, form_id}
use Rattle.ifr_opcodes.specs.Forest.{Node}
use Rattle.ifr_opcodes.specs.Opcode.{number}
use Rattle.ifr_opcodes.specs.Rows.{is_condition_number}
use Rattle.ifr_expr.specs.Support.{support}
use Rattle.ifr_expr.specs.Trees.{Tree}
use Rattle.ifr_nodes.specs.Guards.{is_guard}
use Rattle.ifr_nodes.specs.NodeExpressions.{expression_tree, value_tree}
use Rattle.ifr_nodes.specs.Nodes.{defaults, is_form, is_statement, nodes_of}
use Rattle.ifr_nodes.specs.Rules.{as_rule, is_rule}
use Rattle.hii_values.specs.declared.denial.DenialKind.{DenialKind}
use Rattle.hii_questions.specs.Fields.{Asked, is_same_field, meets, questions}
use Rattle.opcode_audit.specs.Facts.{string_ids}
use Rattle.opcode_audit.specs.Walk.{opcodes_in}
use Rattle.check_audit.specs.Constants.{constant_warnings}
use Rattle.check_audit.specs.GivenDefaults.{default_at, default_warnings, defaults_of, is_given, refused}
use Rattle.check_audit.specs.Lacks.{Lack, numbered_lacks}
use Rattle.check_audit.specs.Overlaps.{field_of_laid, overlap_of, overlaps_among, overlaps_behind, with_warning}
use Rattle.check_audit.specs.Warnings.{AreWarnings, all_warnings, asked_at, asking, asks_of_asked, asks_of_conditions, asks_of_guards, asks_of_rule, asks_of_rules, asks_of_value, asks_of_values, asks_warnings, bounds_warnings, firsts, is_crossed, is_named, is_of_other, is_textless, is_unanswered, named_at, named_by, named_in, node_warnings, numbered_bounds, order_of, textless_among, textless_at, textless_warnings, unreached_at, unreached_warnings}
use Rattle.check_audit.specs.declared.overlaps.Laid.{Laid}
use Rattle.check_audit.specs.declared.warning.Oddity.TheVariants.{Bounds, Language, Overlap, Text, Unreached}
use Rattle.check_audit.specs.declared.warning.Warning.{Warning}

-- ---- what holds of each of some lists

pub each_behind : {X : Type 0} (P : X → Type 0) (xs ys : List X) → AllByRecursion P xs → AllByRecursion P ys → AllByRecursion P (xs ++ ys)
each_behind P [] ys all too = too
each_behind P (x ∷ xs) ys all too = (all.0, each_behind P xs ys all.1 too)

each_among : {X Y : Type 0} (P : Y → Type 0) (f : X → List Y) (xs : List X) → ((x : X) → AllByRecursion P (f x)) → AllByRecursion P (flat_map f xs)
each_among P f [] one = tt
each_among P f (x ∷ xs) one = each_behind P (f x) (flat_map f xs) (one x) (each_among P f xs one)

in_front : {Y : Type 0} (P : Y → Type 0) (o : Option Y) (ys : List Y) → IfSome o P → AllByRecursion P ys → AllByRecursion P (cons_option o ys)
in_front P None ys one all = all
in_front P (Some y) ys one all = (one, all)

each_given : {X Y : Type 0} (P : Y → Type 0) (f : X → Option Y) (xs : List X) → ((x : X) → IfSome (f x) P) → AllByRecursion P (filter_map f xs)
each_given P f [] one = tt
each_given P f (x ∷ xs) one = in_front P (f x) (filter_map f xs) (one x) (each_given P f xs one)

each_kept : {X : Type 0} (P : X → Type 0) (test : X → Bool) (xs : List X) → AllByRecursion P xs → AllByRecursion P (filter test xs)
each_kept P test [] all = tt
each_kept P test (x ∷ xs) all =
    cond_both (test x) (x ∷ filter test xs) (filter test xs) (λ l. AllByRecursion P l) (λ _. (all.0, each_kept P test xs all.1)) (λ _. each_kept P test xs all.1)

-- what holds of each of a key, whatever the key is, holds of each
each_of_keys : {X : Type 0} (P : X → Type 0) (key : X → ℕ) (ys : List X) → ((like : X) → AllByRecursion P (filter (λ x. key x == key like) ys)) → AllByRecursion P ys
each_of_keys P key [] kept = tt
each_of_keys P key (y ∷ ys) kept =
    let same = filter (λ x. key x == key y) ys in
    let here : AllByRecursion P (y ∷ same) = subst (λ (b : Bool). AllByRecursion P (cond b (y ∷ same) same)) (eq-eqb (key y) (key y) refl) (kept y) in
    let others = each_of_keys P key ys (λ like.
    let more = filter (λ x. key x == key like) ys in
    cond_both (key y == key like) (y ∷ more) more (λ l. AllByRecursion P l → AllByRecursion P more) (λ _. λ all. all.1) (λ _. λ all. all) (kept like)) in
    (here.0, others)

each_sorted : {X : Type 0} (P : X → Type 0) (key : X → ℕ) (xs ys : List X) → AllByRecursion P xs → IsStableByKey key nat_cmp xs ys → AllByRecursion P ys
each_sorted P key xs ys all stable =
    each_of_keys P key ys (λ like. subst (λ l. AllByRecursion P l) (sym (kept_of_key key xs ys (key like) like refl stable)) (each_kept P (λ x. key x == key like) xs all))

-- ---- the warnings of each word

-- This holds of the warnings of each word, of whatever they are told; of conditions that name no question of those of these nodes.
pub record Holds (P : Warning → Type 0) (ns : List Node) : Type 0 where
  pub asks : (place id : ℕ) (is_there : Bool) → P (asking place id is_there)
  pub bounds : (place k : ℕ) → P record { place = place; oddity = Bounds k }
  pub constant : AllByRecursion P (constant_warnings ns)
  pub default : (q : Asked) (n : Node) (denial : Option DenialKind) → P (refused q n denial)
  pub language : (k : ℕ) → P record { place = 4; oddity = Language k }
  pub overlap : (place question other : ℕ) → P record { place = place; oddity = Overlap record { question = question; other = other } }
  pub text : (place id : ℕ) → P record { place = place; oddity = Text id }
  pub unreached : (place form : ℕ) → P record { place = place; oddity = Unreached form }

asked_hold : (P : Warning → Type 0) (ns : List Node) (place id : ℕ) (o : Option Bool) → Holds P ns → IfSome (option_map (asking place id) o) P
asked_hold P ns place id None h = tt
asked_hold P ns place id (Some is_there) h = h.asks place id is_there

named_hold : (P : Warning → Type 0) (ns : List Node) (place : ℕ) (tree : Tree) → Holds P ns → AllByRecursion P (named_at ns place tree)
named_hold P ns place tree h = each_given P (asked_at ns place) (support tree) (λ id. asked_hold P ns place id (is_unanswered ns id) h)

named_by_hold : (P : Warning → Type 0) (ns : List Node) (place : ℕ) (o : Option Tree) → Holds P ns → AllByRecursion P (named_by ns place o)
named_by_hold P ns place None h = tt
named_by_hold P ns place (Some tree) h = named_hold P ns place tree h

asks_hold : (P : Warning → Type 0) (ns : List Node) → Holds P ns → AllByRecursion P (asks_warnings ns)
asks_hold P ns h =
    let guards = each_among P (named_in ns) (filter (λ n. is_guard (number n.op)) ns) (λ n. named_hold P ns n.place (expression_tree n) h) in
    let conditions = each_among P (named_in ns) (filter (λ n. is_condition_number (number n.op)) ns) (λ n. named_hold P ns n.place (expression_tree n) h) in
    let rules = each_among P (asks_of_rule ns) (filter is_rule ns) (λ n. named_hold P ns n.place (as_rule n).tree h) in
    let values = each_among P (asks_of_asked ns) (questions ns) (λ q. each_among P (asks_of_value ns) (defaults q.node) (λ v. named_by_hold P ns (v.place + length v.op) (value_tree v) h)) in
    each_behind P (asks_of_guards ns ++ asks_of_conditions ns ++ asks_of_rules ns) (asks_of_values ns)
    (each_behind P (asks_of_guards ns ++ asks_of_conditions ns) (asks_of_rules ns) (each_behind P (asks_of_guards ns) (asks_of_conditions ns) guards conditions) rules)
    values

bounds_hold : (P : Warning → Type 0) (ns : List Node) (k : ℕ) (some : List Node) → Holds P ns → AllByRecursion P (numbered_bounds k some)
bounds_hold P ns k [] h = tt
bounds_hold P ns k (n ∷ some) h = (h.bounds n.place k, bounds_hold P ns (suc k) some h)

refused_hold : (P : Warning → Type 0) (ns : List Node) (q : Asked) (n : Node) (o : Option (Option DenialKind)) → Holds P ns → IfSome (option_map (refused q n) o) P
refused_hold P ns q n None h = tt
refused_hold P ns q n (Some denial) h = h.default q n denial

defaults_hold : (P : Warning → Type 0) (ns : List Node) (spoken : List Spoken) (q : Asked) → Holds P ns → AllByRecursion P (defaults_of spoken q)
defaults_hold P ns spoken q h =
    cond_both (is_some q.field) (filter_map (default_at spoken q) (defaults q.node)) [] (λ ws. AllByRecursion P ws)
    (λ _. each_given P (default_at spoken q) (defaults q.node) (λ n. cond_both (is_given (default_kind n.op)) (option_map (refused q n) _) None (λ o. IfSome o P) (λ _. refused_hold P ns q n _ h) (λ _. tt)))
    (λ _. tt)

unreached_hold : (P : Warning → Type 0) (ns : List Node) (named : ℕ → Bool) (form : Node) → Holds P ns → IfSome (unreached_at named form) P
unreached_hold P ns named form h = cond_both (named (form_id form.op)) None _ (λ o. IfSome o P) (λ _. tt) (λ _. h.unreached form.place (form_id form.op))

nodes_hold : (P : Warning → Type 0) (spoken : List Spoken) (ns : List Node) → Holds P ns → AllByRecursion P (node_warnings spoken ns)
nodes_hold P spoken ns h =
    let bounds = bounds_hold P ns 0 (filter is_crossed (filter is_statement ns)) h in
    let given_ones = each_among P (defaults_of spoken) (questions ns) (λ q. defaults_hold P ns spoken q h) in
    let unreached = each_given P (unreached_at (is_named ns)) (drop 1 (filter is_form ns)) (λ form. unreached_hold P ns (is_named ns) form h) in
    each_behind P _ (unreached_warnings ns)
    (each_behind P _ (default_warnings spoken ns) (each_behind P _ _ (each_behind P (asks_warnings ns) (bounds_warnings ns) (asks_hold P ns h) bounds) h.constant) given_ones)
    unreached

warned_in_front : (P : Warning → Type 0) (o : Option Warning) (ws : List Warning) → IfSome o P → AllByRecursion P ws → AllByRecursion P (with_warning o ws)
warned_in_front P None ws one all = all
warned_in_front P (Some w) ws one all = (one, all)

shared_hold : (P : Warning → Type 0) (ns : List Node) (before : Laid) (laid : List Laid) → Holds P ns → AllByRecursion P (overlaps_behind before laid)
shared_hold P ns before [] h = tt
shared_hold P ns before (next ∷ laid) h =
    warned_in_front P (overlap_of before next) (overlaps_behind next laid)
    (cond_both (is_same_field (field_of_laid before) (field_of_laid next) || not (meets (field_of_laid next) (field_of_laid before))) None _ (λ o. IfSome o P) (λ _. tt) (λ _. h.overlap next.place next.question before.question))
    (shared_hold P ns next laid h)

overlaps_hold : (P : Warning → Type 0) (ns : List Node) (laid : List Laid) → Holds P ns → AllByRecursion P (overlaps_among laid)
overlaps_hold P ns [] h = tt
overlaps_hold P ns (first ∷ laid) h = shared_hold P ns first laid h

languages_hold : (P : Warning → Type 0) (ns : List Node) (k : ℕ) (lacks : List Lack) → Holds P ns → AllByRecursion P (numbered_lacks k lacks)
languages_hold P ns k [] h = tt
languages_hold P ns k (lack ∷ lacks) h = (h.language k, languages_hold P ns (suc k) lacks h)

textless_hold : (P : Warning → Type 0) (ns : List Node) (spoken : List Spoken) (place : ℕ) (ops : List (List ℕ)) → Holds P ns → AllByRecursion P (textless_among spoken place ops)
textless_hold P ns spoken place [] h = tt
textless_hold P ns spoken place (op ∷ ops) h =
    each_behind P (filter_map (textless_at spoken place) (string_ids op)) (textless_among spoken (place + length op) ops)
    (each_given P (textless_at spoken place) (string_ids op) (λ id. cond_both (is_textless spoken id) _ None (λ o. IfSome o P) (λ _. h.text place id) (λ _. tt)))
    (textless_hold P ns spoken (place + length op) ops h)

firsts_hold : (P : Warning → Type 0) (ws : List Warning) → AllByRecursion P ws → AllByRecursion P (firsts ws)
firsts_hold P [] all = tt
firsts_hold P (w ∷ ws) all = (all.0, each_kept P (is_of_other w) (firsts ws) (firsts_hold P ws all.1))

all_hold : (P : Warning → Type 0) (spoken : List Spoken) (lacks : List Lack) (ifr : List ℕ) (laid : List Laid) → Holds P (nodes_of ifr) → AllByRecursion P (all_warnings spoken lacks ifr laid)
all_hold P spoken lacks ifr laid h =
    let ns = nodes_of ifr in
    each_behind P _ (textless_warnings spoken ifr)
    (each_behind P _ _ (each_behind P (node_warnings spoken ns) (overlaps_among laid) (nodes_hold P spoken ns h) (overlaps_hold P ns laid h)) (languages_hold P ns 0 lacks h))
    (firsts_hold P (textless_among spoken 4 (opcodes_in (drop 4 ifr))) (textless_hold P ns spoken 4 (opcodes_in (drop 4 ifr)) h))

pub each_warning : (P : Warning → Type 0) (spoken : List Spoken) (lacks : List Lack) (ifr : List ℕ) (ws : List Warning) → Holds P (nodes_of ifr) → AreWarnings spoken lacks ifr ws → AllByRecursion P ws
each_warning P spoken lacks ifr ws h are = each_sorted P order_of (all_warnings spoken lacks ifr are.laid) ws (all_hold P spoken lacks ifr are.laid h) are.all
