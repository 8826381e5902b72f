-- The questions of a form take their defaults as the chapters say.
use Rattle.std.proofs.Common.{◌≡◌, ◌==◌, ℕ, ◌+◌, true, Option, Some, None, List, [], ◌∷◌, ◌++◌, length, refl, sym, ap, subst, ◌∙◌, arith, inl, inr}
use Rattle.std.specs.Prelude.{Contains, IfSome, codes, decimal, filter, option_map, unwrap_or}
use Rattle.std.specs.List.{AllByRecursion}
use Rattle.std.proofs.lemmas.Bool.{cases_Bool, cond-true, cond-false}
use Rattle.browser_rules.specs.Expressions.{value_of}
use Rattle.browser_rules.specs.Expressions as expressions
use Rattle.browser_rules.specs.Nodes as rows
use Rattle.browser_rules.specs.Opcodes as table
use Rattle.browser_rules.specs.Questions as questions
use Rattle.browser_rules.specs.Session as chapter
use Rattle.browser_rules.specs.Strings as strings
use Rattle.browser_rules.specs.Values as values
use Rattle.ifr_opcodes.specs.Fields.{default_id}
use Rattle.ifr_opcodes.specs.Forest.{Forest, none, node, Node, as_ancestor, below, node_at}
use Rattle.ifr_expr.specs.Meaning.{value}
use Rattle.ifr_expr.specs.Trees.{Tree}
use Rattle.ifr_expr.specs.Values.{undefined}
use Rattle.ifr_nodes.specs.NodeExpressions.{tree_of_value}
use Rattle.ifr_nodes.specs.Nodes as nodes
use Rattle.ifr_nodes.specs.Nodes.{defaults, is_question, nodes_of, statements}
use Rattle.ifr_nodes.specs.Table.{wants_expression, wants_value}
use Rattle.ifr_scopes.proofs.FormPlaceLemmas.{found}
use Rattle.ifr_nodes.proofs.NodeFactLemmas.{has_value}
use Rattle.ifr_nodes.proofs.ViewLemmas.{further}
use Rattle.hii_values.specs.Inputs.{Offer}
use Rattle.hii_questions.proofs.FieldLemmas.{passing}
use Rattle.hii_varstore.specs.Stores.{StoreMap}
use Rattle.ifr_defaults.specs.Defaults.{default_of, default_with}
use Rattle.session_steps.specs.State.{State}
use Rattle.session_steps.specs.Step.{Outcome, Taken, form_of, questions_in, set_question, sources, take_default, take_defaults, take_each, take_offer, take_set, taken}
use Rattle.rules_laws.specs.laws.Defaults.{HasSameValue}
use Rattle.rules_laws.specs.laws.Opcodes.{value_for}
use Rattle.rules_laws.specs.laws.Questions.{offer_for}
use Rattle.session_laws.specs.laws.Session.{AreStored, Stands, outcome_for, state_for}
use Rattle.rules_laws.specs.laws.Stores.{stores_for}
use Rattle.session_laws.proofs.SeenLemmas.{answer_alike, current_is}
use Rattle.session_laws.proofs.ChangeLemmas.{Sets, set_same, sets, with_stored}
use Rattle.rules_laws.proofs.DefaultLemmas.{default_same}
use Rattle.rules_laws.proofs.NodeLemmas.{is_question_same, same_filter, statements_same}
use Rattle.rules_laws.proofs.OpcodeScopeLemmas.{value_wanted_same}
use Rattle.rules_laws.proofs.PolicyConditionLemmas.{meant_same}
use Rattle.rules_laws.proofs.PolicyLemmas.{inside_there}

-- ---- what is there

pub not_some : {X A : Type 0} (x : X) → ◌≡◌ {A = Option X} None (Some x) → A
not_some x bad = absurd (cc)

pub same_some : {X : Type 0} (x y : X) → ◌≡◌ {A = Option X} (Some x) (Some y) → x ≡ y
same_some x y same = cc

pub found_at : (ns : List Node) (place : ℕ) (n : Node) → node_at ns place ≡ Some n → Contains ns n
found_at [] place n e = not_some n e
found_at (m ∷ ns) place n e = elim (cases_Bool (m.place == place)) [
  | inl here ↦ (0, omega arith, same_some m n (sym (cond-true (m.place == place) (Some m) (node_at ns place) here) ∙ e))
  | inr other ↦ further m ns n (found_at ns place n (sym (cond-false (m.place == place) (Some m) (node_at ns place) other) ∙ e))
]

-- Each of some nodes is a question of the package.
abbrev pub AreAsked : List ℕ → List Node → Type 0
AreAsked bytes qs = AllByRecursion (λ (q : Node). Contains (nodes_of bytes) q × (is_question q ≡ true)) qs

each_asked : (bytes : List ℕ) (qs : List Node) → ((q : Node) → Contains qs q → Contains (nodes_of bytes) q × (is_question q ≡ true)) → AreAsked bytes qs
each_asked bytes [] each = tt
each_asked bytes (q ∷ qs) each = (each q (0, omega arith, refl), each_asked bytes qs (λ p there. each p (further q qs p there)))

form_asked : (s : State) (o : Option Node) → form_of s ≡ o → AreAsked s.ifr (questions_in o)
form_asked s None at = tt
form_asked s (Some form) at =
    each_asked s.ifr (filter is_question (statements form)) (λ q there.
    let kept = passing is_question (statements form) q there in
    ((inside_there s.ifr nodes.is_statement form q (found_at (nodes_of s.ifr) s.form form at) kept.0).0, kept.1))

-- ---- the default of a question

default_there : (q d : Node) (class : ℕ) → is_question q ≡ true → default_with q class ≡ Some d → Contains (filter nodes.is_default (below q)) d
default_there q d class is at =
    subst (λ (ds : List Node). Contains ds d) (cond-true (is_question q) (filter nodes.is_default (below q)) [] is) (found (λ (m : Node). default_id m.op == class) (defaults q) d at).0

abbrev chapter_behind : ℕ → Forest → List expressions.Mark
chapter_behind at none = []
chapter_behind at (node op children rest) = expressions.expression_in (at + length op) children

value_alike : (s : State) (q d : Node) → Stands s → Contains (nodes_of s.ifr) d → HasSameValue (nodes_of s.ifr) (stores_for s.working) (sources s) q d
value_alike s q d stands within = elim (cases_Bool (wants_value d.op)) [
  | inl wants ↦
      let h = has_value s.ifr d stands.browsable.accepted.checked within wants in
      let its : Node = record { place = from; op = h.op; path = d.path ++ as_ancestor d ∷ []; children = h.children } in
      ap told (cond-true (table.wants_value d.op) (Some (chapter_behind from d.children)) None (value_wanted_same d.op ∙ wants) ∙ ap (λ (f : Forest). Some (chapter_behind from f)) h.first)
      ∙ meant_same s.ifr (stores_for s.working) s.working stands.browsable.accepted.checked stands.are_bytes (answer_alike s s.working stands stands.working) (rows.question_id q) its h.within (ap wants_expression h.is_value)
      ∙ sym (ap meant (cond-true (wants_value d.op) (tree_of_value from d.children) None wants ∙ ap (tree_of_value from) h.first))
  | inr other ↦
      ap told (cond-false (table.wants_value d.op) (Some (chapter_behind from d.children)) None (value_wanted_same d.op ∙ other))
      ∙ sym (ap meant (cond-false (wants_value d.op) (tree_of_value from d.children) None other))
]
  where
    from : ℕ
    from = d.place + length d.op

    told : Option (List expressions.Mark) → values.Value
    told o = unwrap_or (option_map (value_of (rows.rules_of (nodes_of s.ifr)) (questions.answers (nodes_of s.ifr) (stores_for s.working)) (rows.question_id q)) o) values.undefined

    meant : Option Tree → values.Value
    meant o = value_for (unwrap_or (option_map (value (sources s).rules (sources s).answers (rows.question_id q)) o) undefined)

same_default : (s : State) (q : Node) (class : ℕ) → Stands s → Contains (nodes_of s.ifr) q → is_question q ≡ true
    → questions.default_of (chapter.nodes (state_for s)) (state_for s).working (strings.text_of (state_for s).spoken (state_for s).language) q class ≡ option_map offer_for (default_of (sources s) q class)
unfolding state_for
same_default s q class stands within is =
    default_same (nodes_of s.ifr) (stores_for s.working) (sources s) q class is (of_found (default_with q class) refl)
  where
    of_found : (o : Option Node) → default_with q class ≡ o → IfSome o (HasSameValue (nodes_of s.ifr) (stores_for s.working) (sources s) q)
    of_found None at = tt
    of_found (Some d) at = value_alike s q d stands (inside_there s.ifr nodes.is_default q d within (default_there q d class is at)).0

-- ---- a question takes its default

abbrev pub taken_for : Taken → chapter.State × List Node
taken_for t = (state_for t.state, t.questions)

-- the state with other stores
abbrev pub with : State → StoreMap → State
with s m = record s { working = m }

-- What a question leaves that takes an offer: other stores, and maybe itself among those that took theirs.
abbrev Takes : State → chapter.State × List Node → Taken → Type 0
Takes s told t = (m : StoreMap) × (qs : List Node) × AreStored s.ifr m × (t ≡ record { state = with s m; questions = qs }) × (told ≡ taken_for t)

by_set : (s : State) (qs : List Node) (q : Node) (o : Outcome) → Stands s → Sets s o
    → Takes s (chapter.if_accepted (state_for s, qs) q (outcome_for o) (outcome_for o).reply) (take_set qs q o)
by_set s qs q o stands (inl (d, is)) = (
  s.working,
  qs,
  stands.working,
  ap (take_set qs q) is,
  ap (λ (o : Outcome). chapter.if_accepted (state_for s, qs) q (outcome_for o) (outcome_for o).reply) is ∙ sym (ap (λ (o : Outcome). taken_for (take_set qs q o)) is),
)
by_set s qs q o stands (inr (m, text, is, stored)) = (
  m,
  qs ++ q ∷ [],
  stored,
  ap (take_set qs q) is,
  ap (λ (o : Outcome). chapter.if_accepted (state_for s, qs) q (outcome_for o) (outcome_for o).reply) is ∙ sym (ap (λ (o : Outcome). taken_for (take_set qs q o)) is),
)

takes_offer : (s : State) (qs : List Node) (q : Node) (o : Option Offer) → Stands s → Contains (nodes_of s.ifr) q → is_question q ≡ true
    → Takes s (unwrap_or (option_map (λ offer. chapter.if_accepted (state_for s, qs) q (chapter.set (state_for s) q offer) (chapter.set (state_for s) q offer).reply) (option_map offer_for o)) (state_for s, qs))
    (take_offer (record { state = s; questions = qs }) q o)
takes_offer s qs q None stands within is = (s.working, qs, stands.working, refl, refl)
takes_offer s qs q (Some offer) stands within is =
    let t = take_set qs q (set_question s (Some q) offer) in
    subst (λ (outcome : chapter.Outcome). Takes s (chapter.if_accepted (state_for s, qs) q outcome outcome.reply) t) (sym (set_same s q offer stands within is))
    (by_set s qs q (set_question s (Some q) offer) stands (sets s q offer stands))

takes_default : (s : State) (class : ℕ) (qs : List Node) (q : Node) → Stands s → Contains (nodes_of s.ifr) q → is_question q ≡ true
    → Takes s (chapter.take_default class (state_for s, qs) q) (take_default class (record { state = s; questions = qs }) q)
takes_default s class qs q stands within is =
    subst (λ (offered : Option questions.Offer). Takes s
    (unwrap_or (option_map (λ offer. chapter.if_accepted (state_for s, qs) q (chapter.set (state_for s) q offer) (chapter.set (state_for s) q offer).reply) offered) (state_for s, qs))
    (take_default class (record { state = s; questions = qs }) q))
    (sym (same_default s q class stands within is)) (takes_offer s qs q (default_of (sources s) q class) stands within is)

-- ---- and so does each

pub each_takes : (s : State) (class : ℕ) (m : StoreMap) (before qs : List Node) → Stands s → AreStored s.ifr m → AreAsked s.ifr qs
    → Takes s (chapter.take_defaults class (state_for (with s m), before) qs) (take_each class (record { state = with s m; questions = before }) qs)
each_takes s class m before [] stands stored asked = (m, before, stored, refl, refl)
each_takes s class m before (q ∷ qs) stands stored asked =
    let first = takes_default (with s m) class before q (with_stored s m stands stored) asked.0.0 asked.0.1 in
    subst (λ (told : chapter.State × List Node). Takes s (chapter.take_defaults class told qs) (take_each class (take_default class (record { state = with s m; questions = before }) q) qs)) (sym first.4)
    (subst (λ (t : Taken). Takes s (chapter.take_defaults class (taken_for t) qs) (take_each class t qs)) (sym first.3)
    (each_takes s class first.0 first.1 qs stands first.2 asked.1))

form_takes : (s : State) (class : ℕ) (o : Option Node) → form_of s ≡ o → Stands s
    → Takes s (chapter.take_defaults class (state_for s, []) (unwrap_or (option_map (λ form. filter rows.is_question (rows.statements form)) o) [])) (take_each class (record { state = s; questions = [] }) (questions_in o))
form_takes s class None at stands = each_takes s class s.working [] [] stands stands.working tt
form_takes s class (Some form) at stands =
    subst (λ (qs : List Node). Takes s (chapter.take_defaults class (state_for s, []) qs) (take_each class (record { state = s; questions = [] }) (questions_in (Some form)))) (sym same)
    (each_takes s class s.working [] (questions_in (Some form)) stands stands.working (form_asked s (Some form) at))
  where
    same : filter rows.is_question (rows.statements form) ≡ filter is_question (statements form)
    same = ap (filter rows.is_question) (statements_same form) ∙ same_filter rows.is_question is_question (statements form) is_question_same

pub takes : (s : State) (class : ℕ) → Stands s → Takes s (chapter.defaults_taken (state_for s) class) (taken s class)
takes s class stands =
    subst (λ (o : Option Node). Takes s (chapter.take_defaults class (state_for s, []) (unwrap_or (option_map (λ form. filter rows.is_question (rows.statements form)) o) [])) (taken s class)) (sym (current_is s))
    (form_takes s class (form_of s) refl stands)

pub defaults_alike : (s : State) (class : ℕ) → Stands s → chapter.defaults (state_for s) class ≡ outcome_for (take_defaults s class)
defaults_alike s class stands =
    ap (λ (told : chapter.State × List Node). chapter.accepted told.0 (codes "OK " ++ decimal (length told.1) ++ codes "\n")) (takes s class stands).4

pub defaults_stand : (s : State) (class : ℕ) → Stands s → Stands (take_defaults s class).state
defaults_stand s class stands =
    let its = takes s class stands in
    subst (λ (t : Taken). Stands t.state) (sym its.3) (with_stored s its.0 stands its.2)
