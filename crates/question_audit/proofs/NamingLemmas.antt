-- Which rules are named, reference by reference.
use Rattle.std.proofs.Common.{◌≡◌, ℕ, ◌<◌, Bool, true, false, eqb, Option, Some, None, List, [], ◌∷◌, ◌++◌, append_assoc, reverse, refl, sym, ap, ◌∙◌, inl, inr}
use Rattle.std.specs.Prelude.{◌||◌}
use Rattle.std.specs.List.{flat_map, list_any}
use Rattle.std.proofs.lemmas.Bool.{cases_Bool, cond-true, cond-false}
use Rattle.std.proofs.lemmas.Grind.{flat_map-append}
use Rattle.std.proofs.lemmas.List.{reverse-append}
use Rattle.std.proofs.lemmas.List.Folds.{list_any-append}
use Rattle.ifr_opcodes.specs.declared.codes.TheConstants.{RULE_REF}
use Rattle.ifr_opcodes.specs.Fields.{rule_ref_rule}
use Rattle.ifr_opcodes.specs.Forest.{Mark, Node}
use Rattle.ifr_opcodes.specs.Opcode.{number}
use Rattle.ifr_expr.specs.Meaning.{Rule, names}
use Rattle.ifr_expr.specs.References.{references_among}
use Rattle.ifr_expr.specs.Trees.{post}
use Rattle.ifr_expr.specs.code.ReferencesLeft.{references_left}
use Rattle.ifr_expr.specs.code.Rules.{AreOrdered, named}
use Rattle.ifr_expr.specs.declared.references.RuleReference.{RuleReference}
use Rattle.ifr_expr.specs.declared.references.RuleReferences.{RuleReferences}
use Rattle.ifr_expr.proofs.RuleLemmas.{Below, found_by}
use Rattle.ifr_nodes.specs.Checked.{IsChecked}
use Rattle.ifr_nodes.specs.Nodes.{nodes_of}
use Rattle.ifr_nodes.specs.Rules.{as_rule, rule_nodes, rules_among}
use Rattle.ifr_scopes.proofs.RuleLookupLemmas.{named_none, named_some}
use Rattle.ifr_scopes.proofs.RulesOrderedLemmas.{are_ordered}
use Rattle.question_audit.specs.code.NamedRules.{named_by}
use Rattle.question_audit.specs.RuleFacts.{condition_references, names_rule, references_over, rule_references}

-- ---- what a reference names in turn is what the rule names that it names

-- a reference and those behind it
abbrev pub with_behind : (ℕ → ℕ → List RuleReference) → RuleReference → List RuleReference
with_behind behind r = r ∷ behind r.id r.place

near : (f g : ℕ → ℕ → List RuleReference) (ends : ℕ) (ops : List Mark) → ((id place : ℕ) → place < ends → f id place ≡ g id place) → Below ends ops
    → flat_map (with_behind f) (references_among ops) ≡ flat_map (with_behind g) (references_among ops)
near f g ends [] same h = refl
near f g ends (op ∷ ops) same h = elim (cases_Bool (eqb (number op.op) RULE_REF)) [
  | inl is ↦
      let r : RuleReference = record { id = rule_ref_rule op.op; place = op.place } in
      rw is
      (ap (λ (l : List RuleReference). r ∷ (l ++ flat_map (with_behind f) (references_among ops))) (same (rule_ref_rule op.op) op.place h.0)
      ∙ ap (λ (l : List RuleReference). r ∷ (g (rule_ref_rule op.op) op.place ++ l)) (near f g ends ops same h.1))
  | inr other ↦ rw other (near f g ends ops same h.1)
]

taken : (r : Rule) (earlier : List Rule) (id place : ℕ) → names id place r ≡ true → rule_references (r ∷ earlier) id place ≡ references_over (rule_references earlier) r.tree
unfolding rule_references
taken r earlier id place e = cond-true (names id place r) _ _ e

skipped : (r : Rule) (earlier : List Rule) (id place : ℕ) → names id place r ≡ false → rule_references (r ∷ earlier) id place ≡ rule_references earlier id place
unfolding rule_references
skipped r earlier id place e = cond-false (names id place r) _ _ e

none_at_all : (id place : ℕ) → rule_references [] id place ≡ []
unfolding rule_references
none_at_all id place = refl

found_references : (rules : List Rule) (id place : ℕ) (r : Rule) → AreOrdered rules → named rules id place ≡ Some r → rule_references rules id place ≡ references_over (rule_references rules) r.tree
found_references rules id place r o e = found_by references_over rule_references taken skipped (λ f g ends t same h. near f g ends (post t) same h) rules id place r o e

no_references : (rules : List Rule) (id place : ℕ) → named rules id place ≡ None → rule_references rules id place ≡ []
no_references [] id place e = none_at_all id place
no_references (q ∷ earlier) id place e = elim (cases_Bool (names id place q)) [
  | inl is ↦ let bad : Some q ≡ None = sym (cond-true (names id place q) (Some q) (named earlier id place) is) ∙ e in absurd cc
  | inr is ↦ skipped q earlier id place is ∙ no_references earlier id place (sym (cond-false (names id place q) (Some q) (named earlier id place) is) ∙ e)
]

pub rule_behind : (bytes : List ℕ) (r : RuleReference) (n : Node) → IsChecked bytes → Some n ≡ named_by (nodes_of bytes) r
    → rule_references (rules_among (nodes_of bytes)) r.id r.place ≡ references_over (rule_references (rules_among (nodes_of bytes))) (as_rule n).tree
rule_behind bytes r n checked e =
    let ns = nodes_of bytes in
    found_references (rules_among ns) r.id r.place (as_rule n) (are_ordered bytes checked) (named_some (rule_nodes ns) r.id r.place n (sym e))

pub nothing_behind : (ns : List Node) (r : RuleReference) → ◌≡◌ {A = Option Node} None (named_by ns r) → rule_references (rules_among ns) r.id r.place ≡ []
nothing_behind ns r e = no_references (rules_among ns) r.id r.place (named_none (rule_nodes ns) r.id r.place (sym e))

-- ---- references that are left, of expressions of which each stands on the one that names its rule

abbrev pub all_left : List Rule → RuleReferences → List RuleReference
all_left rules it = flat_map (with_behind (rule_references rules)) (references_left it)

abbrev pub frames_left : List Rule → List RuleReferences → List RuleReference
frames_left rules frames = flat_map (all_left rules) (reverse frames)

pub with_frame : (rules : List Rule) (frames new : List RuleReferences) (it : RuleReferences) → new ≡ frames ++ it ∷ [] → frames_left rules new ≡ all_left rules it ++ frames_left rules frames
with_frame rules frames new it e = ap (λ (l : List RuleReferences). flat_map (all_left rules) l) (ap reverse e ∙ reverse-append frames (it ∷ []))

-- those alone, without those behind them
abbrev pub named_left : List RuleReferences → List RuleReference
named_left frames = flat_map references_left (reverse frames)

pub with_named : (frames new : List RuleReferences) (it : RuleReferences) → new ≡ frames ++ it ∷ [] → named_left new ≡ references_left it ++ named_left frames
with_named frames new it e = ap (λ (l : List RuleReferences). flat_map references_left l) (ap reverse e ∙ reverse-append frames (it ∷ []))

pub named_went : (old below new : List RuleReferences) (it next : RuleReferences) (r : RuleReference) → old ≡ below ++ it ∷ [] → new ≡ below ++ next ∷ [] → references_left it ≡ r ∷ references_left next → named_left old ≡ r ∷ named_left new
named_went old below new it next r e f steps =
    with_named below old it e ∙ ap (λ (l : List RuleReference). l ++ named_left below) steps ∙ ap (λ (l : List RuleReference). r ∷ l) (sym (with_named below new next f))

-- the one on top is at its end
pub frame_ended : (rules : List Rule) (old below : List RuleReferences) (it : RuleReferences) → old ≡ below ++ it ∷ [] → references_left it ≡ [] → frames_left rules old ≡ frames_left rules below
frame_ended rules old below it e none = with_frame rules below old it e ∙ ap (λ (l : List RuleReference). flat_map (with_behind (rule_references rules)) l ++ frames_left rules below) none

-- or it goes on
pub frame_went : (rules : List Rule) (old below new : List RuleReferences) (it next : RuleReferences) (r : RuleReference) → old ≡ below ++ it ∷ [] → new ≡ below ++ next ∷ [] → references_left it ≡ r ∷ references_left next
    → frames_left rules old ≡ r ∷ (rule_references rules r.id r.place ++ frames_left rules new)
frame_went rules old below new it next r e f steps =
    with_frame rules below old it e
    ∙ ap (λ (l : List RuleReference). flat_map (with_behind (rule_references rules)) l ++ frames_left rules below) steps
    ∙ ap (λ (l : List RuleReference). r ∷ l) (append_assoc (rule_references rules r.id r.place) (all_left rules next) (frames_left rules below) ∙ ap (λ (l : List RuleReference). rule_references rules r.id r.place ++ l) (sym (with_frame rules below new next f)))

-- What is left behind a reference.
pub record IsBehind (rules : List Rule) (old new : List RuleReferences) (r : RuleReference) : Type 0 where
  pub left : frames_left rules old ≡ r ∷ frames_left rules new

-- the rule that it names comes on top
pub entered : (bytes : List ℕ) (old below mid new : List RuleReferences) (it next its : RuleReferences) (r : RuleReference) (n : Node) → IsChecked bytes → old ≡ below ++ it ∷ [] → mid ≡ below ++ next ∷ [] → new ≡ mid ++ its ∷ []
    → references_left it ≡ r ∷ references_left next → Some n ≡ named_by (nodes_of bytes) r → references_left its ≡ references_among (post (as_rule n).tree) → IsBehind (rules_among (nodes_of bytes)) old new r
entered bytes old below mid new it next its r n checked e f h steps is all =
    let rules = rules_among (nodes_of bytes) in
    record {
      left =
          frame_went rules old below mid it next r e f steps
          ∙ ap (λ (l : List RuleReference). r ∷ (l ++ frames_left rules mid)) (rule_behind bytes r n checked is ∙ sym (ap (flat_map (with_behind (rule_references rules))) all))
          ∙ ap (λ (l : List RuleReference). r ∷ l) (sym (with_frame rules mid new its h));
    }

-- or it names none
pub passed_over : (ns : List Node) (old below new : List RuleReferences) (it next : RuleReferences) (r : RuleReference) → old ≡ below ++ it ∷ [] → new ≡ below ++ next ∷ [] → references_left it ≡ r ∷ references_left next
    → ◌≡◌ {A = Option Node} None (named_by ns r) → IsBehind (rules_among ns) old new r
passed_over ns old below new it next r e f steps none =
    let rules = rules_among ns in
    record { left = frame_went rules old below new it next r e f steps ∙ ap (λ (l : List RuleReference). r ∷ (l ++ frames_left rules new)) (nothing_behind ns r none) }

-- ---- places that are added

-- what is named so far, and what is left to be
abbrev pub IsNamedSoFar : List Node → (ℕ → Bool) → (ℕ → Bool) → List RuleReference → List RuleReference → Type 0
IsNamedSoFar ns had has all left =
    (place : ℕ) → has place || list_any (names_rule ns place) left ≡ had place || list_any (names_rule ns place) all

-- ---- condition by condition

grouped : (a b c : Bool) → (a || b) || c ≡ a || (b || c)
grouped true b c = refl
grouped false b c = refl

-- the next is added
pub condition_added : (ns : List Node) (had has new : ℕ → Bool) (all : List RuleReference) (left rest : List Node) (c : Node) → left ≡ c ∷ rest → ((place : ℕ) → new place ≡ has place || list_any (names_rule ns place) (condition_references ns c))
    → IsNamedSoFar ns had has all (flat_map (condition_references ns) left) → IsNamedSoFar ns had new all (flat_map (condition_references ns) rest)
condition_added ns had has new all left rest c e added so place =
    let more = flat_map (condition_references ns) rest in
    let next : list_any (names_rule ns place) (flat_map (condition_references ns) left) ≡ list_any (names_rule ns place) (condition_references ns c) || list_any (names_rule ns place) more =
    ap (λ (l : List Node). list_any (names_rule ns place) (flat_map (condition_references ns) l)) e ∙ list_any-append (names_rule ns place) (condition_references ns c) more in
    ap (λ (b : Bool). b || list_any (names_rule ns place) more) (added place) ∙ grouped (has place) (list_any (names_rule ns place) (condition_references ns c)) (list_any (names_rule ns place) more)
    ∙ ap (λ (b : Bool). has place || b) (sym next) ∙ so place

-- when all are left, and when none is
pub all_to_name : (ns : List Node) (had : ℕ → Bool) (all left : List RuleReference) → left ≡ all → IsNamedSoFar ns had had all left
all_to_name ns had all left e place = ap (λ (l : List RuleReference). had place || list_any (names_rule ns place) l) e

pub or_false : (a : Bool) → a || false ≡ a
or_false true = refl
or_false false = refl

pub all_named : (ns : List Node) (had has : ℕ → Bool) (all left : List RuleReference) → left ≡ [] → IsNamedSoFar ns had has all left → (place : ℕ) → has place ≡ had place || list_any (names_rule ns place) all
all_named ns had has all left none so place = sym (or_false (has place)) ∙ ap (λ (l : List RuleReference). has place || list_any (names_rule ns place) l) (sym none) ∙ so place

-- ---- of a question

any_joined : (ns : List Node) (place : ℕ) (xs ys : List Node) → list_any (names_rule ns place) (flat_map (condition_references ns) (xs ++ ys))
    ≡ list_any (names_rule ns place) (flat_map (condition_references ns) xs) || list_any (names_rule ns place) (flat_map (condition_references ns) ys)
any_joined ns place xs ys = ap (list_any (names_rule ns place)) (flat_map-append (condition_references ns) xs ys) ∙ list_any-append (names_rule ns place) (flat_map (condition_references ns) xs) (flat_map (condition_references ns) ys)

-- those of three lists of conditions are added, one after the other
pub three_added : (ns : List Node) (place : ℕ) (xs ys zs : List Node) (none one two all : Bool) → none ≡ false → one ≡ none || list_any (names_rule ns place) (flat_map (condition_references ns) xs)
    → two ≡ one || list_any (names_rule ns place) (flat_map (condition_references ns) ys) → all ≡ two || list_any (names_rule ns place) (flat_map (condition_references ns) zs)
    → all ≡ list_any (names_rule ns place) (flat_map (condition_references ns) (xs ++ ys ++ zs))
three_added ns place xs ys zs none one two all empty first second third =
    let any : List Node → Bool = λ l. list_any (names_rule ns place) (flat_map (condition_references ns) l) in
    third
    ∙ ap (λ (b : Bool). b || any zs) (second ∙ ap (λ (b : Bool). b || any ys) (first ∙ ap (λ (b : Bool). b || any xs) empty) ∙ sym (any_joined ns place xs ys))
    ∙ sym (any_joined ns place (xs ++ ys) zs)
