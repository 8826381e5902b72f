-- A set of places that holds with each rule those that it names holds all that are named in turn.
use Rattle.std.proofs.Common.{◌≡◌, ℕ, zero, suc, ◌<◌, ◌≤◌, Bool, true, false, Option, Some, None, List, [], ◌∷◌, ◌++◌, refl, sym, ap, subst, ◌∙◌, ◌⊎◌, arith, inl, inr}
use Rattle.std.specs.Prelude.{Contains, ◌==◌, ◌||◌}
use Rattle.std.specs.List.{AllByRecursion, flat_map, list_any}
use Rattle.std.proofs.lemmas.Bool.{cases_Bool, cond-true, cond-false, eqb-true, eq-eqb, false≢true, or_cases, or_left, or_right}
use Rattle.std.proofs.lemmas.List.Folds.{list_any-append}
use Rattle.ifr_opcodes.specs.declared.codes.TheConstants.{RULE_REF}
use Rattle.ifr_opcodes.specs.Forest.{Mark, Node}
use Rattle.ifr_opcodes.specs.Opcode.{number}
use Rattle.ifr_expr.specs.Meaning.{Rule, names}
use Rattle.ifr_expr.specs.References.{references, references_among}
use Rattle.ifr_expr.specs.Trees.{Tree, post}
use Rattle.ifr_expr.specs.code.Rules.{AreOrdered, named}
use Rattle.ifr_expr.specs.code.ReferencesLeft.{references_left}
use Rattle.ifr_expr.specs.declared.references.RuleReference.{RuleReference}
use Rattle.ifr_expr.specs.declared.references.RuleReferences.{RuleReferences}
use Rattle.ifr_expr.proofs.RuleLemmas.{Below}
use Rattle.ifr_nodes.specs.Checked.{IsChecked}
use Rattle.ifr_nodes.specs.Nodes.{end_of, nodes_of}
use Rattle.ifr_nodes.specs.Rules.{as_rule, is_rule, rule_nodes, rules_among}
use Rattle.ifr_nodes.specs.code.Checked.{node_in}
use Rattle.ifr_nodes.proofs.RuleOrderLemmas.{rule_there}
use Rattle.ifr_nodes.proofs.ViewLemmas.{node_in_place}
use Rattle.ifr_scopes.proofs.FormPlaceLemmas.{found}
use Rattle.ifr_scopes.proofs.RuleLookupLemmas.{named_before, named_some}
use Rattle.ifr_scopes.proofs.RulesOrderedLemmas.{are_ordered}
use Rattle.question_audit.specs.RuleFacts.{names_rule, references_over, rule_references, stands_at}
use Rattle.question_audit.specs.code.NamedRules.{AreNamed, IsClosed, IsClosedBut, named_by}
use Rattle.question_audit.proofs.NamingLemmas.{entered, frame_went, frames_left, named_left, named_went, nothing_behind, or_false, rule_behind, with_behind, with_named}

-- ---- the rule that a reference names

-- It is a rule of the package.
pub record IsThere (bytes : List ℕ) (n : Node) : Type 0 where
  pub within : Contains (nodes_of bytes) n
  pub rule : is_rule n ≡ true
  pub node : node_in bytes n.place ≡ n

pub is_there : (bytes : List ℕ) (r : RuleReference) (n : Node) → IsChecked bytes → Some n ≡ named_by (nodes_of bytes) r → IsThere bytes n
is_there bytes r n checked e =
    let ns = nodes_of bytes in
    let there = rule_there ns n (found (λ m. names r.id r.place (as_rule m)) (rule_nodes ns) n (sym e)).0 in
    record { within = there.0; rule = there.1; node = node_in_place bytes n checked.spelled there.0 }

-- two at one place are one
pub one_place : (bytes : List ℕ) (r q : RuleReference) (n m : Node) → IsChecked bytes → Some n ≡ named_by (nodes_of bytes) r → Some m ≡ named_by (nodes_of bytes) q → n.place ≡ m.place → n ≡ m
one_place bytes r q n m checked e f same =
    sym (is_there bytes r n checked e).node ∙ ap (node_in bytes) same ∙ (is_there bytes q m checked f).node

-- it names itself
pub names_it : (ns : List Node) (r : RuleReference) (n : Node) → Some n ≡ named_by ns r → names_rule ns n.place r ≡ true
names_it ns r n e = ap (stands_at n.place) (sym e) ∙ eq-eqb n.place n.place refl

-- ---- what it names in turn stands before its end

some_same : (x y : Rule) → Some x ≡ Some y → x ≡ y
some_same x y e = cc

its_tree : (rules : List Rule) (id place : ℕ) (r : Rule) → AreOrdered rules → named rules id place ≡ Some r → Below r.ends (post r.tree)
its_tree [] id place r o e = absurd cc
its_tree (q ∷ earlier) id place r o e = elim (cases_Bool (names id place q)) [
  | inl is ↦ subst (λ (x : Rule). Below x.ends (post x.tree)) (some_same q r (sym (cond-true (names id place q) (Some q) (named earlier id place) is) ∙ e)) o.0
  | inr is ↦ its_tree earlier id place r o.1.1 (sym (cond-false (names id place q) (Some q) (named earlier id place) is) ∙ e)
]

-- references of which each stands before a place
abbrev pub StandBefore : ℕ → List RuleReference → Type 0
StandBefore end refs = AllByRecursion (λ (r : RuleReference). r.place < end) refs

pub references_before : (low high : ℕ) (ops : List Mark) → low ≤ high → Below low ops → StandBefore high (references_among ops)
references_before low high [] le h = tt
references_before low high (op ∷ ops) le h = elim (cases_Bool (number op.op == RULE_REF)) [
  | inl is ↦ rw is (omega (arith, le, h.0), references_before low high ops le h.1)
  | inr other ↦ rw other (references_before low high ops le h.1)
]

pub stand_before : (bytes : List ℕ) (r : RuleReference) (n : Node) (k : ℕ) → IsChecked bytes → Some n ≡ named_by (nodes_of bytes) r → r.place < suc k → StandBefore k (references (as_rule n).tree)
stand_before bytes r n k checked e lt =
    let ns = nodes_of bytes in
    let ends : end_of n ≤ r.place = named_before (rule_nodes ns) r.id r.place n (sym e) in
    references_before (end_of n) k (post (as_rule n).tree) (omega (arith, ends, lt))
    (its_tree (rules_among ns) r.id r.place (as_rule n) (are_ordered bytes checked) (named_some (rule_nodes ns) r.id r.place n (sym e)))

-- ---- a closed set holds all that is named in turn

-- where the rule that a reference names is there, so is each that is named behind it
abbrev Closes : List Node → (ℕ → Bool) → RuleReference → Type 0
Closes ns has r =
    ((place : ℕ) → names_rule ns place r ≡ true → has place ≡ true)
    → (place : ℕ) → list_any (names_rule ns place) (rule_references (rules_among ns) r.id r.place) ≡ true → has place ≡ true

all_close : (ns : List Node) (has : ℕ → Bool) (refs : List RuleReference) → AllByRecursion (Closes ns has) refs
    → ((place : ℕ) → list_any (names_rule ns place) refs ≡ true → has place ≡ true)
    → (place : ℕ) → list_any (names_rule ns place) (flat_map (with_behind (rule_references (rules_among ns))) refs) ≡ true → has place ≡ true
all_close ns has [] each direct place e = absurd (false≢true e)
all_close ns has (r ∷ refs) each direct place e =
    let test = names_rule ns place in
    let behind = rule_references (rules_among ns) r.id r.place in
    let rest = flat_map (with_behind (rule_references (rules_among ns))) refs in
    elim (or_cases (test r) (list_any test (behind ++ rest)) e) [
      | inl here ↦ direct place (or_left (test r) (list_any test refs) here)
      | inr later ↦ elim (or_cases (list_any test behind) (list_any test rest) (sym (list_any-append test behind rest) ∙ later)) [
        | inl inner ↦ each.0 (λ p is. direct p (or_left (names_rule ns p r) (list_any (names_rule ns p) refs) is)) place inner
        | inr outer ↦ all_close ns has refs each.1 (λ p is. direct p (or_right (names_rule ns p r) (list_any (names_rule ns p) refs) is)) place outer
      ]
    ]

before_close : (ns : List Node) (has : ℕ → Bool) (k : ℕ) (refs : List RuleReference) → StandBefore k refs → ((r : RuleReference) → r.place < k → Closes ns has r) → AllByRecursion (Closes ns has) refs
before_close ns has k [] all each = tt
before_close ns has k (r ∷ refs) all each = (each r all.0, before_close ns has k refs all.1 each)

closes_over : (bytes : List ℕ) (has : ℕ → Bool) (k : ℕ) (r : RuleReference) (o : Option Node) → o ≡ named_by (nodes_of bytes) r → IsChecked bytes → IsClosed (nodes_of bytes) has → r.place < suc k
    → ((q : RuleReference) → q.place < k → Closes (nodes_of bytes) has q) → Closes (nodes_of bytes) has r
closes_over bytes has k r None is checked closed lt each direct place e =
    absurd (false≢true (sym (ap (list_any (names_rule (nodes_of bytes) place)) (nothing_behind (nodes_of bytes) r is)) ∙ e))
closes_over bytes has k r (Some n) is checked closed lt each direct place e =
    let ns = nodes_of bytes in
    let refs = references (as_rule n).tree in
    all_close ns has refs (before_close ns has k refs (stand_before bytes r n k checked is lt) each)
    (λ p within. sym (or_false (has p)) ∙ closed r n is (direct n.place (names_it ns r n is)) p within)
    place (sym (ap (list_any (names_rule ns place)) (rule_behind bytes r n checked is)) ∙ e)

closes : (bytes : List ℕ) (has : ℕ → Bool) (k : ℕ) → IsChecked bytes → IsClosed (nodes_of bytes) has → (r : RuleReference) → r.place < k → Closes (nodes_of bytes) has r
closes bytes has zero checked closed r lt = absurd (omega (arith, lt))
closes bytes has (suc k) checked closed r lt = closes_over bytes has k r (named_by (nodes_of bytes) r) refl checked closed lt (closes bytes has k checked closed)

every : (ns : List Node) (has : ℕ → Bool) (refs : List RuleReference) → ((r : RuleReference) → Closes ns has r) → AllByRecursion (Closes ns has) refs
every ns has [] each = tt
every ns has (r ∷ refs) each = (each r, every ns has refs each)

pub all_behind : (bytes : List ℕ) (has : ℕ → Bool) (tree : Tree) → IsChecked bytes → IsClosed (nodes_of bytes) has → ((place : ℕ) → list_any (names_rule (nodes_of bytes) place) (references tree) ≡ true → has place ≡ true)
    → (place : ℕ) → list_any (names_rule (nodes_of bytes) place) (references_over (rule_references (rules_among (nodes_of bytes))) tree) ≡ true → has place ≡ true
all_behind bytes has tree checked closed direct place e =
    all_close (nodes_of bytes) has (references tree) (every (nodes_of bytes) has (references tree) (λ r. closes bytes has (suc r.place) checked closed r (omega arith))) direct place e

-- ---- the walk

-- What is told at a turn: how places that are there, and references that are left, with and without those behind them, stand
-- to those at its beginning.
pub record IsWalked (ns : List Node) (had has : ℕ → Bool) (direct all left reached : List RuleReference) : Type 0 where
  pub only : (place : ℕ) → has place || list_any (names_rule ns place) reached ≡ true → had place || list_any (names_rule ns place) all ≡ true
  pub kept : (place : ℕ) → had place ≡ true → has place ≡ true
  pub named : AreNamed ns has left direct
  pub closed : IsClosedBut ns has left

-- at its beginning
pub begun : (ns : List Node) (had : ℕ → Bool) (direct all left reached : List RuleReference) → IsClosed ns had → left ≡ direct → reached ≡ all → IsWalked ns had had direct all left reached
begun ns had direct all left reached closed e f = record {
  only = λ place is. ap (λ (l : List RuleReference). had place || list_any (names_rule ns place) l) (sym f) ∙ is;
  kept = λ place is. is;
  named = λ place is. or_right (had place) (list_any (names_rule ns place) left) (ap (list_any (names_rule ns place)) e ∙ is);
  closed = λ r n is there place within. or_left (had place) (list_any (names_rule ns place) left) (sym (or_false (had place)) ∙ closed r n is there place within);
}

-- where what is left is said otherwise
pub as_left : (ns : List Node) (had has : ℕ → Bool) (direct all left reached left' reached' : List RuleReference) → left ≡ left' → reached ≡ reached' → IsWalked ns had has direct all left reached → IsWalked ns had has direct all left' reached'
as_left ns had has direct all left reached left' reached' e f w = rw e at (rw f at w)

-- at its end
pub record IsDone (ns : List Node) (had has : ℕ → Bool) (all : List RuleReference) : Type 0 where
  pub places : (place : ℕ) → has place ≡ had place || list_any (names_rule ns place) all
  pub closed : IsClosed ns has

pub same_test : (a b : Bool) → (a ≡ true → b ≡ true) → (b ≡ true → a ≡ true) → a ≡ b
same_test true b f g = sym (f refl)
same_test false true f g = g refl
same_test false false f g = refl

pub done : (bytes : List ℕ) (had has : ℕ → Bool) (tree : Tree) (left reached : List RuleReference) → IsChecked bytes → left ≡ [] → reached ≡ []
    → IsWalked (nodes_of bytes) had has (references tree) (references_over (rule_references (rules_among (nodes_of bytes))) tree) left reached
    → IsDone (nodes_of bytes) had has (references_over (rule_references (rules_among (nodes_of bytes))) tree)
done bytes had has tree left reached checked none nothing walked =
    let ns = nodes_of bytes in
    let all = references_over (rule_references (rules_among ns)) tree in
    let w : IsWalked ns had has (references tree) all [] [] = as_left ns had has (references tree) all left reached [] [] none nothing walked in
    record {
      places = λ place. same_test (has place) (had place || list_any (names_rule ns place) all)
          (λ is. w.only place (or_left (has place) false is))
          (λ is. elim (or_cases (had place) (list_any (names_rule ns place) all) is) [
            | inl before ↦ w.kept place before
            | inr named ↦ all_behind bytes has tree checked w.closed (λ p within. sym (or_false (has p)) ∙ w.named p within) place named
          ]);
      closed = w.closed;
    }

-- A turn: the next reference leaves a set in which each place is there that was, and that of the rule that it names, and none
-- else; and what it leaves of references names all that those behind it name, and that the rule names that came in.
pub record IsTurn (ns : List Node) (has new : ℕ → Bool) (r : RuleReference) (rest left : List RuleReference) : Type 0 where
  pub only : (place : ℕ) → new place ≡ true → (has place ≡ true) ⊎ (names_rule ns place r ≡ true)
  pub kept : (place : ℕ) → has place ≡ true → new place ≡ true
  pub named : (place : ℕ) → names_rule ns place r ≡ true → new place ≡ true
  pub behind : (place : ℕ) → list_any (names_rule ns place) rest ≡ true → list_any (names_rule ns place) left ≡ true
  pub fresh : (q : RuleReference) (m : Node) → Some m ≡ named_by ns q → new m.place ≡ true
      → (has m.place ≡ true) ⊎ ((place : ℕ) → list_any (names_rule ns place) (references (as_rule m).tree) ≡ true → list_any (names_rule ns place) left ≡ true)

still_named : (ns : List Node) (has new : ℕ → Bool) (r : RuleReference) (rest left these : List RuleReference) → IsTurn ns has new r rest left → AreNamed ns has (r ∷ rest) these → AreNamed ns new left these
still_named ns has new r rest left these t named place is =
    let test = names_rule ns place in
    elim (or_cases (has place) (test r || list_any test rest) (named place is)) [
      | inl there ↦ or_left (new place) (list_any test left) (t.kept place there)
      | inr later ↦ elim (or_cases (test r) (list_any test rest) later) [
        | inl here ↦ or_left (new place) (list_any test left) (t.named place here)
        | inr behind ↦ or_right (new place) (list_any test left) (t.behind place behind)
      ]
    ]

pub turned : (ns : List Node) (had has new : ℕ → Bool) (direct all rest more reached left : List RuleReference) (r : RuleReference) → IsTurn ns has new r rest left
    → IsWalked ns had has direct all (r ∷ rest) (r ∷ (more ++ reached)) → IsWalked ns had new direct all left reached
turned ns had has new direct all rest more reached left r t w = record {
  only = λ place is.
      let test = names_rule ns place in
      let tail = list_any test (more ++ reached) in
      w.only place (elim (or_cases (new place) (list_any test reached) is) [
        | inl there ↦ elim (t.only place there) [
          | inl before ↦ or_left (has place) (test r || tail) before
          | inr here ↦ or_right (has place) (test r || tail) (or_left (test r) tail here)
        ]
        | inr later ↦ or_right (has place) (test r || tail) (or_right (test r) tail (list_any-append test more reached ∙ or_right (list_any test more) (list_any test reached) later))
      ]);
  kept = λ place is. t.kept place (w.kept place is);
  named = still_named ns has new r rest left direct t w.named;
  closed = λ q m is there. elim (t.fresh q m is there) [
    | inl before ↦ still_named ns has new r rest left (references (as_rule m).tree) t (w.closed q m is before)
    | inr fresh ↦ λ place within. or_right (new place) (list_any (names_rule ns place) left) (fresh place within)
  ];
}

-- ---- its turns

-- what a place is that is added
adds : (new has : Bool) (n place : ℕ) → new ≡ n == place || has → new ≡ true → (has ≡ true) ⊎ ((n == place) ≡ true)
adds new has n place e is = elim (or_cases (n == place) has (sym e ∙ is)) [
  | inl here ↦ inr here
  | inr there ↦ inl there
]

named_here : (ns : List Node) (place : ℕ) (r : RuleReference) (n : Node) → Some n ≡ named_by ns r → names_rule ns place r ≡ n.place == place
named_here ns place r n is = ap (stands_at place) (sym is)

-- a rule comes in that was not there
pub comes_in : (bytes : List ℕ) (has new : ℕ → Bool) (r : RuleReference) (n : Node) (rest : List RuleReference) → IsChecked bytes → Some n ≡ named_by (nodes_of bytes) r → ((place : ℕ) → new place ≡ n.place == place || has place)
    → IsTurn (nodes_of bytes) has new r rest (references (as_rule n).tree ++ rest)
comes_in bytes has new r n rest checked is added =
    let ns = nodes_of bytes in
    let its = references (as_rule n).tree in
    record {
      only = λ place there. elim (adds (new place) (has place) n.place place (added place) there) [
        | inl before ↦ inl before
        | inr here ↦ inr (named_here ns place r n is ∙ here)
      ];
      kept = λ place there. added place ∙ or_right (n.place == place) (has place) there;
      named = λ place here. added place ∙ or_left (n.place == place) (has place) (sym (named_here ns place r n is) ∙ here);
      behind = λ place later. list_any-append (names_rule ns place) its rest ∙ or_right (list_any (names_rule ns place) its) (list_any (names_rule ns place) rest) later;
      fresh = λ q m named there. elim (adds (new m.place) (has m.place) n.place m.place (added m.place) there) [
        | inl before ↦ inl before
        | inr here ↦ inr (λ place within. list_any-append (names_rule ns place) its rest
            ∙ or_left (list_any (names_rule ns place) its) (list_any (names_rule ns place) rest)
            (ap (λ (k : Node). list_any (names_rule ns place) (references (as_rule k).tree)) (one_place bytes r q n m checked is named (eqb-true n.place m.place here)) ∙ within))
      ];
    }

-- or it was there
pub is_known : (ns : List Node) (has new : ℕ → Bool) (r : RuleReference) (n : Node) (rest : List RuleReference) → Some n ≡ named_by ns r → has n.place ≡ true → ((place : ℕ) → new place ≡ n.place == place || has place)
    → IsTurn ns has new r rest rest
is_known ns has new r n rest is there added =
    let same : (place : ℕ) → (n.place == place) ≡ true → has place ≡ true = λ place here. sym (ap has (eqb-true n.place place here)) ∙ there in
    let before : (place : ℕ) → new place ≡ true → has place ≡ true = λ place is_new. elim (adds (new place) (has place) n.place place (added place) is_new) [
      | inl was ↦ was
      | inr here ↦ same place here
    ] in
    record {
      only = λ place is_new. inl (before place is_new);
      kept = λ place was. added place ∙ or_right (n.place == place) (has place) was;
      named = λ place here. added place ∙ or_left (n.place == place) (has place) (sym (named_here ns place r n is) ∙ here);
      behind = λ place later. later;
      fresh = λ q m named is_new. inl (before m.place is_new);
    }

-- or none is named
pub names_none : (ns : List Node) (has : ℕ → Bool) (r : RuleReference) (rest : List RuleReference) → ◌≡◌ {A = Option Node} None (named_by ns r) → IsTurn ns has has r rest rest
names_none ns has r rest none = record {
  only = λ place there. inl there;
  kept = λ place there. there;
  named = λ place here. absurd (false≢true (sym (ap (stands_at place) (sym none)) ∙ here));
  behind = λ place later. later;
  fresh = λ q m named there. inl there;
}

-- ---- its turns, by expressions of which each stands on the one that names its rule

-- the rule that is named comes on top, which was not there
pub comes_on_top : (bytes : List ℕ) (had has new : ℕ → Bool) (direct all : List RuleReference) (old below mid now : List RuleReferences) (it next its : RuleReferences) (r : RuleReference) (n : Node) → IsChecked bytes → old ≡ below ++ it ∷ [] → mid ≡ below ++ next ∷ [] → now ≡ mid ++ its ∷ []
    → references_left it ≡ r ∷ references_left next → Some n ≡ named_by (nodes_of bytes) r → references_left its ≡ references (as_rule n).tree → ((place : ℕ) → new place ≡ n.place == place || has place)
    → IsWalked (nodes_of bytes) had has direct all (named_left old) (frames_left (rules_among (nodes_of bytes)) old) → IsWalked (nodes_of bytes) had new direct all (named_left now) (frames_left (rules_among (nodes_of bytes)) now)
comes_on_top bytes had has new direct all old below mid now it next its r n checked e f h steps is own added w =
    let ns = nodes_of bytes in
    let rules = rules_among ns in
    let left : named_left now ≡ references (as_rule n).tree ++ named_left mid = with_named mid now its h ∙ ap (λ (l : List RuleReference). l ++ named_left mid) own in
    as_left ns had new direct all _ _ _ _ (sym left) refl
    (turned ns had has new direct all (named_left mid) [] (frames_left rules now) _ r (comes_in bytes has new r n (named_left mid) checked is added)
    (as_left ns had has direct all _ _ _ _ (named_went old below mid it next r e f steps) (entered bytes old below mid now it next its r n checked e f h steps is own).left w))

-- it was there
pub was_there : (ns : List Node) (had has new : ℕ → Bool) (direct all : List RuleReference) (old below mid : List RuleReferences) (it next : RuleReferences) (r : RuleReference) (n : Node) → old ≡ below ++ it ∷ [] → mid ≡ below ++ next ∷ []
    → references_left it ≡ r ∷ references_left next → Some n ≡ named_by ns r → has n.place ≡ true → ((place : ℕ) → new place ≡ n.place == place || has place)
    → IsWalked ns had has direct all (named_left old) (frames_left (rules_among ns) old) → IsWalked ns had new direct all (named_left mid) (frames_left (rules_among ns) mid)
was_there ns had has new direct all old below mid it next r n e f steps is there added w =
    let rules = rules_among ns in
    turned ns had has new direct all (named_left mid) (rule_references rules r.id r.place) (frames_left rules mid) _ r (is_known ns has new r n (named_left mid) is there added)
    (as_left ns had has direct all _ _ _ _ (named_went old below mid it next r e f steps) (frame_went rules old below mid it next r e f steps) w)

-- or none is named
pub is_none : (ns : List Node) (had has : ℕ → Bool) (direct all : List RuleReference) (old below mid : List RuleReferences) (it next : RuleReferences) (r : RuleReference) → old ≡ below ++ it ∷ [] → mid ≡ below ++ next ∷ []
    → references_left it ≡ r ∷ references_left next → ◌≡◌ {A = Option Node} None (named_by ns r)
    → IsWalked ns had has direct all (named_left old) (frames_left (rules_among ns) old) → IsWalked ns had has direct all (named_left mid) (frames_left (rules_among ns) mid)
is_none ns had has direct all old below mid it next r e f steps none w =
    let rules = rules_among ns in
    turned ns had has has direct all (named_left mid) (rule_references rules r.id r.place) (frames_left rules mid) _ r (names_none ns has r (named_left mid) none)
    (as_left ns had has direct all _ _ _ _ (named_went old below mid it next r e f steps) (frame_went rules old below mid it next r e f steps) w)
