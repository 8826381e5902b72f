-- References on forms that are reached, to forms that are not.
use Rattle.std.proofs.Common.{◌≡◌, ℕ, Bool, true, false, Option, Some, None, List, [], ◌∷◌, ◌++◌, append_assoc, refl, sym, ap, ◌∙◌, inl, inr}
use Rattle.std.specs.Prelude.{◌==◌, ◌||◌, filter, option_and_then}
use Rattle.std.specs.List.{filter_map, find, flat_map, list_any}
use Rattle.std.proofs.lemmas.Bool.{cases_Bool, eqb-true, false≢true}
use Rattle.std.proofs.lemmas.List.Elements.{filter_map-append}
use Rattle.hii_bytes.specs.code.NumberSets.{has_number}
use Rattle.ifr_opcodes.specs.Fields.{form_id}
use Rattle.ifr_opcodes.specs.Forest.{Node}
use Rattle.ifr_nodes.specs.Nodes.{statements}
use Rattle.guard_policy.specs.Policy.{fixed}
use Rattle.guard_policy.specs.World.{World}
use Rattle.guard_policy.specs.declared.denial.Denial.{Denial}
use Rattle.question_audit.specs.Reach.{closing, is_named, named_form, names_form, reach_by}
use Rattle.question_audit.specs.code.Closings.{TellsWays, closed_reference, first_closing}
use Rattle.question_audit.specs.declared.ways.ClosedReference.{ClosedReference}
use Rattle.question_audit.specs.declared.ways.Ways.{Ways}

-- The first that names a form that is not reached is the first reference to it.
pub first_closes : (w : World) (is_reached : ℕ → Bool) (ns : List Node) (id : ℕ) → is_reached id ≡ false
    → first_closing (filter_map (closed_reference w is_reached) ns) id ≡ option_and_then (fixed w) (find (names_form id) ns)
first_closes w is_reached [] id free = refl
first_closes w is_reached (n ∷ ns) id free = go (named_form n) refl (first_closes w is_reached ns id free)
  where
    go : (o : Option ℕ) → named_form n ≡ o → first_closing (filter_map (closed_reference w is_reached) ns) id ≡ option_and_then (fixed w) (find (names_form id) ns)
        → first_closing (filter_map (closed_reference w is_reached) (n ∷ ns)) id ≡ option_and_then (fixed w) (find (names_form id) (n ∷ ns))
    go None is later = rw is later
    go (Some named) is later = elim (cases_Bool (is_reached named)) [
      | inl there ↦ elim (cases_Bool (named == id)) [
        | inl same ↦ absurd (false≢true (sym free ∙ sym (ap is_reached (eqb-true named id same)) ∙ there))
        | inr other ↦ rw (is, there, other) later
      ]
      | inr closed ↦ elim (cases_Bool (named == id)) [
        | inl same ↦ rw (is, closed, same) refl
        | inr other ↦ rw (is, closed, other) later
      ]
    ]

-- ---- the ids that references name

either_order : (a b c : Bool) → (a || b) || c ≡ b || (a || c)
either_order true true c = refl
either_order true false c = refl
either_order false b c = refl

-- the next statement names a form, whose id is added
pub one_named : (left after : List Node) (n : Node) (named id : ℕ) (had has all : Bool) → left ≡ n ∷ after → Some named ≡ named_form n → has ≡ (named == id || had)
    → had || list_any (names_form id) left ≡ all → has || list_any (names_form id) after ≡ all
one_named left after n named id had has all e names is so =
    let any : list_any (names_form id) left ≡ (named == id) || list_any (names_form id) after = ap (list_any (names_form id)) e ∙ rw (sym names) refl in
    ap (λ (b : Bool). b || list_any (names_form id) after) is ∙ either_order (named == id) had (list_any (names_form id) after) ∙ ap (λ (b : Bool). had || b) (sym any) ∙ so

-- the next statement names none
pub none_named : (left after : List Node) (n : Node) (id : ℕ) (had all : Bool) → left ≡ n ∷ after → None ≡ named_form n
    → had || list_any (names_form id) left ≡ all → had || list_any (names_form id) after ≡ all
none_named left after n id had all e names so =
    let any : list_any (names_form id) left ≡ list_any (names_form id) after = ap (list_any (names_form id)) e ∙ rw (sym names) refl in
    ap (λ (b : Bool). had || b) (sym any) ∙ so

-- ---- references that are added

-- the next statement is one
pub one_added : (f : Node → Option ClosedReference) (left after : List Node) (n : Node) (r : ClosedReference) (old new all : List ClosedReference) → left ≡ n ∷ after → Some r ≡ f n → new ≡ old ++ r ∷ []
    → old ++ filter_map f left ≡ all → new ++ filter_map f after ≡ all
one_added f left after n r old new all e is added so =
    let next : filter_map f left ≡ r ∷ filter_map f after = ap (filter_map f) e ∙ rw (sym is) refl in
    ap (λ (l : List ClosedReference). l ++ filter_map f after) added ∙ append_assoc old (r ∷ []) (filter_map f after) ∙ ap (λ (l : List ClosedReference). old ++ l) (sym next) ∙ so

-- the next statement is none
pub none_added : (f : Node → Option ClosedReference) (left after : List Node) (n : Node) (old all : List ClosedReference) → left ≡ n ∷ after → None ≡ f n
    → old ++ filter_map f left ≡ all → old ++ filter_map f after ≡ all
none_added f left after n old all e is so =
    let next : filter_map f left ≡ filter_map f after = ap (filter_map f) e ∙ rw (sym is) refl in
    ap (λ (l : List ClosedReference). old ++ l) (sym next) ∙ so

-- the references of forms that are reached
abbrev pub of_forms : (Node → Option ClosedReference) → (ℕ → Bool) → List Node → List ClosedReference
of_forms f is_reached forms = filter_map f (flat_map statements (filter (λ form. is_reached (form_id form.op)) forms))

-- the next form is reached
pub form_added : (f : Node → Option ClosedReference) (is_reached : ℕ → Bool) (left after : List Node) (form : Node) (old new all : List ClosedReference) → left ≡ form ∷ after → is_reached (form_id form.op) ≡ true
    → new ≡ old ++ filter_map f (statements form) → old ++ of_forms f is_reached left ≡ all → new ++ of_forms f is_reached after ≡ all
form_added f is_reached left after form old new all e reached added so =
    let rest = flat_map statements (filter (λ (m : Node). is_reached (form_id m.op)) after) in
    let next : of_forms f is_reached left ≡ filter_map f (statements form) ++ of_forms f is_reached after = ap (of_forms f is_reached) e ∙ rw reached (filter_map-append f (statements form) rest) in
    ap (λ (l : List ClosedReference). l ++ of_forms f is_reached after) added ∙ append_assoc old (filter_map f (statements form)) (of_forms f is_reached after)
    ∙ ap (λ (l : List ClosedReference). old ++ l) (sym next) ∙ so

-- the next form is not
pub form_passed : (f : Node → Option ClosedReference) (is_reached : ℕ → Bool) (left after : List Node) (form : Node) (old all : List ClosedReference) → left ≡ form ∷ after → is_reached (form_id form.op) ≡ false
    → old ++ of_forms f is_reached left ≡ all → old ++ of_forms f is_reached after ≡ all
form_passed f is_reached left after form old all e other so =
    let next : of_forms f is_reached left ≡ of_forms f is_reached after = ap (of_forms f is_reached) e ∙ rw other refl in
    ap (λ (l : List ClosedReference). old ++ l) (sym next) ∙ so

-- ---- what is kept tells how a form is reached that is not hidden

pub same_way : (w : World) (ways : Ways) (id : ℕ) → TellsWays w ways
    → reach_by None (has_number ways.reached id) (first_closing ways.closed.items id) (has_number ways.named id)
    ≡ reach_by None (has_number ways.reached id) (closing w (has_number ways.reached) id) (is_named w.nodes id)
same_way w ways id told = elim (cases_Bool (has_number ways.reached id)) [
  | inl reached ↦ rw reached refl
  | inr other ↦ rw (told.first id other, told.named id) refl
]
