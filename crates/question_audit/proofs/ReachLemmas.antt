-- Forms to which chains of references lead.
use Rattle.std.proofs.Common.{◌≡◌, ℕ, ◌+◌, ◌<◌, ◌≤◌, zero, suc, eqb, Bool, true, Option, Some, None, List, [], ◌∷◌, ◌++◌, length, refl, sym, ap, subst, ◌∙◌, arith, inl, inr}
use Rattle.std.specs.Prelude.{Contains, filter}
use Rattle.std.specs.List.{AllByRecursion, slice_get}
use Rattle.std.proofs.lemmas.Bool.{cases_Bool, cases_lt, eqb-true, eq-eqb, false≢true}
use Rattle.std.proofs.lemmas.Option.{slice_get_within}
use Rattle.ifr_opcodes.specs.Forest.{Node, SpellsForest}
use Rattle.ifr_opcodes.specs.Reading.{tree_of}
use Rattle.ifr_nodes.specs.Nodes.{nodes_of, is_form, statements}
use Rattle.ifr_nodes.specs.ReferenceFaults.{has_form_id}
use Rattle.ifr_nodes.specs.code.Checked.{IsNodeOf}
use Rattle.ifr_scopes.proofs.FormPlaceLemmas.{found}
use Rattle.ifr_nodes.proofs.PlaceLemmas.{is_found}
use Rattle.ifr_nodes.proofs.ViewLemmas.{further}
use Rattle.guard_policy.specs.World.{World}
use Rattle.question_audit.specs.Reach.{IsChain, IsReached, Leads, TellsReached, led_to}
use Rattle.question_audit.specs.code.Meeting.{has_id, led_by, with_form, with_forms}
use Rattle.question_audit.proofs.FoundLemmas.{IsFound, first_found, led_found, same_found}
use Rattle.question_audit.proofs.MetLemmas.{all_met, forms_behind, forms_met, id_of, id_stays}

-- ---- forms that are reached are found by their ids

chain_found : (w : World) (from : Node) (chain : List Node) (to : Node) → IsChain w from chain to → IsFound w.nodes from → IsFound w.nodes to
chain_found w from [] to chained here = subst (IsFound w.nodes) chained here
chain_found w from (next ∷ chain) to chained here = chain_found w next chain to chained.1 (led_found w chained.0.statement next chained.0.leads)

pub reached_found : (w : World) (form : Node) → IsReached w form → IsFound w.nodes form
reached_found w form its = chain_found w its.first its.chain form its.leads (first_found w.nodes its.first its.others its.forms)

-- ---- chains that grow at their ends

chain_more : (w : World) (from : Node) (chain : List Node) (last to : Node) → IsChain w from chain last → Leads w last to → IsChain w from (chain ++ to ∷ []) to
chain_more w from [] last to chained more = (subst (λ (f : Node). Leads w f to) (sym chained) more, refl)
chain_more w from (next ∷ chain) last to chained more = (chained.0, chain_more w next chain last to chained.1 more)

reached_more : (w : World) (from to : Node) → IsReached w from → Leads w from to → IsReached w to
reached_more w from to its more =
    record {
      first = its.first;
      others = its.others;
      forms = its.forms;
      chain = its.chain ++ to ∷ [];
      leads = chain_more w its.first its.chain from to its.leads more;
    }

-- ---- the forms to which statements lead

led_among : (w : World) (ns : List Node) (n to : Node) → Contains ns n → led_to w n ≡ Some to → Contains (led_by w ns) to
led_among w [] n to (k, lt, e) leads = absurd (omega arith)
led_among w (m ∷ ns) n to (zero, lt, e) leads =
    let here : led_to w m ≡ Some to = ap (led_to w) e ∙ leads in
    rw here (0, omega arith, refl)
led_among w (m ∷ ns) n to (suc k, lt, e) leads = go (led_to w m) refl (led_among w ns n to (k, omega arith, e) leads)
  where
    go : (o : Option Node) → led_to w m ≡ o → Contains (led_by w ns) to → Contains (led_by w (m ∷ ns)) to
    go None is later = rw is later
    go (Some f) is later = rw is (further f (led_by w ns) to later)

led_reached : (w : World) (from : Node) (ns : List Node) → IsReached w from → ((n : Node) → Contains ns n → Contains (statements from) n) → AllByRecursion (IsReached w) (led_by w ns)
led_reached w from [] its within = tt
led_reached w from (n ∷ ns) its within = go (led_to w n) refl (led_reached w from ns its (λ m there. within m (further n ns m there)))
  where
    go : (o : Option Node) → led_to w n ≡ o → AllByRecursion (IsReached w) (led_by w ns) → AllByRecursion (IsReached w) (led_by w (n ∷ ns))
    go None is later = rw is later
    go (Some to) is later = rw is (reached_more w from to its (record { statement = n; within = within n (0, omega arith, refl); leads = is }), later)

-- ---- forms that are met from the first on

-- Each is reached, the first form is met, and each to which one of the first forms in this order leads.
pub record IsMeeting (w : World) (met : List Node) (followed : ℕ) : Type 0 where
  pub reached : AllByRecursion (IsReached w) met
  pub first : (form : Node) (others : List Node) → filter is_form w.nodes ≡ form ∷ others → has_id met (id_of form) ≡ true
  pub leads : (i : ℕ) (from to : Node) → i < followed → slice_get met i ≡ Some from → Leads w from to → has_id met (id_of to) ≡ true

-- where there is no form, none is met
pub none_met : (w : World) (met : List Node) → filter is_form w.nodes ≡ [] → met ≡ [] → IsMeeting w met 0
none_met w met none is =
    rw is record {
      reached = tt;
      first = λ form others e. let bad : [] ≡ form ∷ others = sym none ∙ e in absurd cc;
      leads = λ i from to less at leads. absurd (omega (arith, less));
    }

-- the first form, where there is one
pub first_met : (w : World) (none met : List Node) (first : Node) (others : List Node) → filter is_form w.nodes ≡ first ∷ others → none ≡ [] → met ≡ with_form none first → IsMeeting w met 0
first_met w none met first others forms empty is =
    rw (is, empty) record {
      reached = (record { first = first; others = others; forms = forms; chain = []; leads = refl }, tt);
      first = λ form later e. let same : first ≡ form = let both = sym forms ∙ e in cc in rw (eq-eqb (id_of first) (id_of form) (ap id_of same)) refl;
      leads = λ i from to less at leads. absurd (omega (arith, less));
    }

-- the form at an index, where more stand behind
get_front : (met more : List Node) (i : ℕ) → i < length met → slice_get (met ++ more) i ≡ slice_get met i
get_front [] more i less = absurd (omega (arith, less))
get_front (f ∷ met) more zero less = refl
get_front (f ∷ met) more (suc i) less = get_front met more i (omega (arith, less))

reached_at : (P : Node → Type 0) (met : List Node) (i : ℕ) (form : Node) → AllByRecursion P met → slice_get met i ≡ Some form → P form
reached_at P [] i form all e = absurd cc
reached_at P (f ∷ met) zero form all e = let same : f ≡ form = cc in subst P same all.0
reached_at P (f ∷ met) (suc i) form all e = reached_at P met i form all.1 e

-- The next form in the order is followed.
pub follows : (w : World) (met : List Node) (followed : ℕ) (form : Node) → IsMeeting w met followed → slice_get met followed ≡ Some form → IsMeeting w (with_forms met (led_by w (statements form))) (followed + 1)
follows w met followed form so at =
    let forms = led_by w (statements form) in
    let new = with_forms met forms in
    let its = reached_at (IsReached w) met followed form so.reached at in
    let behind = forms_behind met forms in
    let less = slice_get_within met followed form at in
    record {
      reached = all_met (IsReached w) met forms so.reached (led_reached w form (statements form) its (λ n there. there));
      first = λ first others e. id_stays met forms (id_of first) (so.first first others e);
      leads = λ i from to within there leads.
          let same : slice_get met i ≡ Some from = sym (get_front met behind.0 i (omega (arith, within, less))) ∙ ap (λ (l : List Node). slice_get l i) (sym behind.1) ∙ there in
          elim (cases_lt i followed) [
            | inl before ↦ id_stays met forms (id_of to) (so.leads i from to before same leads)
            | inr past ↦
                let last : i ≡ followed = omega (arith, within, past) in
                let this : form ≡ from = let both : Some form ≡ Some from = sym at ∙ ap (slice_get met) (sym last) ∙ same in cc in
                forms_met met forms to (led_among w (statements form) leads.statement to (subst (λ (f : Node). Contains (statements f) leads.statement) (sym this) leads.within) leads.leads)
          ];
    }

-- ---- what is told at the end

-- the form of an id among those that are met
pub record IsMet (w : World) (met : List Node) (id : ℕ) : Type 0 where
  pub form : Node
  pub index : ℕ
  pub at : slice_get met index ≡ Some form
  pub is : id_of form ≡ id
  pub reached : IsReached w form

met_of : (w : World) (met : List Node) (id : ℕ) → AllByRecursion (IsReached w) met → has_id met id ≡ true → IsMet w met id
met_of w [] id all there = absurd (false≢true there)
met_of w (f ∷ met) id all there = elim (cases_Bool (eqb (id_of f) id)) [
  | inl same ↦ record { form = f; index = 0; at = refl; is = eqb-true (id_of f) id same; reached = all.0 }
  | inr other ↦
      let later = met_of w met id all.1 (rw other at there) in
      record { form = later.form; index = suc later.index; at = later.at; is = later.is; reached = later.reached }
]

-- a form that is found by its id is met where this is
met_itself : (w : World) (met : List Node) (form : Node) → IsFound w.nodes form → (its : IsMet w met (id_of form)) → its.form ≡ form
met_itself w met form here its = same_found w.nodes its.form form (reached_found w its.form its.reached) here its.is

chain_met : (w : World) (met : List Node) (followed : ℕ) (from : Node) (chain : List Node) (to : Node) → IsMeeting w met followed → length met ≤ followed → IsFound w.nodes from
    → has_id met (id_of from) ≡ true → IsChain w from chain to → has_id met (id_of to) ≡ true
chain_met w met followed from [] to so all here there chained = subst (λ (f : Node). has_id met (id_of f) ≡ true) chained there
chain_met w met followed from (next ∷ chain) to so all here there chained =
    let its = met_of w met (id_of from) so.reached there in
    let at : slice_get met its.index ≡ Some from = its.at ∙ ap (λ (f : Node). Some f) (met_itself w met from here its) in
    let within = slice_get_within met its.index from at in
    let leads = chained.0 in
    chain_met w met followed next chain to so all (led_found w leads.statement next leads.leads) (so.leads its.index from next (omega (arith, within, all)) at leads) chained.1

all_before : (met : List Node) (i : ℕ) → slice_get met i ≡ None → length met ≤ i
all_before [] i e = omega arith
all_before (f ∷ met) zero e = absurd cc
all_before (f ∷ met) (suc i) e = omega (arith, all_before met i e)

-- Where all that are met were followed, these are the forms that are reached.
pub tells : (w : World) (met : List Node) (followed : ℕ) (is_reached : ℕ → Bool) → IsMeeting w met followed → slice_get met followed ≡ None → ((id : ℕ) → is_reached id ≡ has_id met id)
    → ((form : Node) → Contains (filter is_form w.nodes) form → IsFound w.nodes form) → TellsReached w is_reached
tells w met followed is_reached so none told finds =
    let all = all_before met followed none in
    record {
      told = λ form within there.
          let its = met_of w met (id_of form) so.reached (sym (told (id_of form)) ∙ there) in
          subst (IsReached w) (met_itself w met form (finds form within) its) its.reached;
      all = λ form its.
          told (id_of form)
          ∙ chain_met w met followed its.first its.chain form so all (first_found w.nodes its.first its.others its.forms) (so.first its.first its.others its.forms) its.leads;
    }

-- ---- the statements of a form, one after the other

-- the next statement leads to a form, which is met
pub led_some : (w : World) (met new all left after : List Node) (n next : Node) → left ≡ n ∷ after → Some next ≡ led_to w n → new ≡ with_form met next → with_forms met (led_by w left) ≡ all → with_forms new (led_by w after) ≡ all
led_some w met new all left after n next e leads is so =
    let led : led_by w left ≡ next ∷ led_by w after = ap (led_by w) e ∙ rw (sym leads) refl in
    ap (λ (l : List Node). with_forms l (led_by w after)) is ∙ sym (ap (with_forms met) led) ∙ so

-- the next statement leads to none
pub led_none : (w : World) (met all left after : List Node) (n : Node) → left ≡ n ∷ after → None ≡ led_to w n → with_forms met (led_by w left) ≡ all → with_forms met (led_by w after) ≡ all
led_none w met all left after n e leads so =
    let led : led_by w left ≡ led_by w after = ap (led_by w) e ∙ rw (sym leads) refl in
    sym (ap (with_forms met) led) ∙ so

-- a form that is met is a node
pub met_node : (bytes : List ℕ) (w : World) (met : List Node) (followed k : ℕ) (form : Node) → w.nodes ≡ nodes_of bytes → SpellsForest bytes (tree_of bytes) → IsMeeting w met followed → slice_get met k ≡ Some form
    → IsNodeOf bytes form
met_node bytes w met followed k form nodes spelled so at =
    let here = reached_found w form (reached_at (IsReached w) met k form so.reached at) in
    let within = found (has_form_id (id_of form)) w.nodes form here in
    is_found bytes (tree_of bytes) form spelled (subst (λ (l : List Node). Contains l form) nodes within.0)
