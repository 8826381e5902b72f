-- A session begins where the chapters say.
use Rattle.std.proofs.Common.{◌≡◌, ℕ, Option, List, [], ◌∷◌, refl, sym, ap, subst, ◌∙◌, inl, inr}
use Rattle.std.specs.Prelude.{option_map, unwrap_or, filter}
use Rattle.std.specs.List.{find}
use Rattle.std.proofs.lemmas.Bool.{cases_Bool}
use Rattle.browser_rules.specs.Headline as headline
use Rattle.browser_rules.specs.Nodes as rows
use Rattle.browser_rules.specs.Opcodes.{FORM}
use Rattle.browser_rules.specs.Packages.{Package, device_path, forms_bytes}
use Rattle.browser_rules.specs.Policy as policy
use Rattle.browser_rules.specs.Session as chapter
use Rattle.browser_rules.specs.Stores as held
use Rattle.browser_rules.specs.Strings as strings
use Rattle.browser_rules.specs.Strings.{Spoken, spoken_in}
use Rattle.ifr_opcodes.specs.Forest.{Node, places}
use Rattle.ifr_nodes.specs.Nodes.{is_form, nodes_of}
use Rattle.session_steps.specs.Opening.{HasSource, Opens, layout_in}
use Rattle.session_steps.specs.State.{State}
use Rattle.session_laws.specs.laws.Session.{Stands, state_for}
use Rattle.rules_laws.specs.laws.Stores.{stores_for}
use Rattle.session_laws.proofs.SeenLemmas.{alike_now}
use Rattle.rules_laws.proofs.PolicyLemmas.{removed_at_same}
use Rattle.rules_laws.proofs.StoreLemmas.{shape_same, spelled_same}

forms_same : (list : List ℕ) (n : ℕ) (source : Package) → HasSource list n source → forms_bytes list n ≡ source.bytes
forms_same list n source (_, found) = ap (λ (o : Option Package). unwrap_or (option_map (λ (p : Package). p.bytes) o) []) found

first_form : (ns : List Node) (place : ℕ) (others : List ℕ) → places (filter is_form ns) ≡ place ∷ others → unwrap_or (option_map (λ (form : Node). form.place) (find (rows.is FORM) ns)) 0 ≡ place
first_form [] place others e = let bad : ◌≡◌ {A = List ℕ} [] (place ∷ others) = e in absurd (cc)
first_form (n ∷ ns) place others e = elim (cases_Bool (is_form n)) [
  | inl is ↦
      let here : n.place ∷ places (filter is_form ns) ≡ place ∷ others = sym (rw is refl) ∙ e in
      let same : n.place ≡ place = cc in
      rw is same
  | inr other ↦ rw other (first_form ns place others (sym (rw other refl) ∙ e))
]

-- where a session begins in a package, with a device path and texts
abbrev begun : List ℕ → held.Stores → List ℕ → List ℕ → List Spoken → chapter.State
begun language stores ifr path said = record {
  ifr = ifr;
  path = path;
  removed = policy.removed_at (nodes_of ifr) stores;
  spoken = said;
  language = strings.chosen said language;
  committed = stores;
  working = stores;
  form = unwrap_or (option_map (λ (form : Node). form.place) (find (rows.is FORM) (nodes_of ifr))) 0;
  history = [];
}

abbrev state_with : State → List ℕ → Option ℕ → held.Stores → ℕ → List ℕ → chapter.State
state_with s removed language committed form history = record {
  ifr = s.ifr;
  path = s.path;
  removed = removed;
  spoken = s.spoken;
  language = language;
  committed = committed;
  working = stores_for s.working;
  form = form;
  history = history;
}

pub opened_bytes : (list : List ℕ) (n : ℕ) (image language : List ℕ) (start : State) → Opens list n image language start → forms_bytes list n ≡ start.ifr
opened_bytes list n image language start opens = forms_same list n opens.source opens.found ∙ sym opens.bytes

pub begins : (list : List ℕ) (n : ℕ) (image language : List ℕ) (start : State) → Opens list n image language start → Stands start
    → headline.start list n language (stores_for start.working) ≡ state_for start
unfolding state_for
begins list n image language start opens stands =
    ap (λ (ifr : List ℕ). begun language stores ifr (device_path list) (spoken_in list)) (opened_bytes list n image language start opens)
    ∙ ap (λ (path : List ℕ). begun language stores start.ifr path (spoken_in list)) (sym opens.path)
    ∙ ap (λ (said : List Spoken). begun language stores start.ifr start.path said) (sym opens.texts.1)
    ∙ ap (λ (removed : List ℕ). state_with start removed choice stores form []) (removed_at_same start.ifr start.removed (chapter.now (state_for start)) start.working (alike_now start stands) ∙ sym opens.removed)
    ∙ ap (λ (choice : Option ℕ). state_with start start.removed choice stores form []) (sym opens.language_is)
    ∙ ap (λ (committed : held.Stores). state_with start start.removed start.language committed form []) (ap stores_for (sym opens.submitted))
    ∙ ap (λ (place : ℕ). state_with start start.removed start.language (stores_for start.committed) place []) (first_form (nodes_of start.ifr) start.form opens.others opens.forms)
    ∙ ap (λ (history : List ℕ). state_with start start.removed start.language (stores_for start.committed) start.form history) (sym opens.history)
  where
    stores : held.Stores
    stores = stores_for start.working

    choice : Option ℕ
    choice = strings.chosen start.spoken language

    form : ℕ
    form = unwrap_or (option_map (λ (form : Node). form.place) (find (rows.is FORM) (nodes_of start.ifr))) 0

pub image_spelled : (list : List ℕ) (n : ℕ) (image language : List ℕ) (start : State) → Opens list n image language start
    → held.SpellsImage (held.shape_of (nodes_of (forms_bytes list n))) image (stores_for start.working)
image_spelled list n image language start opens =
    subst (λ (ifr : List ℕ). held.SpellsImage (held.shape_of (nodes_of ifr)) image (stores_for start.working)) (sym (opened_bytes list n image language start opens))
    (subst (λ (shape : held.Shape). held.SpellsImage shape image (stores_for start.working)) (sym (shape_same (nodes_of start.ifr)))
    (spelled_same (layout_in start.ifr) image start.working opens.stores))
