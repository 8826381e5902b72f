-- Bytes open one state.
use Rattle.std.proofs.Common.{◌≡◌, ℕ, List, ◌∷◌, Option, refl, sym, ap, subst, ◌∙◌}
use Rattle.std.specs.Prelude.{filter}
use Rattle.ifr_opcodes.specs.Forest.{Node, places}
use Rattle.browser_rules.specs.Headline.{start}
use Rattle.browser_rules.specs.Packages.{Package, forms_bytes}
use Rattle.browser_rules.specs.Session as chapter
use Rattle.browser_rules.specs.Stores as held
use Rattle.browser_rules.specs.Strings.{Spoken, chosen}
use Rattle.hii_varstore.specs.StoreNodes.{layout_of}
use Rattle.rules_laws.specs.laws.Stores.{shape_for, stores_for}
use Rattle.rules_laws.proofs.StoreLemmas.{shape_same, spelled_back}
use Rattle.browser_core.specs.Opening as rules
use Rattle.ifr_nodes.specs.Nodes.{nodes_of, is_form}
use Rattle.hii_varstore.specs.Image.{SpellsImage}
use Rattle.hii_varstore.specs.Stores.{StoreMap}
use Rattle.hii_varstore.proofs.LawLemmas.{one_map}
use Rattle.guard_policy.specs.World.{removed_at}
use Rattle.session_steps.specs.State.{State}
use Rattle.session_steps.specs.Opening.{HasTexts, layout_in, Opens}
use Rattle.session_steps.proofs.SourceLemmas.{one_source}

one_speech : (list : List ℕ) (a b : List Spoken) → HasTexts list a → HasTexts list b → a ≡ b
one_speech list a b first second = first.1 ∙ sym second.1

one_place : (ifr other : List ℕ) (a b : ℕ) (later rest : List ℕ) → ifr ≡ other → places (filter is_form (nodes_of ifr)) ≡ a ∷ later → places (filter is_form (nodes_of other)) ≡ b ∷ rest → a ≡ b
one_place ifr other a b later rest same first second =
    let both : a ∷ later ≡ b ∷ rest = sym first ∙ ap (λ (bytes : List ℕ). places (filter is_form (nodes_of bytes))) same ∙ second in cc

-- states are equal where their fields are
same_state : (t : State) (ifr path removed : List ℕ) (spoken : List Spoken) (language : Option ℕ) (committed working : StoreMap) (form : ℕ) (history : List ℕ)
    → ifr ≡ t.ifr → path ≡ t.path → removed ≡ t.removed → spoken ≡ t.spoken → language ≡ t.language → committed ≡ t.committed → working ≡ t.working → form ≡ t.form → history ≡ t.history
    → record { ifr = ifr; path = path; removed = removed; spoken = spoken; language = language; committed = committed; working = working; form = form; history = history } ≡ t
same_state t ifr path removed spoken language committed working form history a b c d e f g h i = rw (a, b, c, d, e, f, g, h, i) refl

pub one_state : (list : List ℕ) (n : ℕ) (image language : List ℕ) (a b : State) → Opens list n image language a → Opens list n image language b → a ≡ b
one_state list n image language a b o p =
    let ifr : a.ifr ≡ b.ifr = o.bytes ∙ ap (λ (p : Package). p.bytes) (one_source list n o.source p.source o.found p.found) ∙ sym p.bytes in
    let spoken : a.spoken ≡ b.spoken = one_speech list a.spoken b.spoken o.texts p.texts in
    let working : a.working ≡ b.working =
    one_map (layout_in a.ifr) image a.working b.working o.stores (subst (λ (bytes : List ℕ). SpellsImage (layout_in bytes) image b.working) (sym ifr) p.stores) in
    let removed : a.removed ≡ b.removed =
    o.removed ∙ ap (λ (bytes : List ℕ). removed_at (nodes_of bytes) a.working) ifr ∙ ap (removed_at (nodes_of b.ifr)) working ∙ sym p.removed in
    same_state b a.ifr a.path a.removed a.spoken a.language a.committed a.working a.form a.history ifr (o.path ∙ sym p.path) removed spoken
    (o.language_is ∙ ap (λ (s : List Spoken). chosen s language) spoken ∙ sym p.language_is) (o.submitted ∙ working ∙ sym p.submitted) working
    (one_place a.ifr b.ifr a.form b.form o.others p.others ifr o.forms p.forms) (o.history ∙ sym p.history)

-- ---- by the chapters

one_spelled_by_rules : (ns : List Node) (image : List ℕ) (a b : held.Stores) → held.SpellsImage (held.shape_of ns) image a → held.SpellsImage (held.shape_of ns) image b → a ≡ b
one_spelled_by_rules ns image a b first second =
    let to : (stores : held.Stores) → held.SpellsImage (held.shape_of ns) image stores → held.SpellsImage (shape_for (layout_of ns)) image stores =
    λ stores spelled. subst (λ (shape : held.Shape). held.SpellsImage shape image stores) (shape_same ns) spelled in
    let m = spelled_back (layout_of ns) image a (to a first) in
    let n = spelled_back (layout_of ns) image b (to b second) in
    sym m.1 ∙ ap stores_for (one_map (layout_of ns) image m.0 n.0 m.2 n.2) ∙ n.1

pub one_begun : (list : List ℕ) (n : ℕ) (image language : List ℕ) (a b : chapter.State) → rules.Opens list n image language a → rules.Opens list n image language b → a ≡ b
one_begun list n image language a b first second =
    first.begins ∙ ap (start list n language) (one_spelled_by_rules (nodes_of (forms_bytes list n)) image first.stores second.stores first.spelled second.spelled) ∙ sym second.begins
