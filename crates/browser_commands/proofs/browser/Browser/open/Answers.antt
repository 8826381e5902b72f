use Rattle.std.proofs.Common.{rules, refl, sym, ap, ◌∙◌}
use Rattle.std.proofs.lemmas.Result.{err_from_is_err_and}
use Rattle.hii_packages.specs.code.Package.{package_of}
use Rattle.ifr_scopes.specs.code.Lists.{form_node}
use Rattle.hii_varstore.specs.Stores.{shape_of}
use Rattle.ifr_nodes.specs.Nodes.{nodes_of}
use Rattle.guard_policy.specs.World.{removed_at}
use Rattle.hii_questions.specs.code.Survey.{Survey}
use Rattle.kept_conditions.specs.Kept.{KeptMap}
use Rattle.browser_commands.proofs.OpeningLemmas.{only_memory, refuses_source, refuses_texts, refuses_form_set, refuses_image, is_found, opened}
use Rattle.browser_commands.proofs.browser.Browser.open.Goals as goal

pub returns-in_err-found-clause-refused : goal.returns-in_err-found-clause-refused
returns-in_err-found-clause-refused c =
    let p = err_from_is_err_and c.from_residual.result c.from_residual.ensures.1 in
    rw (p.1, p.2) (refuses_source c.args.list.now c.args.forms c.args.stores.now _ c.in_err-found.ensures.refused)

pub returns-in_err-found-clause-accepted : goal.returns-in_err-found-clause-accepted
returns-in_err-found-clause-accepted c =
    let p = err_from_is_err_and c.from_residual.result c.from_residual.ensures.1 in
    λ start o. rw (p.1, p.2) (only_memory c.args.list.now c.args.forms c.args.stores.now c.args.lang.now start _ o (refuses_source c.args.list.now c.args.forms c.args.stores.now _ c.in_err-found.ensures.refused))

pub returns-in_err-languages-clause-refused : goal.returns-in_err-languages-clause-refused
returns-in_err-languages-clause-refused c =
    let p = err_from_is_err_and c.from_residual-in_err-languages.result c.from_residual-in_err-languages.ensures.1 in
    rw (p.1, p.2) (refuses_texts c.args.list.now c.in_ok-found.found.packages c.args.forms c.args.stores.now (package_of c.in_ok-found.found.forms) _ c.in_ok-found.ensures.read c.in_ok-found.ensures.found c.in_err-languages.ensures.refused)

pub returns-in_err-languages-clause-accepted : goal.returns-in_err-languages-clause-accepted
returns-in_err-languages-clause-accepted c =
    let p = err_from_is_err_and c.from_residual-in_err-languages.result c.from_residual-in_err-languages.ensures.1 in
    λ start o. rw (p.1, p.2) (only_memory c.args.list.now c.args.forms c.args.stores.now c.args.lang.now start _ o (refuses_texts c.args.list.now c.in_ok-found.found.packages c.args.forms c.args.stores.now (package_of c.in_ok-found.found.forms) _ c.in_ok-found.ensures.read c.in_ok-found.ensures.found c.in_err-languages.ensures.refused))

pub returns-in_err-parts-clause-refused : goal.returns-in_err-parts-clause-refused
returns-in_err-parts-clause-refused c =
    let p = err_from_is_err_and c.from_residual-in_err-parts.result c.from_residual-in_err-parts.ensures.1 in
    rw (p.1, p.2) (refuses_form_set c.args.list.now c.args.forms c.args.stores.now c.in_ok-found.found.forms.bytes.now _ (is_found c.args.list.now c.in_ok-found.found.packages c.args.forms (package_of c.in_ok-found.found.forms) _ c.in_ok-languages.languages c.in_ok-found.ensures.read c.in_ok-found.ensures.found refl (c.in_ok-languages.ensures.sound, c.in_ok-languages.ensures.read)) c.in_err-parts.ensures.refused)

pub returns-in_err-parts-clause-accepted : goal.returns-in_err-parts-clause-accepted
returns-in_err-parts-clause-accepted c =
    let p = err_from_is_err_and c.from_residual-in_err-parts.result c.from_residual-in_err-parts.ensures.1 in
    λ start o. rw (p.1, p.2) (only_memory c.args.list.now c.args.forms c.args.stores.now c.args.lang.now start _ o (refuses_form_set c.args.list.now c.args.forms c.args.stores.now c.in_ok-found.found.forms.bytes.now _ (is_found c.args.list.now c.in_ok-found.found.packages c.args.forms (package_of c.in_ok-found.found.forms) _ c.in_ok-languages.languages c.in_ok-found.ensures.read c.in_ok-found.ensures.found refl (c.in_ok-languages.ensures.sound, c.in_ok-languages.ensures.read)) c.in_err-parts.ensures.refused))

pub returns-in_err-held-clause-refused : goal.returns-in_err-held-clause-refused
returns-in_err-held-clause-refused c =
    let p = err_from_is_err_and c.from_residual-in_err-held.result c.from_residual-in_err-held.ensures.1 in
    rw (p.1, p.2) (refuses_image c.args.list.now c.args.forms c.args.stores.now c.in_ok-parts.parts.forms _ _ (is_found c.args.list.now c.in_ok-found.found.packages c.args.forms (package_of c.in_ok-found.found.forms) _ c.in_ok-languages.languages c.in_ok-found.ensures.read c.in_ok-found.ensures.found c.in_ok-parts.ensures.forms (c.in_ok-languages.ensures.sound, c.in_ok-languages.ensures.read)) c.in_ok-parts.ensures.read.browsable refl c.in_err-held.ensures.refused)

pub returns-in_err-held-clause-accepted : goal.returns-in_err-held-clause-accepted
returns-in_err-held-clause-accepted c =
    let p = err_from_is_err_and c.from_residual-in_err-held.result c.from_residual-in_err-held.ensures.1 in
    λ start o. rw (p.1, p.2) (only_memory c.args.list.now c.args.forms c.args.stores.now c.args.lang.now start _ o (refuses_image c.args.list.now c.args.forms c.args.stores.now c.in_ok-parts.parts.forms _ _ (is_found c.args.list.now c.in_ok-found.found.packages c.args.forms (package_of c.in_ok-found.found.forms) _ c.in_ok-languages.languages c.in_ok-found.ensures.read c.in_ok-found.ensures.found c.in_ok-parts.ensures.forms (c.in_ok-languages.ensures.sound, c.in_ok-languages.ensures.read)) c.in_ok-parts.ensures.read.browsable refl c.in_err-held.ensures.refused))

pub invariant_of-result : goal.invariant_of-result
invariant_of-result c =
    let read = c.in_ok-parts.ensures.read in
    let held = c.in_ok-held.ensures.held in
    record {
      named_stores = read.named_stores;
      buffers = read.buffers;
      together = ap (λ (s : Survey). s.ifr) read.together;
      browsable = read.browsable;
      submitted = held.spelled.laid;
      kept = ap (λ (it : KeptMap). it.ifr) held.working;
      laid = ap (λ (it : KeptMap). shape_of it.stores) held.working ∙ held.spelled.laid;
      same = held.spare ∙ sym (ap (λ (it : KeptMap). it.stores) held.working);
      unwritten = λ _. sym (ap (λ (it : KeptMap). it.stores) held.working);
      told = held.room;
      node = c.first_form-form.ensures.node;
      left = search rules;
      asked = λ answer e. absurd cc;
    }

pub returns-clause-opened : goal.returns-clause-opened
returns-clause-opened c =
    let read = c.in_ok-parts.ensures.read in
    let held = c.in_ok-held.ensures.held in
    let working = ap (λ (it : KeptMap). it.stores) held.working in (
      opened c.args.list.now c.in_ok-found.found.packages c.args.forms c.args.stores.now c.args.lang.now (package_of c.in_ok-found.found.forms) _ _ (form_node c.first_form-form.result) c.first_form-form.ensures.first.0
          c.in_ok-found.ensures.read c.in_ok-found.ensures.found c.in_ok-parts.ensures.forms (c.in_ok-languages.ensures.sound, c.in_ok-languages.ensures.read) c.choose-language.ensures
          read.browsable refl held.spelled working (held.removed ∙ ap (removed_at (nodes_of c.in_ok-parts.parts.forms)) (sym working)) c.first_form-form.ensures.first.1 refl c.new.ensures c.device_path.ensures,
      ap (λ (it : KeptMap). it.renewed) held.working,
    )
