use Rattle.std.proofs.Common.{◌≡◌, ◌∙◌, ℕ, List, ap, inl, inr, refl, subst, sym}
use Rattle.std.specs.Prelude.{filter}
use Rattle.std.proofs.lemmas.Result.{on_err_weaker, on_ok_weaker}
use Rattle.hii_packages.specs.code.Package.{package_of}
use Rattle.hii_varstore.specs.Image.{image_of}
use Rattle.hii_varstore.specs.Layout.{Shape}
use Rattle.hii_varstore.specs.code.Table.{AreBuffers}
use Rattle.ifr_nodes.specs.Accepted.{IsAccepted}
use Rattle.ifr_nodes.specs.Nodes.{is_form, nodes_of}
use Rattle.ifr_nodes.specs.code.Checked.{IsNodeOf}
use Rattle.ifr_scopes.specs.code.Lists.{form_node}
use Rattle.guard_policy.specs.World.{World, world_over}
use Rattle.guard_policy.specs.code.KeptConditions.{TellsAll}
use Rattle.guard_policy.specs.code.Views.{world}
use Rattle.kept_conditions.specs.Kept.{KeptValues, held, kept_over}
use Rattle.session_steps.specs.Opening.{Opens}
use Rattle.condition_text.proofs.WriteLemmas.{written_as}
use Rattle.question_audit.specs.Audited.{Audited}
use Rattle.question_audit.specs.code.Pages.{audited}
use Rattle.question_audit.specs.code.Beginnings.{Begins}
use Rattle.question_audit.proofs.BeginningLemmas.{at_error}
use Rattle.survey_audit.specs.AuditedAt.{audited_at}
use Rattle.survey_audit.specs.Opened.{opened_told}
use Rattle.survey_audit.specs.code.Headings.{heading_of}
use Rattle.survey_commands.specs.code.Views.{StandsIn, asked_view}
use Rattle.survey_commands.proofs.SetLemmas.{opens, start}
use Rattle.survey_commands.proofs.sets.put_page.Goals.{After-new-page}
use Rattle.survey_commands.proofs.sets.put_page.Goals as goal

pub first_form-requires : goal.first_form-requires
first_form-requires g c = subst IsAccepted (sym c.forms-2.ensures) c.requires.browsable.accepted

pub new-page-requires-clause-node : goal.new-page-requires-clause-node
new-page-requires-clause-node g c = subst (λ (b : List ℕ). IsNodeOf b (form_node c.first_form.result)) (c.forms-2.ensures ∙ sym c.forms.ensures ∙ sym c.new-policy.ensures.forms) c.first_form.ensures.node

pub new-page-requires-clause-told : goal.new-page-requires-clause-told
new-page-requires-clause-told g c =
    let ifr = c.args.declared.now in
    let stores = c.args.kept.now.stores in
    let over : world c.new-policy.result c.stores.result.now ≡ world_over (nodes_of ifr) c.args.removed.now stores =
    rw (c.stores.ensures, c.new-policy.ensures.forms, c.new-policy.ensures.removed, c.forms.ensures) refl in
    let kept : c.kept.result.now ≡ kept_over ifr stores = c.kept.ensures ∙ ap (λ (b : List ℕ). kept_over b stores) c.requires.kept in
    subst (λ (w : World). TellsAll (λ place. held c.kept.result.now.values place) w) (sym over)
    (subst (λ (k : KeptValues). TellsAll (λ place. held k.values place) (world_over (nodes_of ifr) c.args.removed.now stores)) (sym kept)
    (c.what_is_kept_tells_of_the_stores.ensures ifr c.args.removed.now stores c.requires.browsable.accepted))

pub put_opened-requires-clause-lie : goal.put_opened-requires-clause-lie
put_opened-requires-clause-lie g c =
    rw (c.new-page.ensures.stores, c.new-page.ensures.policy, c.stores.ensures, c.new-policy.ensures.forms, c.forms.ensures, c.requires.laid) c.questions.ensures.lie

pub put_opened-requires-clause-in_file : goal.put_opened-requires-clause-in_file
put_opened-requires-clause-in_file g c = rw (c.new-page.ensures.policy, c.new-policy.ensures.forms, c.forms.ensures) c.requires.in_dump

-- what the page is of is what a session begins with
seen : (g : _) (c : After-new-page g) (list : List ℕ)
    → audited c.new-page.result ≡ audited_at (start list c.args.heading.number (package_of c.args.heading.source) c.args.languages.now c.args.asked.now.options.now.lang.now c.args.declared.now c.args.kept.now.stores (form_node c.first_form.result))
seen g c list =
    rw (
      c.new-page.ensures.policy,
      c.new-page.ensures.stores,
      c.new-page.ensures.languages,
      c.new-page.ensures.choice,
      c.new-policy.ensures.forms,
      c.new-policy.ensures.removed,
      c.requires.removed,
      c.forms.ensures,
      c.stores.ensures,
      c.choose.ensures,
      c.as_bytes.ensures.value,
    ) refl

opened_at : (g : _) (c : After-new-page g) (list : List ℕ) → StandsIn list c.args.heading c.args.languages.now
    → Opens list c.args.heading.number (image_of c.args.kept.now.stores) c.args.asked.now.options.now.lang.now
    (start list c.args.heading.number (package_of c.args.heading.source) c.args.languages.now c.args.asked.now.options.now.lang.now c.args.declared.now c.args.kept.now.stores (form_node c.first_form.result))
opened_at g c list stands =
    opens list c.args.heading.number (package_of c.args.heading.source) c.args.languages.now c.args.asked.now.options.now.lang.now c.args.declared.now c.args.kept.now.stores (form_node c.first_form.result)
    c.first_form.ensures.first.0 stands.found stands.texts c.requires.same c.requires.browsable c.requires.laid
    (ap (λ (b : List ℕ). filter is_form (nodes_of b)) (sym c.forms-2.ensures) ∙ c.first_form.ensures.first.1) (c.images_are_read_back.ensures.written c.args.kept.now.stores)

pub returns-clause-told : goal.returns-clause-told
returns-clause-told g c = λ list stands.
    let after = (goal.at.returns-clause-told g c).After-new-page in
    on_ok_weaker c.put_opened.result
    (λ w. (_, record { start = _; opens = opened_at g after list stands; is = refl }, written_as w (ap (λ (a : Audited). opened_told (heading_of c.args.heading) a (asked_view g.F.StoreFiles.known c.args.asked.now).letters) (seen g after list))))
    c.put_opened.ensures.told

pub returns-clause-begun : goal.returns-clause-begun
returns-clause-begun g c = λ list stands.
    let after = (goal.at.returns-clause-begun g c).After-new-page in
    on_err_weaker c.put_opened.result
    (λ w. (
      _,
      record { start = _; opens = opened_at g after list stands; is = refl },
      subst (Begins _ _) (ap (λ (a : Audited). opened_told (heading_of c.args.heading) a (asked_view g.F.StoreFiles.known c.args.asked.now).letters) (seen g after list)) w,
    ))
    c.put_opened.ensures.begun
