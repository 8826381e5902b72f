use Rattle.std.proofs.Common.{◌≡◌, ◌∙◌, ℕ, List, [], None, Some, ap, inl, inr, map, option_map, refl, subst, sym}
use Rattle.std.specs.List.{find}
use Rattle.std.specs.Option.{option_copied}
use Rattle.condition_text.proofs.WriteLemmas.{written_as}
use Rattle.store_audit.specs.code.Fillings as code
use Rattle.question_audit.specs.code.Beginnings.{Begins}
use Rattle.audit_answers.proofs.EndingLemmas.{none_written}
use Rattle.hii_packages.specs.code.Package.{package_of}
use Rattle.hii_varstore.specs.Image.{image_of}
use Rattle.hii_varstore.specs.Stores.{StoreMap}
use Rattle.session_steps.specs.Opening.{Opens}
use Rattle.exported_config.specs.code.Views.{exported_view}
use Rattle.question_audit.proofs.BeginningLemmas.{at_error}
use Rattle.survey_audit.specs.AuditedAt.{audited_at}
use Rattle.survey_audit.specs.code.Headings.{heading_of}
use Rattle.store_commands.specs.Imaging.{AreSupplied, is_unfit, stores_given}
use Rattle.store_commands.specs.code.Imaging.{stores_in}
use Rattle.store_commands.proofs.ImagingLemmas.{are_supplied, stores_are_given, supplied_unfit, supply}
use Rattle.survey_commands.specs.Surveying.{IsOpened, Opened, Unfit}
use Rattle.survey_commands.specs.code.Views.{TellsOpened, asked_view}
use Rattle.survey_commands.proofs.SetLemmas.{begun_of_set, nothing_of_set}
use Rattle.survey_commands.proofs.sets.put_declared.Goals.{In_ok-fillings}
use Rattle.survey_commands.proofs.sets.put_declared.Goals as goal

-- what the stores are given
given : (g : _) (c : In_ok-fillings g) → AreSupplied (g.F.StoreFiles.known c.args.asked.now.files.now) c.args.asked.now.options.now.sources c.args.asked.now.text.now c.args.heading.source.bytes.now (map supply c.in_ok-fillings.fillings.items)
given g c =
    subst (λ (ifr : List ℕ). AreSupplied (g.F.StoreFiles.known c.args.asked.now.files.now) c.args.asked.now.options.now.sources c.args.asked.now.text.now ifr (map supply c.in_ok-fillings.fillings.items)) c.requires.same
    (are_supplied _ _ _ _ (exported_view c.in_ok-config.config) c.in_ok-fillings.fillings.items c.in_ok-config.ensures c.in_ok-fillings.ensures.all c.in_ok-fillings.ensures.sources)

-- the stores are filled by these
opened_over : (g : _) (c : In_ok-fillings g) (list : List ℕ) (stores : StoreMap) (text : List ℕ) → find is_unfit (map supply c.in_ok-fillings.fillings.items) ≡ None → stores ≡ stores_in c.args.declared.now c.in_ok-fillings.fillings.items
    → (t : TellsOpened (asked_view g.F.StoreFiles.known c.args.asked.now) list (heading_of c.args.heading) stores text)
    → IsOpened (asked_view g.F.StoreFiles.known c.args.asked.now) list c.args.heading.number (package_of c.args.heading.source) (audited_at t.start)
opened_over g c list stores text fit made t =
    let fs = c.in_ok-fillings.fillings.items in
    let same : stores ≡ stores_given c.args.heading.source.bytes.now (map supply fs) =
    made ∙ stores_are_given c.args.declared.now fs ∙ ap (λ (ifr : List ℕ). stores_given ifr (map supply fs)) c.requires.same in
    record {
      supplies = map supply fs;
      given = given g c;
      fit = fit;
      start = t.start;
      opens = subst (λ (m : StoreMap). Opens list c.args.heading.number (image_of m) c.args.asked.now.options.now.lang.now t.start) same t.opens;
      seen = refl;
    }

pub returns-in_err-config-clause-begun : goal.returns-in_err-config-clause-begun
returns-in_err-config-clause-begun g c = λ list stands. at_error c.from_residual.result (nothing_of_set _ list _ _)

pub returns-in_err-fillings-clause-begun : goal.returns-in_err-fillings-clause-begun
returns-in_err-fillings-clause-begun g c = λ list stands. at_error c.from_residual-in_err-fillings.result (nothing_of_set _ list _ _)

pub returns-in-Some-clause-told : goal.returns-in-Some-clause-told
returns-in-Some-clause-told g c = λ list stands.
    let fs = c.in_ok-fillings.fillings.items in
    let found : find code.is_unfit fs ≡ Some c.in-Some.filling.now = rw c.as_slice-given.ensures.value at (sym c.first_unfit.ensures ∙ ap option_copied c.in-Some.is) in
    let unfit : find is_unfit (map supply fs) ≡ Some (supply c.in-Some.filling.now) = supplied_unfit fs ∙ ap (option_map supply) found in
    (Unfit (supply c.in-Some.filling.now), record { sound = c.requires.sound; supplies = map supply fs; given = given g (goal.at.returns-in-Some-clause-told g c).In_ok-fillings; unfit = unfit }, c.put_unfit.ensures)

pub returns-in_default-filled-clause-begun : goal.returns-in_default-filled-clause-begun
returns-in_default-filled-clause-begun g c = λ list stands. nothing_of_set _ list _ _

pub returns-in-Ok-put_over-clause-told : goal.returns-in-Ok-put_over-clause-told
returns-in-Ok-put_over-clause-told g c = λ list stands.
    let fs = c.in_ok-fillings.fillings.items in
    let none : find code.is_unfit fs ≡ None = rw c.as_slice-given.ensures.value at (sym c.first_unfit.ensures ∙ ap option_copied c.in_default.is) in
    let t = c.in-Ok-put_over.ensures.told list stands in (
      Opened (audited_at t.1.start),
      opened_over g (goal.at.returns-in-Ok-put_over-clause-told g c).In_ok-fillings list c.in-Ok.stores t.0 (supplied_unfit fs ∙ ap (option_map supply) none) (rw c.as_slice-given.ensures.value at c.in-Ok.ensures.made) t.1,
      written_as t.2 t.1.is,
    )

pub returns-clause-begun : goal.returns-clause-begun
returns-clause-begun g c = λ list stands.
    let fs = c.in_ok-fillings.fillings.items in
    let none : find code.is_unfit fs ≡ None = rw c.as_slice-given.ensures.value at (sym c.first_unfit.ensures ∙ ap option_copied c.in_default.is) in
    elim (c.in-Err.ensures.begun list stands) [
      | inl same ↦ ([], inl refl, none_written g.W.Write.contents c.args.out.now c.put_over.new.out same)
      | inr t ↦ begun_of_set _ list _ _ _ (Opened (audited_at t.1.start))
          (opened_over g (goal.at.returns-clause-begun g c).In_ok-fillings list c.in-Ok.stores t.0 (supplied_unfit fs ∙ ap (option_map supply) none) (rw c.as_slice-given.ensures.value at c.in-Ok.ensures.made) t.1)
          (subst (Begins _ _) t.1.is t.2)
    ]
