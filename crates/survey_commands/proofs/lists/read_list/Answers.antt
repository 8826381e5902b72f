use Rattle.std.proofs.Common.{ℕ, List, ap, subst, ◌∙◌}
use Rattle.std.proofs.lemmas.Result.{err_from_is_err_and}
use Rattle.hii_packages.specs.code.Package.{package_of}
use Rattle.session_steps.specs.Opening.{HasTexts}
use Rattle.opcode_audit.specs.Lines.{said_first}
use Rattle.check_audit.proofs.CheckLemmas.{list_refused, nothing_refused, number_refused, texts_refused}
use Rattle.survey_commands.proofs.lists.read_list.Goals as goal

pub returns-in_err-packages-clause-refused : goal.returns-in_err-packages-clause-refused
returns-in_err-packages-clause-refused c =
    let p = err_from_is_err_and c.from_residual.result c.from_residual.ensures.1 in
    rw (p.1, p.2) (list_refused c.args.list.now _ c.in_err-packages.ensures.refused)

pub returns-in_err-forms-clause-refused : goal.returns-in_err-forms-clause-refused
returns-in_err-forms-clause-refused c =
    let p = err_from_is_err_and c.from_residual-in_err-forms.result c.from_residual-in_err-forms.ensures.1 in
    rw (p.1, p.2) (number_refused c.args.list.now _ _ c.in_ok-packages.ensures.read c.in_ok-packages.ensures.sound c.in_err-forms.ensures.refused)

pub returns-in_err-languages-clause-refused : goal.returns-in_err-languages-clause-refused
returns-in_err-languages-clause-refused c =
    let p = err_from_is_err_and c.from_residual-in_err-languages.result c.from_residual-in_err-languages.ensures.1 in
    rw (p.1, p.2) (texts_refused c.args.list.now _ (package_of c.in_ok-forms.field-0) _ c.in_ok-packages.ensures.read c.in_ok-packages.ensures.sound c.in_ok-forms.ensures.found c.in_err-languages.ensures.refused)

pub returns-clause-read : goal.returns-clause-read
returns-clause-read c =
    let read = c.in_ok-packages.ensures.read in
    record {
      packages = read;
      strings = c.in_ok-strings.ensures ∙ ap said_first read;
      texts = subst (λ (l : List ℕ). HasTexts l c.in_ok-languages.languages) read (c.in_ok-languages.ensures.sound, c.in_ok-languages.ensures.read);
      whole = c.in_ok-packages.ensures.sound;
      none = nothing_refused c.args.list.now _ (package_of c.in_ok-forms.field-0) read c.in_ok-packages.ensures.sound c.in_ok-forms.ensures.found c.in_ok-languages.ensures.sound;
    }
