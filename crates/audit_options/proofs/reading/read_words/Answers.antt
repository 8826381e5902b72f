use Rattle.std.proofs.Common.{◌≡◌, ◌∙◌, Option, List, true, false, ap, map, refl, string_bytes, subst}
use Rattle.std.proofs.lemmas.Result.{err_from_is_err_and}
use Rattle.clap.specs.Words.{App, Row, Text, app_of, is_simple, kind_of, subcommand_of, takes}
use Rattle.clap.proofs.OnLiterals.{clap_on_literals}
use Rattle.audit_options.specs.CommandLine.{program}
use Rattle.audit_options.specs.Asked.{Asks, IsMisused}
use Rattle.audit_options.proofs.reading.read_words.Goals as goal

program_is_simple : is_simple (program false) ≡ true
unfolding clap_on_literals
program_is_simple = refl

pub returns-in-Ok-clause-asked : goal.returns-in-Ok-clause-asked
returns-in-Ok-clause-asked c = λ none.
    let app : app_of c.in_ok-command.command ≡ program false = c.in_ok-command.ensures.read_as ∙ ap program (c.has_hyphen_language.ensures ∙ none) in
    let met = (c.in_ok-matches.ensures.ok.2 (ap is_simple app ∙ program_is_simple)).1 in
    let asks = rw c.in-Ok.is at c.in_ok-task.ensures.asked in
    subst (λ (met : Option (Text × List Row)). Asks met c.in-Ok.task) (met ∙ ap (λ (a : App). subcommand_of a (map string_bytes c.args.words.now)) app) asks

pub returns-in_err-matches-clause-taken : goal.returns-in_err-matches-clause-taken
returns-in_err-matches-clause-taken c =
    let p = err_from_is_err_and c.from_residual-in_err-matches.result c.from_residual-in_err-matches.ensures.1 in
    rw p.1 (λ none taken other.
    let app : app_of c.in_ok-command.command ≡ program false = c.in_ok-command.ensures.read_as ∙ ap program (c.has_hyphen_language.ensures ∙ none) in
    absurd (other (ap kind_of p.2 ∙ c.in_err-matches.ensures.passes (ap (λ (a : App). takes a (map string_bytes c.args.words.now)) app ∙ taken))))

pub returns-in_err-task-clause-taken : goal.returns-in_err-task-clause-taken
returns-in_err-task-clause-taken c =
    let p = err_from_is_err_and c.from_residual-in_err-task.result c.from_residual-in_err-task.ensures.1 in
    rw p.1 (λ none taken other. absurd (other p.2))

pub returns-in_err-misused-in-Err-clause-taken : goal.returns-in_err-misused-in-Err-clause-taken
returns-in_err-misused-in-Err-clause-taken c =
    let p = err_from_is_err_and c.from_residual-in_err-misused-in-Err.result c.from_residual-in_err-misused-in-Err.ensures.1 in
    rw p.1 (λ none taken other. absurd (other p.2))

pub returns-clause-taken : goal.returns-clause-taken
returns-clause-taken c = λ none taken other.
    let app : app_of c.in_ok-command.command ≡ program false = c.in_ok-command.ensures.read_as ∙ ap program (c.has_hyphen_language.ensures ∙ none) in
    let met = (c.in_ok-matches.ensures.ok.2 (ap is_simple app ∙ program_is_simple)).1 in
    let misused = rw c.in-Err.is at c.in_ok-task.ensures.misused in (
      c.in-Err.misuse,
      c.in_ok-misused-in-Err.ensures,
      subst (λ (met : Option (Text × List Row)). IsMisused met c.in-Err.misuse) (met ∙ ap (λ (a : App). subcommand_of a (map string_bytes c.args.words.now)) app) misused,
    )
