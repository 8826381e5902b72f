use Rattle.std.proofs.Common.{ap, subst, sym, ◌∙◌}
use Rattle.clap.specs.Words.{fault_of, matches_of}
use Rattle.clap.specs.Faults.{is_simple_and_free}
use Rattle.clap.specs.Words.{is_simple}
use Rattle.setup_options.specs.CommandLine.{HasValuesOf, texts_of}
use Rattle.setup_options.proofs.CommandLemmas.{setup_is_simple, setup_is_simple_and_free}
use Rattle.setup_options.proofs.command_line.read_words.Goals as goal

pub returns-in-Ok-clause-values : goal.returns-in-Ok-clause-values
returns-in-Ok-clause-values c = λ plain.
    let app = c.in_ok-command.ensures.app (c.hyphen_is_behind_lang.ensures ∙ plain) in
    let found = (c.in-Ok.ensures.matches (ap is_simple app ∙ setup_is_simple)).0 in
    subst (λ rows. HasValuesOf rows c.options_of.result) (found ∙ ap (λ a. matches_of a (texts_of c.args.words.now)) app) c.options_of.ensures

pub returns-in-Ok-clause-faults : goal.returns-in-Ok-clause-faults
returns-in-Ok-clause-faults c = λ plain.
    let app = c.in_ok-command.ensures.app (c.hyphen_is_behind_lang.ensures ∙ plain) in
    sym (ap (λ a. fault_of a (texts_of c.args.words.now)) app) ∙ c.in-Ok.ensures.kinds (ap is_simple_and_free app ∙ setup_is_simple_and_free)

pub returns-in-Err-clause-faults : goal.returns-in-Err-clause-faults
returns-in-Err-clause-faults c = λ plain.
    let app = c.in_ok-command.ensures.app (c.hyphen_is_behind_lang.ensures ∙ plain) in
    rw (ap (λ a. fault_of a (texts_of c.args.words.now)) app) at (c.in-Err.ensures.kinds (ap is_simple_and_free app ∙ setup_is_simple_and_free))
