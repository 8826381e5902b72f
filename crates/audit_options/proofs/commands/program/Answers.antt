use Rattle.std.proofs.Common.{◌≡◌, ◌∙◌, ap, codes, true}
use Rattle.std.proofs.lemmas.Result.{IfOk-weaker}
use Rattle.clap.specs.Simple.{app_of, app_of_fields, new_app, on_top}
use Rattle.clap.specs.declared.builder.command.Command.{Command}
use Rattle.clap.specs.declared.builder.command.Command.TheOpen.{Command-F}
use Rattle.audit_options.specs.code.Building.{bare}
use Rattle.audit_options.proofs.commands.program.Goals as goal

pub returns : goal.returns
returns c =
    let has_globals = λ (f : Command-F Command). f.has_globals in
    let told : app_of c.after_help.result ≡ on_top (λ s. record s { has_version = true }) (new_app (codes "setup_audit")) =
    ap app_of_fields c.after_help.ensures ∙ ap app_of_fields c.about.ensures ∙ ap app_of_fields c.version.ensures ∙ ap (on_top (λ s. record s { has_version = true })) c.new.ensures.app in
    let required : app_of c.subcommand_required-command.result ≡ bare = ap app_of_fields c.subcommand_required-command.ensures ∙ ap (on_top (λ s. record s { subcommand_required = true })) told in
    let local = ap has_globals c.subcommand_required-command.ensures ∙ ap has_globals c.after_help.ensures ∙ ap has_globals c.about.ensures ∙ ap has_globals c.version.ensures ∙ c.new.ensures.local in
    IfOk-weaker c.bin_name.result _ _ (λ r named. record { read_as = ap app_of_fields named.0 ∙ required; local = ap has_globals named.0 ∙ local }) c.bin_name.ensures
