use Rattle.std.proofs.Common.{◌≡◌, ◌∙◌, [], false, ap, ap₂, codes}
use Rattle.std.proofs.lemmas.Result.{IfOk-weaker}
use Rattle.clap.specs.Simple.{app_of_fields}
use Rattle.clap.specs.Words.{app_of, args_of, groups_of, new_app, with_rule}
use Rattle.clap.specs.declared.builder.command.Command.TheViews.{out-Command}
use Rattle.setup_options.specs.CommandLine.{versioned}
use Rattle.setup_options.proofs.CommandLemmas.{files_given}
use Rattle.setup_options.proofs.command_line.command.Goals as goal

pub returns-clause-app : goal.returns-clause-app
returns-clause-app c = λ plain.
    let start : app_of c.after_help.result ≡ new_app (codes "setup") =
    ap app_of_fields c.after_help.ensures ∙ ap app_of_fields c.about.ensures
    ∙ ap app_of_fields c.in_ok-bin_name.ensures.0 ∙ c.new.ensures.app in
    let told : app_of c.version.result ≡ versioned (new_app (codes "setup")) =
    ap app_of_fields c.version.ensures ∙ ap versioned start in
    let list = c.in_ok-arg.ensures.shape c.file.ensures.file.option.local ∙ ap₂ with_rule told c.file.ensures.rule in
    let stores = c.in_ok-arg-2.ensures.shape c.file-2.ensures.file.option.local ∙ ap₂ with_rule list c.file-2.ensures.rule in
    let out = c.in_ok-arg-3.ensures.shape c.file-3.ensures.file.option.local ∙ ap₂ with_rule stores c.file-3.ensures.rule in
    let forms = c.in_ok-arg-4.ensures.shape c.forms.ensures.option.local ∙ ap₂ with_rule out c.forms.ensures.rule in
    IfOk-weaker c.arg-5.result _ _
    (λ r h. h.shape c.lang.ensures.option.local ∙ ap₂ with_rule forms (c.lang.ensures.rule plain)) c.arg-5.ensures

pub returns-clause-files : goal.returns-clause-files
returns-clause-files c =
    let start = c.version.result in
    let none : args_of start ≡ [] =
    ap (λ f. f.args.items) c.version.ensures ∙ ap (λ f. f.args.items) c.after_help.ensures ∙ ap (λ f. f.args.items) c.about.ensures
    ∙ ap (λ f. f.args.items) c.in_ok-bin_name.ensures.0 ∙ c.new.ensures.empty.0 in
    let alone : groups_of start ≡ [] =
    ap (λ f. f.groups.items) c.version.ensures ∙ ap (λ f. f.groups.items) c.after_help.ensures ∙ ap (λ f. f.groups.items) c.about.ensures
    ∙ ap (λ f. f.groups.items) c.in_ok-bin_name.ensures.0 ∙ c.new.ensures.empty.1 in
    let local : (out-Command start).has_globals ≡ false =
    ap (λ f. f.has_globals) c.version.ensures ∙ ap (λ f. f.has_globals) c.after_help.ensures ∙ ap (λ f. f.has_globals) c.about.ensures
    ∙ ap (λ f. f.has_globals) c.in_ok-bin_name.ensures.0 ∙ c.new.ensures.local in
    let needs : (out-Command start).subcommand_negates_reqs ≡ false =
    ap (λ f. f.subcommand_negates_reqs) c.version.ensures ∙ ap (λ f. f.subcommand_negates_reqs) c.after_help.ensures ∙ ap (λ f. f.subcommand_negates_reqs) c.about.ensures
    ∙ ap (λ f. f.subcommand_negates_reqs) c.in_ok-bin_name.ensures.0 ∙ c.new.ensures.negates in
    IfOk-weaker c.arg-5.result _ _
    (λ r h matches parsed. files_given start _ _ _ _ r c.file.result c.file-2.result c.file-3.result c.forms.result c.lang.result
    c.in_ok-arg.ensures c.in_ok-arg-2.ensures c.in_ok-arg-3.ensures c.in_ok-arg-4.ensures h none alone local needs
    c.file.ensures.file c.file-2.ensures.file c.file-3.ensures.file c.forms.ensures.option c.lang.ensures.option matches parsed) c.arg-5.ensures
