use Rattle.std.proofs.Common.{◌≡◌, ◌∙◌, Option, Some, ap, option_map, refl, subst, sym, unwrap_or}
use Rattle.ifr_scopes.specs.Stores.{store_guid, store_name}
use Rattle.ifr_scopes.specs.code.Lists.{store_node}
use Rattle.store_audit.specs.Fillings.{wanted_of}
use Rattle.store_audit.specs.declared.fillings.Source.TheVariants.{Config}
use Rattle.exported_config.specs.Giving.{Given, Named, given_view}
use Rattle.exported_config.specs.code.Views.{exported_view}
use Rattle.store_commands.specs.Sources.{IsFallback, given_of}
use Rattle.store_commands.proofs.sources.fallback.Goals as goal

pub returns-in-Some-clause-source : goal.returns-in-Some-clause-source
returns-in-Some-clause-source c =
    let n = store_node c.args.store in
    let guid : c.name_of.result.guid.now ≡ store_guid n.op = ap (λ (s : Named). s.guid) c.name_of.ensures in
    let name : c.name_of.result.name.now ≡ store_name n.op = ap (λ (s : Named). s.name) c.name_of.ensures in
    let size : c.unwrap_or-size.result ≡ wanted_of n = c.unwrap_or-size.ensures ∙ ap (λ o. unwrap_or o 0) c.size.ensures in
    let given : Some (given_view c.in-Some.given) ≡ given_of (exported_view c.args.config.now) n =
    ap (option_map given_view) (sym c.in-Some.is) ∙ c.in_ok-given.ensures ∙ rw (guid, name, size) refl in
    subst (λ (o : Option Given). IsFallback o c.args.zero (Config c.in-Some.given)) given (c.in-Some.given, refl, refl)
