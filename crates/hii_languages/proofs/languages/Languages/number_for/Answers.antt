use Rattle.std.proofs.Common.{◌≡◌, ◌∙◌, sym, ap, length, Some, None}
use Rattle.std.specs.Prelude.{◌==◌, if◌then◌else◌}
use Rattle.std.specs.Option.{option_or}
use Rattle.browser_rules.specs.Strings.{primary}
use Rattle.hii_languages.specs.code.Names.{with_language, with_subtag}
use Rattle.hii_languages.proofs.languages.Languages.number_for.Goals as goal

pub returns-in-None : goal.returns-in-None
returns-in-None c =
    let spoken = c.args.self.now in
    let language = c.args.language.now in
    let other : with_language spoken language ≡ None = ap (λ s. with_language s language) (sym c.self.view_is) ∙ sym (c.self.invariant.0 language) ∙ sym c.find.ensures ∙ c.in-None.is in
    let subtag : c.find-in-None.result ≡ with_subtag spoken (primary language)
    = c.find-in-None.ensures ∙ c.self.invariant.1 c.primary_subtag_of.result.now ∙ (λ i. with_subtag (c.self.view_is i) (c.primary_subtag_of.ensures i)) in
    c.or.ensures ∙ (λ i. option_or (subtag i) (c.first.ensures i))
    ∙ ap (λ o. option_or o (option_or (with_subtag spoken (primary language)) (if length spoken == 0 then None else Some 0))) (sym other)
