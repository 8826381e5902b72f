use Rattle.std.proofs.Common.{◌≡◌, None, sym, ap, subst, ◌∙◌}
use Rattle.hii_varstore.specs.Stores.{bytes_of_field}
use Rattle.hii_varstore.specs.code.Ranges.{IsCut}
use Rattle.hii_questions.specs.code.Views.{question_view}
use Rattle.hii_questions.specs.Changes.{field_bytes}
use Rattle.browser_commands.proofs.ChangeLemmas.{in_store}
use Rattle.browser_commands.proofs.change.held_in.Goals as goal

pub returns-in-Some : goal.returns-in-Some
returns-in-Some c = λ scoped f has. sym (c.in-Some.ensures ∙ ap (field_bytes c.args.stores.now) has)

pub returns-in-None : goal.returns-in-None
returns-in-None c = λ scoped f has.
    let none : bytes_of_field c.args.stores.now f.store f.offset f.width ≡ None = sym (c.in-None.ensures ∙ ap (field_bytes c.args.stores.now) has) in
    absurd (in_store c.args.stores.now (question_view c.args.question) f c.requires has (subst (IsCut f.width) (sym none) tt))
