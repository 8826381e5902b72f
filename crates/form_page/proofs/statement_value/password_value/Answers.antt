use Rattle.std.proofs.Common.{◌≡◌, ℕ, if◌then◌else◌, Bool, codes, Option, MatchOption, List, [], ◌∷◌, sym, ap, subst, ◌∙◌}
use Rattle.hii_varstore.specs.Stores.{bytes_of_field}
use Rattle.hii_values.specs.Types.{type_of}
use Rattle.hii_values.specs.code.StoredLeft.{stored_left}
use Rattle.hii_questions.specs.Answers.{value_of_bytes, value_of_field}
use Rattle.hii_questions.specs.Fields.{Field}
use Rattle.hii_questions.specs.code.Views.{question_node}
use Rattle.form_page.specs.RowValues.{password_shown}
use Rattle.form_page.proofs.PasswordLemmas.{whole_password, wide_as}
use Rattle.form_page.proofs.statement_value.password_value.Goals as goal

pub returns-in-Some-field : goal.returns-in-Some-field
returns-in-Some-field g c =
    let question = c.args.question in
    let n = question_node question in
    let range = c.in-Some.field in
    let stores = c.args.stores.now in
    let bytes = c.in-Some-field.bytes.now in
    let after = stored_left c.step.new.self in
    let found = c.in-Some.ensures.found in
    let wide = wide_as n question.field range question.wide found in
    let step = subst (λ (its : List ℕ). MatchOption c.step.result ((its ≡ []) × (after ≡ [])) (λ x. its ≡ x ∷ after)) c.new.ensures c.step.ensures in
    ap (λ (b : Bool). if b then codes "****" else []) c.is_some.ensures
    ∙ whole_password n range.width bytes c.step.result after c.requires wide c.in-Some-field.ensures.1 step
    ∙ ap (λ (b : Option (List ℕ)). password_shown (value_of_bytes (type_of n) b)) (sym c.in-Some-field.ensures.0)
    ∙ ap (λ (at : ℕ). password_shown (value_of_bytes (type_of n) (bytes_of_field stores range.store at range.width))) c.from.ensures
    ∙ ap (λ (f : Option Field). password_shown (value_of_field stores n f)) found
