use Rattle.std.proofs.Common.{◌≡◌, Ok, ap, subst, ◌∙◌}
use Rattle.hii_values.specs.code.Contents.{content_bytes}
use Rattle.hii_values.specs.code.Fitting.{offered_items}
use Rattle.hii_values.specs.code.ItemsLeft.{items_left}
use Rattle.hii_values.specs.code.Offers.{offer_of}
use Rattle.hii_values.specs.code.TypeViews.{type_in}
use Rattle.hii_values.specs.FieldTypes.{size_of_type}
use Rattle.hii_values.specs.Inputs.{Offer, fits_type}
use Rattle.hii_values.specs.Items.{filled}
use Rattle.hii_values.specs.Types.{type_of}
use Rattle.hii_questions.specs.code.Views.{question_node}
use Rattle.hii_questions.proofs.NamedLemmas.{new_items_named}
use Rattle.hii_questions.proofs.value.check_by.Goals as goal

pub returns-in-Ok-clause-items : goal.returns-in-Ok-clause-items
returns-in-Ok-clause-items c =
    let t = type_in c.in-Some-of.field_type in
    let content = c.in-Ok.content in
    let bytes = filled (size_of_type t) (content_bytes content) in
    let read = c.read_as.ensures.value in
    new_items_named (type_of (question_node c.args.question)) t (offer_of c.args.input) bytes (items_left content.items) c.names_options.result c.in-Some-of.ensures.held
    (subst (λ (offer : Offer). fits_type t offer ≡ Ok bytes) read c.in-Ok.ensures.0) (c.in-Ok.ensures.2 ∙ ap (offered_items t) read) c.names_options.ensures
