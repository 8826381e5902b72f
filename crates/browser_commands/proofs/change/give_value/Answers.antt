use Rattle.std.proofs.Common.{◌≡◌, Ok, Err, refl, sym, ap, subst, ◌∙◌}
use Rattle.std.proofs.lemmas.Result.{err_from_is_err_and}
use Rattle.hii_varstore.specs.Layout.{Shape}
use Rattle.hii_varstore.specs.Stores.{StoreMap, shape_of, with_bytes}
use Rattle.hii_varstore.specs.code.Ranges.{HasRange}
use Rattle.hii_values.specs.code.Offers.{offer_of}
use Rattle.hii_questions.specs.code.LyingIn.{LiesIn}
use Rattle.hii_questions.specs.code.NewBytes.{new_bytes}
use Rattle.hii_questions.specs.code.Views.{question_node, question_view}
use Rattle.guard_policy.specs.Policy.{fixed}
use Rattle.guard_policy.specs.World.{World}
use Rattle.guard_policy.specs.code.Answers.{unless}
use Rattle.guard_policy.specs.code.Views.{bytes_of}
use Rattle.guard_policy.proofs.DenialLemmas.{none_of}
use Rattle.kept_conditions.specs.Kept.{KeptMap}
use Rattle.session_steps.specs.State.{world_of}
use Rattle.browser_commands.specs.code.Changing.{GoesBack}
use Rattle.browser_commands.proofs.SetLemmas.{fixed_question, lies_in, over_world, sets_free}
use Rattle.browser_commands.proofs.change.give_value.Goals as goal

pub returns-in_err-around-clause-gives : goal.returns-in_err-around-clause-gives
returns-in_err-around-clause-gives g c =
    let n = question_node c.args.question in
    let denial = c.in_err-around.field-0.0 in
    let p = err_from_is_err_and c.from_residual.result c.from_residual.ensures.1 in
    rw (p.1, p.2) (
      refl,
      λ s its.
          let why : unless (fixed (world_of s) n) ≡ Err denial = subst (λ (w : World). unless (fixed w n) ≡ Err denial) (over_world c.args.policy c.args.working.now.stores s its) (sym c.in_err-around.ensures.answer) in
          fixed_question s n (offer_of c.args.input) denial why,
    )

-- the field of the question lies in the spare stores
pub held_in-old-requires : goal.held_in-old-requires
held_in-old-requires g c =
    let q = question_view c.args.question in
    subst (λ (sh : Shape). LiesIn sh q) (sym (ap shape_of c.requires.same ∙ c.requires.browsed.laid)) (lies_in (bytes_of c.args.policy) q c.requires.browsed.browsable c.requires.question)

pub set_value-requires-clause-free : goal.set_value-requires-clause-free
set_value-requires-clause-free g c = record {
  browsed = c.requires.browsed;
  question = c.requires.question;
  around = c.in_ok-around.ensures.around;
  free = none_of _ (sym c.in_ok-around.ensures.answer);
}

pub set_value-requires-clause-held : goal.set_value-requires-clause-held
set_value-requires-clause-held g c = subst (λ (m : StoreMap). GoesBack m (question_view c.args.question) c.held_in-old.result.now) c.requires.same c.held_in-old.ensures

pub set_value-requires-clause-input : goal.set_value-requires-clause-input
set_value-requires-clause-input g c = c.requires.input (question_view c.args.question).field

pub put-requires : goal.put-requires
put-requires g c =
    let field = c.in_ok-field.field in
    subst (λ (sh : Shape). HasRange sh field.store field.offset field.width) (ap shape_of (sym c.requires.same)) c.in_ok-field.ensures.4

pub returns-in_err-field-clause-gives : goal.returns-in_err-field-clause-gives
returns-in_err-field-clause-gives g c =
    let p = err_from_is_err_and c.from_residual-in_err-field.result c.from_residual-in_err-field.ensures.1 in
    rw (p.1, p.2) (sets_free c.args.policy (question_view c.args.question) (offer_of c.args.input) c.args.working.now c.set_value.new.working (Err c.in_err-field.field-0.0) (none_of _ (sym c.in_ok-around.ensures.answer)) c.in_err-field.ensures)

pub returns-in_err-field-clause-same : goal.returns-in_err-field-clause-same
returns-in_err-field-clause-same g c = c.requires.same ∙ sym (ap (λ (m : KeptMap). m.stores) c.in_err-field.ensures.0)

pub returns-clause-gives : goal.returns-clause-gives
returns-clause-gives g c = (
  c.in_ok-field.field,
  sets_free c.args.policy (question_view c.args.question) (offer_of c.args.input) c.args.working.now c.set_value.new.working (Ok c.in_ok-field.field) (none_of _ (sym c.in_ok-around.ensures.answer)) c.in_ok-field.ensures,
)

pub returns-clause-same : goal.returns-clause-same
returns-clause-same g c =
    let field = c.in_ok-field.field in
    c.put.ensures.written ∙ ap (λ (m : StoreMap). with_bytes m field.store field.offset (new_bytes field)) c.requires.same ∙ sym (ap (λ (m : KeptMap). m.stores) c.in_ok-field.ensures.0)
