use Rattle.std.proofs.Common.{ap, arith, rules, subst, sym, ◌∙◌}
use Rattle.std.proofs.lemmas.Grind.{common_steps}
use Rattle.hii_varstore.specs.Stores.{StoreMap, shape_of, with_bytes}
use Rattle.hii_questions.specs.code.Checks.{range_of}
use Rattle.hii_questions.specs.code.LyingIn.{LiesIn}
use Rattle.hii_questions.specs.code.NewBytes.{new_bytes}
use Rattle.hii_questions.specs.code.Views.{question_view}
use Rattle.question_audit.proofs.defaults.take_default.Goals as goal

pub check_value-requires : goal.check_value-requires
check_value-requires g c = c.in_ok-input.ensures.given (question_view c.args.question).field

pub put-requires : goal.put-requires
put-requires g c =
    let lies = subst (λ (m : StoreMap). LiesIn (shape_of m) (question_view c.args.question)) (sym c.requires.same) c.requires.lies in
    lies (range_of c.in-Ok.field) c.in-Ok.ensures.given.1

pub returns : goal.returns
returns g c =
    let field = c.in-Ok.field in
    let lies = c.in-Ok.ensures.given.1 in
    record {
      lies = lies;
      value = search rules;
      new = record {
        there = c.requires.lies (range_of field) lies;
        bytes = new_bytes field;
        whole = let fits = field.fits in grind (arith, common_steps);
        put = c.put.ensures.written ∙ ap (λ (m : StoreMap). with_bytes m field.store field.offset (new_bytes field)) c.requires.same;
      };
    }
