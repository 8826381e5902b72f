use Rattle.std.proofs.Common.{inl, option_map, refl, subst, sym}
use Rattle.std.proofs.lemmas.Result.{IfErr-weaker, err_from_is_err_and, on_ok_weaker}
use Rattle.ifr_nodes.specs.Nodes.{nodes_of}
use Rattle.hii_varstore.specs.Layout.{Shape}
use Rattle.hii_varstore.specs.StoreNodes.{layout_of}
use Rattle.hii_questions.specs.Fields.{questions}
use Rattle.hii_questions.specs.code.LyingIn.{LieIn}
use Rattle.browser_commands.proofs.ChangeLemmas.{fields_lie}
use Rattle.image_audit.specs.Lines.{fields_told}
use Rattle.store_commands.proofs.ExportingLemmas.{given_laid, other_refuses, pair_refuses}
use Rattle.store_commands.proofs.export.put_all.Goals as goal

pub returns-in_err-imaged-clause-refused : goal.returns-in_err-imaged-clause-refused
returns-in_err-imaged-clause-refused g c =
    let p = err_from_is_err_and c.from_residual.result c.from_residual.ensures.1 in
    rw (p.1, p.2) (pair_refuses c.args.list.now c.args.forms c.args.image.now _ (option_map (λ bytes. bytes.now) c.args.other) c.in_err-imaged.ensures.refused)

pub returns-in_err-others-clause-refused : goal.returns-in_err-others-clause-refused
returns-in_err-others-clause-refused g c =
    let p = err_from_is_err_and c.from_residual-in_err-others.result c.from_residual-in_err-others.ensures.1 in
    let imaged = c.in_ok-imaged.imaged in
    rw (p.1, p.2) (other_refuses c.args.list.now c.args.forms c.args.image.now _ (option_map (λ bytes. bytes.now) c.args.other) imaged.declared imaged.stores c.in_ok-imaged.ensures.imaged
    (rw c.layout.ensures at c.in_err-others.ensures.refused))

pub put_fields-requires-clause-sound : goal.put_fields-requires-clause-sound
put_fields-requires-clause-sound g c = rw c.forms.ensures c.in_ok-imaged.ensures.browsable.questions

pub put_fields-requires-clause-lie : goal.put_fields-requires-clause-lie
put_fields-requires-clause-lie g c =
    let imaged = c.in_ok-imaged.imaged in
    rw c.forms.ensures
    (subst (λ (shape : Shape). LieIn shape (questions (nodes_of imaged.declared))) (sym c.in_ok-imaged.ensures.imaged.spelled.laid) (fields_lie imaged.declared c.in_ok-imaged.ensures.browsable))

pub put_fields-requires-clause-others : goal.put_fields-requires-clause-others
put_fields-requires-clause-others g c =
    let imaged = c.in_ok-imaged.imaged in
    let spells = rw c.layout.ensures at c.in_ok-others.ensures.spelled in
    rw c.forms.ensures (given_laid (layout_of (nodes_of imaged.declared)) (option_map (λ bytes. bytes.now) c.args.other) c.in_ok-others.others c.as_ref.result c.as_ref.ensures.value spells)

pub returns-clause-told : goal.returns-clause-told
returns-clause-told g c =
    let imaged = c.in_ok-imaged.imaged in
    let others = c.in_ok-others.others in
    on_ok_weaker c.put_fields.result
    (λ w. (
      fields_told c.args.telling (nodes_of imaged.declared) imaged.stores others,
      record {
        ifr = imaged.declared;
        stores = imaged.stores;
        imaged = c.in_ok-imaged.ensures.imaged;
        others = others;
        spelled = rw c.layout.ensures at c.in_ok-others.ensures.spelled;
        lines = refl;
      },
      rw (c.forms.ensures, c.as_ref.ensures.value) at w,
    ))
    c.put_fields.ensures.written

pub returns-clause-refused : goal.returns-clause-refused
returns-clause-refused g c = IfErr-weaker c.put_fields.result _ _ (λ fault p. inl p.0) c.put_fields.ensures.nothing

pub returns-clause-nothing : goal.returns-clause-nothing
returns-clause-nothing g c = IfErr-weaker c.put_fields.result _ _ (λ fault p. p.1) c.put_fields.ensures.nothing
