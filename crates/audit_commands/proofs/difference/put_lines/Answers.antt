use Rattle.std.proofs.Common.{◌≡◌, ◌∙◌, ap, inl, refl, subst, sym}
use Rattle.std.proofs.lemmas.Result.{IfErr-weaker, err_from_is_err_and, on_ok_weaker}
use Rattle.hii_bytes.specs.Watching.{Writes, pen_of}
use Rattle.question_audit.specs.Audited.{Audited}
use Rattle.question_audit.specs.code.Pages.{audited}
use Rattle.session_steps.specs.Opening.{layout_in}
use Rattle.image_audit.specs.Difference.{difference_told}
use Rattle.survey_audit.specs.AuditedAt.{audited_at}
use Rattle.audit_commands.specs.code.Givens.{given_asked}
use Rattle.audit_commands.proofs.DifferingLemmas.{one_package, one_refuses, other_refuses, tells_equal}
use Rattle.audit_commands.proofs.difference.put_lines.Goals as goal

pub returns-in_err-one-clause-refused : goal.returns-in_err-one-clause-refused
returns-in_err-one-clause-refused g c =
    let p = err_from_is_err_and c.from_residual.result c.from_residual.ensures.1 in
    rw (p.1, p.2) (one_refuses (given_asked c.args.given) c.args.other.now _ c.in_err-one.ensures.refused)

pub returns-in_err-other-clause-refused : goal.returns-in_err-other-clause-refused
returns-in_err-other-clause-refused g c =
    let p = err_from_is_err_and c.from_residual-in_err-other.result c.from_residual-in_err-other.ensures.1 in
    rw (p.1, p.2) (other_refuses (given_asked c.args.given) c.args.other.now _ _ c.in_ok-one.ensures.opened.0 c.in_err-other.ensures.refused)

pub put_difference-requires-clause-same : goal.put_difference-requires-clause-same
put_difference-requires-clause-same g c =
    c.page-2.ensures.bytes ∙ one_package (given_asked c.args.given) c.args.other.now c.in_ok-one.one.state c.in_ok-other.other.state c.in_ok-one.ensures.opened.0 c.in_ok-other.ensures.opened.0
    ∙ sym c.page.ensures.bytes

pub put_difference-requires-clause-stores : goal.put_difference-requires-clause-stores
put_difference-requires-clause-stores g c =
    let one = c.in_ok-one.ensures.opened.0 in
    let other = c.in_ok-other.ensures.opened.0 in
    let same = one_package (given_asked c.args.given) c.args.other.now c.in_ok-one.one.state c.in_ok-other.other.state one other in
    rw (c.page.ensures.stores, c.page-2.ensures.stores) (one.stores.laid ∙ ap layout_in (sym same) ∙ sym other.stores.laid)

pub put_difference-requires-clause-lie : goal.put_difference-requires-clause-lie
put_difference-requires-clause-lie g c = rw (c.page.ensures.stores, c.page.ensures.bytes) c.page.ensures.fields

pub returns-clause-told : goal.returns-clause-told
returns-clause-told g c =
    let s = c.in_ok-one.one.state in
    let t = c.in_ok-other.other.state in
    let one : audited c.page.result ≡ audited_at s =
    rw (c.page.ensures.world, c.page.ensures.spoken, c.page.ensures.language, c.page.ensures.stores, c.page.ensures.bytes) refl in
    let other : audited c.page-2.result ≡ audited_at t =
    rw (c.page-2.ensures.world, c.page-2.ensures.spoken, c.page-2.ensures.language, c.page-2.ensures.stores, c.page-2.ensures.bytes) refl in
    on_ok_weaker c.put_difference.result
    (λ w. (
      difference_told c.args.telling (audited_at s) (audited_at t),
      record {
        one = s;
        opens = c.in_ok-one.ensures.opened.0;
        other = t;
        opens_other = c.in_ok-other.ensures.opened.0;
        told = refl;
        equal = tells_equal c.args.telling (given_asked c.args.given) c.args.other.now s t c.in_ok-one.ensures.opened.0 c.in_ok-other.ensures.opened.0;
      },
      subst (λ (b : Audited). Writes (pen_of g.W.Write.contents c.args.out.now) (pen_of g.W.Write.contents c.put_difference.new.out) (difference_told c.args.telling (audited_at s) b)) other
          (subst (λ (a : Audited). Writes (pen_of g.W.Write.contents c.args.out.now) (pen_of g.W.Write.contents c.put_difference.new.out) (difference_told c.args.telling a (audited c.page-2.result))) one w),
    ))
    c.put_difference.ensures.written

pub returns-clause-refused : goal.returns-clause-refused
returns-clause-refused g c = IfErr-weaker c.put_difference.result _ _ (λ fault p. inl p.0) c.put_difference.ensures.nothing

pub returns-clause-nothing : goal.returns-clause-nothing
returns-clause-nothing g c = IfErr-weaker c.put_difference.result _ _ (λ fault p. p.1) c.put_difference.ensures.nothing
