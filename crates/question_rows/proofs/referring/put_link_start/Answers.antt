use Rattle.std.proofs.Common.{◌≡◌, arith, sym}
use Rattle.hii_bytes.proofs.WritingLemmas.{writes_nil}
use Rattle.ifr_nodes.specs.Nodes.{nodes_of}
use Rattle.hii_questions.specs.code.Views.{question_view}
use Rattle.guard_policy.specs.code.Views.{bytes_of}
use Rattle.condition_text.proofs.WriteLemmas.{written_as}
use Rattle.question_rows.proofs.LinkLemmas.{link_begun, none_left, not_begun, within_link}
use Rattle.question_rows.proofs.referring.put_link_start.Goals as goal

pub returns-then-left-gt0-clause-text : goal.returns-then-left-gt0-clause-text
returns-then-left-gt0-clause-text g c = written_as (writes_nil _) (sym (within_link (nodes_of (bytes_of c.args.page.policy)) c.args.left c.args.text.now c.if-left-gt0.true))

pub returns-in-Some-clause-text : goal.returns-in-Some-clause-text
returns-in-Some-clause-text g c =
    let zero : c.args.left ≡ 0 = omega (arith, c.if-left-gt0.false) in
    written_as (rw c.place.ensures at c.put_link.ensures)
    (link_begun (nodes_of (bytes_of c.args.page.policy)) c.args.left c.args.text.now c.reference_front-reference.result.digits.now (question_view c.in-Some.question) zero c.reference_front-reference.ensures.digits c.in-Some.ensures)

pub returns-in-None-clause-text : goal.returns-in-None-clause-text
returns-in-None-clause-text g c =
    let zero : c.args.left ≡ 0 = omega (arith, c.if-left-gt0.false) in
    written_as (writes_nil _) (not_begun (nodes_of (bytes_of c.args.page.policy)) c.args.left c.args.text.now c.reference_front-reference.result.digits.now zero c.reference_front-reference.ensures.digits c.in-None.ensures)

pub returns-in-None-clause-left : goal.returns-in-None-clause-left
returns-in-None-clause-left g c =
    let zero : c.args.left ≡ 0 = omega (arith, c.if-left-gt0.false) in
    none_left (nodes_of (bytes_of c.args.page.policy)) c.args.left c.args.text.now c.reference_front-reference.result.digits.now zero c.reference_front-reference.ensures.digits c.in-None.ensures
