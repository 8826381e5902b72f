use Rattle.std.proofs.Common.{ℕ, List, [], ap, arith, inl, inr, refl}
use Rattle.browser_rules.specs.Strings.{Spoken}
use Rattle.audit_json.specs.declared.telling.Telling.{Telling}
use Rattle.hii_bytes.proofs.WritingLemmas.{writes_nil}
use Rattle.hii_packages.specs.code.Package.{package_of}
use Rattle.opcode_audit.specs.Lines.{opcodes_text}
use Rattle.audit_commands.specs.Opcodes.{ListsOpcodes, SaysOpcodes}
use Rattle.audit_commands.specs.code.Judged.{IsJudged}
use Rattle.audit_answers.specs.declared.ended.Ended.TheVariants.{Done}
use Rattle.audit_commands.specs.declared.judged.JudgedPackage.{JudgedPackage}
use Rattle.audit_answers.proofs.EndingLemmas.{is_refusal, tells, tells_refusal}
use Rattle.audit_answers.proofs.ListingLemmas.{source_inside}
use Rattle.audit_commands.proofs.opcodes.tell_list.Goals as goal

lists : (telling : Telling) (list : List ℕ) (n start : ℕ) (judged : JudgedPackage) → IsJudged list n judged → ListsOpcodes telling list n start (opcodes_text telling judged.strings start (package_of judged.source))
lists telling list n start judged is = record {
  source = package_of judged.source;
  found = is.source;
  lines = ap (λ (spoken : List Spoken). opcodes_text telling spoken start (package_of judged.source)) is.strings;
}

pub overflow_add-base : goal.overflow_add-base
overflow_add-base g c =
    let judged = c.in-Ok.judged in
    let is = rw c.from.ensures at c.in-Ok.ensures.read in
    let inside = source_inside c.args.list.bytes.now c.args.forms (package_of judged.source) is.source judged.source.header in
    omega (arith, inside, c.args.list.in_file)

pub put_opcodes-requires : goal.put_opcodes-requires
put_opcodes-requires g c =
    let judged = c.in-Ok.judged in
    let is = rw c.from.ensures at c.in-Ok.ensures.read in
    let inside = source_inside c.args.list.bytes.now c.args.forms (package_of judged.source) is.source judged.source.header in
    omega (arith, inside, c.args.list.in_file)

pub returns-in-Some : goal.returns-in-Some
returns-in-Some g c =
    let list = c.args.list.bytes.now in
    let start = c.args.list.origin.place in
    let is = rw c.from.ensures at c.in-Ok.ensures.read in
    let verdict = rw c.in-Some.is at is.verdict in
    let lines = lists c.args.telling list c.args.forms start c.in-Ok.judged is in
    tells_refusal c.args.telling (SaysOpcodes c.args.telling list c.args.forms start) g.A.Write.contents c.args.answers.now c.put_opcodes.new.out c.refuse.new.answers c.in-Some.fault c.refuse.result
    (λ other. (_, c.put_opcodes.ensures start refl, inr (_, lines, c.in-Some.fault, verdict.1, refl))) (λ memory. absurd (verdict.0 memory)) c.refuse.ensures

pub returns-in-Ok : goal.returns-in-Ok
returns-in-Ok g c =
    let list = c.args.list.bytes.now in
    let start = c.args.list.origin.place in
    let is = rw c.from.ensures at c.in-Ok.ensures.read in
    let lines = lists c.args.telling list c.args.forms start c.in-Ok.judged is in
    tells (SaysOpcodes c.args.telling list c.args.forms start) g.A.Write.contents c.args.answers.now c.finish.new.answers _ Done c.finish.result _ (lines, rw c.in-None.is at is.verdict)
    (c.put_opcodes.ensures start refl) c.finish.ensures

pub returns : goal.returns
returns g c =
    tells_refusal c.args.telling (SaysOpcodes c.args.telling c.args.list.bytes.now c.args.forms c.args.list.origin.place) g.A.Write.contents c.args.answers.now c.args.answers.now c.refuse-in-Err.new.answers c.in-Err.fault
    c.refuse-in-Err.result (λ other. ([], writes_nil _, inl (is_refusal c.args.telling _ c.in-Err.fault (rw c.from.ensures at c.in-Err.ensures.refused) other))) (λ memory. ([], writes_nil _, refl)) c.refuse-in-Err.ensures
