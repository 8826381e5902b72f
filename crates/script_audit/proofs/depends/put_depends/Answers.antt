use Rattle.std.proofs.Common.{◌-◌, ◌≤◌, ap, arith}
use Rattle.std.specs.Prelude.{filter}
use Rattle.std.specs.List.{range_with_len}
use Rattle.hii_bytes.specs.Watching.{pen_of}
use Rattle.hii_bytes.specs.code.NumberSets.{has_number}
use Rattle.question_audit.specs.Dependences.{all_ids}
use Rattle.question_audit.proofs.FactLemmas.{all_left, none_left, past_either}
use Rattle.question_audit.proofs.RangeLemmas.{all_at_start, next_id, no_more}
use Rattle.script_audit.specs.Depends.{depends_told}
use Rattle.script_audit.specs.code.Pages.{seen_in}
use Rattle.script_audit.proofs.depends.put_depends.Goals as goal

pub loop-number-init : goal.loop-number-init
loop-number-init g c =
    let test = has_number c.args.ids.now in
    record {
      few = omega arith;
      written = all_left (depends_told c.args.telling (seen_in c.args.page)) (pen_of g.W.Write.contents c.args.out.now) (filter test all_ids) (filter test (range_with_len 0 (65536 - 0))) (ap (filter test) all_at_start);
    }

pub loop-number-preserved : goal.loop-number-preserved
loop-number-preserved g c =
    let i = c.loop-number.invariant in
    let k = c.loop-number.number in
    record {
      few = omega arith;
      written = past_either (depends_told c.args.telling (seen_in c.args.page)) (has_number c.args.ids.now) _ _ _ _ _ _ k (next_id 65536 k c.loop-number-test.true) i.written c.put_if_among.ensures;
    }

pub returns : goal.returns
returns g c =
    let k = c.loop-number.number in
    let test = has_number c.args.ids.now in
    let over : 65536 ≤ k = omega (arith, c.loop-number-test.false) in
    none_left (depends_told c.args.telling (seen_in c.args.page)) _ _ _ _ (ap (filter test) (no_more 65536 k over)) c.loop-number.invariant.written
