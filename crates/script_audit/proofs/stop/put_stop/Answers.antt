use Rattle.std.proofs.Common.{Option, OnOk, subst}
use Rattle.hii_bytes.specs.Watching.{Puts}
use Rattle.hii_bytes.proofs.WritingLemmas.{◌⨾◌}
use Rattle.script_audit.specs.Because.{Forbidding, stopped_by}
use Rattle.script_audit.specs.code.Pages.{seen_in}
use Rattle.script_audit.specs.code.Stops.{line_meant}
use Rattle.script_audit.proofs.stop.put_stop.Goals as goal

pub returns-in-Some-clause-told : goal.returns-in-Some-clause-told
returns-in-Some-clause-told g c =
    let told = stopped_by c.args.telling c.args.package_place (seen_in c.args.page) (line_meant c.args.stop) c.args.stop.reply in
    subst (λ (f : Option Forbidding). OnOk c.put_forbidden.result (Puts g.W.Write.contents c.args.out.now c.put_forbidden.new.out (told f)))
    (rw (c.forms.ensures, c.policy.ensures) at c.in-Some.ensures) c.put_forbidden.ensures.told

pub returns-in-None-clause-told : goal.returns-in-None-clause-told
returns-in-None-clause-told g c =
    let told = stopped_by c.args.telling c.args.package_place (seen_in c.args.page) (line_meant c.args.stop) c.args.stop.reply in
    subst (λ (f : Option Forbidding). Puts g.W.Write.contents c.args.out.now c.put_because.new.out (told f))
    (rw (c.forms.ensures, c.policy.ensures) at c.in-None.ensures) (c.put_line.ensures ⨾ c.put_answer.ensures ⨾ c.put_because.ensures)
