use Rattle.std.proofs.Common.{◌∙◌, ap, map-id, sym}
use Rattle.std.proofs.lemmas.Iterator.{YieldsList-from_chars}
use Rattle.std.proofs.lemmas.Iterator.Consumers.{YieldsList-end}
use Rattle.survey_audit.specs.Finding.{small}
use Rattle.survey_audit.proofs.finding.small_letters.Goals as goal

pub returns : goal.returns
returns c =
    let end = YieldsList-end (YieldsList-from_chars c.args.text.now c.utf8.text cc) c.loop-c.yielded _ c.loop-c.yielded_by _ _ c.in-None.is c.next.ensures.steps in
    c.loop-c.invariant ∙ ap small (sym (map-id c.loop-c.yielded) ∙ end.0)
