use Rattle.std.proofs.Common.{refl, subst, sym}
use Rattle.ifr_nodes.specs.Accepted.{IsAccepted}
use Rattle.question_audit.proofs.AroundLemmas.{same_forms}
use Rattle.survey_audit.proofs.counts.counts_of.Goals as goal

pub forms_count-requires : goal.forms_count-requires
forms_count-requires g c = subst IsAccepted (sym (same_forms c.forms.result.now c.policy.result c.args.page.policy c.forms.ensures c.policy.ensures)) c.args.page.policy.accepted

pub returns : goal.returns
returns g c =
    rw (c.forms_count.ensures, c.count.ensures, c.tally_of.ensures, c.questions.ensures.own, same_forms c.forms.result.now c.policy.result c.args.page.policy c.forms.ensures c.policy.ensures) refl
