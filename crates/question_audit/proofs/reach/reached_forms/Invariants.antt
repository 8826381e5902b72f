use Rattle.std.proofs.Common.{◌-◌}
use Rattle.form_page.specs.code.PageViews.{world_of}
use Rattle.question_audit.specs.code.MetForms.{forms_met}
use Rattle.question_audit.proofs.ReachLemmas.{IsMeeting}
use Rattle.question_audit.proofs.reach.reached_forms.Given as goal

abbrev pub invariant-loop-form : goal.invariant-loop-form
invariant-loop-form g l = IsMeeting (world_of l.fn.page) (forms_met l.met) l.followed

abbrev pub decreases-loop-form : goal.decreases-loop-form
decreases-loop-form g l = 65536 - l.followed
