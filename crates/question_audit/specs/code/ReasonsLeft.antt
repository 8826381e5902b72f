-- What the reasons of a question have before them.
use Rattle.std.specs.Prelude.{List, ◌++◌}
use Rattle.guard_policy.specs.declared.conditions.Conditions.{Ghosts}
use Rattle.guard_policy.specs.declared.denial.Denial.{Denial}
use Rattle.form_page.specs.code.PageViews.{world_of}
use Rattle.question_audit.specs.code.ReasonParts.{graying_out_left, hiding_left, locked_left, own_left}
use Rattle.question_audit.specs.declared.reasons.Reasons.{Reasons}

-- those of each kind
abbrev pub reasons_left : {C : Type 0} {g : Ghosts C} → Reasons C g → List Denial
reasons_left it =
    let w = world_of it.page in
    (hiding_left w it.hiding ++ graying_out_left w it.graying_out) ++ locked_left it.locks ++ own_left it.own
