use Rattle.std.proofs.Common.{◌≡◌, length}
use Rattle.ifr_scopes.specs.code.Lists.{guards_left}
use Rattle.form_page.specs.code.PageViews.{world_of}
use Rattle.question_audit.specs.code.ReasonParts.{graying_out_left}
use Rattle.question_audit.proofs.reason_parts.next_graying_out.Given as goal

-- the guards that were passed deny nothing
abbrev pub invariant-loop-guard : goal.invariant-loop-guard
invariant-loop-guard g l = record {
  left : graying_out_left (world_of l.page) l.guards ≡ graying_out_left (world_of l.page) l.fn.guards;
  same : l.guards.ifr.now ≡ l.fn.guards.ifr.now;
}

abbrev pub decreases-loop-guard : goal.decreases-loop-guard
decreases-loop-guard g l = length (guards_left l.guards)
