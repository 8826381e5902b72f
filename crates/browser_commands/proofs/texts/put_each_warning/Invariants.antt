use Rattle.std.proofs.Common.{◌≡◌, length}
use Rattle.std.specs.List.{flat_map}
use Rattle.hii_bytes.specs.Watching.{pen_of}
use Rattle.hii_bytes.specs.code.Writing.{Stands}
use Rattle.browser_rules.specs.Strings.{shown}
use Rattle.hii_languages.specs.code.Views.{choice_of}
use Rattle.guard_policy.specs.code.Views.{world}
use Rattle.guard_policy.specs.code.WarningsLeft.{warnings_among}
use Rattle.session_steps.specs.Texts.{warning_line}
use Rattle.browser_commands.proofs.texts.put_each_warning.Given as goal

-- the warnings before those that are left were written
abbrev pub invariant-loop-warning : goal.invariant-loop-warning
invariant-loop-warning g l =
    let line = warning_line (shown l.languages (choice_of l.language)) in
    let w = world l.policy l.fn.stores.stores in
    record {
      text : Stands (pen_of g.W.Write.contents l.fn.out) (pen_of g.W.Write.contents l.out) (flat_map line (warnings_among w l.fn.conditions)) (flat_map line (warnings_among w l.conditions));
      same : l.stores ≡ l.fn.stores;
    }

abbrev pub decreases-loop-warning : goal.decreases-loop-warning
decreases-loop-warning g l = length (warnings_among (world l.policy l.fn.stores.stores) l.conditions)
