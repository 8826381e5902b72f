use Rattle.std.proofs.Common.{◌≡◌, length}
use Rattle.std.specs.Prelude.{filter}
use Rattle.std.specs.List.{find}
use Rattle.ifr_scopes.specs.code.Lists.{guards_left}
use Rattle.ifr_scopes.specs.code.Parts.{option_node}
use Rattle.guard_policy.specs.Policy.{hides}
use Rattle.guard_policy.specs.code.Views.{bytes_of}
use Rattle.form_page.specs.code.PageViews.{world_of}
use Rattle.question_audit.specs.OptionFacts.{own_guards}
use Rattle.question_audit.proofs.OwnLemmas.{is_inside}
use Rattle.question_audit.proofs.own_denials.own_hiding.Given as goal

-- it is found among the guards that are left
abbrev pub invariant-loop-guard : goal.invariant-loop-guard
invariant-loop-guard g l = record {
  found : find (hides (world_of l.page)) (filter (is_inside l.place) (guards_left l.guards)) ≡ find (hides (world_of l.page)) (own_guards l.place (option_node l.option));
  own : l.guards.ifr.now ≡ bytes_of l.page.policy;
}

abbrev pub decreases-loop-guard : goal.decreases-loop-guard
decreases-loop-guard g l = length (guards_left l.guards)
