use Rattle.std.proofs.Common.{◌≡◌, reverse}
use Rattle.ifr_scopes.specs.code.DependenceLeft.{dependence_left}
use Rattle.ifr_nodes.specs.code.Rules.{rules_of}
use Rattle.ifr_scopes.proofs.FrameLemmas.{turns}
use Rattle.ifr_scopes.proofs.dependence.Dependence.step.Given as goal

abbrev pub invariant-loop-frame : goal.invariant-loop-frame
invariant-loop-frame l = dependence_left l.self ≡ dependence_left l.fn.self

abbrev pub decreases-loop-frame : goal.decreases-loop-frame
decreases-loop-frame l = turns (rules_of l.self.forms.now) (reverse l.self.frames.items)
