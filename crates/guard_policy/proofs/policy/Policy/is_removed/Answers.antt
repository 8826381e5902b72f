use Rattle.std.proofs.Common.{rules}
use Rattle.ifr_nodes.specs.Guards.{guards}
use Rattle.ifr_scopes.specs.code.Lists.{outward_left}
use Rattle.ifr_scopes.specs.code.NoSubmitsLeft.{no_submit_node}
use Rattle.guard_policy.specs.Policy.{is_removed}
use Rattle.guard_policy.proofs.CoveringLemmas.{any_turned}
use Rattle.guard_policy.proofs.policy.Policy.is_removed.Goals as goal

pub loop-guard-init : goal.loop-guard-init
loop-guard-init c =
    let nosubmit = c.args.nosubmit.now in
    record {
      can = search rules;
      ends = search rules;
      same = any_turned (is_removed c.args.self.now.removed.now) (outward_left nosubmit.guards) (guards (no_submit_node nosubmit)) nosubmit.around;
    }
