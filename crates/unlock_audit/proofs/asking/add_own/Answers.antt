use Rattle.std.proofs.Common.{◌++◌, List, map, sym, ap}
use Rattle.std.specs.Prelude.{filter}
use Rattle.ifr_opcodes.specs.Forest.{Node}
use Rattle.ifr_scopes.specs.code.Lists.{guard_node}
use Rattle.ifr_scopes.specs.code.Parts.{option_node}
use Rattle.guard_policy.proofs.IndexedLemmas.{of_option}
use Rattle.question_audit.proofs.AroundLemmas.{guards_found}
use Rattle.question_audit.proofs.OwnLemmas.{is_inside}
use Rattle.unlock_audit.proofs.asking.add_own.Goals as goal

pub loop-guard-init : goal.loop-guard-init
loop-guard-init c =
    let n = option_node c.args.option in
    ap (λ (gs : List Node). map guard_node c.args.conditions.now.items ++ filter (is_inside c.args.place) gs)
    (guards_found c.args.policy n _ c.place.result _ c.requires (of_option n c.args.option.option) (sym c.place.ensures) c.forms.ensures c.guards_at-guards.ensures.guards)
