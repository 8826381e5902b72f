use Rattle.std.proofs.Common.{List, sym, ap, ◌∙◌}
use Rattle.std.specs.Prelude.{filter}
use Rattle.std.specs.List.{find}
use Rattle.ifr_opcodes.specs.Forest.{Node}
use Rattle.ifr_scopes.specs.code.Parts.{option_node}
use Rattle.guard_policy.specs.Policy.{grays_out}
use Rattle.guard_policy.proofs.IndexedLemmas.{of_option}
use Rattle.form_page.specs.code.PageViews.{world_of}
use Rattle.question_audit.proofs.AroundLemmas.{guards_found, same_forms}
use Rattle.question_audit.proofs.OwnLemmas.{is_inside}
use Rattle.question_audit.proofs.own_denials.own_graying_out.Goals as goal

pub loop-guard-init : goal.loop-guard-init
loop-guard-init g c =
    let page = c.args.page in
    let n = option_node c.args.option in
    let own = same_forms c.forms.result.now c.policy.result page.policy c.forms.ensures c.policy.ensures in
    let gs = guards_found page.policy n _ c.place.result _ c.requires (of_option n c.args.option.option) (sym c.place.ensures) own c.guards_at-guards.ensures.guards in
    record {
      found = ap (λ (l : List Node). find (grays_out (world_of page)) (filter (is_inside c.args.place) l)) gs;
      own = c.guards_at-guards.ensures.of_package ∙ own;
    }

pub grays_out-requires : goal.grays_out-requires
grays_out-requires g c = c.in-Some.ensures.of_package ∙ c.loop-guard.invariant.own
