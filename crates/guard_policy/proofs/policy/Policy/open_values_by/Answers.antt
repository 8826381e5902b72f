use Rattle.std.proofs.Common.{◌∙◌, ◌&&◌, refl, sym, ap}
use Rattle.std.specs.Prelude.{is_none, ◌==◌}
use Rattle.std.specs.List.{list_any}
use Rattle.ifr_opcodes.specs.Fields.{option_value}
use Rattle.ifr_opcodes.specs.Forest.{Node}
use Rattle.ifr_nodes.specs.Nodes.{options}
use Rattle.hii_values.specs.code.MetValues.{is_sought}
use Rattle.hii_questions.specs.code.Views.{question_node}
use Rattle.guard_policy.specs.code.Views.{world, world_by}
use Rattle.guard_policy.specs.declared.support.Decision.TheVariants.{OptionOpen}
use Rattle.guard_policy.proofs.ClosedLemmas.{opens_closed}
use Rattle.guard_policy.proofs.SupportLemmas.{denial_same}
use Rattle.guard_policy.proofs.SurroundingLemmas.{are_free}
use Rattle.guard_policy.proofs.policy.Policy.open_values_by.Goals as goal

pub open_values_with-requires : goal.open_values_with-requires
open_values_with-requires g c =
    let policy = c.args.self.now in
    let w = world_by policy (λ (n : Node). g.C.Conditions.holding c.args.conditions.now n.place) in
    λ k. ((refl, tt), (c.requires.node, rw (c.free-free.ensures, c.innermost.ensures) (are_free policy.forms.now w (question_node c.args.question) c.args.around refl c.requires.around c.requires.free)))

pub returns-clause-met : goal.returns-clause-met
returns-clause-met g c v stores told =
    let policy = c.args.self.now in
    let holding = g.C.Conditions.holding c.args.conditions.now in
    let os = options (question_node c.args.question) in
    let same = denial_same (world policy stores) (λ (n : Node). holding n.place) (OptionOpen c.args.question v) told in
    c.open_values_with.ensures.met v
    ∙ ap (λ b. is_sought c.open_values_with.result v && b)
    (opens_closed (world_by policy (λ (n : Node). holding n.place)) v os
    ∙ ap (λ d. list_any (λ o. option_value o.op == v) os && is_none d) same
    ∙ sym (opens_closed (world policy stores) v os))
