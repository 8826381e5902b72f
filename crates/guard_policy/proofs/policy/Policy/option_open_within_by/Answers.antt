use Rattle.std.proofs.Common.{refl}
use Rattle.ifr_opcodes.specs.Forest.{Node}
use Rattle.hii_questions.specs.code.Views.{question_node}
use Rattle.guard_policy.specs.code.Views.{world_by}
use Rattle.guard_policy.specs.declared.support.Decision.TheVariants.{OptionOpen}
use Rattle.guard_policy.proofs.KeptLemmas.{decided}
use Rattle.guard_policy.proofs.SurroundingLemmas.{are_free}
use Rattle.guard_policy.proofs.policy.Policy.option_open_within_by.Goals as goal

pub option_open_with-requires : goal.option_open_with-requires
option_open_with-requires g c =
    let policy = c.args.self.now in
    let w = world_by policy (λ (n : Node). g.C.Conditions.holding c.args.conditions.now n.place) in
    λ k. ((refl, tt), (c.requires.node, rw (c.free-free.ensures, c.innermost.ensures) (are_free policy.forms.now w (question_node c.args.question) c.args.around refl c.requires.around c.requires.free)))

pub returns : goal.returns
returns g c = decided c.args.self.now (g.C.Conditions.holding c.args.conditions.now) (OptionOpen c.args.question c.args.value) c.option_open_with.result c.option_open_with.ensures
