use Rattle.std.proofs.Common.{◌<◌, ◌^◌, ℕ, List, arith, length, subst}
use Rattle.ifr_nodes.specs.Nodes.{nodes_of}
use Rattle.hii_questions.specs.Fields.{questions}
use Rattle.laid_defaults.proofs.LayingLemmas.{both}
use Rattle.laid_defaults.proofs.laying.lay_defaults.Goals as goal

pub overflow_add-result : goal.overflow_add-result
overflow_add-result c =
    let few : length (questions (nodes_of c.args.setup.forms.now)) < 2 ^ 64 = subst (λ (ifr : List ℕ). length (questions (nodes_of ifr)) < 2 ^ 64) c.args.setup.one c.are_few.ensures in
    let parts = both c.args.class (questions (nodes_of c.args.setup.forms.now)) in
    record { fits = omega (arith, parts, c.lay_each-constants.ensures.few, c.lay_each.ensures.few, few) }
