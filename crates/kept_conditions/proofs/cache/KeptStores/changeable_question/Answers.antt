use Rattle.std.proofs.Common.{refl}
use Rattle.guard_policy.specs.declared.support.Decision.TheVariants.{Changeable}
use Rattle.kept_conditions.proofs.TellsLemmas.{kept_tells}
use Rattle.kept_conditions.proofs.cache.KeptStores.changeable_question.Goals as goal

pub returns-clause-answer : goal.returns-clause-answer
returns-clause-answer c =
    let statement = c.args.question.statement in
    c.changeable_question_by.ensures.answer statement refl c.args.self.now.stores
    (kept_tells c.args.policy c.kept.result.now c.args.self.now.ifr c.args.self.now.stores (Changeable statement)
    c.args.policy.accepted c.requires.package c.kept.ensures c.requires.node refl)
