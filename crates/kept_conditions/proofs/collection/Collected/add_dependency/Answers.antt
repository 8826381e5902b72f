use Rattle.std.proofs.Common.{rules, refl}
use Rattle.kept_conditions.specs.declared.collection.Collected.{Collected}
use Rattle.kept_conditions.specs.declared.index.Dependency.{Dependency}
use Rattle.kept_conditions.proofs.CollectionLemmas.{adds_question}
use Rattle.kept_conditions.proofs.collection.Collected.add_dependency.Goals as goal

pub returns : goal.returns
returns c = λ ns id inside is.
    let r : Dependency = record { field = c.args.field; dependent = c.args.number } in
    let new : Collected = record { list = c.args.self.now.list; dependencies = c.push.new.self; rule_uses = c.args.self.now.rule_uses } in
    adds_question ns c.args.number id c.args.self.now new r inside is refl (search rules) refl c.in_ok-push.ensures.items refl
