-- Values of the rules of a package over stores.
use Rattle.std.proofs.Common.{ℕ, Option, List}
use Rattle.ifr_expr.specs.code.RuleValues.{KnownValues, KeepsNothing, kept_under}
use Rattle.ifr_expr.proofs.RuleValueLemmas.{none_kept}
use Rattle.ifr_nodes.specs.Nodes.{nodes_of}
use Rattle.ifr_nodes.specs.code.Rules.{rules_of}
use Rattle.hii_questions.specs.Answers.{answers}
use Rattle.hii_varstore.specs.Stores.{StoreMap}
use Rattle.guard_policy.specs.code.RuleValues.{AreRuleValues}

pub forgotten : (ifr : List ℕ) (stores : StoreMap) (values : KnownValues) → KeepsNothing (kept_under values) → AreRuleValues ifr stores values
forgotten ifr stores values nothing = none_kept (rules_of ifr) (answers (nodes_of ifr) stores) (kept_under values) nothing
