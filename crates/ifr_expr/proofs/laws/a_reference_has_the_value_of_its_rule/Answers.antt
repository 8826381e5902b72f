use Rattle.ifr_expr.proofs.RuleLemmas.{found_value}
use Rattle.ifr_expr.proofs.laws.a_reference_has_the_value_of_its_rule.Goals as goal

pub returns : goal.returns
returns c = found_value
