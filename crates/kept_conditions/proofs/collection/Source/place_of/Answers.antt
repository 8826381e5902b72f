use Rattle.std.proofs.Common.{◌≤◌, ℕ, sym, subst}
use Rattle.ifr_nodes.specs.Nodes.{nodes_of}
use Rattle.kept_conditions.proofs.ExpressionLemmas.{place_number}
use Rattle.kept_conditions.proofs.DependentLemmas.{number_small}
use Rattle.kept_conditions.proofs.collection.Source.place_of.Goals as goal

pub returns-clause-place : goal.returns-clause-place
returns-clause-place c = place_number (nodes_of c.args.self.forms.now) c.args.self.places.now c.args.number 0 c.args.self.placed c.requires

pub returns-clause-high : goal.returns-clause-high
returns-clause-high c =
    subst (λ (n : ℕ). c.args.number ≤ n) (sym (place_number (nodes_of c.args.self.forms.now) c.args.self.places.now c.args.number 0 c.args.self.placed c.requires))
    (number_small c.args.self.forms.now c.args.self.accepted c.args.number c.requires)
