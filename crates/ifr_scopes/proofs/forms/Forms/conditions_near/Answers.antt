use Rattle.std.proofs.Common.{◌≡◌, ℕ, List, sym, subst}
use Rattle.ifr_nodes.specs.code.Checked.{IsNodeOf}
use Rattle.ifr_scopes.specs.code.Lists.{statement_node}
use Rattle.ifr_index.proofs.ConditionsOfLemmas.{kept_behind, kept_are, conditions_kept}
use Rattle.ifr_scopes.proofs.forms.Forms.conditions_near.Goals as goal
use Rattle.ifr_scopes.proofs.forms.Forms.conditions_near.Goals.{After-conditions_behind_near}

-- what is kept behind the statement
behind : (c : After-conditions_behind_near) → c.conditions_behind_near.result.now ≡ kept_behind c.self.inside.ifr.now (statement_node c.args.statement)
behind c = subst (λ (b : List ℕ). c.conditions_behind_near.result.now ≡ kept_behind b (statement_node c.args.statement)) (sym c.self.view_is) c.conditions_behind_near.ensures

pub invariant_of-result : goal.invariant_of-result
invariant_of-result c =
    let checked = c.self.invariant.accepted.checked in
    record { checked = checked; conditions = kept_are c.self.inside.ifr.now (statement_node c.args.statement) _ checked (behind (goal.at.invariant_of-result c).After-conditions_behind_near) }

pub returns : goal.returns
returns c =
    let m = statement_node c.args.statement in
    let bytes = c.self.inside.ifr.now in
    let node = subst (λ (b : List ℕ). IsNodeOf b m) (sym c.self.view_is) c.requires.node in
    conditions_kept bytes m c.args.code c.place.result c.conditions_behind_near.result.now c.self.invariant.accepted.checked node c.requires.condition c.place.ensures (behind (goal.at.returns c).After-conditions_behind_near)
