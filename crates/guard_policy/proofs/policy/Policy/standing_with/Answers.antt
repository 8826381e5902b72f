use Rattle.std.proofs.Common.{◌≡◌, List, sym, ap, ◌∙◌}
use Rattle.std.specs.Prelude.{option_map}
use Rattle.std.specs.List.{find}
use Rattle.ifr_opcodes.specs.Forest.{Node}
use Rattle.ifr_nodes.specs.Guards.{guards}
use Rattle.ifr_scopes.specs.code.AroundViews.{around_guards}
use Rattle.ifr_scopes.specs.code.Lists.{statement_node}
use Rattle.ifr_scopes.specs.code.LocksLeft.{lock_node}
use Rattle.hii_values.specs.declared.denial.DenialKind.TheVariants.{GrayOutIf}
use Rattle.hii_questions.specs.code.Views.{question_view}
use Rattle.guard_policy.specs.Policy.{denied_by, grays_out, hidden_among}
use Rattle.guard_policy.specs.code.Answers.{unless}
use Rattle.guard_policy.specs.code.Views.{world_by}
use Rattle.guard_policy.proofs.CoveringLemmas.{fixed_hidden, fixed_seen}
use Rattle.guard_policy.proofs.IndexedLemmas.{guards_there, lock_there, of_statement}
use Rattle.guard_policy.proofs.policy.Policy.standing_with.Goals as goal
use Rattle.guard_policy.proofs.policy.Policy.standing_with.Goals.{After-around_at-around}

-- the guards that were looked up
there : (g : _) (c : After-around_at-around g) → around_guards c.around_at-around.result ≡ guards (statement_node c.args.statement)
there g c =
    let policy = c.args.self.now in
    let n = statement_node c.args.statement in
    guards_there policy.forms.now n c.place.result _ policy.accepted.checked.spelled c.requires.node (of_statement n c.args.statement.statement) (sym c.place.ensures) c.around_at-around.ensures.guards

pub returns-in-Some-clause-listed : goal.returns-in-Some-clause-listed
returns-in-Some-clause-listed g c =
    let w = world_by c.args.self.now (g.V.Verdicts.met c.args.verdicts.now) in
    ap unless (sym c.in-Some.is ∙ c.effects_beside.ensures.hides ∙ ap (hidden_among w) (there g (goal.at.returns-in-Some-clause-listed g c).After-around_at-around))

pub returns-in-Some-clause-changeable : goal.returns-in-Some-clause-changeable
returns-in-Some-clause-changeable g c =
    let w = world_by c.args.self.now (g.V.Verdicts.met c.args.verdicts.now) in
    let found = sym c.in-Some.is ∙ c.effects_beside.ensures.hides ∙ ap (hidden_among w) (there g (goal.at.returns-in-Some-clause-changeable g c).After-around_at-around) in
    ap unless (sym (fixed_hidden w (statement_node c.args.statement) c.in-Some.denial found))

pub returns-clause-listed : goal.returns-clause-listed
returns-clause-listed g c =
    let w = world_by c.args.self.now (g.V.Verdicts.met c.args.verdicts.now) in
    ap unless (sym c.in_default.is ∙ c.effects_beside.ensures.hides ∙ ap (hidden_among w) (there g (goal.at.returns-clause-listed g c).After-around_at-around))

pub returns-clause-changeable : goal.returns-clause-changeable
returns-clause-changeable g c =
    let policy = c.args.self.now in
    let w = world_by policy (g.V.Verdicts.met c.args.verdicts.now) in
    let n = statement_node c.args.statement in
    let its = there g (goal.at.returns-clause-changeable g c).After-around_at-around in
    let none = sym c.in_default.is ∙ c.effects_beside.ensures.hides ∙ ap (hidden_among w) its in
    let grayed = c.effects_beside.ensures.grays_out ∙ ap (λ (gs : List Node). option_map (denied_by GrayOutIf) (find (grays_out w) gs)) its in
    let locked = c.lock.ensures ∙ lock_there policy.forms.now n c.place.result _ policy.accepted.checked.spelled c.requires.node (of_statement n c.args.statement.statement) (sym c.place.ensures) c.around_at-around.ensures.lock in
    c.unless_fixed.ensures
    ∙ ap unless (fixed_seen w n c.effects_beside.new.last.grays_out (option_map lock_node c.lock.result) (option_map question_view c.question-question.result) none grayed locked c.question-question.ensures)
