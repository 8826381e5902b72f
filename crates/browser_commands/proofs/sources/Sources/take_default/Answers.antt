use Rattle.std.proofs.Common.{Some, true, false, sym, ap, subst, ◌∙◌}
use Rattle.ifr_opcodes.specs.Forest.{Node}
use Rattle.ifr_scopes.specs.code.Lists.{statement_node}
use Rattle.ifr_defaults.specs.code.DefaultSources.{IsSource}
use Rattle.hii_varstore.specs.Stores.{shape_of}
use Rattle.hii_values.specs.code.Offers.{offer_of}
use Rattle.hii_questions.specs.code.Views.{question_view}
use Rattle.guard_policy.specs.code.Views.{bytes_of}
use Rattle.browser_commands.specs.code.Defaulting.{TakesDefault}
use Rattle.browser_commands.proofs.DefaultLemmas.{takes_denied, takes_set}
use Rattle.browser_commands.proofs.SetLemmas.{is_question_at}
use Rattle.browser_commands.proofs.sources.Sources.take_default.Goals as goal

pub give_value-requires-clause-question : goal.give_value-requires-clause-question
give_value-requires-clause-question c =
    (is_question_at (bytes_of c.args.self.policy) (statement_node c.args.statement) (question_view c.in-Some-question.question) c.requires.node c.in-Some-question.ensures).0

pub returns-in-Err-clause-takes : goal.returns-in-Err-clause-takes
returns-in-Err-clause-takes c =
    let n = statement_node c.args.statement in
    let q = question_view c.in-Some-question.question in
    let at = is_question_at (bytes_of c.args.self.policy) n q c.requires.node c.in-Some-question.ensures in
    let source = subst (λ (node : Node). IsSource node c.args.class (Some c.in-Some.source)) (sym at.1) c.in-Some.ensures in
    subst (λ (node : Node). TakesDefault c.args.self c.args.class node c.args.working.now c.give_value.new.working false) at.1
    (takes_denied c.args.self c.args.class q c.in-Some.source (offer_of c.in-Some-given_by.input) c.args.working.now c.give_value.new.working _ at.0.asks source
    (sym (rw c.stores.ensures at c.in-Some-given_by.ensures.default)) c.in-Err.ensures.gives)

pub returns-in-Ok-clause-takes : goal.returns-in-Ok-clause-takes
returns-in-Ok-clause-takes c =
    let n = statement_node c.args.statement in
    let q = question_view c.in-Some-question.question in
    let at = is_question_at (bytes_of c.args.self.policy) n q c.requires.node c.in-Some-question.ensures in
    let source = subst (λ (node : Node). IsSource node c.args.class (Some c.in-Some.source)) (sym at.1) c.in-Some.ensures in
    let shape = ap shape_of (sym c.give_value.ensures.same) ∙ c.give_value.ensures.shape ∙ ap shape_of c.requires.same in
    subst (λ (node : Node). TakesDefault c.args.self c.args.class node c.args.working.now c.give_value.new.working true) at.1
    (takes_set c.args.self c.args.class q c.in-Some.source (offer_of c.in-Some-given_by.input) c.args.working.now c.give_value.new.working c.in-Ok.ensures.gives.0 at.0 c.requires.browsed source
    (sym (rw c.stores.ensures at c.in-Some-given_by.ensures.default)) c.in-Ok.ensures.gives.1 shape)
