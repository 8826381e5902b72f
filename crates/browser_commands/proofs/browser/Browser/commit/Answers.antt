use Rattle.std.proofs.Common.{sym, ap, subst, ◌∙◌}
use Rattle.hii_bytes.specs.Watching.{pen_of, Writes}
use Rattle.ifr_nodes.specs.Nodes.{nodes_of}
use Rattle.hii_varstore.specs.Layout.{Shape}
use Rattle.hii_questions.specs.Fields.{questions}
use Rattle.hii_questions.specs.code.LyingIn.{LieIn}
use Rattle.session_steps.specs.State.{State}
use Rattle.session_steps.specs.Step.{commit}
use Rattle.browser_commands.proofs.Browsers.{seen, state_in}
use Rattle.browser_commands.proofs.ChangeLemmas.{fields_lie, none_told, told}
use Rattle.browser_commands.proofs.browser.Browser.commit.Goals as goal

pub returns-then-not-self-clause-text : goal.returns-then-not-self-clause-text
returns-then-not-self-clause-text g c =
    let text = none_told (state_in c.self.inside) (c.self.invariant.unwritten c.if-not-self.true) ∙ ap (λ (s : State). (commit s).text) (seen c.self.view_is) in
    subst (Writes (pen_of g.W.Write.contents c.args.out.now) (pen_of g.W.Write.contents c.put_count.new.out)) text c.put_count.ensures

pub differing_into-requires-clause-lie : goal.differing_into-requires-clause-lie
differing_into-requires-clause-lie g c =
    rw (c.self.invariant.together) (subst (λ (shape : Shape). LieIn shape (questions (nodes_of c.self.inside.forms))) (sym c.self.invariant.submitted) (fields_lie c.self.inside.forms c.self.invariant.browsable))

pub returns-clause-text : goal.returns-clause-text
returns-clause-text g c =
    let ids = c.deref.ensures.value ∙ (rw (c.self.invariant.together, c.stores-working.ensures) at c.differing_into.ensures.ids) in
    let text = told (state_in c.self.inside) c.deref.result.now ids ∙ ap (λ (s : State). (commit s).text) (seen c.self.view_is) in
    subst (Writes (pen_of g.W.Write.contents c.args.out.now) (pen_of g.W.Write.contents c.put_changes.new.out)) text c.put_changes.ensures
