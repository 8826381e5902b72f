use Rattle.std.proofs.Common.{sym, ap, subst, ◌∙◌}
use Rattle.hii_bytes.specs.Watching.{Writes, pen_of}
use Rattle.session_laws.specs.laws.Session.{Stands}
use Rattle.session_laws.proofs.SessionLemmas.{line_stands}
use Rattle.session_steps.specs.Renewed as counted
use Rattle.browser_core.specs.Shown.{Shown, shown_line}
use Rattle.browser_core.proofs.BrowsedLemmas.{after_line, line_text, shown_for}
use Rattle.browser_core.proofs.browsed.Browsed.run_bytes.Goals as goal

pub invariant_of-self : goal.invariant_of-self
invariant_of-self g c = subst (λ (shown : counted.Shown). Stands shown.state) (sym c.run_bytes.ensures.shown) (line_stands c.self.inside.browser.state c.args.line.now c.self.invariant)

pub returns-clause-shown : goal.returns-clause-shown
returns-clause-shown g c =
    ap shown_for c.run_bytes.ensures.shown ∙ after_line c.self.inside.browser c.args.line.now c.self.invariant ∙ ap (λ (shown : Shown). shown_line shown c.args.line.now) c.self.view_is

pub returns-clause-text : goal.returns-clause-text
returns-clause-text g c =
    subst (Writes (pen_of g.W.Write.contents c.args.out.now) (pen_of g.W.Write.contents c.run_bytes.new.out))
    (line_text c.self.inside.browser c.args.self.now c.args.line.now c.self.invariant c.self.view_is) c.run_bytes.ensures.text
