use Rattle.std.proofs.Common.{sym, ap, subst, ◌∙◌, inl, inr}
use Rattle.hii_bytes.specs.Watching.{Writes, pen_of}
use Rattle.session_laws.specs.laws.Session.{Stands}
use Rattle.session_laws.proofs.SessionLemmas.{line_stands}
use Rattle.session_steps.specs.Renewed as counted
use Rattle.browser_core.specs.Shown.{Shown, shown_line}
use Rattle.browser_core.proofs.BrowsedLemmas.{after_line, line_text, shown_for}
use Rattle.browser_core.proofs.browsed.Browsed.run_line.Goals as goal

pub invariant_of-self : goal.invariant_of-self
invariant_of-self g c = elim c.run_line.ensures.one [
  | inl same ↦ subst (λ (shown : counted.Shown). Stands shown.state) (sym same) c.self.invariant
  | inr moved ↦ subst (λ (shown : counted.Shown). Stands shown.state) (sym moved.1) (line_stands c.self.inside.browser.state moved.0 c.self.invariant)
]

pub returns-clause-shown : goal.returns-clause-shown
returns-clause-shown g c = λ bytes held.
    ap shown_for (c.run_line.ensures.shown bytes held) ∙ after_line c.self.inside.browser bytes c.self.invariant ∙ ap (λ (shown : Shown). shown_line shown bytes) c.self.view_is

pub returns-clause-text : goal.returns-clause-text
returns-clause-text g c = λ bytes held.
    subst (Writes (pen_of g.W.Write.contents c.args.out.now) (pen_of g.W.Write.contents c.run_line.new.out))
    (line_text c.self.inside.browser c.args.self.now bytes c.self.invariant c.self.view_is) (c.run_line.ensures.text bytes held)
