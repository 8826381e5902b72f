use Rattle.std.proofs.Common.{List, sym, ap, subst, ◌∙◌}
use Rattle.hii_bytes.specs.Watching.{pen_of, Writes}
use Rattle.hii_bytes.proofs.WritingLemmas.{◌⨾◌}
use Rattle.ifr_opcodes.specs.Forest.{Node}
use Rattle.ifr_nodes.specs.Nodes.{nodes_of}
use Rattle.hii_questions.specs.Fields.{question_with}
use Rattle.session_steps.specs.Renewed.{Shown, field_writes, named_if}
use Rattle.session_steps.specs.Step.{Outcome, denied}
use Rattle.browser_commands.specs.code.Counting.{counted_all}
use Rattle.browser_commands.proofs.SetLemmas.{names_nothing}
use Rattle.browser_commands.proofs.browser.Browser.set.Goals as goal

pub set_named-requires : goal.set_named-requires
set_named-requires g c = c.requires

pub returns-in-Ok-clause-state : goal.returns-in-Ok-clause-state
returns-in-Ok-clause-state g c = sym c.in-Ok.ensures.sets.0

pub returns-in-Ok-clause-text : goal.returns-in-Ok-clause-text
returns-in-Ok-clause-text g c = c.in-Ok.ensures.text

pub returns-in-Ok-clause-reply : goal.returns-in-Ok-clause-reply
returns-in-Ok-clause-reply g c = sym c.in-Ok.ensures.sets.1

pub returns-in-Ok-clause-renewed : goal.returns-in-Ok-clause-renewed
returns-in-Ok-clause-renewed g c = c.in-Ok.ensures.sets.2

pub returns-in-Err-clause-state : goal.returns-in-Err-clause-state
returns-in-Err-clause-state g c =
    ap (λ (t : Shown). t.state) c.in-Err.ensures.sets.1 ∙ sym (ap (λ (o : Outcome). o.state) c.in-Err.ensures.sets.0)

pub returns-in-Err-clause-text : goal.returns-in-Err-clause-text
returns-in-Err-clause-text g c =
    let same = ap (λ (t : Shown). denied t.state c.in-Err.denial) c.in-Err.ensures.sets.1 ∙ sym c.in-Err.ensures.sets.0 in
    subst (λ (o : Outcome). Writes (pen_of g.W.Write.contents c.args.out.now) (pen_of g.W.Write.contents c.deny.new.out) o.text) same (c.in-Err.ensures.text ⨾ c.deny.ensures.text)

pub returns-in-Err-clause-reply : goal.returns-in-Err-clause-reply
returns-in-Err-clause-reply g c = c.deny.ensures.reply ∙ sym (ap (λ (o : Outcome). o.reply) c.in-Err.ensures.sets.0)

pub returns-in-Err-clause-renewed : goal.returns-in-Err-clause-renewed
returns-in-Err-clause-renewed g c =
    let s = c.args.self.now.state in
    let o = question_with (nodes_of s.ifr) c.args.id in
    ap (λ (t : Shown). t.renewed) c.in-Err.ensures.sets.1
    ∙ sym (ap (λ (qs : List Node). counted_all c.args.self.now.renewed (nodes_of s.ifr) (field_writes (nodes_of s.ifr) qs)) (ap (named_if o) c.deny.ensures.reply ∙ names_nothing o c.in-Err.denial))
