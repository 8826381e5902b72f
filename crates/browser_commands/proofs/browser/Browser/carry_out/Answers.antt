use Rattle.std.proofs.Common.{refl, sym, ap, subst, ◌∙◌, rules}
use Rattle.std.proofs.lemmas.Int.{to_z-of_z}
use Rattle.hii_bytes.specs.Watching.{pen_of, Writes}
use Rattle.hii_commands.specs.Meaning.{command_meant}
use Rattle.hii_questions.specs.Fields.{question_with}
use Rattle.ifr_nodes.specs.Nodes.{nodes_of}
use Rattle.session_steps.specs.Renewed.{Shown, field_writes, named_if, shown_after, writes_of}
use Rattle.session_steps.specs.Step.{Outcome, step}
use Rattle.session_steps.specs.declared.reply.Reply.{Reply}
use Rattle.browser_commands.specs.code.Counting.{counted_all}
use Rattle.browser_commands.proofs.Browsers.{both}
use Rattle.browser_commands.proofs.CommandLemmas.{answered_state, by_reply, meant_count, meant_reply, meant_state, meant_text}
use Rattle.browser_commands.proofs.CountLemmas.{counted_from_none}
use Rattle.browser_commands.proofs.browser.Browser.carry_out.Goals as goal
use mir.Syntax.{w128}
use mir.Val.{SFits}

pub returns-in-Set-clause-shown : goal.returns-in-Set-clause-shown
returns-in-Set-clause-shown g c =
    let fits : SFits w128 c.in-Set.value = search rules in
    let s = c.args.self.now.state in
    let counting = c.count_anew.new.self in
    let command = command_meant c.args.command in
    let ids = λ (r : Reply). field_writes (nodes_of counting.state.ifr) (named_if (question_with (nodes_of counting.state.ifr) c.in-Set.question) r) in
    let state = meant_state counting.state _ _ _ c.in-Set.is (simp to_z-of_z at c.set.ensures.state) ∙ ap (λ (t : Shown). (step t.state command).state) c.count_anew.ensures in
    let count = meant_count counting _ _ _ c.in-Set.is (by_reply counting ids _ _ _ c.set.ensures.renewed (simp to_z-of_z at c.set.ensures.reply))
    ∙ ap (λ (t : Shown). counted_all t.renewed (nodes_of t.state.ifr) (writes_of t.state command)) c.count_anew.ensures ∙ counted_from_none (nodes_of s.ifr) (writes_of s command) in
    both c.set.new.self (shown_after c.args.self.now command) state count

pub returns-in-Why-clause-shown : goal.returns-in-Why-clause-shown
returns-in-Why-clause-shown g c =
    let s = c.args.self.now.state in
    let counting = c.count_anew.new.self in
    let command = command_meant c.args.command in
    let same = sym (ap (λ (o : Outcome). o.state) c.why.ensures ∙ answered_state counting.state c.why.result) in
    let state = meant_state counting.state _ _ _ c.in-Why.is same ∙ ap (λ (t : Shown). (step t.state command).state) c.count_anew.ensures in
    let count = meant_count counting _ _ _ c.in-Why.is refl ∙ ap (λ (t : Shown). counted_all t.renewed (nodes_of t.state.ifr) (writes_of t.state command)) c.count_anew.ensures ∙ counted_from_none (nodes_of s.ifr) (writes_of s command) in
    both counting (shown_after c.args.self.now command) state count

pub returns-in-Why-clause-text : goal.returns-in-Why-clause-text
returns-in-Why-clause-text g c =
    let a = pen_of g.W.Write.contents c.args.out.now in
    let b = pen_of g.W.Write.contents c.answer.new.out in
    let command = command_meant c.args.command in
    let told = meant_text c.count_anew.new.self.state _ _ c.in-Why.is (subst (λ (o : Outcome). Writes a b o.text) (sym c.why.ensures) c.answer.ensures.text) in
    subst (λ (t : Shown). Writes a b (step t.state command).text) c.count_anew.ensures told

pub returns-in-Why-clause-reply : goal.returns-in-Why-clause-reply
returns-in-Why-clause-reply g c =
    let command = command_meant c.args.command in
    meant_reply c.count_anew.new.self.state _ _ _ c.in-Why.is (c.answer.ensures.reply ∙ sym (ap (λ (o : Outcome). o.reply) c.why.ensures))
    ∙ ap (λ (t : Shown). (step t.state command).reply) c.count_anew.ensures

pub returns-in_default-clause-shown : goal.returns-in_default-clause-shown
returns-in_default-clause-shown g c =
    let s = c.args.self.now.state in
    let command = command_meant c.args.command in
    let state = c.obey.ensures.state ∙ ap (λ (t : Shown). (step t.state command).state) c.count_anew.ensures in
    let count = c.obey.ensures.renewed ∙ ap (λ (t : Shown). counted_all t.renewed (nodes_of t.state.ifr) (writes_of t.state command)) c.count_anew.ensures ∙ counted_from_none (nodes_of s.ifr) (writes_of s command) in
    both c.obey.new.self (shown_after c.args.self.now command) state count
