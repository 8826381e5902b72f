use Rattle.std.proofs.Common.{refl, sym, ap, subst, ◌∙◌}
use Rattle.config_text.specs.Reading.{configuration_in}
use Rattle.config_text.specs.declared.kind.TextKind.TheVariants.{Ask}
use Rattle.hii_bytes.specs.Watching.{pen_of, Writes}
use Rattle.hii_questions.specs.Fields.{question_with}
use Rattle.ifr_nodes.specs.Nodes.{nodes_of}
use Rattle.session_steps.proofs.RoutedLemmas.{extract_state}
use Rattle.session_steps.specs.Renewed.{field_writes, named_if, pressed_if}
use Rattle.session_steps.specs.Step.{Outcome, form_of, row_of_form}
use Rattle.session_steps.specs.declared.reply.Reply.{Reply}
use Rattle.browser_commands.proofs.CommandLemmas.{answered_state, by_reply, meant_count, meant_reply, meant_state, meant_text}
use Rattle.browser_commands.proofs.browser.Browser.obey.Goals as goal

pub returns-in-Page-clause-state : goal.returns-in-Page-clause-state
returns-in-Page-clause-state g c = meant_state c.args.self.now.state _ _ _ c.in-Page.is refl

pub returns-in-Page-clause-text : goal.returns-in-Page-clause-text
returns-in-Page-clause-text g c = meant_text c.args.self.now.state _ _ c.in-Page.is c.put_page.ensures

pub returns-in-Page-clause-reply : goal.returns-in-Page-clause-reply
returns-in-Page-clause-reply g c = meant_reply c.args.self.now.state _ _ _ c.in-Page.is refl

pub returns-in-Page-clause-renewed : goal.returns-in-Page-clause-renewed
returns-in-Page-clause-renewed g c = meant_count c.args.self.now _ _ _ c.in-Page.is refl

pub returns-in-Order-clause-state : goal.returns-in-Order-clause-state
returns-in-Order-clause-state g c = meant_state c.args.self.now.state _ _ _ c.in-Order.is c.set_apart-in-Order.ensures.state

pub returns-in-Order-clause-text : goal.returns-in-Order-clause-text
returns-in-Order-clause-text g c = meant_text c.args.self.now.state _ _ c.in-Order.is c.set_apart-in-Order.ensures.text

pub returns-in-Order-clause-reply : goal.returns-in-Order-clause-reply
returns-in-Order-clause-reply g c = meant_reply c.args.self.now.state _ _ _ c.in-Order.is c.set_apart-in-Order.ensures.reply

pub returns-in-Order-clause-renewed : goal.returns-in-Order-clause-renewed
returns-in-Order-clause-renewed g c = meant_count c.args.self.now _ _ _ c.in-Order.is (by_reply c.args.self.now (λ (r : Reply). field_writes (nodes_of c.args.self.now.state.ifr) (named_if (question_with (nodes_of c.args.self.now.state.ifr) c.in-Order.question) r)) _ _ _ c.set_apart-in-Order.ensures.renewed c.set_apart-in-Order.ensures.reply)

pub returns-in-Text-clause-state : goal.returns-in-Text-clause-state
returns-in-Text-clause-state g c = meant_state c.args.self.now.state _ _ _ c.in-Text.is c.set_apart-in-Text.ensures.state

pub returns-in-Text-clause-text : goal.returns-in-Text-clause-text
returns-in-Text-clause-text g c = meant_text c.args.self.now.state _ _ c.in-Text.is c.set_apart-in-Text.ensures.text

pub returns-in-Text-clause-reply : goal.returns-in-Text-clause-reply
returns-in-Text-clause-reply g c = meant_reply c.args.self.now.state _ _ _ c.in-Text.is c.set_apart-in-Text.ensures.reply

pub returns-in-Text-clause-renewed : goal.returns-in-Text-clause-renewed
returns-in-Text-clause-renewed g c = meant_count c.args.self.now _ _ _ c.in-Text.is (by_reply c.args.self.now (λ (r : Reply). field_writes (nodes_of c.args.self.now.state.ifr) (named_if (question_with (nodes_of c.args.self.now.state.ifr) c.in-Text.question) r)) _ _ _ c.set_apart-in-Text.ensures.renewed c.set_apart-in-Text.ensures.reply)

pub returns-in-Go-clause-state : goal.returns-in-Go-clause-state
returns-in-Go-clause-state g c = meant_state c.args.self.now.state _ _ _ c.in-Go.is (sym (ap (λ (o : Outcome). o.state) c.follow-followed.ensures.answer ∙ answered_state c.follow-followed.new.self.state c.follow-followed.result))

pub returns-in-Go-clause-text : goal.returns-in-Go-clause-text
returns-in-Go-clause-text g c = meant_text c.args.self.now.state _ _ c.in-Go.is (subst (λ (o : Outcome). Writes (pen_of g.W.Write.contents c.args.out.now) (pen_of g.W.Write.contents c.answer.new.out) o.text) (sym c.follow-followed.ensures.answer) c.answer.ensures.text)

pub returns-in-Go-clause-reply : goal.returns-in-Go-clause-reply
returns-in-Go-clause-reply g c = meant_reply c.args.self.now.state _ _ _ c.in-Go.is (c.answer.ensures.reply ∙ sym (ap (λ (o : Outcome). o.reply) c.follow-followed.ensures.answer))

pub returns-in-Go-clause-renewed : goal.returns-in-Go-clause-renewed
returns-in-Go-clause-renewed g c = meant_count c.args.self.now _ _ _ c.in-Go.is c.follow-followed.ensures.renewed

pub returns-in-Back-clause-state : goal.returns-in-Back-clause-state
returns-in-Back-clause-state g c = meant_state c.args.self.now.state _ _ _ c.in-Back.is (sym (ap (λ (o : Outcome). o.state) c.go_back-left.ensures.answer ∙ answered_state c.go_back-left.new.self.state c.go_back-left.result))

pub returns-in-Back-clause-text : goal.returns-in-Back-clause-text
returns-in-Back-clause-text g c = meant_text c.args.self.now.state _ _ c.in-Back.is (subst (λ (o : Outcome). Writes (pen_of g.W.Write.contents c.args.out.now) (pen_of g.W.Write.contents c.answer-in-Back.new.out) o.text) (sym c.go_back-left.ensures.answer) c.answer-in-Back.ensures.text)

pub returns-in-Back-clause-reply : goal.returns-in-Back-clause-reply
returns-in-Back-clause-reply g c = meant_reply c.args.self.now.state _ _ _ c.in-Back.is (c.answer-in-Back.ensures.reply ∙ sym (ap (λ (o : Outcome). o.reply) c.go_back-left.ensures.answer))

pub returns-in-Back-clause-renewed : goal.returns-in-Back-clause-renewed
returns-in-Back-clause-renewed g c = meant_count c.args.self.now _ _ _ c.in-Back.is c.go_back-left.ensures.renewed

pub returns-in-Press-clause-state : goal.returns-in-Press-clause-state
returns-in-Press-clause-state g c = meant_state c.args.self.now.state _ _ _ c.in-Press.is c.press.ensures.state

pub returns-in-Press-clause-text : goal.returns-in-Press-clause-text
returns-in-Press-clause-text g c = meant_text c.args.self.now.state _ _ c.in-Press.is c.press.ensures.text

pub returns-in-Press-clause-reply : goal.returns-in-Press-clause-reply
returns-in-Press-clause-reply g c = meant_reply c.args.self.now.state _ _ _ c.in-Press.is c.press.ensures.reply

pub returns-in-Press-clause-renewed : goal.returns-in-Press-clause-renewed
returns-in-Press-clause-renewed g c = meant_count c.args.self.now _ _ _ c.in-Press.is (by_reply c.args.self.now (λ (r : Reply). field_writes (nodes_of c.args.self.now.state.ifr) (pressed_if c.args.self.now.state (row_of_form c.args.self.now.state c.in-Press.row (form_of c.args.self.now.state)) r)) _ _ _ c.press.ensures.renewed c.press.ensures.reply)

pub returns-in-Defaults-clause-state : goal.returns-in-Defaults-clause-state
returns-in-Defaults-clause-state g c = meant_state c.args.self.now.state _ _ _ c.in-Defaults.is c.take_defaults.ensures.state

pub returns-in-Defaults-clause-text : goal.returns-in-Defaults-clause-text
returns-in-Defaults-clause-text g c = meant_text c.args.self.now.state _ _ c.in-Defaults.is c.take_defaults.ensures.text

pub returns-in-Defaults-clause-reply : goal.returns-in-Defaults-clause-reply
returns-in-Defaults-clause-reply g c = meant_reply c.args.self.now.state _ _ _ c.in-Defaults.is c.take_defaults.ensures.reply

pub returns-in-Defaults-clause-renewed : goal.returns-in-Defaults-clause-renewed
returns-in-Defaults-clause-renewed g c = meant_count c.args.self.now _ _ _ c.in-Defaults.is c.take_defaults.ensures.renewed

pub returns-in-Extract-clause-state : goal.returns-in-Extract-clause-state
returns-in-Extract-clause-state g c = meant_state c.args.self.now.state _ _ _ c.in-Extract.is (sym (extract_state c.args.self.now.state (configuration_in Ask c.in-Extract.text.now)))

pub returns-in-Extract-clause-text : goal.returns-in-Extract-clause-text
returns-in-Extract-clause-text g c = meant_text c.args.self.now.state _ _ c.in-Extract.is c.extract.ensures.text

pub returns-in-Extract-clause-reply : goal.returns-in-Extract-clause-reply
returns-in-Extract-clause-reply g c = meant_reply c.args.self.now.state _ _ _ c.in-Extract.is c.extract.ensures.reply

pub returns-in-Extract-clause-renewed : goal.returns-in-Extract-clause-renewed
returns-in-Extract-clause-renewed g c = meant_count c.args.self.now _ _ _ c.in-Extract.is refl

pub returns-in-Route-clause-state : goal.returns-in-Route-clause-state
returns-in-Route-clause-state g c = meant_state c.args.self.now.state _ _ _ c.in-Route.is c.route.ensures.state

pub returns-in-Route-clause-text : goal.returns-in-Route-clause-text
returns-in-Route-clause-text g c = meant_text c.args.self.now.state _ _ c.in-Route.is c.route.ensures.text

pub returns-in-Route-clause-reply : goal.returns-in-Route-clause-reply
returns-in-Route-clause-reply g c = meant_reply c.args.self.now.state _ _ _ c.in-Route.is c.route.ensures.reply

pub returns-in-Route-clause-renewed : goal.returns-in-Route-clause-renewed
returns-in-Route-clause-renewed g c = meant_count c.args.self.now _ _ _ c.in-Route.is c.route.ensures.renewed

pub returns-in-Why-clause-state : goal.returns-in-Why-clause-state
returns-in-Why-clause-state g c = meant_state c.args.self.now.state _ _ _ c.in-Why.is (sym (ap (λ (o : Outcome). o.state) c.why.ensures ∙ answered_state c.args.self.now.state c.why.result))

pub returns-in-Why-clause-text : goal.returns-in-Why-clause-text
returns-in-Why-clause-text g c = meant_text c.args.self.now.state _ _ c.in-Why.is (subst (λ (o : Outcome). Writes (pen_of g.W.Write.contents c.args.out.now) (pen_of g.W.Write.contents c.answer-in-Why.new.out) o.text) (sym c.why.ensures) c.answer-in-Why.ensures.text)

pub returns-in-Why-clause-reply : goal.returns-in-Why-clause-reply
returns-in-Why-clause-reply g c = meant_reply c.args.self.now.state _ _ _ c.in-Why.is (c.answer-in-Why.ensures.reply ∙ sym (ap (λ (o : Outcome). o.reply) c.why.ensures))

pub returns-in-Why-clause-renewed : goal.returns-in-Why-clause-renewed
returns-in-Why-clause-renewed g c = meant_count c.args.self.now _ _ _ c.in-Why.is refl

pub returns-in-Lang-clause-state : goal.returns-in-Lang-clause-state
returns-in-Lang-clause-state g c = meant_state c.args.self.now.state _ _ _ c.in-Lang.is c.choose_language.ensures.state

pub returns-in-Lang-clause-text : goal.returns-in-Lang-clause-text
returns-in-Lang-clause-text g c = meant_text c.args.self.now.state _ _ c.in-Lang.is c.put_done.ensures

pub returns-in-Lang-clause-reply : goal.returns-in-Lang-clause-reply
returns-in-Lang-clause-reply g c = meant_reply c.args.self.now.state _ _ _ c.in-Lang.is refl

pub returns-in-Lang-clause-renewed : goal.returns-in-Lang-clause-renewed
returns-in-Lang-clause-renewed g c = meant_count c.args.self.now _ _ _ c.in-Lang.is c.choose_language.ensures.renewed

pub returns-in-Submit-clause-state : goal.returns-in-Submit-clause-state
returns-in-Submit-clause-state g c = meant_state c.args.self.now.state _ _ _ c.in-Submit.is c.submit.ensures.state

pub returns-in-Submit-clause-text : goal.returns-in-Submit-clause-text
returns-in-Submit-clause-text g c = meant_text c.args.self.now.state _ _ c.in-Submit.is c.submit.ensures.text

pub returns-in-Submit-clause-reply : goal.returns-in-Submit-clause-reply
returns-in-Submit-clause-reply g c = meant_reply c.args.self.now.state _ _ _ c.in-Submit.is c.submit.ensures.reply

pub returns-in-Submit-clause-renewed : goal.returns-in-Submit-clause-renewed
returns-in-Submit-clause-renewed g c = meant_count c.args.self.now _ _ _ c.in-Submit.is c.submit.ensures.renewed

pub returns-in-Discard-clause-state : goal.returns-in-Discard-clause-state
returns-in-Discard-clause-state g c = meant_state c.args.self.now.state _ _ _ c.in-Discard.is c.discard.ensures.state

pub returns-in-Discard-clause-text : goal.returns-in-Discard-clause-text
returns-in-Discard-clause-text g c = meant_text c.args.self.now.state _ _ c.in-Discard.is c.put.ensures

pub returns-in-Discard-clause-reply : goal.returns-in-Discard-clause-reply
returns-in-Discard-clause-reply g c = meant_reply c.args.self.now.state _ _ _ c.in-Discard.is refl

pub returns-in-Discard-clause-renewed : goal.returns-in-Discard-clause-renewed
returns-in-Discard-clause-renewed g c = meant_count c.args.self.now _ _ _ c.in-Discard.is c.discard.ensures.renewed
