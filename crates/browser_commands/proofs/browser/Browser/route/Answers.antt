use Rattle.std.proofs.Common.{List, Result, sym, ap, subst, ◌∙◌}
use Rattle.browser_rules.specs.Configuration.{Header, Block}
use Rattle.hii_bytes.specs.Watching.{pen_of, Writes}
use Rattle.hii_bytes.specs.declared.cause.Cause.{Cause}
use Rattle.ifr_nodes.specs.Nodes.{nodes_of}
use Rattle.session_steps.specs.Renewed.{response_writes}
use Rattle.session_steps.specs.State.{State}
use Rattle.session_steps.specs.Step.{Outcome, denied, route_reading}
use Rattle.browser_commands.specs.code.Counting.{counted_all}
use Rattle.browser_commands.proofs.browser.Browser.route.Goals as goal

pub returns-in-Err-clause-state : goal.returns-in-Err-clause-state
returns-in-Err-clause-state g c =
    let s = c.args.self.now.state in
    let answer = ap (route_reading s) c.in-Err.ensures in
    sym (ap (λ (o : Outcome). o.state) answer)

pub returns-in-Err-clause-text : goal.returns-in-Err-clause-text
returns-in-Err-clause-text g c =
    let s = c.args.self.now.state in
    let answer = ap (route_reading s) c.in-Err.ensures in
    subst (λ (o : Outcome). Writes (pen_of g.W.Write.contents c.args.out.now) (pen_of g.W.Write.contents c.refuse.new.out) o.text) (sym answer) c.refuse.ensures.text

pub returns-in-Err-clause-reply : goal.returns-in-Err-clause-reply
returns-in-Err-clause-reply g c =
    let s = c.args.self.now.state in
    let answer = ap (route_reading s) c.in-Err.ensures in
    c.refuse.ensures.reply ∙ sym (ap (λ (o : Outcome). o.reply) answer)

pub returns-in-Err-clause-renewed : goal.returns-in-Err-clause-renewed
returns-in-Err-clause-renewed g c =
    let s = c.args.self.now.state in
    sym (ap (λ (r : Result (Header × List Block) Cause). counted_all c.args.self.now.renewed (nodes_of s.ifr) (response_writes s r)) c.in-Err.ensures)

pub returns-in-Ok-set_blocks-clause-state : goal.returns-in-Ok-set_blocks-clause-state
returns-in-Ok-set_blocks-clause-state g c =
    let s = c.args.self.now.state in
    let answer = ap (route_reading s) c.in-Ok.ensures ∙ c.in-Ok-set_blocks.ensures.0 in
    sym (ap (λ (o : Outcome). o.state) answer)

pub returns-in-Ok-set_blocks-clause-text : goal.returns-in-Ok-set_blocks-clause-text
returns-in-Ok-set_blocks-clause-text g c =
    let s = c.args.self.now.state in
    let answer = ap (route_reading s) c.in-Ok.ensures ∙ c.in-Ok-set_blocks.ensures.0 in
    subst (λ (o : Outcome). Writes (pen_of g.W.Write.contents c.args.out.now) (pen_of g.W.Write.contents c.put_count.new.out) o.text) (sym answer) c.put_count.ensures

pub returns-in-Ok-set_blocks-clause-reply : goal.returns-in-Ok-set_blocks-clause-reply
returns-in-Ok-set_blocks-clause-reply g c =
    let s = c.args.self.now.state in
    let answer = ap (route_reading s) c.in-Ok.ensures ∙ c.in-Ok-set_blocks.ensures.0 in
    sym (ap (λ (o : Outcome). o.reply) answer)

pub returns-in-Ok-set_blocks-clause-renewed : goal.returns-in-Ok-set_blocks-clause-renewed
returns-in-Ok-set_blocks-clause-renewed g c =
    let s = c.args.self.now.state in
    c.in-Ok-set_blocks.ensures.1 ∙ sym (ap (λ (r : Result (Header × List Block) Cause). counted_all c.args.self.now.renewed (nodes_of s.ifr) (response_writes s r)) c.in-Ok.ensures)

pub returns-in-Err-set_blocks-clause-state : goal.returns-in-Err-set_blocks-clause-state
returns-in-Err-set_blocks-clause-state g c =
    let s = c.args.self.now.state in
    let answer = ap (route_reading s) c.in-Ok.ensures ∙ c.in-Err-set_blocks.ensures.0 in
    c.in-Err-set_blocks.ensures.1 ∙ sym (ap (λ (o : Outcome). o.state) answer)

pub returns-in-Err-set_blocks-clause-text : goal.returns-in-Err-set_blocks-clause-text
returns-in-Err-set_blocks-clause-text g c =
    let s = c.args.self.now.state in
    let answer = ap (route_reading s) c.in-Ok.ensures ∙ c.in-Err-set_blocks.ensures.0 in
    let same = ap (λ (t : State). denied t c.in-Err-set_blocks.denial) c.in-Err-set_blocks.ensures.1 ∙ sym answer in
    subst (λ (o : Outcome). Writes (pen_of g.W.Write.contents c.args.out.now) (pen_of g.W.Write.contents c.deny.new.out) o.text) same c.deny.ensures.text

pub returns-in-Err-set_blocks-clause-reply : goal.returns-in-Err-set_blocks-clause-reply
returns-in-Err-set_blocks-clause-reply g c =
    let s = c.args.self.now.state in
    let answer = ap (route_reading s) c.in-Ok.ensures ∙ c.in-Err-set_blocks.ensures.0 in
    c.deny.ensures.reply ∙ sym (ap (λ (o : Outcome). o.reply) answer)

pub returns-in-Err-set_blocks-clause-renewed : goal.returns-in-Err-set_blocks-clause-renewed
returns-in-Err-set_blocks-clause-renewed g c =
    let s = c.args.self.now.state in
    c.in-Err-set_blocks.ensures.2 ∙ sym (ap (λ (r : Result (Header × List Block) Cause). counted_all c.args.self.now.renewed (nodes_of s.ifr) (response_writes s r)) c.in-Ok.ensures)
