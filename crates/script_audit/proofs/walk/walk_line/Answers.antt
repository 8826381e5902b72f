use Rattle.std.proofs.Common.{Some, append-nil, ap, refl, sym, ◌∙◌}
use Rattle.hii_bytes.proofs.WritingLemmas.{writes_nil}
use Rattle.condition_text.proofs.WriteLemmas.{written_as}
use Rattle.session_steps.specs.Step.{step_line}
use Rattle.session_steps.specs.State.{State}
use Rattle.session_steps.specs.declared.reply.Reply.{Reply}
use Rattle.script_audit.specs.Script.{Line}
use Rattle.script_audit.specs.Walk.{Walk, Stop, is_accepted, line_warnings, seen, walk}
use Rattle.script_audit.proofs.WalkLemmas.{not_accepted, one_accepted, one_stopped, passed_over, run_alone}
use Rattle.script_audit.proofs.walk.walk_line.Goals as goal

pub returns-then-is_passed_over-clause-state : goal.returns-then-is_passed_over-clause-state
returns-then-is_passed_over-clause-state g c = rw (passed_over c.args.number c.args.line.now (sym c.is_passed_over.ensures ∙ c.if-is_passed_over.true)) refl

pub returns-then-is_passed_over-clause-stop : goal.returns-then-is_passed_over-clause-stop
returns-then-is_passed_over-clause-stop g c = rw (passed_over c.args.number c.args.line.now (sym c.is_passed_over.ensures ∙ c.if-is_passed_over.true)) refl

pub returns-then-is_passed_over-clause-told : goal.returns-then-is_passed_over-clause-told
returns-then-is_passed_over-clause-told g c = rw (passed_over c.args.number c.args.line.now (sym c.is_passed_over.ensures ∙ c.if-is_passed_over.true)) (writes_nil _)

pub returns-in-Accepted-clause-state : goal.returns-in-Accepted-clause-state
returns-in-Accepted-clause-state g c =
    let s = c.args.browser.now.state in
    let t = c.args.telling in
    let line : Line = record { number = c.args.number; bytes = c.args.line.now } in
    let alone = run_alone c.args.number c.args.line.now (sym c.is_passed_over.ensures ∙ c.if-is_passed_over.false) in
    let one = ap (walk t s) alone ∙ one_accepted t s line (ap is_accepted (sym c.run_line.ensures.reply ∙ c.in-Accepted.is)) in
    c.run_line.ensures.state ∙ sym (ap (λ (w : Walk). w.state) one)

pub returns-in-Accepted-clause-stop : goal.returns-in-Accepted-clause-stop
returns-in-Accepted-clause-stop g c =
    let s = c.args.browser.now.state in
    let t = c.args.telling in
    let line : Line = record { number = c.args.number; bytes = c.args.line.now } in
    let alone = run_alone c.args.number c.args.line.now (sym c.is_passed_over.ensures ∙ c.if-is_passed_over.false) in
    let one = ap (walk t s) alone ∙ one_accepted t s line (ap is_accepted (sym c.run_line.ensures.reply ∙ c.in-Accepted.is)) in
    sym (ap (λ (w : Walk). w.stop) one)

pub returns-in-Accepted-clause-told : goal.returns-in-Accepted-clause-told
returns-in-Accepted-clause-told g c =
    let s = c.args.browser.now.state in
    let t = c.args.telling in
    let line : Line = record { number = c.args.number; bytes = c.args.line.now } in
    let alone = run_alone c.args.number c.args.line.now (sym c.is_passed_over.ensures ∙ c.if-is_passed_over.false) in
    let one = ap (walk t s) alone ∙ one_accepted t s line (ap is_accepted (sym c.run_line.ensures.reply ∙ c.in-Accepted.is)) in
    let said = ap (λ (after : State). line_warnings t (seen after) line) c.run_line.ensures.state in
    written_as (rw c.in-Accepted.is at c.run_line.ensures.told) (said ∙ sym (append-nil (line_warnings t (seen (step_line s line.bytes).state) line)) ∙ sym (ap (λ (w : Walk). w.told) one))

pub returns-in_default-clause-state : goal.returns-in_default-clause-state
returns-in_default-clause-state g c =
    let s = c.args.browser.now.state in
    let t = c.args.telling in
    let line : Line = record { number = c.args.number; bytes = c.args.line.now } in
    let alone = run_alone c.args.number c.args.line.now (sym c.is_passed_over.ensures ∙ c.if-is_passed_over.false) in
    let not = not_accepted c.run_line.result c.in_default.not-Accepted in
    let one = ap (walk t s) alone ∙ one_stopped t s line (ap is_accepted (sym c.run_line.ensures.reply) ∙ not) in
    c.run_line.ensures.state ∙ sym (ap (λ (w : Walk). w.state) one)

pub returns-in_default-clause-stop : goal.returns-in_default-clause-stop
returns-in_default-clause-stop g c =
    let s = c.args.browser.now.state in
    let t = c.args.telling in
    let line : Line = record { number = c.args.number; bytes = c.args.line.now } in
    let alone = run_alone c.args.number c.args.line.now (sym c.is_passed_over.ensures ∙ c.if-is_passed_over.false) in
    let not = not_accepted c.run_line.result c.in_default.not-Accepted in
    let one = ap (walk t s) alone ∙ one_stopped t s line (ap is_accepted (sym c.run_line.ensures.reply) ∙ not) in
    let at : Reply → Stop = λ reply. record { line = line; reply = reply } in
    ap (λ (reply : Reply). Some (at reply)) c.run_line.ensures.reply ∙ sym (ap (λ (w : Walk). w.stop) one)

pub returns-in_default-clause-told : goal.returns-in_default-clause-told
returns-in_default-clause-told g c =
    let s = c.args.browser.now.state in
    let t = c.args.telling in
    let line : Line = record { number = c.args.number; bytes = c.args.line.now } in
    let alone = run_alone c.args.number c.args.line.now (sym c.is_passed_over.ensures ∙ c.if-is_passed_over.false) in
    let not = not_accepted c.run_line.result c.in_default.not-Accepted in
    let one = ap (walk t s) alone ∙ one_stopped t s line (ap is_accepted (sym c.run_line.ensures.reply) ∙ not) in
    written_as (rw not at c.run_line.ensures.told) (sym (ap (λ (w : Walk). w.told) one))
