use Rattle.std.proofs.Common.{◌≡◌, Some, None, List, ap, subst, sym, ◌∙◌}
use Rattle.std.specs.Prelude.{option_map}
use Rattle.hii_bytes.proofs.WritingLemmas.{◌⨾◌}
use Rattle.hii_varstore.specs.Stores.{StoreMap}
use Rattle.condition_text.proofs.WriteLemmas.{written_as}
use Rattle.session_steps.specs.State.{State}
use Rattle.question_audit.specs.code.Beginnings.{Begins}
use Rattle.question_audit.proofs.BeginningLemmas.{at_error, first_begun}
use Rattle.question_audit.proofs.OptionLemmas.{nothing_begun}
use Rattle.script_audit.specs.Apply.{Applied, end_of, unsubmitted}
use Rattle.script_audit.specs.Because.{stop_told}
use Rattle.script_audit.specs.Script.{Line, commands_of, lines_from, without_returns}
use Rattle.script_audit.specs.Values.{Seen}
use Rattle.script_audit.specs.Walk.{seen, walk}
use Rattle.script_audit.specs.code.Stops.{stop_meant}
use Rattle.script_audit.proofs.EndLemmas.{broken_off, other_applied, run_out, wide_applied}
use Rattle.script_audit.proofs.WalkLemmas.{page_seen}
use Rattle.script_audit.proofs.applying.apply.Goals as goal

pub returns-then-is_wide-clause-told : goal.returns-then-is_wide-clause-told
returns-then-is_wide-clause-told g c =
    let wide = wide_applied c.args.telling c.args.package_place c.args.browser.now.state c.args.script.now (sym c.is_wide.ensures ∙ c.if-is_wide.true) in
    written_as c.put_error.ensures (sym (ap (λ (a : Applied). a.told) wide))

pub returns-then-is_wide-clause-left : goal.returns-then-is_wide-clause-left
returns-then-is_wide-clause-left g c =
    let wide = wide_applied c.args.telling c.args.package_place c.args.browser.now.state c.args.script.now (sym c.is_wide.ensures ∙ c.if-is_wide.true) in
    ap (λ (a : Applied). a.left) wide

pub returns-in_err-text-clause-begun : goal.returns-in_err-text-clause-begun
returns-in_err-text-clause-begun g c = at_error c.from_residual.result (nothing_begun _ _)

pub returns-in_err-first-clause-begun : goal.returns-in_err-first-clause-begun
returns-in_err-first-clause-begun g c = at_error c.from_residual-in_err-first.result (nothing_begun _ _)

pub returns-clause-told : goal.returns-clause-told
returns-clause-told g c =
    let t = c.args.telling in
    let s = c.args.browser.now.state in
    let script = c.args.script.now in
    let lines : lines_from 1 c.as_slice.result.now ≡ commands_of script = ap (lines_from 1) (c.as_slice.ensures.value ∙ c.in_ok-text.ensures ∙ ap without_returns c.without_mark.ensures) in
    let w = walk t s (commands_of script) in
    let after : c.walk_lines.new.browser.state ≡ w.state = c.walk_lines.ensures.state ∙ ap (λ (ls : List Line). (walk t s ls).state) lines in
    let first : c.in_ok-first.first ≡ s.committed = c.in_ok-first.ensures.same ∙ c.committed.ensures in
    let other = other_applied t c.args.package_place s script (sym c.is_wide.ensures ∙ c.if-is_wide.false) in
    let b = c.walk_lines.new.browser.state in
    let all : w.stop ≡ None = sym (c.walk_lines.ensures.stop ∙ ap (λ (ls : List Line). (walk t s ls).stop) lines) ∙ ap (option_map stop_meant) c.in-None.is in
    let ends = ap (λ (m : StoreMap). (end_of t m b (unsubmitted b)).told) first ∙ ap (λ (u : State). (end_of t s.committed u (unsubmitted u)).told) after in
    let walked = written_as c.walk_lines.ensures.told (ap (λ (ls : List Line). (walk t s ls).told) lines) in
    written_as (walked ⨾ written_as c.put_end.ensures.told ends) (sym (ap (λ (a : Applied). a.told) (other ∙ run_out t c.args.package_place s.committed w all)))

pub returns-clause-left : goal.returns-clause-left
returns-clause-left g c =
    let t = c.args.telling in
    let s = c.args.browser.now.state in
    let script = c.args.script.now in
    let lines : lines_from 1 c.as_slice.result.now ≡ commands_of script = ap (lines_from 1) (c.as_slice.ensures.value ∙ c.in_ok-text.ensures ∙ ap without_returns c.without_mark.ensures) in
    let w = walk t s (commands_of script) in
    let after : c.walk_lines.new.browser.state ≡ w.state = c.walk_lines.ensures.state ∙ ap (λ (ls : List Line). (walk t s ls).state) lines in
    let first : c.in_ok-first.first ≡ s.committed = c.in_ok-first.ensures.same ∙ c.committed.ensures in
    let other = other_applied t c.args.package_place s script (sym c.is_wide.ensures ∙ c.if-is_wide.false) in
    let b = c.walk_lines.new.browser.state in
    let all : w.stop ≡ None = sym (c.walk_lines.ensures.stop ∙ ap (λ (ls : List Line). (walk t s ls).stop) lines) ∙ ap (option_map stop_meant) c.in-None.is in
    let ends = ap (λ (m : StoreMap). (end_of t m b (unsubmitted b)).left) first ∙ ap (λ (u : State). (end_of t s.committed u (unsubmitted u)).left) after in
    ap (λ (a : Applied). a.left) (other ∙ run_out t c.args.package_place s.committed w all) ∙ sym ends ∙ c.put_end.ensures.left

pub returns-in-Some-clause-told : goal.returns-in-Some-clause-told
returns-in-Some-clause-told g c =
    let t = c.args.telling in
    let s = c.args.browser.now.state in
    let script = c.args.script.now in
    let lines : lines_from 1 c.as_slice.result.now ≡ commands_of script = ap (lines_from 1) (c.as_slice.ensures.value ∙ c.in_ok-text.ensures ∙ ap without_returns c.without_mark.ensures) in
    let w = walk t s (commands_of script) in
    let after : c.walk_lines.new.browser.state ≡ w.state = c.walk_lines.ensures.state ∙ ap (λ (ls : List Line). (walk t s ls).state) lines in
    let first : c.in_ok-first.first ≡ s.committed = c.in_ok-first.ensures.same ∙ c.committed.ensures in
    let other = other_applied t c.args.package_place s script (sym c.is_wide.ensures ∙ c.if-is_wide.false) in
    let p = stop_meant c.in-Some.stop in
    let one : w.stop ≡ Some p = sym (c.walk_lines.ensures.stop ∙ ap (λ (ls : List Line). (walk t s ls).stop) lines) ∙ ap (option_map stop_meant) c.in-Some.is in
    let its = page_seen c.page.result c.walk_lines.new.browser.state c.page.ensures.texts c.page.ensures.world c.page.ensures.stores ∙ ap seen after in
    let walked = written_as c.walk_lines.ensures.told (ap (λ (ls : List Line). (walk t s ls).told) lines) in
    let stopped = written_as c.in_ok-put_stop-in-Some.ensures.told (ap (λ (a : Seen). stop_told t c.args.package_place a p.line p.reply) its) in
    written_as (walked ⨾ stopped) (sym (ap (λ (a : Applied). a.told) (other ∙ broken_off t c.args.package_place s.committed w p one)))

pub returns-in-Some-clause-left : goal.returns-in-Some-clause-left
returns-in-Some-clause-left g c =
    let t = c.args.telling in
    let s = c.args.browser.now.state in
    let script = c.args.script.now in
    let lines : lines_from 1 c.as_slice.result.now ≡ commands_of script = ap (lines_from 1) (c.as_slice.ensures.value ∙ c.in_ok-text.ensures ∙ ap without_returns c.without_mark.ensures) in
    let w = walk t s (commands_of script) in
    let after : c.walk_lines.new.browser.state ≡ w.state = c.walk_lines.ensures.state ∙ ap (λ (ls : List Line). (walk t s ls).state) lines in
    let first : c.in_ok-first.first ≡ s.committed = c.in_ok-first.ensures.same ∙ c.committed.ensures in
    let other = other_applied t c.args.package_place s script (sym c.is_wide.ensures ∙ c.if-is_wide.false) in
    let p = stop_meant c.in-Some.stop in
    let one : w.stop ≡ Some p = sym (c.walk_lines.ensures.stop ∙ ap (λ (ls : List Line). (walk t s ls).stop) lines) ∙ ap (option_map stop_meant) c.in-Some.is in
    ap (λ (a : Applied). a.left) (other ∙ broken_off t c.args.package_place s.committed w p one)

pub returns-in_err-put_stop-in-Some-clause-begun : goal.returns-in_err-put_stop-in-Some-clause-begun
returns-in_err-put_stop-in-Some-clause-begun g c =
    let t = c.args.telling in
    let s = c.args.browser.now.state in
    let script = c.args.script.now in
    let lines : lines_from 1 c.as_slice.result.now ≡ commands_of script = ap (lines_from 1) (c.as_slice.ensures.value ∙ c.in_ok-text.ensures ∙ ap without_returns c.without_mark.ensures) in
    let w = walk t s (commands_of script) in
    let after : c.walk_lines.new.browser.state ≡ w.state = c.walk_lines.ensures.state ∙ ap (λ (ls : List Line). (walk t s ls).state) lines in
    let first : c.in_ok-first.first ≡ s.committed = c.in_ok-first.ensures.same ∙ c.committed.ensures in
    let other = other_applied t c.args.package_place s script (sym c.is_wide.ensures ∙ c.if-is_wide.false) in
    let p = stop_meant c.in-Some.stop in
    let one : w.stop ≡ Some p = sym (c.walk_lines.ensures.stop ∙ ap (λ (ls : List Line). (walk t s ls).stop) lines) ∙ ap (option_map stop_meant) c.in-Some.is in
    let walked = written_as c.walk_lines.ensures.told (ap (λ (ls : List Line). (walk t s ls).told) lines) in
    let begun = first_begun (stop_told t c.args.package_place (seen w.state) p.line p.reply) walked in
    let whole = sym (ap (λ (a : Applied). a.told) (other ∙ broken_off t c.args.package_place s.committed w p one)) in
    at_error c.from_residual-in_err-put_stop-in-Some.result (rw c.in_err-put_stop-in-Some.ensures.nothing.1 (subst (Begins _ _) whole begun))
