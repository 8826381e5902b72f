use Rattle.std.proofs.Common.{◌≡◌, List, ℕ, true, None, Some, Err, Ok, rules, sym, ap, ◌∙◌}
use Rattle.std.specs.Prelude.{option_and_then}
use Rattle.std.proofs.lemmas.Result.{err_from_is_err_and}
use Rattle.ifr_opcodes.specs.Fields.{ref_target}
use Rattle.ifr_opcodes.specs.code.Ops.{bytes_of}
use Rattle.ifr_nodes.specs.Nodes.{nodes_of, is_reference}
use Rattle.ifr_nodes.specs.ReferenceFaults.{form_with}
use Rattle.ifr_scopes.specs.code.Lists.{form_node}
use Rattle.hii_questions.specs.Fields.{question_with}
use Rattle.hii_questions.specs.code.Views.{question_node}
use Rattle.guard_policy.specs.Policy.{fixed, hidden}
use Rattle.guard_policy.specs.code.Answers.{unless}
use Rattle.session_steps.specs.State.{State, world_of}
use Rattle.session_steps.specs.Step.{denied}
use Rattle.browser_commands.proofs.FollowLemmas.{go_fixed, go_nowhere, go_hidden}
use Rattle.browser_commands.proofs.Browsers.{seen}
use Rattle.browser_commands.proofs.browser.Browser.target.Goals as goal

pub returns-in_err-question_changeable : goal.returns-in_err-question_changeable
returns-in_err-question_changeable c =
    let s = c.args.self.now.state in
    let n = question_node c.in_ok-question.question in
    let leads : is_reference n ≡ true = search rules in
    let p = err_from_is_err_and c.from_residual-in_err-question_changeable.result c.from_residual-in_err-question_changeable.ensures.1 in
    let why : unless (fixed (world_of s) n) ≡ Err c.in_err-question_changeable.field-0.0 = sym c.in_err-question_changeable.ensures.denied in
    rw (p.1, p.2) (go_fixed s (question_with (nodes_of s.ifr) c.args.id) n c.in_err-question_changeable.field-0.0 c.in_ok-question.ensures.1 leads why)

pub returns-in_default-form_of : goal.returns-in_default-form_of
returns-in_default-form_of c =
    let s = c.args.self.now.state in
    let n = question_node c.in_ok-question.question in
    let leads : is_reference n ≡ true = search rules in
    let free : unless (fixed (world_of s) n) ≡ Ok tt = sym c.in_ok-question_changeable.ensures.denied in
    let op : bytes_of c.in-Ref.reference.op ≡ n.op = search rules in
    let none : option_and_then (form_with (nodes_of s.ifr)) (ref_target n.op) ≡ None =
    ap (λ (b : List ℕ). option_and_then (form_with (nodes_of s.ifr)) (ref_target b)) (sym op) ∙ ap (option_and_then (form_with (nodes_of s.ifr))) (sym c.target.ensures) ∙ sym c.in_default-form_of.ensures.found in
    go_nowhere s (question_with (nodes_of s.ifr) c.args.id) n c.in_ok-question.ensures.1 leads free none ∙ ap (denied s) (search rules)

pub returns-in_err-opens : goal.returns-in_err-opens
returns-in_err-opens c =
    let s = c.args.self.now.state in
    let n = question_node c.in_ok-question.question in
    let form = form_node c.in-Some.form in
    let leads : is_reference n ≡ true = search rules in
    let free : unless (fixed (world_of s) n) ≡ Ok tt = sym c.in_ok-question_changeable.ensures.denied in
    let op : bytes_of c.in-Ref.reference.op ≡ n.op = search rules in
    let is : option_and_then (form_with (nodes_of s.ifr)) (ref_target n.op) ≡ Some form =
    ap (λ (b : List ℕ). option_and_then (form_with (nodes_of s.ifr)) (ref_target b)) (sym op) ∙ ap (option_and_then (form_with (nodes_of s.ifr))) (sym c.target.ensures) ∙ sym c.in-Some.ensures.found in
    let p = err_from_is_err_and c.from_residual-in_err-opens.result c.from_residual-in_err-opens.ensures.1 in
    let why : unless (hidden (world_of s) form) ≡ Err c.in_err-opens.field-0.0 = rw (c.policy.ensures.bytes, c.policy.ensures.removed, ap (λ (t : State). t.working) (seen c.self.view_is)) at (sym c.in_err-opens.ensures) in
    rw (p.1, p.2) (go_hidden s (question_with (nodes_of s.ifr) c.args.id) n form c.in_err-opens.field-0.0 c.in_ok-question.ensures.1 leads free is why)
