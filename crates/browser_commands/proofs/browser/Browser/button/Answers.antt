use Rattle.std.proofs.Common.{◌≡◌, ◌==◌, true, rules, sym}
use Rattle.std.proofs.lemmas.Result.{err_from_is_err_and}
use Rattle.ifr_opcodes.specs.Opcode.{number}
use Rattle.ifr_opcodes.specs.declared.codes.TheConstants.{RESET_BUTTON}
use Rattle.ifr_scopes.specs.code.Lists.{statement_node}
use Rattle.browser_commands.proofs.FollowLemmas.{press_fixed}
use Rattle.browser_commands.proofs.browser.Browser.button.Goals as goal

pub returns-in_err-changeable : goal.returns-in_err-changeable
returns-in_err-changeable c =
    let n = statement_node c.in-Some.statement in
    let button : (number n.op == RESET_BUTTON) ≡ true = search rules in
    let p = err_from_is_err_and c.from_residual.result c.from_residual.ensures.1 in
    rw (p.1, p.2) (press_fixed c.args.self.now.state c.args.row n c.in_err-changeable.field-0.0 (sym c.in-Some.ensures.found) button (sym c.in_err-changeable.ensures.denied))
