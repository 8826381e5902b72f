use Rattle.std.proofs.Common.{◌≡◌, Some, sym, arith}
use Rattle.std.proofs.lemmas.Grind.{common_steps}
use Rattle.hii_bytes.specs.Digits.{number_below}
use Rattle.hii_commands.proofs.WordLemmas.{number_below-power}
use Rattle.hii_commands.proofs.command.row_of.Goals as goal

pub returns : goal.returns
returns c =
    let found : number_below 18446744073709551616 10 9 c.args.text.now ≡ Some c.in_ok-number.number = sym c.in_ok-number.ensures in
    let few = number_below-power 18446744073709551616 9 c.args.text.now c.in_ok-number.number found in
    grind (arith, common_steps, few.0, few.1)
