use Rattle.std.proofs.Common.{rules, ◌≡◌, false, arith}
use Rattle.browser_rules.specs.Words.{is_among}
use Rattle.ifr_opcodes.specs.code.Ops.{bytes_of}
use Rattle.ifr_opcodes.specs.code.Tables.{without_operands, with_one_operand}
use Rattle.ifr_opcodes.proofs.OperatorLemmas.{takes_other}
use Rattle.ifr_opcodes.proofs.SizeLemmas.{all_there}
use Rattle.ifr_opcodes.proofs.expressions.ExprOp.of.Goals as goal

pub prove-unreachable-requires : goal.prove-unreachable-requires
prove-unreachable-requires c =
    omega (arith, all_there (bytes_of c.args.op) c.args.op.whole.long c.requires.sized, c.if-prove.true, c.len.ensures, c.least_len.ensures)

pub of-requires-in_default : goal.of-requires-in_default
of-requires-in_default c =
    let none : is_among c.args.op.code without_operands ≡ false = search rules in
    let one : is_among c.args.op.code with_one_operand ≡ false = search rules in
    takes_other c.args.op.code c.requires.known none one
