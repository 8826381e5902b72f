use Rattle.std.proofs.Common.{◌≡◌, ◌<◌, arith, length}
use Rattle.std.proofs.lemmas.Bool.{and_parts}
use Rattle.hii_bytes.specs.Numbers.{number_in}
use Rattle.config_text.proofs.ValueLemmas.{Partly-start, Partly-more, Partly-end}
use Rattle.config_text.proofs.block.Block.value_into.Goals as goal

pub loop-byte-init : goal.loop-byte-init
loop-byte-init c = Partly-start c.args.self.now.digits.now c.args.out.now (and_parts _ _ c.args.self.now.value).0

pub loop-byte-preserved : goal.loop-byte-preserved
loop-byte-preserved c =
    let less : c.loop-byte.byte-index < length c.loop-byte.out = omega (arith, c.loop-byte.auto.out, c.loop-byte-test.true) in
    Partly-more c.args.self.now.digits.now c.loop-byte.out c.loop-byte.byte-index c.loop-byte.rest.now c.split_byte-low.result.1.now c.split_byte-low.result.0
    c.loop-byte.invariant less c.split_byte-low.ensures.hex c.split_byte-low.ensures.value

pub returns-clause-number : goal.returns-clause-number
unfolding number_in
returns-clause-number c =
    let all : c.loop-byte.byte-index ≡ c.args.self.now.width = omega (arith, c.requires, c.loop-byte-test.false, c.loop-byte.auto.byte-index-end) in
    Partly-end c.args.self.now.width c.args.self.now.digits.now c.loop-byte.out c.loop-byte.rest.now c.loop-byte.byte-index c.args.self.now.value all c.loop-byte.invariant
