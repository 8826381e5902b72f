use Rattle.std.proofs.Common.{◌∙◌, sym, arith}
use Rattle.hii_languages.proofs.NameLemmas.{decided, passed, text_order-end}
use Rattle.hii_languages.proofs.names.text_order.Goals as goal
use Rattle.hii_languages.proofs.names.text_order.Goals.{then-loop-at-test+else-at-other, else-loop-at-test}

pub loop-at-preserved : goal.loop-at-preserved
loop-at-preserved c = (
  omega (arith, c.loop-at-test.true),
  omega (arith, c.if-at-other.true),
  c.loop-at.invariant.2
      ∙ passed c.args.one.now c.args.other.now c.loop-at.at c.to_ascii_lowercase-byte.result c.to_ascii_lowercase-beside.result c.loop-at-test.true c.if-at-other.true
      c.to_ascii_lowercase-byte.ensures.value c.to_ascii_lowercase-beside.ensures.value c.if-byte-beside.false,
)

pub returns-then-byte-beside : goal.returns-then-byte-beside
returns-then-byte-beside c = c.cmp.ensures ∙ sym (c.loop-at.invariant.2
    ∙ decided c.args.one.now c.args.other.now c.loop-at.at c.to_ascii_lowercase-byte.result c.to_ascii_lowercase-beside.result c.loop-at-test.true c.if-at-other.true
    c.to_ascii_lowercase-byte.ensures.value c.to_ascii_lowercase-beside.ensures.value c.if-byte-beside.true)

pub returns : goal.returns
returns c = c.cmp-2.ensures ∙ sym (c.loop-at.invariant.2
    ∙ text_order-end c.args.one.now c.args.other.now c.loop-at.at c.loop-at.invariant.0 c.loop-at.invariant.1 (λ p q. elim c.loop-at-test.branch [
      | then-loop-at-test+else-at-other w ↦ absurd (omega (arith, w.if-at-other.false, q))
      | else-loop-at-test w ↦ absurd (omega (arith, w.loop-at-test.false, p))
    ]))
