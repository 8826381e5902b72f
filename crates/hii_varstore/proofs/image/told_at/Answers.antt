use Rattle.std.proofs.Common.{refl, arith, inl, inr}
use Rattle.std.proofs.lemmas.List.{take_rest, length-drop}
use Rattle.hii_varstore.proofs.ImageLemmas.{same_bytes, other_bytes, reads_told}
use Rattle.hii_varstore.proofs.image.told_at.Goals as goal

pub returns-then-ne-clause-wrong : goal.returns-then-ne-clause-wrong
returns-then-ne-clause-wrong c =
    let image = c.args.image.now in
    let place = c.args.place in
    let other = rw (take_rest image place) at c.if-ne.ensures in
    rw c.at-then-ne.ensures (λ later. inl (inr (refl, omega (arith, length-drop place image), other_bytes _ _ other), refl))

pub returns-clause-read : goal.returns-clause-read
returns-clause-read c =
    let image = c.args.image.now in
    let place = c.args.place in
    let same = rw (take_rest image place) at c.if-ne.ensures in
    reads_told image c.args.wanted.now place c.args.other (omega (arith, length-drop place image)) (same_bytes _ _ same)
