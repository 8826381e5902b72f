use Rattle.std.proofs.Common.{◌≡◌, ◌+◌, ◌-◌, ◌++◌, length, take, List, ℕ, ap, ◌∙◌, arith}
use Rattle.std.proofs.lemmas.List.{length-take-le}
use Rattle.std.proofs.lemmas.Slice.{take-put_mid}
use Rattle.hii_values.proofs.content.write_front.Goals as goal

pub returns : goal.returns
returns c =
    let at = c.args.at in
    let width = c.args.width in
    let put = c.copy_from_slice.ensures.after in
    let sized : length c.copy_from_slice.new.self ≡ width = ap (length {A = ℕ}) put ∙ length-take-le width c.args.bytes.now c.requires.front in
    take-put_mid at (at + width - at) c.args.into.now c.copy_from_slice.new.self (at + width) (omega arith) (omega arith)
    ∙ ap (λ (l : List ℕ). take at c.args.into.now ++ l) put
