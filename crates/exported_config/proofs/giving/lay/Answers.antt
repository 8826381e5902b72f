use Rattle.std.proofs.Common.{◌≡◌, ◌+◌, ◌-◌, ap, ◌∙◌, ◌++◌, take, drop, arith}
use Rattle.std.specs.Str.Parse.{digits_value}
use Rattle.byteorder.specs.Endian.{little_bytes}
use Rattle.exported_config.proofs.NumberLemmas.{bytes_of_number}
use Rattle.exported_config.proofs.GivingLemmas.{put_mid_is}
use Rattle.exported_config.proofs.giving.lay.Goals as goal

pub returns : goal.returns
returns c =
    let block = c.args.block.now in
    let bytes = c.args.bytes.now in
    let given : c.value_into.new.out ≡ little_bytes block.width (digits_value 16 block.digits.now) =
    bytes_of_number _ block.width _ c.are_bytes.ensures c.value_into.ensures.sized c.value_into.ensures.number in
    let width : block.offset + block.width - block.offset ≡ block.width = omega arith in
    rw width (put_mid_is block.offset block.width bytes c.value_into.new.out (omega (arith, c.requires.fits)) c.value_into.ensures.sized)
    ∙ ap (λ l. take block.offset bytes ++ (l ++ drop (block.offset + block.width) bytes)) given
