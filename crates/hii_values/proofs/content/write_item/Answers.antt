use Rattle.std.proofs.Common.{◌≡◌, ◌+◌, ◌<◌, ◌≤◌, ◌++◌, [], ◌∷◌, length, take, get_or, set, List, ℕ, ap, ◌∙◌, arith}
use Rattle.std.proofs.lemmas.List.{take_more_set}
use Rattle.byteorder.proofs.Bytes.{take-bytes_low_first}
use Rattle.byteorder.specs.Endian.{little_bytes}
use Rattle.hii_values.proofs.content.write_item.Goals as goal

-- the lowest byte at an offset
one : (at item : ℕ) (old eight : List ℕ) → eight ≡ little_bytes 8 item → at < length old → take (at + 1) (set old at (get_or eight 0 0)) ≡ take at old ++ little_bytes 1 item
one at item old eight is inside =
    take_more_set old at (get_or eight 0 0) inside ∙ ap (λ (l : List ℕ). take at old ++ get_or l 0 0 ∷ []) is

-- so many of the lowest bytes at an offset
front : (at width item : ℕ) (old new eight : List ℕ) → width ≤ 8 → eight ≡ little_bytes 8 item → take (at + width) new ≡ take at old ++ take width eight
    → take (at + width) new ≡ take at old ++ little_bytes width item
front at width item old new eight wide is put =
    put ∙ ap (λ (l : List ℕ). take at old ++ l) (ap (λ (l : List ℕ). take width l) is ∙ take-bytes_low_first 0 8 width item wide)

pub returns-in-1 : goal.returns-in-1
returns-in-1 c =
    rw c.in-1.is (one c.args.at c.args.item c.args.into.now c.write_u64.new.buf c.write_u64.ensures (omega (arith, c.requires.within, c.in-1.is)))

pub returns-in-2 : goal.returns-in-2
returns-in-2 c =
    rw c.in-2.is (front c.args.at 2 c.args.item c.args.into.now c.write_front.new.into c.write_u64.new.buf (omega arith) c.write_u64.ensures c.write_front.ensures)

pub returns-in-4 : goal.returns-in-4
returns-in-4 c =
    rw c.in-4.is (front c.args.at 4 c.args.item c.args.into.now c.write_front-in-4.new.into c.write_u64.new.buf (omega arith) c.write_u64.ensures c.write_front-in-4.ensures)

pub returns-in_default : goal.returns-in_default
returns-in_default c =
    front c.args.at c.args.width c.args.item c.args.into.now c.write_front-in_default.new.into c.write_u64.new.buf c.requires.wide c.write_u64.ensures c.write_front-in_default.ensures
