use Rattle.std.proofs.Common.{◌≡◌, ◌++◌, ◌∷◌, length, map, take}
use Rattle.std.specs.List.{flat_map}
use Rattle.std.specs.Int.{to_le_bytes, w16}
use Rattle.hii_bytes.specs.declared.cause.Cause.TheVariants.{StoreCount}
use Rattle.hii_varstore.specs.Stores.{buffer_of}
use Rattle.hii_varstore.specs.Image.{store_image}
use Rattle.hii_varstore.specs.Faults.{Told, store_parts}
use Rattle.hii_varstore.specs.code.Reading.{Reads}
use Rattle.hii_varstore.proofs.image.read_stores.Given as goal

-- the count and the stores so far are read
abbrev pub invariant-loop-buffer : goal.invariant-loop-buffer
invariant-loop-buffer l =
    let done = take l.buffer-index l.buffers in
    let count = to_le_bytes w16 (length l.buffers) in
    record {
      read : Reads (Told count StoreCount ∷ flat_map store_parts done) (count ++ flat_map store_image l.stores.items) l.image l.place l.end;
      laid : map buffer_of l.stores.items ≡ done;
    }
