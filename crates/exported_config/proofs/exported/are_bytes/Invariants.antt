use Rattle.std.proofs.Common.{◌≡◌, drop}
use Rattle.std.specs.Str.{bytes_eq}
use Rattle.exported_config.proofs.exported.are_bytes.Given as goal

-- the numbers that are left are the bytes that are left where all are
abbrev pub invariant-loop-place : goal.invariant-loop-place
invariant-loop-place l = bytes_eq (drop l.place l.numbers) (drop l.place l.bytes) ≡ bytes_eq l.numbers l.bytes
