use Rattle.std.proofs.Common.{◌≡◌, map, take}
use Rattle.hii_varstore.specs.Stores.{zeros_in}
use Rattle.hii_varstore.proofs.stores.zeros.Given as goal

-- the stores so far hold zeros
abbrev pub invariant-loop-buffer : goal.invariant-loop-buffer
invariant-loop-buffer l = l.stores.items ≡ map zeros_in (take l.buffer-index l.buffers)
