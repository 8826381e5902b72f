use Rattle.std.proofs.Common.{◌≡◌, None, map, drop}
use Rattle.ifr_opcodes.specs.code.Marks.{ancestor_at}
use Rattle.ifr_nodes.proofs.FormLemmas.{innermost}
use Rattle.ifr_nodes.proofs.form_end.form_among.Given as goal

abbrev pub invariant-loop-place : goal.invariant-loop-place
invariant-loop-place l = innermost l.found (map (ancestor_at l.bytes) (drop l.place-index l.places)) ≡ innermost None (map (ancestor_at l.bytes) l.places)
