use Rattle.std.proofs.Common.{◌≡◌, ℕ, ◌+◌, ◌-◌, ◌*◌, length}
use Rattle.std.specs.Slice.Iter.{chunks_rest, chunks_size}
use Rattle.hii_bytes.specs.Watching.{pen_of}
use Rattle.hii_bytes.specs.code.Writing.{Stands}
use Rattle.ifr_nodes.specs.Nodes.{nodes_of}
use Rattle.image_audit.specs.Lines.{bytes_told}
use Rattle.image_audit.proofs.lines.put_bytes.Given as goal

-- the lines of the pieces before the rest are written
abbrev pub invariant-loop-piece : goal.invariant-loop-piece
invariant-loop-piece g l = record {
  can : (goal.iterator-loop-piece g).can_next l.piece-iterator;
  ends : (goal.iterator-loop-piece g).is_finite l.piece-iterator;
  size : chunks_size l.piece-iterator ≡ 8;
  count : ℕ;
  at : l.at ≡ l.offset + 8 * count;
  left : length (chunks_rest l.piece-iterator) ≡ length l.bytes - 8 * count;
  text : Stands (pen_of g.W.Write.contents l.fn.out) (pen_of g.W.Write.contents l.out) (bytes_told l.telling (nodes_of l.names) l.id l.store l.offset l.bytes)
      (bytes_told l.telling (nodes_of l.names) l.id l.store l.at (chunks_rest l.piece-iterator));
}
