use Rattle.std.proofs.Common.{◌∙◌, ◌+◌, arith, length, length-append, ap, rules}
use Rattle.std.specs.Slice.Iter.{chunks_rest}
use Rattle.hii_bytes.proofs.WritingLemmas.{Stands-start, past_piece}
use Rattle.ifr_nodes.specs.Nodes.{nodes_of}
use Rattle.image_audit.specs.Lines.{bytes_told, piece_told}
use Rattle.image_audit.proofs.PieceLemmas.{one_piece}
use Rattle.image_audit.proofs.lines.put_bytes.Goals as goal

pub loop-piece-init : goal.loop-piece-init
loop-piece-init g c = record {
  can = search rules;
  ends = search rules;
  size = search rules;
  count = 0;
  at = search rules;
  left = search rules;
  text = rw (c.from-at.ensures, c.into_iter-piece-iterator.ensures.into_iter_gives, c.chunks-piece-items.ensures.rest) (Stands-start _ _);
}

pub loop-piece-preserved : goal.loop-piece-preserved
loop-piece-preserved g c =
    let inv = c.loop-piece.invariant in
    let steps = c.in-Some.ensures.steps in
    let ns = nodes_of c.args.names.now in
    let chunk = c.in-Some.piece.now in
    let left = chunks_rest c.loop-piece.piece-iterator in
    let after = chunks_rest c.next.new.self in
    let size = rw inv.size at steps.1.1 in
    let sum = ap length steps.1.0 ∙ length-append chunk after in
    record {
      can = search rules;
      ends = tt;
      size = steps.0 ∙ inv.size;
      count = inv.count + 1;
      at = omega (arith, inv.at);
      left = omega (arith, inv.left, size, sum);
      text = past_piece _ _ _ _ _ (piece_told c.args.telling ns c.args.id c.args.store c.loop-piece.at chunk) (bytes_told c.args.telling ns c.args.id c.args.store (c.loop-piece.at + 8) after)
          (one_piece c.args.telling ns c.args.id c.args.store c.loop-piece.at left chunk after steps.1.0 size steps.1.2) inv.text c.put_piece.ensures;
    }
