use Rattle.std.proofs.Common.{◌+◌, ◌<◌, ◌^◌, length, slice_range, arith}
use Rattle.std.proofs.lemmas.List.{length-drop, length-take}
use Rattle.ifr_expr.proofs.CheckLemmas.{checked, means_node, done_where_sound}
use Rattle.ifr_expr.proofs.expr.Expr.over.Goals as goal

pub invariant_of-result : goal.invariant_of-result
invariant_of-result c =
    let bytes = slice_range c.args.ifr.now c.args.from c.args.to in
    let size : c.args.from + length bytes < 2 ^ 32 = simp (length-take, length-drop) (omega arith) in
    record { checked = checked c.args.from bytes size c.requires.node (done_where_sound c.args.from bytes c.requires.node c.requires.sound) }

pub returns-clause-read : goal.returns-clause-read
returns-clause-read c =
    let bytes = slice_range c.args.ifr.now c.args.from c.args.to in
    means_node c.args.from bytes (done_where_sound c.args.from bytes c.requires.node c.requires.sound)
