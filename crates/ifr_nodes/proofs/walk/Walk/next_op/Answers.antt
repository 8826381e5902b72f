use Rattle.std.proofs.Common.{◌≡◌, ◌++◌, List, ℕ, ap, drop, length, subst, sym}
use Rattle.ifr_opcodes.specs.Forest.{Mark}
use Rattle.ifr_nodes.proofs.WalkLemmas.{opcode_here}
use Rattle.ifr_nodes.proofs.walk.Walk.next_op.Goals as goal

pub op_there-requires : goal.op_there-requires
op_there-requires c =
    let it = c.args.self.now in
    (opcode_here it.bytes.now it.at it.around.items it.walking c.if-self.true).0

pub returns-then-self : goal.returns-then-self
returns-then-self c =
    let it = c.args.self.now in
    let here = opcode_here it.bytes.now it.at it.around.items it.walking c.if-self.true in
    let rest = drop it.at it.bytes.now in
    (ap (λ (m : Mark). m.place) c.op_there.ensures, subst (λ (op : List ℕ). rest ≡ op ++ drop (length op) rest) (sym (ap (λ (m : Mark). m.op) c.op_there.ensures)) here.1)
