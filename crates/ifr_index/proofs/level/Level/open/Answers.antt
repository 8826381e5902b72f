use Rattle.std.proofs.Common.{◌≡◌, ◌+◌, refl, ap, sym, ◌∙◌, length}
use Rattle.ifr_opcodes.specs.Forest.{Ancestor}
use Rattle.ifr_opcodes.specs.code.Ops.{bytes_of}
use Rattle.ifr_index.specs.declared.level.Level.{Level}
use Rattle.ifr_index.proofs.LevelLemmas.{level_push}
use Rattle.ifr_index.proofs.level.Level.open.Goals as goal

pub returns : goal.returns
returns c = λ ns path children same so_many.
    let op = c.args.op in
    let a : Ancestor = record { place = op.place; op = bytes_of op; children = children } in
    let inside : op.place + c.len.result ≡ op.place + length (bytes_of op) = ap (λ n. op.place + n) c.len.ensures in
    let class = c.class_in.ensures path a (ap (λ (l : Level). l.class) same) refl in
    let guard = c.guard_in.ensures ns path a (ap (λ (l : Level). l.guard) same) refl so_many in
    let this = c.this_in.ensures path children (ap (λ (l : Level). l.this) same) in
    (λ i. record { place = op.place; inside = inside i; code = op.code; value = c.wants_value.ensures i; class = class i; guard = guard i; this = this i }) ∙ sym (level_push ns path a)
