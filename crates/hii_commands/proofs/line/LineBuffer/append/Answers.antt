use Rattle.std.proofs.Common.{◌≡◌, ◌+◌, ◌-◌, ◌≤◌, ◌<◌, ◌∙◌, length, arith, ap}
use Rattle.hii_commands.specs.code.Held.{Held}
use Rattle.hii_commands.proofs.HeldLemmas.{held_whole, held_front}
use Rattle.hii_commands.proofs.line.LineBuffer.append.Goals as goal

pub returns-then-part-room : goal.returns-then-part-room
returns-then-part-room c = λ line h.
    let is = c.self.view_is ∙ h in
    let size = c.self.inside.bytes.ok.0 in
    let fits : length c.self.inside.bytes.items + length c.args.part.now ≤ 4096 = omega (arith, c.if-part-room.true, c.len-room.ensures, c.self.invariant, size) in
    let items = rw c.unwrap.ensures at c.extend_from_slice.ensures.items in
    rw items (held_whole 4096 line c.args.part.now c.self.inside.bytes.items c.self.inside.more (ap (λ (w : Held). w.front) is) (ap (λ (w : Held). w.more) is) fits)

pub returns-else-part-room : goal.returns-else-part-room
returns-else-part-room c = λ line h.
    let is = c.self.view_is ∙ h in
    let size = c.self.inside.bytes.ok.0 in
    let many : 4096 < length c.self.inside.bytes.items + length c.args.part.now = omega (arith, c.if-part-room.false, c.len-room.ensures, c.self.invariant, size) in
    let room : 4096 - c.len-room.result ≡ 4096 - length c.self.inside.bytes.items = omega (arith, c.len-room.ensures, size) in
    let items = rw c.unwrap-else-part-room.ensures at c.extend_from_slice-else-part-room.ensures.items in
    rw (items, room) (held_front 4096 line c.args.part.now c.self.inside.bytes.items c.self.inside.more (ap (λ (w : Held). w.front) is) (ap (λ (w : Held). w.more) is) many)
