use Rattle.std.proofs.Common.{◌≡◌, true, false, refl, ap, sym, ◌∙◌}
use Rattle.std.specs.Prelude.{not}
use Rattle.ifr_opcodes.specs.code.Ops.{bytes_of}
use Rattle.ifr_nodes.specs.Structure.{has_wrong_scope, is_operand}
use Rattle.ifr_nodes.specs.Table.{row}
use Rattle.ifr_index.specs.code.Levels.{is_placed, node_with}
use Rattle.ifr_index.proofs.SoundLemmas.{clear_is}
use Rattle.ifr_index.proofs.soundness.is_sound.Goals as goal

pub returns-then-not-is_placed : goal.returns-then-not-is_placed
returns-then-not-is_placed c = λ ns path children same root first.
    let n = node_with c.args.op path children in
    let lost : is_placed n ≡ false = sym (c.is_placed.ensures ns path children same root) ∙ c.if-not-is_placed.true in
    sym (clear_is n ∙ rw lost refl)

pub returns-then-not-has_wrong_scope : goal.returns-then-not-has_wrong_scope
returns-then-not-has_wrong_scope c = λ ns path children same root first.
    let op = c.args.op in
    let n = node_with op path children in
    let held : is_placed n ≡ true = sym (c.is_placed.ensures ns path children same root) ∙ c.if-not-is_placed.false in
    let inside = sym c.is_outside.ensures ∙ c.if-is_outside.false in
    let long = sym c.is_short.ensures ∙ c.if-is_short.false in
    let right : has_wrong_scope (row op.code) (is_operand n) (bytes_of op) ≡ false =
    sym (c.has_wrong_scope.ensures ∙ ap (λ b. has_wrong_scope (row op.code) b (bytes_of op)) (c.is_operator_scope.ensures ns path same)) ∙ c.if-not-has_wrong_scope.true in
    ap not (c.lacks_wanted.ensures children first) ∙ sym (clear_is n ∙ rw (held, inside, long, right) refl)

pub returns-else-not-has_wrong_scope : goal.returns-else-not-has_wrong_scope
returns-else-not-has_wrong_scope c = λ ns path children same root first.
    let op = c.args.op in
    let n = node_with op path children in
    let held : is_placed n ≡ true = sym (c.is_placed.ensures ns path children same root) ∙ c.if-not-is_placed.false in
    let inside = sym c.is_outside.ensures ∙ c.if-is_outside.false in
    let long = sym c.is_short.ensures ∙ c.if-is_short.false in
    let wrong : has_wrong_scope (row op.code) (is_operand n) (bytes_of op) ≡ true =
    sym (c.has_wrong_scope.ensures ∙ ap (λ b. has_wrong_scope (row op.code) b (bytes_of op)) (c.is_operator_scope.ensures ns path same)) ∙ c.if-not-has_wrong_scope.false in
    ap not c.if-not-has_wrong_scope.false ∙ sym (clear_is n ∙ rw (held, inside, long, wrong) refl)
