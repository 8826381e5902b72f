use Rattle.std.proofs.Common.{◌+◌, ◌∷◌, ◌++◌, [], refl, ap, sym, subst, ◌∙◌, map, take, arith}
use Rattle.std.proofs.lemmas.List.{append-nil}
use Rattle.std.proofs.lemmas.Bool.{eqb-true, eqb-false}
use Rattle.ifr_opcodes.specs.code.Ops.{bytes_of}
use Rattle.ifr_opcodes.specs.code.Marks.{ancestor_at}
use Rattle.ifr_nodes.specs.code.Walking.{nodes_left, IsWalking}
use Rattle.ifr_opcodes.proofs.OpcodeLemmas.{has_scope_spelled}
use Rattle.ifr_nodes.proofs.WalkLemmas.{past_end, at_out, at_scoped, at_plain, at_last, node_here, path_kept}
use Rattle.ifr_nodes.proofs.walk.Walk.step.Goals as goal

pub invariant_of-self : goal.invariant_of-self
invariant_of-self c =
    let s = c.loop-op.self in
    let op = c.in-Some.op in
    let h = at_plain s.bytes.now s.at (s.at + c.len.result) s.around.items (bytes_of op) _ s.walking op.whole c.in-Some.ensures.1 (ap (λ n. s.at + n) (sym c.len.ensures)) c.if-op-ne-END.true (has_scope_spelled op.code op.scope op.body.now op.whole ∙ c.if-not-op.true) in
    record { walking = h.0 }

pub returns-then-not-op-clause-some : goal.returns-then-not-op-clause-some
returns-then-not-op-clause-some c =
    let s = c.loop-op.self in
    let op = c.in-Some.op in
    let to = s.at + c.len.result in
    let h = at_plain s.bytes.now s.at to s.around.items (bytes_of op) _ s.walking op.whole c.in-Some.ensures.1 (ap (λ n. s.at + n) (sym c.len.ensures)) c.if-op-ne-END.true (has_scope_spelled op.code op.scope op.body.now op.whole ∙ c.if-not-op.true) in
    record {
      node = node_here s.bytes.now s.at to s.around.items (bytes_of op);
      next = sym c.loop-op.invariant.left_stays ∙ h.1;
      shown = ap (λ p. record { place = p; op = bytes_of op }) c.in-Some.ensures.0;
      path = path_kept s.bytes.now s.around.items [] c.len-depth.result c.len-depth.ensures.value ∙ ap (λ l. map (ancestor_at s.bytes.now) (take c.len-depth.result l)) (append-nil s.around.items);
      children = refl;
      within = omega (arith, c.len-depth.ensures.value);
      package_stays = c.loop-op.invariant.package_stays;
    }

pub push-requires : goal.push-requires
push-requires c =
    let s = c.loop-op.self in
    let op = c.in-Some.op in
    let h = at_scoped s.bytes.now s.at (s.at + c.len.result) s.around.items (bytes_of op) _ s.walking op.whole c.in-Some.ensures.1 (ap (λ n. s.at + n) (sym c.len.ensures)) c.if-op-ne-END.true (has_scope_spelled op.code op.scope op.body.now op.whole ∙ c.if-not-op.false) in
    (omega arith, h.1)

pub invariant_of-self-then-op-ne-END : goal.invariant_of-self-then-op-ne-END
invariant_of-self-then-op-ne-END c =
    let s = c.loop-op.self in
    let op = c.in-Some.op in
    let to = s.at + c.len.result in
    let h = at_scoped s.bytes.now s.at to s.around.items (bytes_of op) _ s.walking op.whole c.in-Some.ensures.1 (ap (λ n. s.at + n) (sym c.len.ensures)) c.if-op-ne-END.true (has_scope_spelled op.code op.scope op.body.now op.whole ∙ c.if-not-op.false) in
    let pushed = c.push.ensures.items ∙ ap (λ p. s.around.items ++ p ∷ []) c.in-Some.ensures.0 in
    record { walking = subst (λ l. IsWalking s.bytes.now to l) (sym pushed) h.0 }

pub returns-then-op-ne-END-clause-some : goal.returns-then-op-ne-END-clause-some
returns-then-op-ne-END-clause-some c =
    let s = c.loop-op.self in
    let op = c.in-Some.op in
    let to = s.at + c.len.result in
    let h = at_scoped s.bytes.now s.at to s.around.items (bytes_of op) _ s.walking op.whole c.in-Some.ensures.1 (ap (λ n. s.at + n) (sym c.len.ensures)) c.if-op-ne-END.true (has_scope_spelled op.code op.scope op.body.now op.whole ∙ c.if-not-op.false) in
    let pushed = c.push.ensures.items ∙ ap (λ p. s.around.items ++ p ∷ []) c.in-Some.ensures.0 in
    record {
      node = node_here s.bytes.now s.at to s.around.items (bytes_of op);
      next = sym c.loop-op.invariant.left_stays ∙ h.2 ∙ ap (λ l. node_here s.bytes.now s.at to s.around.items (bytes_of op) ∷ nodes_left s.bytes.now to l) (sym pushed);
      shown = ap (λ p. record { place = p; op = bytes_of op }) c.in-Some.ensures.0;
      path = path_kept s.bytes.now s.around.items (s.at ∷ []) c.len-depth.result c.len-depth.ensures.value ∙ ap (λ l. map (ancestor_at s.bytes.now) (take c.len-depth.result l)) (sym pushed);
      children = refl;
      within = omega (arith, c.len-depth.ensures.value, c.push.ensures.len);
      package_stays = c.loop-op.invariant.package_stays;
    }

pub returns-then-is_empty-clause-none : goal.returns-then-is_empty-clause-none
returns-then-is_empty-clause-none c =
    let s = c.loop-op.self in
    let h = at_out s.bytes.now s.at s.around.items (bytes_of c.in-Some.op) _ s.walking c.in-Some.op.whole c.in-Some.ensures.1 c.if-op-ne-END.false (eqb-true _ _ (sym c.is_empty.ensures ∙ c.if-is_empty.true)) in
    (sym c.loop-op.invariant.left_stays ∙ h, h)

pub invariant_of-self-in-Some : goal.invariant_of-self-in-Some
invariant_of-self-in-Some c =
    let s = c.loop-op.self in
    let h = past_end s.bytes.now s.at (s.at + c.len-in-Some.result) s.around.items (bytes_of c.in-Some.op) _ s.walking c.in-Some.op.whole c.in-Some.ensures.1 (ap (λ n. s.at + n) (sym c.len-in-Some.ensures)) c.if-op-ne-END.false (eqb-false _ _ (sym c.is_empty.ensures ∙ c.if-is_empty.false)) in
    record { walking = rw c.pop.ensures.rest h.0 }

pub loop-op-preserved : goal.loop-op-preserved
loop-op-preserved c =
    let s = c.loop-op.self in
    let to = s.at + c.len-in-Some.result in
    let h = past_end s.bytes.now s.at to s.around.items (bytes_of c.in-Some.op) _ s.walking c.in-Some.op.whole c.in-Some.ensures.1 (ap (λ n. s.at + n) (sym c.len-in-Some.ensures)) c.if-op-ne-END.false (eqb-false _ _ (sym c.is_empty.ensures ∙ c.if-is_empty.false)) in
    record {
      left_stays = ap (nodes_left s.bytes.now to) c.pop.ensures.rest ∙ sym h.1 ∙ c.loop-op.invariant.left_stays;
      package_stays = c.loop-op.invariant.package_stays;
    }

pub returns-clause-none : goal.returns-clause-none
returns-clause-none c =
    let s = c.loop-op.self in
    let h = at_last s.bytes.now s.at s.around.items s.walking c.in_default.ensures in
    (sym c.loop-op.invariant.left_stays ∙ h, h)
