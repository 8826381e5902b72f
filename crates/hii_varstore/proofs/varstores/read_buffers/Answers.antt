use Rattle.std.proofs.Common.{◌≡◌, ◌++◌, ◌∷◌, [], List, Some, None, true, false, sym, ap, subst, ◌∙◌, arith, inr}
use Rattle.std.proofs.lemmas.Grind.{common_steps}
use Rattle.ifr_opcodes.specs.Forest.{Node}
use Rattle.ifr_scopes.specs.code.Lists.{store_node, stores_left}
use Rattle.ifr_scopes.specs.Stores.{store_id}
use Rattle.hii_varstore.specs.StoreNodes.{declared_buffer, is_taken}
use Rattle.hii_varstore.proofs.StoreNodeLemmas.{HasMet, met_none, met_more, met_no_buffer, met_all, met_again, refused_among, sound_among}
use Rattle.hii_varstore.proofs.varstores.read_buffers.Goals as goal

pub loop-store-init : goal.loop-store-init
loop-store-init c = record {
  can = tt;
  ends = tt;
  met = rw c.into_iter-store-iterator.ensures.into_iter_gives (met_none (stores_left c.args.stores) _ _ c.in_ok-ids.ensures c.new-buffers.ensures.items);
}

pub returns-then-meets_again-clause-refused : goal.returns-then-meets_again-clause-refused
returns-then-meets_again-clause-refused c =
    let n = store_node c.in-Some.store in
    let met = subst (λ (ns : List Node). HasMet (stores_left c.args.stores) ns c.loop-store.ids c.loop-store.buffers.items) c.in-Some.ensures.steps c.loop-store.invariant.met in
    let taken : is_taken (store_id n.op) met.before ≡ true = ap (λ id. is_taken id met.before) (sym c.id.ensures) ∙ sym (c.meets_again.ensures.told met.before met.known) ∙ c.if-meets_again.true in
    let first = refused_among (stores_left c.args.stores) _ c.requires (met_again _ _ n _ _ met taken) in
    rw (c.at.ensures, c.from.ensures, c.place.ensures) (inr first)

pub loop-store-preserved-in-Continue-branch-2 : goal.loop-store-preserved-in-Continue-branch-2
loop-store-preserved-in-Continue-branch-2 c =
    let n = store_node c.in-Some.store in
    let b = c.in-Some-read_buffer.buffer in
    let met = subst (λ (ns : List Node). HasMet (stores_left c.args.stores) ns c.loop-store.ids c.loop-store.buffers.items) c.in-Some.ensures.steps c.loop-store.invariant.met in
    let free : is_taken (store_id n.op) met.before ≡ false = ap (λ id. is_taken id met.before) (sym c.id.ensures) ∙ sym (c.meets_again.ensures.told met.before met.known) ∙ c.if-meets_again.false in
    let new : c.meets_again.result ≡ false = c.if-meets_again.false in
    let known = c.meets_again.ensures.met new met.before n (sym c.id.ensures) met.known in
    let is : declared_buffer n ≡ Some b = sym c.read_buffer.ensures ∙ c.in-Some-read_buffer.is in
    let items : c.push.new.self.items ≡ c.loop-store.buffers.items ++ b ∷ [] = grind (arith, common_steps) in
    record { can = tt; ends = tt; met = rw items (met_more _ _ n _ _ _ b met is (omega arith, omega arith) free known) }

pub loop-store-preserved : goal.loop-store-preserved
loop-store-preserved c =
    let n = store_node c.in-Some.store in
    let met = subst (λ (ns : List Node). HasMet (stores_left c.args.stores) ns c.loop-store.ids c.loop-store.buffers.items) c.in-Some.ensures.steps c.loop-store.invariant.met in
    let free : is_taken (store_id n.op) met.before ≡ false = ap (λ id. is_taken id met.before) (sym c.id.ensures) ∙ sym (c.meets_again.ensures.told met.before met.known) ∙ c.if-meets_again.false in
    let new : c.meets_again.result ≡ false = c.if-meets_again.false in
    let known = c.meets_again.ensures.met new met.before n (sym c.id.ensures) met.known in
    let is : declared_buffer n ≡ None = sym c.read_buffer.ensures ∙ c.in_default.is in
    record { can = tt; ends = tt; met = met_no_buffer _ _ n _ _ _ met is free known }

pub returns-clause-sound : goal.returns-clause-sound
returns-clause-sound c = sound_among _ (met_all _ _ _ _ c.loop-store.invariant.met c.in-None.ensures.steps.0).1
