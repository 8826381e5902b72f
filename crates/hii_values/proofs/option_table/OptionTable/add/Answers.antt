use Rattle.std.proofs.Common.{◌≡◌, ◌+◌, ◌++◌, ◌∷◌, [], ◌-◌, List, ℕ, length, take, drop, map, sym, ap, subst, ◌∙◌, arith, length-append}
use Rattle.std.proofs.lemmas.List.Sorted.{length_permutation}
use borrow.Rule.Slice.PartMut.{put_mid}
use Rattle.ifr_opcodes.specs.Forest.{Node}
use Rattle.ifr_nodes.specs.Nodes.{options}
use Rattle.ifr_nodes.specs.code.Checked.{IsNodeOf, node_in}
use Rattle.ifr_scopes.specs.code.Lists.{statement_node}
use Rattle.hii_values.specs.code.OptionPlaces.{IsByValue}
use Rattle.hii_values.specs.code.OptionTables.{HoldsOptions, KeepsOptions}
use Rattle.hii_values.specs.declared.option_table.OptionBlock.{OptionBlock}
use Rattle.hii_values.proofs.OptionTableLemmas.{by_value, node_of_place, one_block_more, tail_is, tail_replaced}
use Rattle.hii_values.proofs.option_table.OptionTable.add.Goals as goal

pub invariant_of-result-2 : goal.invariant_of-result-2
invariant_of-result-2 c =
    let s = c.self.inside in
    let bytes = s.ifr.now in
    let q = statement_node c.args.question in
    let old = s.places.items in
    let own = map (λ (o : Node). o.place) (options q) in
    let new = c.order.new.places in
    let xs = c.deref_mut.result.now in
    let first = c.len-first.result in
    let begins : first ≡ length old = omega (arith, c.len-first.ensures, s.places.ok) in
    let is : xs ≡ old ++ own = c.deref_mut.ensures.value ∙ c.in_ok-add_places.ensures in
    let behind : take (length xs - first) (drop first xs) ≡ own = tail_is xs old own first is begins in
    let by : IsByValue bytes own new = subst (λ (l : List ℕ). IsByValue bytes l new) behind c.in_ok-order.ensures in
    let same : length new ≡ length own = length_permutation own new by.shuffled in
    let node : IsNodeOf bytes q = subst (λ (l : List ℕ). IsNodeOf l q) (sym (c.self.view_is ∙ c.requires.same)) c.requires.node in
    let keeps : KeepsOptions bytes (node_in bytes q.place) new = subst (λ (n : Node). KeepsOptions bytes n new) (sym (node_of_place bytes q node)) (by_value bytes c.self.invariant.accepted q new node by) in
    let all = c.add_places.new.places in
    let ends : c.len-end.result ≡ length old + length new = omega (arith, c.len-end.ensures, all.ok, ap length c.in_ok-add_places.ensures, length-append old own, same) in
    let counted : all.len ≡ length xs = omega (arith, all.ok, ap length c.deref_mut.ensures.value) in
    let b : OptionBlock = record { question = c.place.result; first = first; end = c.len-end.result } in
    let holds = one_block_more bytes s.blocks.items old new b c.self.invariant (subst (λ (p : ℕ). KeepsOptions bytes (node_in bytes p) new) (sym c.place.ensures) keeps) begins ends in
    let part = put_mid first (length xs - first) xs new in
    let more = drop (length part) all.items in
    let replaced : take all.len (part ++ more) ≡ old ++ new = tail_replaced xs old own new more first all.len is begins same counted in
    subst (λ (bs : List OptionBlock). HoldsOptions bytes bs (take all.len (part ++ more))) (sym c.in_ok-push.ensures.items) (subst (HoldsOptions bytes (s.blocks.items ++ b ∷ [])) (sym replaced) holds)
