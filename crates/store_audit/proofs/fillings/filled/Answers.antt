use Rattle.std.proofs.Common.{◌≡◌, List, map, length, nat_eq, sym, ap, subst, ◌∙◌, arith}
use Rattle.std.specs.List.{IsDistinct}
use Rattle.ifr_nodes.specs.Nodes.{nodes_of}
use Rattle.hii_varstore.specs.declared.buffer.Buffer.{Buffer}
use Rattle.hii_varstore.specs.Layout.{Shape}
use Rattle.hii_varstore.specs.Image.{image_of, SpellsImage}
use Rattle.hii_varstore.specs.StoreNodes.{guid_of, layout_of}
use Rattle.hii_varstore.specs.Stores.{Store, StoreMap, shape_of, zeros_in, zeros_of}
use Rattle.store_audit.specs.code.Fillings.{filling_buffer, stores_of}
use Rattle.store_audit.proofs.FillingLemmas.{all_filled, all_fit, all_buffers, filled_more, room, filled_laid, bytes_filled, apart_in}
use Rattle.store_audit.proofs.fillings.filled.Goals as goal
use Rattle.store_audit.proofs.fillings.filled.Goals.{In_ok-stores, After-loop-filling}

pub loop-filling-init : goal.loop-filling-init
loop-filling-init c =
    let ns = nodes_of c.args.declared.now in
    c.in_ok-stores.ensures.zeros ∙ ap zeros_of c.layout-layout.ensures
    ∙ ap (λ (bs : List Buffer). record { guid = guid_of ns; stores = map zeros_in bs }) (sym (all_buffers ns c.args.fillings.now c.requires.all))

-- the stores have different ids
apart : (c : In_ok-stores) → IsDistinct nat_eq (map (λ (b : Buffer). b.id) (map filling_buffer c.args.fillings.now))
apart c =
    let ns = nodes_of c.args.declared.now in
    let all : map filling_buffer c.args.fillings.now ≡ c.layout-layout.result.now.buffers = all_buffers ns c.args.fillings.now c.requires.all ∙ sym (ap (λ (s : Shape). s.buffers) c.layout-layout.ensures) in
    apart_in c.layout-layout.result.now.buffers c.args.fillings.now c.in_ok-stores.ensures.apart all

pub fill-requires : goal.fill-requires
fill-requires c =
    let fs = c.args.fillings.now in
    let guid = guid_of (nodes_of c.args.declared.now) in
    let space = room guid fs c.loop-filling.filling-index c.filling-item.result (apart (goal.at.fill-requires c).In_ok-stores) (all_fit fs c.requires.fit) (omega arith) in
    rw c.loop-filling.invariant (rw (← c.filling-item.is) at space)

pub loop-filling-preserved : goal.loop-filling-preserved
loop-filling-preserved c =
    let fs = c.args.fillings.now in
    let guid = guid_of (nodes_of c.args.declared.now) in
    let more = filled_more guid fs c.loop-filling.filling-index c.filling-item.result (apart (goal.at.loop-filling-preserved c).In_ok-stores) (all_fit fs c.requires.fit) (omega arith) in
    c.fill.ensures ∙ rw c.loop-filling.invariant (rw (← c.filling-item.is) at more)

-- the stores as they are returned
made : (c : After-loop-filling) → c.loop-filling.filling-index ≡ length c.args.fillings.now → c.loop-filling.stores ≡ stores_of (guid_of (nodes_of c.args.declared.now)) c.args.fillings.now
made c all =
    let guid = guid_of (nodes_of c.args.declared.now) in
    c.loop-filling.invariant ∙ ap (λ (ss : List Store). record { guid = guid; stores = ss }) (rw all (all_filled c.args.fillings.now))

pub returns-clause-made : goal.returns-clause-made
returns-clause-made c = made c (omega arith)

laid : (c : After-loop-filling) → c.loop-filling.filling-index ≡ length c.args.fillings.now → shape_of c.loop-filling.stores ≡ layout_of (nodes_of c.args.declared.now)
laid c all =
    let ns = nodes_of c.args.declared.now in
    let fs = c.args.fillings.now in
    ap shape_of (made c all) ∙ filled_laid (guid_of ns) fs (all_fit fs c.requires.fit)
    ∙ ap (λ (bs : List Buffer). record { guid = guid_of ns; buffers = bs }) (all_buffers ns fs c.requires.all)

pub returns-clause-laid : goal.returns-clause-laid
returns-clause-laid c = laid c (omega arith)

pub returns-clause-read_back : goal.returns-clause-read_back
returns-clause-read_back c = λ read spelled.
    let all : c.loop-filling.filling-index ≡ length c.args.fillings.now = omega arith in
    let stores = c.loop-filling.stores in
    let shape = layout_of (nodes_of c.args.declared.now) in
    let own = subst (λ (shape : Shape). SpellsImage shape (image_of stores) stores) (laid c all) (c.images_are_read_back.ensures.written stores) in
    let same : read ≡ stores = c.one_map_is_spelled.ensures shape (image_of stores) read stores spelled own in
    ap (λ (m : StoreMap). map (λ (s : Store). s.bytes) m.stores) (same ∙ made c all) ∙ bytes_filled c.args.fillings.now
