use Rattle.std.proofs.Common.{◌≡◌, ◌∙◌, ap, option_map, subst, sym}
use Rattle.ifr_nodes.specs.Nodes.{nodes_of}
use Rattle.hii_varstore.specs.Image.{image_of, SpellsImage}
use Rattle.hii_varstore.specs.Layout.{Shape}
use Rattle.hii_varstore.specs.StoreNodes.{layout_of}
use Rattle.hii_varstore.specs.Stores.{StoreMap, shape_of}
use Rattle.store_audit.specs.Defaulted.{left_by}
use Rattle.store_audit.specs.code.Defaulted.{defaults_view}
use Rattle.store_audit.specs.code.Fillings.{stores_of}
use Rattle.store_audit.proofs.fillings.put_image.Goals as goal

pub returns-clause-laid_back : goal.returns-clause-laid_back
returns-clause-laid_back g c = λ none read spelled.
    let ifr = c.args.declared.now in
    let defaults = option_map defaults_view c.args.defaults in
    let shape = layout_of (nodes_of ifr) in
    let stores = c.put_lines.new.stores in
    let left : stores ≡ left_by ifr defaults (stores_of shape.guid c.args.fillings.now) = c.put_lines.ensures.laid ∙ ap (left_by ifr defaults) c.in_ok-stores.ensures.made in
    let laid : shape_of stores ≡ shape = c.put_lines.ensures.shape ∙ c.in_ok-stores.ensures.laid in
    let own = subst (λ (shape : Shape). SpellsImage shape (image_of stores) stores) laid (c.images_are_read_back.ensures.written stores) in
    c.one_map_is_spelled.ensures shape (image_of stores) read stores (subst (λ (m : StoreMap). SpellsImage shape (image_of m) read) (sym left) spelled) own ∙ left
