-- Forms that are found by their ids, at their places.
use Rattle.std.proofs.Common.{◌≡◌, ℕ, Bool, true, false, cond, Option, Some, None, List, [], ◌∷◌, refl, sym, ap, subst, ◌∙◌, arith}
use Rattle.std.specs.Prelude.{Contains, option_map, is_some, ◌==◌}
use Rattle.std.specs.List.{find}
use Rattle.std.proofs.lemmas.Bool.{and_parts}
use Rattle.ifr_opcodes.specs.Fields.{form_id}
use Rattle.ifr_opcodes.specs.Forest.{Node, SpellsForest, node_at}
use Rattle.ifr_opcodes.specs.Reading.{tree_of}
use Rattle.ifr_nodes.specs.Nodes.{nodes_of, is_form}
use Rattle.ifr_nodes.specs.ReferenceFaults.{has_form_id, form_with}
use Rattle.ifr_nodes.specs.code.Checked.{IsNodeOf, has_form}
use Rattle.ifr_nodes.specs.code.FormIds.{form_place_with}
use Rattle.ifr_nodes.proofs.PlaceLemmas.{is_found}
use Rattle.ifr_nodes.proofs.ViewLemmas.{further, node_in_place}

-- what is found is among those that are searched, and passes the test
pub found : {X : Type 0} (p : X → Bool) (xs : List X) (x : X) → find p xs ≡ Some x → Contains xs x × (p x ≡ true)
found p [] x e = absurd cc
found p (y ∷ xs) x e = go (p y) refl (found p xs x) e
  where
    go : (b : Bool) → p y ≡ b → (find p xs ≡ Some x → Contains xs x × (p x ≡ true)) → cond b (Some y) (find p xs) ≡ Some x → Contains (y ∷ xs) x × (p x ≡ true)
    go true h later e = let same : y ≡ x = cc in ((0, omega arith, same), ap p (sym same) ∙ h)
    go false h later e = let there = later e in (further y xs x there.0, there.1)

-- The form of an id stands at a place.
pub record IsFormWith (bytes : List ℕ) (id place : ℕ) : Type 0 where
  pub node : Node
  pub is : form_with (nodes_of bytes) id ≡ Some node
  pub there : IsNodeOf bytes node
  pub placed : node.place ≡ place
  pub stands : has_form bytes place ≡ true

form_found : (bytes : List ℕ) (id place : ℕ) (o : Option Node) → form_with (nodes_of bytes) id ≡ o → SpellsForest bytes (tree_of bytes) → Some place ≡ option_map (λ (n : Node). n.place) o → IsFormWith bytes id place
form_found bytes id place None is s e = absurd cc
form_found bytes id place (Some n) is s e =
    let same : place ≡ n.place = cc in
    let there = found (has_form_id id) (nodes_of bytes) n is in
    let form = (and_parts (is_form n) (form_id n.op == id) there.1).0 in
    let node = is_found bytes (tree_of bytes) n s there.0 in
    record {
      node = n;
      is = is;
      there = node;
      placed = sym same;
      stands = rw (same, ap is_some node, node_in_place bytes n s there.0, form) refl;
    }

pub form_some : (bytes : List ℕ) (id place : ℕ) → SpellsForest bytes (tree_of bytes) → Some place ≡ form_place_with (nodes_of bytes) id → IsFormWith bytes id place
form_some bytes id place s e = form_found bytes id place (form_with (nodes_of bytes) id) refl s e

-- the form that stands there is it
pub same_form : (bytes : List ℕ) (id place : ℕ) (f : Node) → IsFormWith bytes id place → f.place ≡ place → IsNodeOf bytes f → Some f ≡ form_with (nodes_of bytes) id
same_form bytes id place f its placed node =
    let here : node_at (nodes_of bytes) place ≡ Some f = subst (λ (p : ℕ). node_at (nodes_of bytes) p ≡ Some f) placed node in
    let there : node_at (nodes_of bytes) place ≡ Some its.node = subst (λ (p : ℕ). node_at (nodes_of bytes) p ≡ Some its.node) its.placed its.there in
    sym here ∙ there ∙ sym its.is
