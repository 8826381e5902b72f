use Rattle.std.proofs.Common.{◌≡◌, rules, ℕ, List, [], ◌∷◌, ◌++◌, map, take, refl, sym, ap, ◌∙◌}
use Rattle.ifr_opcodes.specs.Forest.{Ancestor}
use Rattle.ifr_opcodes.specs.code.Marks.{ancestor_at}
use Rattle.ifr_nodes.specs.code.Views.{node_of}
use Rattle.ifr_nodes.proofs.scoped_nodes.ScopedNodes.chain.Goals as goal

places_again : (bytes places : List ℕ) → map (λ (a : Ancestor). a.place) (map (ancestor_at bytes) places) ≡ places
places_again bytes [] = refl
places_again bytes (p ∷ places) = ap (λ (l : List ℕ). p ∷ l) (places_again bytes places)

pub returns : goal.returns
returns c =
    let n = node_of c.args.met.now.node in
    let its = take c.args.met.now.depth c.args.self.now.walk.around.items in
    let around : c.try_extend_from_slice.new.self.items ≡ c.around.result.now = search rules in
    let path : map (λ (a : Ancestor). a.place) n.path ≡ its = ap (map (λ (a : Ancestor). a.place)) c.requires.path ∙ places_again c.args.self.now.walk.bytes.now its in
    c.push.ensures.items ∙ ap (λ (l : List ℕ). l ++ c.op.result.place ∷ []) (around ∙ c.around.ensures.around ∙ sym path)
    ∙ ap (λ (p : ℕ). map (λ (a : Ancestor). a.place) n.path ++ p ∷ []) c.op.ensures.place
