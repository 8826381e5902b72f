use Rattle.std.proofs.Common.{◌-◌, ℕ, List, length, option_map, take, sym, ap, ◌∙◌}
use Rattle.std.specs.List.{slice_get}
use Rattle.ifr_opcodes.specs.Forest.{Mark, Ancestor}
use Rattle.ifr_nodes.specs.Structure.{innermost}
use Rattle.ifr_nodes.proofs.InnermostLemmas.{last_place}
use Rattle.ifr_nodes.proofs.scoped_nodes.ScopedNodes.parent.Goals as goal

pub returns : goal.returns
returns c =
    let its = take c.args.met.now.depth c.args.self.now.walk.around.items in
    c.copied.ensures ∙ c.last.ensures.value ∙ ap (λ (l : List ℕ). slice_get l (length l - 1)) c.around.ensures.around
    ∙ sym (ap (λ (path : List Ancestor). option_map (λ (m : Mark). m.place) (innermost path)) c.requires.path ∙ last_place c.args.self.now.walk.bytes.now its)
