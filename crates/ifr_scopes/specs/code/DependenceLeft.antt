-- The questions on which an expression depends that are left.
use Rattle.std.specs.Prelude.{ℕ, List, reverse}
use Rattle.std.specs.List.{flat_map}
use Rattle.ifr_scopes.specs.code.Frames.{frame_ids}
use Rattle.ifr_nodes.specs.code.Rules.{rules_of}
use Rattle.ifr_scopes.specs.declared.dependence.Dependence.{Dependence}

abbrev pub dependence_left : Dependence → List ℕ
dependence_left it = flat_map (frame_ids (rules_of it.forms.now)) (reverse it.frames.items)
