-- The form set of a page.
use Rattle.std.proofs.Common.{◌≡◌, ◌∙◌, ℕ, List, ◌∷◌, ap, sym}
use Rattle.ifr_opcodes.specs.Forest.{Node}
use Rattle.ifr_nodes.specs.Nodes.{nodes_of}
use Rattle.report_audit.specs.Heads.{form_set_op}

-- the first node of a package is its form set
pub form_set_found : (forms bytes op : List ℕ) (form_set : Node) (rest : List Node) → forms ≡ bytes → nodes_of forms ≡ form_set ∷ rest → op ≡ form_set.op → op ≡ form_set_op (nodes_of bytes)
form_set_found forms bytes op form_set rest same first is = is ∙ ap form_set_op (sym first) ∙ ap (λ (b : List ℕ). form_set_op (nodes_of b)) same
