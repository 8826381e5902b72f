-- What gives a default, and what it gives.
use Rattle.std.proofs.Common.{◌≡◌, ℕ, ◌+◌, Bool, true, false, Some, List, [], ◌∷◌, ◌++◌, length, refl, sym, ap, ◌∙◌}
use Rattle.std.specs.Prelude.{if◌then◌else◌, option_map, filter}
use Rattle.ifr_opcodes.specs.Forest.{Node, as_ancestor, nodes_at, below}
use Rattle.ifr_opcodes.specs.Opcode.{has_scope}
use Rattle.ifr_opcodes.specs.Reading.{tree_of}
use Rattle.ifr_opcodes.specs.code.Ops.{bytes_of}
use Rattle.ifr_opcodes.specs.declared.op.Op.{Op}
use Rattle.ifr_opcodes.proofs.OpcodeLemmas.{has_scope_spelled}
use Rattle.ifr_nodes.specs.Nodes.{is_question, of_question}
use Rattle.ifr_nodes.proofs.NodeFactLemmas.{is_node}
use Rattle.ifr_nodes.proofs.PlaceLemmas.{node_stands}
use Rattle.ifr_scopes.specs.code.Lists.{statement_node}
use Rattle.ifr_scopes.specs.declared.statement.Statement.{Statement}
use Rattle.hii_values.specs.Inputs.{raw}
use Rattle.ifr_defaults.specs.Defaults.{Sources, default_of, given_or_flagged}
use Rattle.ifr_defaults.specs.code.DefaultSources.{IsSource, gives}
use Rattle.ifr_defaults.specs.declared.defaults.DefaultSource.{DefaultSource}
use Rattle.ifr_defaults.specs.declared.defaults.DefaultSource.TheVariants.{Opcode, Flags}

-- ---- a statement without a scope

empty : (b : Bool) (which : Node → Bool) (ns : List Node) → ns ≡ [] → (if b then filter which ns else []) ≡ []
empty true which ns none = ap (filter which) none
empty false which ns none = refl

-- Nothing stands in it.
pub holds_nothing : (statement : Statement) (op : Op) (which : Node → Bool) → bytes_of op ≡ (statement_node statement).op → op.scope ≡ false → of_question which (statement_node statement) ≡ []
holds_nothing statement op which same bare =
    let view = statement.node in
    let n = statement_node statement in
    let no_scope : has_scope n.op ≡ false = ap has_scope (sym same) ∙ has_scope_spelled op.code op.scope op.body.now op.whole ∙ bare in
    let stood = node_stands view.ifr.now (tree_of view.ifr.now) n view.checked.spelled (is_node view.ifr.now view.op.place _ view.checked view.stands) in
    empty (is_question n) which (below n) (ap (nodes_at (n.place + length n.op) (n.path ++ as_ancestor n ∷ [])) (stood.2.0.leaf no_scope))

-- ---- what a source gives is the default

pub gives_default : (s : Sources) (q : Node) (class : ℕ) (source : DefaultSource) → IsSource q class (Some source) → default_of s q class ≡ gives s q source
gives_default s q class (Opcode default) is = ap (given_or_flagged s q class) is
gives_default s q class (Flags bits) is = ap (given_or_flagged s q class) is.0 ∙ ap (option_map raw) is.1
