-- What the iterator over the NO_SUBMIT_IFs of all questions has before it.
use Rattle.std.specs.Prelude.{Bool, ◌==◌, List, filter, map}
use Rattle.ifr_opcodes.specs.declared.codes.TheConstants.{NO_SUBMIT_IF}
use Rattle.ifr_opcodes.specs.Forest.{Node}
use Rattle.ifr_nodes.specs.code.Checked.{node_in}
use Rattle.ifr_scopes.specs.code.Parts.{condition_node}
use Rattle.ifr_index.specs.declared.index.ConditionEntry.{ConditionEntry}
use Rattle.ifr_scopes.specs.declared.no_submits.NoSubmit.{NoSubmit}
use Rattle.ifr_scopes.specs.declared.no_submits.NoSubmits.{NoSubmits}

abbrev pub no_submit_node : NoSubmit → Node
no_submit_node no_submit = condition_node no_submit.condition

abbrev pub denies : ConditionEntry → Bool
denies kept = kept.code == NO_SUBMIT_IF

abbrev pub no_submits_left : NoSubmits → List Node
no_submits_left it = map (λ kept. node_in it.ifr.now kept.place) (filter denies it.kept.now)
