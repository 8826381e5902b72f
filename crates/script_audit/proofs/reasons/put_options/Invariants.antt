use Rattle.std.proofs.Common.{length}
use Rattle.std.specs.List.{flat_map}
use Rattle.hii_bytes.specs.Watching.{pen_of}
use Rattle.hii_bytes.specs.code.Writing.{Stands}
use Rattle.ifr_scopes.specs.code.Lists.{statement_node}
use Rattle.ifr_scopes.specs.code.Parts.{options_left}
use Rattle.script_audit.specs.Because.{option_word, option_words}
use Rattle.script_audit.proofs.reasons.put_options.Given as goal

-- the values of the options before those that are left were written
abbrev pub invariant-loop-option : goal.invariant-loop-option
invariant-loop-option g l =
    Stands (pen_of g.W.Write.contents l.fn.out) (pen_of g.W.Write.contents l.out) (option_words (statement_node l.statement)) (flat_map option_word (options_left l.options))

abbrev pub decreases-loop-option : goal.decreases-loop-option
decreases-loop-option g l = length (options_left l.options)
