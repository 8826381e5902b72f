use Rattle.std.proofs.Common.{map, sym, ap, ◌∙◌}
use Rattle.std.specs.Prelude.{option_map}
use Rattle.ifr_opcodes.specs.code.Marks.{ancestor_at}
use Rattle.ifr_opcodes.specs.code.Ops.{op_of}
use Rattle.ifr_nodes.proofs.ClassLemmas.{class_nothing, class_innermost}
use Rattle.ifr_nodes.proofs.structure.class_around.Goals as goal

pub returns-in_default : goal.returns-in_default
returns-in_default c = class_nothing (map (ancestor_at c.args.bytes.now) c.args.places.now) (ap (option_map op_of) (sym c.in_default.is) ∙ c.requires.parent)

pub returns-then-not-is_guard : goal.returns-then-not-is_guard
returns-then-not-is_guard c =
    c.class_of.ensures ∙ class_innermost (map (ancestor_at c.args.bytes.now) c.args.places.now) (op_of c.in-Some.parent) (ap (option_map op_of) (sym c.in-Some.is) ∙ c.requires.parent) (sym c.is_guard.ensures ∙ c.if-not-is_guard.true)
