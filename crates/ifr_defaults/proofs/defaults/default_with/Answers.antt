use Rattle.std.proofs.Common.{List, sym, ap}
use Rattle.std.specs.Prelude.{◌==◌}
use Rattle.std.specs.List.{find}
use Rattle.ifr_opcodes.specs.Fields.{default_id}
use Rattle.ifr_opcodes.specs.Forest.{Node}
use Rattle.ifr_nodes.specs.Nodes.{is_default}
use Rattle.ifr_defaults.proofs.SourceLemmas.{holds_nothing}
use Rattle.ifr_defaults.proofs.defaults.default_with.Goals as goal

-- nothing stands in a statement that opens no scope
pub returns-then-not-op : goal.returns-then-not-op
returns-then-not-op c =
    sym (ap (λ (ns : List Node). find (λ d. default_id d.op == c.args.class) ns) (holds_nothing c.args.statement c.op.result.op is_default c.op.ensures.bytes c.if-not-op.true))
