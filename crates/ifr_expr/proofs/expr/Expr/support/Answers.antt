use Rattle.std.proofs.Common.{ap, ◌∙◌}
use Rattle.std.specs.List.{flat_map}
use Rattle.ifr_expr.specs.code.Expressions.{tree_of}
use Rattle.ifr_expr.specs.code.Supports.{id_of}
use Rattle.ifr_expr.specs.Trees.{post}
use Rattle.ifr_expr.proofs.NameLemmas.{ids_among}
use Rattle.ifr_expr.proofs.expr.Expr.support.Goals as goal

pub returns : goal.returns
returns c = ap (flat_map id_of) c.names.ensures ∙ ids_among (post (tree_of c.args.self))
