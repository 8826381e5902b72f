use Rattle.std.proofs.Common.{sym, ◌∙◌}
use Rattle.std.proofs.lemmas.Result.{err_from_is_err_and}
use Rattle.ifr_scopes.specs.code.Lists.{statement_node}
use Rattle.ifr_nodes.specs.Nodes.{nodes_of}
use Rattle.guard_policy.specs.Policy.{covered, fixed_itself}
use Rattle.guard_policy.specs.code.Views.{world_by}
use Rattle.guard_policy.proofs.DenialLemmas.{first_allows, first_denies}
use Rattle.guard_policy.proofs.IndexedLemmas.{of_statement}
use Rattle.guard_policy.proofs.policy.Policy.changeable_with.Goals as goal

pub returns-in_err-uncovered_at : goal.returns-in_err-uncovered_at
returns-in_err-uncovered_at g c =
    let w = world_by c.args.self.now (g.V.Verdicts.met c.args.verdicts.now) in
    let n = statement_node c.args.statement in
    let why = sym (c.in_err-uncovered_at.ensures n c.requires (of_statement n c.args.statement.statement) (sym c.place.ensures)) in
    let p = err_from_is_err_and c.from_residual.result c.from_residual.ensures.1 in
    rw (p.1, p.2) (sym (first_denies (covered w n) (fixed_itself (nodes_of c.args.self.now.forms.now) n) c.in_err-uncovered_at.field-0.0 why))

pub returns : goal.returns
returns g c =
    let w = world_by c.args.self.now (g.V.Verdicts.met c.args.verdicts.now) in
    let n = statement_node c.args.statement in
    let free = sym (c.in_ok-uncovered_at.ensures n c.requires (of_statement n c.args.statement.statement) (sym c.place.ensures)) in
    c.fixed_itself.ensures ∙ sym (first_allows (covered w n) (fixed_itself (nodes_of c.args.self.now.forms.now) n) free)
