use Rattle.std.proofs.Common.{ℕ, [], List, ap, ◌∙◌}
use Rattle.std.specs.Prelude.{◌||◌}
use Rattle.std.specs.List.{flat_map}
use Rattle.ifr_opcodes.specs.Rows.{is_among}
use Rattle.ifr_expr.specs.Trees.{post}
use Rattle.ifr_expr.specs.code.Expressions.{tree_of}
use Rattle.ifr_scopes.specs.code.Frames.{ids_by}
use Rattle.ifr_scopes.proofs.FrameLemmas.{ids_of_names}
use Rattle.question_audit.specs.code.Ids.{has_id}
use Rattle.question_audit.proofs.depends_facts.add_own.Goals as goal

pub loop-name-init : goal.loop-name-init
loop-name-init c =
    let this = c.args.this in
    let own = ap (flat_map (ids_by [] this)) c.names-names.ensures ∙ ids_of_names [] this (post (tree_of c.args.expression)) in
    record {
      named = λ id. ap (λ (ids : List ℕ). has_id c.args.ids.now id || is_among id ids) own;
      are = λ are. are;
    }
