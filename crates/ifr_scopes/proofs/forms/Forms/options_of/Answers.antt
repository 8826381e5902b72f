use Rattle.std.proofs.Common.{◌≡◌, ℕ, List, sym, subst}
use Rattle.ifr_nodes.specs.code.Checked.{IsNodeOf}
use Rattle.ifr_scopes.specs.code.Lists.{statement_node}
use Rattle.ifr_index.proofs.OptionsOfLemmas.{kept_behind, entries_kept, fewer_kept, options_kept}
use Rattle.ifr_scopes.proofs.forms.Forms.options_of.Goals as goal

pub position_of-requires : goal.position_of-requires
position_of-requires c = fewer_kept c.args.self.now (statement_node c.args.statement) _ c.entries_behind-kept.ensures

pub invariant_of-result : goal.invariant_of-result
invariant_of-result c =
    let m = statement_node c.args.statement in
    let bytes = c.self.inside.ifr.now in
    let checked = c.self.invariant.accepted.checked in
    let behind = subst (λ (b : List ℕ). c.entries_behind-kept.result.now ≡ kept_behind b m) (sym c.self.view_is) c.entries_behind-kept.ensures in
    record { checked = checked; entries = entries_kept bytes m _ checked behind }

pub returns : goal.returns
returns c =
    let m = statement_node c.args.statement in
    let bytes = c.self.inside.ifr.now in
    let node = subst (λ (b : List ℕ). IsNodeOf b m) (sym c.self.view_is) c.requires.node in
    let behind = subst (λ (b : List ℕ). c.entries_behind-kept.result.now ≡ kept_behind b m) (sym c.self.view_is) c.entries_behind-kept.ensures in
    options_kept bytes m c.entries_behind-kept.result.now c.self.invariant.accepted.checked node c.args.statement.statement behind
