use Rattle.std.proofs.Common.{List, map, filter, sym, ap, subst, ◌∙◌}
use Rattle.std.specs.List.{flat_map}
use Rattle.hii_bytes.specs.Watching.{pen_of, Writes}
use Rattle.hii_bytes.proofs.WritingLemmas.{writes_nil}
use Rattle.browser_rules.specs.Strings.{shown}
use Rattle.ifr_opcodes.specs.Forest.{Node}
use Rattle.ifr_nodes.specs.Nodes.{is_warning, warnings}
use Rattle.hii_languages.specs.code.Views.{choice_of}
use Rattle.guard_policy.specs.Warned.{warning_of}
use Rattle.guard_policy.specs.World.{is_met}
use Rattle.guard_policy.specs.code.Views.{world}
use Rattle.session_steps.specs.Texts.{warning_line}
use Rattle.browser_commands.proofs.texts.put_warnings.Goals as goal

pub returns-then-opens_scope-clause-text : goal.returns-then-opens_scope-clause-text
returns-then-opens_scope-clause-text g c =
    let line = warning_line (shown c.args.languages.now (choice_of c.args.language)) in
    let w = world c.args.policy c.args.stores.now.stores in
    let text = λ (left : List Node). Writes (pen_of g.W.Write.contents c.args.out.now) (pen_of g.W.Write.contents c.put_each_warning.new.out) (flat_map line (map warning_of (filter (is_met w) left))) in
    subst text c.warning_conditions-conditions.ensures c.put_each_warning.ensures.text

pub returns-else-opens_scope-clause-text : goal.returns-else-opens_scope-clause-text
returns-else-opens_scope-clause-text g c =
    let line = warning_line (shown c.args.languages.now (choice_of c.args.language)) in
    let w = world c.args.policy c.args.stores.now.stores in
    let pen = pen_of g.W.Write.contents c.args.out.now in
    let text = λ (left : List Node). Writes pen pen (flat_map line (map warning_of (filter (is_met w) left))) in
    subst text (sym (c.opens_scope.ensures.none c.if-opens_scope.false is_warning) ∙ ap warnings c.statement.ensures) (writes_nil pen)
