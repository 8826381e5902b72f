use Rattle.std.proofs.Common.{◌≡◌, ℕ, List, [], ◌∷◌, refl, ap, subst, ◌∙◌}
use Rattle.std.specs.List.{flat_map}
use Rattle.hii_bytes.specs.Watching.{pen_of, Writes}
use Rattle.hii_bytes.proofs.WritingLemmas.{Stands-start, Stands-all, past_piece}
use Rattle.browser_rules.specs.Strings.{shown}
use Rattle.hii_languages.specs.code.Views.{choice_of}
use Rattle.guard_policy.specs.code.Views.{world}
use Rattle.guard_policy.specs.code.WarningsLeft.{warnings_among}
use Rattle.kept_conditions.specs.Kept.{KeptMap}
use Rattle.session_steps.specs.Texts.{warning_text, warning_line}
use Rattle.browser_commands.proofs.texts.put_each_warning.Goals.{In-Some}
use Rattle.browser_commands.proofs.texts.put_each_warning.Given.{Over}
use Rattle.browser_commands.proofs.texts.put_each_warning.Goals as goal

pub loop-warning-init : goal.loop-warning-init
loop-warning-init g c =
    let line = warning_line (shown c.args.languages.now (choice_of c.args.language)) in
    let w = world c.args.policy c.args.stores.now.stores in
    record {
      text = Stands-start (pen_of g.W.Write.contents c.args.out.now) (flat_map line (warnings_among w c.args.conditions));
      same = refl;
    }

-- the next warning, over the stores that were given
steps : (g : Over) (c : In-Some g) → let w = world c.args.policy c.args.stores.now.stores in warnings_among w c.loop-warning.conditions ≡ c.in-Some.warning ∷ warnings_among w c.next_warning.new.conditions
steps g c = subst (λ (m : KeptMap). warnings_among (world c.args.policy m.stores) c.loop-warning.conditions ≡ c.in-Some.warning ∷ warnings_among (world c.args.policy m.stores) c.next_warning.new.conditions) c.loop-warning.invariant.same c.in-Some.ensures.next

pub loop-warning-preserved : goal.loop-warning-preserved
loop-warning-preserved g c =
    let line = warning_line (shown c.args.languages.now (choice_of c.args.language)) in
    let w = world c.args.policy c.args.stores.now.stores in
    let said = c.chars.ensures ∙ c.text-message.ensures.characters in
    let wrote = subst (λ (t : List ℕ). Writes (pen_of g.W.Write.contents c.loop-warning.out) (pen_of g.W.Write.contents c.put_warning.new.out) (warning_text t c.in-Some.warning)) said c.put_warning.ensures in
    let next = steps g (goal.at.loop-warning-preserved g c).In-Some in
    record {
      text = past_piece _ _ _ _ _ (line c.in-Some.warning) (flat_map line (warnings_among w c.next_warning.new.conditions)) (ap (flat_map line) next) c.loop-warning.invariant.text wrote;
      same = c.next_warning.ensures.same ∙ c.loop-warning.invariant.same;
    }

pub returns-clause-text : goal.returns-clause-text
returns-clause-text g c =
    let line = warning_line (shown c.args.languages.now (choice_of c.args.language)) in
    let none : warnings_among (world c.args.policy c.args.stores.now.stores) c.loop-warning.conditions ≡ [] =
    subst (λ (m : KeptMap). warnings_among (world c.args.policy m.stores) c.loop-warning.conditions ≡ []) c.loop-warning.invariant.same c.in_default.ensures.next.0 in
    Stands-all _ _ _ _ c.loop-warning.invariant.text (ap (flat_map line) none)
