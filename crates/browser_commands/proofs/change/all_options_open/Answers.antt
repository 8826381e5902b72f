use Rattle.std.proofs.Common.{◌≡◌, ◌&&◌, ℕ, Bool, true, false, Option, Some, None, List, ◌∷◌, refl, sym, ap, ◌∙◌}
use Rattle.std.specs.Prelude.{◌==◌, is_none}
use Rattle.std.specs.List.{list_any}
use Rattle.ifr_opcodes.specs.Fields.{option_value}
use Rattle.ifr_opcodes.specs.Forest.{Node}
use Rattle.ifr_nodes.specs.Nodes.{options}
use Rattle.hii_values.specs.code.ItemsLeft.{items_left}
use Rattle.hii_values.specs.code.MetValues.{is_sought}
use Rattle.hii_questions.specs.code.Views.{question_node}
use Rattle.guard_policy.specs.Policy.{closed, first_closed, or_else}
use Rattle.guard_policy.specs.World.{World}
use Rattle.guard_policy.specs.code.OpenValues.{opens}
use Rattle.guard_policy.specs.code.Views.{world}
use Rattle.guard_policy.specs.declared.denial.Denial.{Denial}
use Rattle.guard_policy.proofs.ClosedLemmas.{opens_closed}
use Rattle.browser_commands.proofs.change.all_options_open.Goals as goal

none_is : (o : Option Denial) → is_none o ≡ true → o ≡ None
none_is None e = refl
none_is (Some denial) e = absurd cc

second_of : (a b : Bool) → a && b ≡ true → b ≡ true
second_of true b e = e
second_of false b e = absurd cc

-- A value of which an option may be chosen is not denied.
open_value : (w : World) (q : Node) (sought : Bool) (value : ℕ) → sought && list_any (opens w value) (options q) ≡ true → closed w q value ≡ None
open_value w q sought value e =
    none_is (closed w q value) (second_of (list_any (λ o. option_value o.op == value) (options q)) (is_none (closed w q value))
    (sym (opens_closed w value (options q)) ∙ second_of sought (list_any (opens w value) (options q)) e))

open_first : (w : World) (q : Node) (left : List ℕ) (value : ℕ) (rest : List ℕ) → left ≡ value ∷ rest → closed w q value ≡ None → first_closed w q rest ≡ first_closed w q left
open_first w q left value rest is free = sym (ap (first_closed w q) is ∙ ap (λ d. or_else d (first_closed w q rest)) free)

pub loop-value-preserved : goal.loop-value-preserved
loop-value-preserved c =
    let w = world c.args.policy c.args.working.now.stores in
    let q = question_node c.args.question in
    let value = c.in-Some.value in
    let sought = is_sought c.open_values-met.result value in
    let free = open_value w q sought value (sym (c.open_values-met.ensures.met value) ∙ sym c.if-not-has_met.ensures) in
    open_first w q (items_left c.loop-value.values) value (items_left c.next.new.self) c.in-Some.ensures.steps free ∙ c.loop-value.invariant
