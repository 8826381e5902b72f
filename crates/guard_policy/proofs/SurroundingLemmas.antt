-- What stands around one node, at hand for another.
use Rattle.std.proofs.Common.{◌≡◌, ℕ, false, eqb, Option, Some, None, List, refl, sym, ap, ◌∙◌, inl, inr}
use Rattle.std.specs.Prelude.{not, option_map}
use Rattle.std.specs.Option.{option_eq}
use Rattle.std.proofs.lemmas.Bool.{cases_Bool, eqb-true, true≢false}
use Rattle.std.specs.List.{find}
use Rattle.ifr_opcodes.specs.Forest.{Node}
use Rattle.ifr_nodes.specs.Guards.{guards}
use Rattle.ifr_nodes.specs.Locks.{first_lock}
use Rattle.ifr_nodes.specs.Nodes.{nodes_of}
use Rattle.ifr_scopes.specs.code.AroundViews.{around_guards, around_innermost, around_lock, around_package}
use Rattle.ifr_index.specs.code.Tables.{guards_from}
use Rattle.ifr_scopes.specs.declared.around.Around.{Around}
use Rattle.hii_values.specs.declared.denial.DenialKind.TheVariants.{GrayOutIf}
use Rattle.guard_policy.specs.Policy.{or_else, covered_by, covered, denied_by, fixed, fixed_itself, grays_out, hidden_among}
use Rattle.guard_policy.specs.World.{World}
use Rattle.guard_policy.specs.code.Effects.{AreEffects}
use Rattle.guard_policy.specs.code.Surroundings.{IsAroundNode}
use Rattle.guard_policy.specs.declared.denial.Denial.{Denial}
use Rattle.guard_policy.specs.declared.effects.Effects.{Effects}

-- two numbers, if there are some, that are not told apart
pub no_other : (a b : Option ℕ) → not (option_eq eqb a b) ≡ false → b ≡ a
no_other None None e = refl
no_other None (Some m) e = absurd cc
no_other (Some n) None e = absurd cc
no_other (Some n) (Some m) e = elim (cases_Bool (eqb n m)) [
  | inl is ↦ ap (λ (k : ℕ). Some k) (sym (eqb-true n m is))
  | inr other ↦ absurd (true≢false (sym (ap not other) ∙ e))
]

-- the guards of which the innermost has the same number
pub same_guards : (w : World) (around : Around) (guard : Option ℕ) → w.nodes ≡ nodes_of (around_package around) → guard ≡ around_innermost around → guards_from w.nodes guard ≡ around_guards around
same_guards w around guard nodes same = ap (λ (ns : List Node). guards_from ns guard) nodes ∙ ap (guards_from (nodes_of (around_package around))) same

-- what they deny
pub hides_around : (w : World) (around : Around) (it : Effects) → w.nodes ≡ nodes_of (around_package around) → it.guard ≡ around_innermost around → AreEffects w it → it.hides ≡ hidden_among w (around_guards around)
hides_around w around it nodes same is = is.hides ∙ ap (hidden_among w) (same_guards w around it.guard nodes same)

pub grays_out_around : (w : World) (around : Around) (it : Effects) → w.nodes ≡ nodes_of (around_package around) → it.guard ≡ around_innermost around → AreEffects w it → it.grays_out ≡ option_map (denied_by GrayOutIf) (find (grays_out w) (around_guards around))
grays_out_around w around it nodes same is = is.grays_out ∙ ap (λ (gs : List Node). option_map (denied_by GrayOutIf) (find (grays_out w) gs)) (same_guards w around it.guard nodes same)

pub effects_around : (w : World) (around : Around) (it : Effects) → w.nodes ≡ nodes_of (around_package around) → it.guard ≡ around_innermost around → it.hides ≡ hidden_among w (around_guards around) → it.grays_out ≡ option_map (denied_by GrayOutIf) (find (grays_out w) (around_guards around)) → AreEffects w it
effects_around w around it nodes same hides grays = record {
  hides = hides ∙ sym (ap (hidden_among w) (same_guards w around it.guard nodes same));
  grays_out = grays ∙ sym (ap (λ (gs : List Node). option_map (denied_by GrayOutIf) (find (grays_out w) gs)) (same_guards w around it.guard nodes same));
}

first_none : (a b : Option Denial) → or_else a b ≡ None → a ≡ None
first_none None b e = refl
first_none (Some d) b e = absurd cc

second_none : (a b : Option Denial) → or_else a b ≡ None → b ≡ None
second_none None b e = e
second_none (Some d) b e = absurd cc

-- what is around a node covers it
pub covers : (bytes : List ℕ) (w : World) (n : Node) (around : Around) → w.nodes ≡ nodes_of bytes → IsAroundNode bytes n around → covered_by w (around_guards around) (around_lock around) ≡ covered w n
covers bytes w n around nodes its =
    ap (λ (l : List Node). covered_by w l (around_lock around)) its.guards
    ∙ ap (covered_by w (guards n)) (its.lock ∙ ap (λ (ns : List Node). first_lock ns n) (sym nodes))

-- where the node may be changed
pub are_free : (bytes : List ℕ) (w : World) (n : Node) (around : Around) → w.nodes ≡ nodes_of bytes → IsAroundNode bytes n around → fixed w n ≡ None → AreEffects w (record { guard = around_innermost around; hides = None; grays_out = None })
are_free bytes w n around nodes its none =
    let gs = around_guards around in
    let open_all : covered_by w gs (around_lock around) ≡ None = covers bytes w n around nodes its ∙ first_none (covered w n) (fixed_itself w.nodes n) none in
    let seen = first_none (hidden_among w gs) _ open_all in
    let free = first_none (option_map (denied_by GrayOutIf) (find (grays_out w) gs)) _ (second_none (hidden_among w gs) _ open_all) in
    effects_around w around (record { guard = around_innermost around; hides = None; grays_out = None }) (nodes ∙ ap nodes_of (sym its.of_package)) refl (sym seen) (sym free)
