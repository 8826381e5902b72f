use Rattle.std.proofs.Common.{◌≡◌, ℕ, true, false, All, Some, None, List, [], ◌∷◌, ◌++◌, map, sym, ap, subst, ◌∙◌}
use Rattle.std.specs.Prelude.{not, option_map}
use Rattle.std.specs.List.{last_or}
use Rattle.ifr_opcodes.specs.Opcode.{IsWhole, number}
use Rattle.ifr_opcodes.specs.Forest.{Ancestor}
use Rattle.ifr_opcodes.specs.code.Marks.{mark_at, ancestor_at}
use Rattle.ifr_nodes.specs.Guards.{is_guard}
use Rattle.ifr_nodes.specs.Table.{others_among}
use Rattle.ifr_nodes.proofs.InnermostLemmas.{last_or-push}
use Rattle.ifr_nodes.proofs.OuterLemmas.{number_there, all_outer, at_last, last_passes, last_fails}
use Rattle.ifr_nodes.proofs.structure.innermost_other.Goals as goal

pub returns-then-not-is_guard : goal.returns-then-not-is_guard
returns-then-not-is_guard c =
    let bytes = c.args.bytes.now in
    let place = c.in-Some.place.now in
    let outer = c.in-Some.outer.now in
    let e = c.in-Some.ensures.cases.0 in
    let whole = at_last (λ p. IsWhole (mark_at bytes p).op) outer place (subst (All (λ p. IsWhole (mark_at bytes p).op)) e c.loop-place.invariant.whole) in
    let code = number_there bytes place whole in
    let plain : not (is_guard (number (ancestor_at bytes place).op)) ≡ true = ap (λ (k : ℕ). not (is_guard k)) code ∙ ap not (sym c.is_guard.ensures ∙ c.if-not-is_guard.true) in
    let others : others_among (map (ancestor_at bytes) c.args.places.now) ≡ others_among (map (ancestor_at bytes) outer) ++ ancestor_at bytes place ∷ [] =
    sym c.loop-place.invariant.same ∙ ap (λ (l : List ℕ). others_among (map (ancestor_at bytes) l)) e ∙ last_passes (λ a. not (is_guard (number a.op))) bytes outer place plain in
    sym (ap (λ (l : List Ancestor). option_map (λ (a : Ancestor). number a.op) (last_or None l)) others ∙ ap (option_map (λ (a : Ancestor). number a.op)) (last_or-push None (others_among (map (ancestor_at bytes) outer)) (ancestor_at bytes place))
    ∙ ap Some code)

pub loop-place-preserved : goal.loop-place-preserved
loop-place-preserved c =
    let bytes = c.args.bytes.now in
    let place = c.in-Some.place.now in
    let outer = c.in-Some.outer.now in
    let e = c.in-Some.ensures.cases.0 in
    let all = subst (All (λ p. IsWhole (mark_at bytes p).op)) e c.loop-place.invariant.whole in
    let code = number_there bytes place (at_last (λ p. IsWhole (mark_at bytes p).op) outer place all) in
    let guard : not (is_guard (number (ancestor_at bytes place).op)) ≡ false = ap (λ (k : ℕ). not (is_guard k)) code ∙ ap not (sym c.is_guard.ensures ∙ c.if-not-is_guard.false) in
    record {
      whole = all_outer (λ p. IsWhole (mark_at bytes p).op) outer place all;
      same = sym (last_fails (λ a. not (is_guard (number a.op))) bytes outer place guard) ∙ ap (λ (l : List ℕ). others_among (map (ancestor_at bytes) l)) (sym e) ∙ c.loop-place.invariant.same;
    }
