use Rattle.std.proofs.Common.{ℕ, Some, List, [], ◌∷◌, map, refl, sym, ap, ◌∙◌}
use Rattle.std.specs.Prelude.{reverse}
use Rattle.std.proofs.lemmas.List.{reverse-append}
use Rattle.ifr_opcodes.specs.Forest.{Node}
use Rattle.ifr_nodes.specs.Nodes.{nodes_of}
use Rattle.ifr_index.specs.code.Tables.{guard_of_number, guards_before}
use Rattle.ifr_index.proofs.NumberLemmas.{leads_on, last_number}
use Rattle.ifr_scopes.proofs.guards_at.GuardsAt.step.Goals as goal

pub kept-guard-requires-clause-kept : goal.kept-guard-requires-clause-kept
kept-guard-requires-clause-kept c =
    let it = c.args.self.now in
    let k = c.in_ok-number.number in
    (leads_on it.ifr.now it.guards.now (Some k) k _ it.checked.spelled it.table refl (last_number (nodes_of it.ifr.now) it.numbers.items c.pop.new.self.items k c.in_ok-number.ensures.items it.numbered)).kept

pub numbered-requires : goal.numbered-requires
numbered-requires c =
    let it = c.args.self.now in
    let k = c.in_ok-number.number in
    let on = leads_on it.ifr.now it.guards.now (Some k) k _ it.checked.spelled it.table refl (last_number (nodes_of it.ifr.now) it.numbers.items c.pop.new.self.items k c.in_ok-number.ensures.items it.numbered) in
    on.before ∙ ap (guards_before (nodes_of it.ifr.now)) (sym c.kept-guard.ensures.place) ∙ ap (λ (b : List ℕ). guards_before (nodes_of b) c.kept-guard.result.place) (sym c.kept-guard.ensures.of_package)

pub returns-clause-steps : goal.returns-clause-steps
returns-clause-steps c =
    let it = c.args.self.now in
    let ns = nodes_of it.ifr.now in
    let k = c.in_ok-number.number in
    let rest = c.pop.new.self.items in
    let on = leads_on it.ifr.now it.guards.now (Some k) k _ it.checked.spelled it.table refl (last_number ns it.numbers.items rest k c.in_ok-number.ensures.items it.numbered) in
    ap (λ (l : List ℕ). map (guard_of_number ns) (reverse l)) c.in_ok-number.ensures.items ∙ ap (map (guard_of_number ns)) (reverse-append rest (k ∷ []))
    ∙ ap (λ (n : Node). n ∷ map (guard_of_number ns) (reverse rest)) (sym (c.numbered.ensures.node ∙ c.kept-guard.ensures.node ∙ on.is))
