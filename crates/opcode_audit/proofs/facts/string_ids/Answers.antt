use Rattle.std.proofs.Common.{◌≡◌, ◌++◌, ◌∙◌, ℕ, Option, [], ap, append-nil, arith, drop, length, sym}
use Rattle.std.specs.List.{cons_option}
use Rattle.std.proofs.lemmas.List.{drop_all}
use Rattle.opcode_audit.proofs.IdLemmas.{ids_more, ids_of}
use Rattle.opcode_audit.proofs.facts.string_ids.Goals.{in-Some, in_default}
use Rattle.opcode_audit.proofs.facts.string_ids.Goals as goal

pub loop-fact-preserved : goal.loop-fact-preserved
loop-fact-preserved c =
    let items = c.as_slice-fact-items.result.now in
    record {
      ids = ids_more items c.loop-fact.fact-index _ c.fact-item.result c.loop-fact.ids.items _ _ c.loop-fact-test.true c.fact-item.is c.loop-fact.invariant.ids (elim c.match-id_in.branch [
        | in-Some w ↦ ap (λ ids. ids.items) w.ids-is ∙ w.push.ensures.items
            ∙ ap (λ (o : Option ℕ). c.loop-fact.ids.items ++ cons_option o []) (sym w.in-Some.is ∙ c.id_in.ensures)
        | in_default w ↦ ap (λ ids. ids.items) w.ids-is ∙ sym (append-nil c.loop-fact.ids.items)
            ∙ ap (λ (o : Option ℕ). c.loop-fact.ids.items ++ cons_option o []) (sym w.in_default.is ∙ c.id_in.ensures)
      ]);
      few = elim c.match-id_in.branch [
        | in-Some w ↦ omega (arith, ap (λ ids. length ids.items) w.ids-is, w.push.ensures.len, c.loop-fact.invariant.few)
        | in_default w ↦ omega (arith, ap (λ ids. length ids.items) w.ids-is, c.loop-fact.invariant.few)
      ];
    }

pub returns : goal.returns
returns c =
    let items = c.as_slice-fact-items.result.now in
    let none : drop c.loop-fact.fact-index items ≡ [] = drop_all c.loop-fact.fact-index items (omega (arith, c.loop-fact-test.false)) in
    sym (append-nil c.loop-fact.ids.items) ∙ ap (λ l. c.loop-fact.ids.items ++ ids_of l) (sym none) ∙ c.loop-fact.invariant.ids
