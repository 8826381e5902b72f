use Rattle.std.proofs.Common.{◌+◌, List, None, Some, Bool, ap, drop, get_or, ◌∙◌}
use Rattle.std.specs.Prelude.{if◌then◌else◌}
use Rattle.std.proofs.lemmas.List.{at_drop_more}
use lib.IntN as int
use Rattle.unlock_audit.specs.Tries.{run}
use Rattle.unlock_audit.specs.declared.moves.Move.{Move}
use Rattle.unlock_audit.proofs.RunLemmas.{run_next}
use Rattle.unlock_audit.proofs.runs.run.Goals as goal

pub loop-each-preserved : goal.loop-each-preserved
loop-each-preserved c =
    let list = c.args.list.now in
    let i = c.loop-each.each-index in
    let new = c.is_set.new.browser.state in
    let none : Move = record { id = 0; value = int.pos 0 } in
    let m = get_or list i none in
    record {
      left = run_next c.loop-each.browser.state new m (drop i list) (drop (i + 1) list) (run c.args.browser.now.state list) (at_drop_more (λ (l : List Move). l) list i none c.loop-each-test.true) (c.is_set.ensures.left ∙ ap (λ (b : Bool). if b then Some new else None) c.if-not-is_set.false) c.loop-each.invariant.left;
      back = c.is_set.ensures.back ∙ c.loop-each.invariant.back;
    }
