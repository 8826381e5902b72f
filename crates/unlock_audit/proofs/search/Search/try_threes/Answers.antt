use Rattle.std.proofs.Common.{◌+◌, [], List, ap, drop, get_or, map, sym, ◌∙◌}
use Rattle.std.proofs.lemmas.List.{at_drop_more}
use lib.IntN as int
use Rattle.session_steps.specs.State.{State}
use Rattle.unlock_audit.specs.Tries.{Try, commands, is_answered, longer, longer_each, opens}
use Rattle.unlock_audit.specs.code.Counting.{Tally, with_tries}
use Rattle.unlock_audit.specs.code.Tallies.{tally_meant}
use Rattle.unlock_audit.specs.declared.moves.Move.{Move}
use Rattle.unlock_audit.proofs.CountLemmas.{done_stays}
use Rattle.unlock_audit.proofs.SearchLemmas.{three_ok, three_no}
use Rattle.unlock_audit.proofs.search.Search.try_threes.Goals as goal
use Rattle.unlock_audit.proofs.search.Search.try_threes.Goals.{then-are_answered+in_ok-try_two_longer, else-are_answered}

abbrev all : List (List Move) → List Try
all lists = map (λ l. commands l) lists

pub returns-then-is_done-clause-tried : goal.returns-then-is_done-clause-tried
returns-then-is_done-clause-tried c =
    let s = c.args.browser.now.state in
    let moves = c.args.self.moves.now in
    let list = [] in
    sym (done_stays (opens c.args.self.again s c.args.self.id) (tally_meant c.loop-each.tally) (all (longer_each s moves (longer_each s moves (longer (drop c.loop-each.each-index moves) list)))) (sym c.is_done.ensures ∙ c.if-is_done.true)) ∙ c.loop-each.invariant.tried

pub loop-each-preserved : goal.loop-each-preserved
loop-each-preserved c =
    let s = c.args.browser.now.state in
    let again = c.args.self.again in
    let id = c.args.self.id in
    let test = opens again s id in
    let moves = c.args.self.moves.now in
    let list : List Move = [] in
    let i = c.loop-each.each-index in
    let none : Move = record { id = 0; value = int.pos 0 } in
    let m = get_or moves i none in
    let rest = drop (i + 1) moves in
    let steps = at_drop_more (λ (l : List Move). l) moves i none c.loop-each-test.true in
    let old = tally_meant c.loop-each.tally in
    let same = c.are_answered.ensures.same ∙ c.loop-each.invariant.same in
    let slice = c.as_slice.ensures.value ∙ c.longer-list.ensures in
    let answered = c.are_answered.ensures.answered ∙ ap (λ (st : State). is_answered st c.as_slice.result.now) c.loop-each.invariant.same ∙ ap (is_answered s) slice in
    let left = all (longer_each s moves (longer_each s moves (longer rest list))) in
    let back = ap (λ (l : List Move). with_tries test old (all (longer_each s moves (longer_each s moves (longer l list))))) (sym steps) ∙ c.loop-each.invariant.tried in
    elim c.if-are_answered.branch [
      | then-are_answered+in_ok-try_two_longer w ↦
          let more = w.in_ok-try_two_longer.ensures.tried ∙ ap (λ (st : State). with_tries (opens again st id) old (all (longer_each st moves (longer moves w.as_slice-then-are_answered.result.now)))) same
          ∙ ap (λ (l : List Move). with_tries test old (all (longer_each s moves (longer moves l)))) (w.as_slice-then-are_answered.ensures.value ∙ c.longer-list.ensures) in
          record {
            tried = ap (λ t. with_tries test (tally_meant t) left) w.tally-is ∙ ap (λ (u : Tally Try). with_tries test u left) more
                ∙ sym (three_ok (is_answered s) moves (λ l. commands l) test old list m rest (sym answered ∙ w.if-are_answered.true)) ∙ back;
            same = ap (λ b. b.state) w.browser-is ∙ w.try_two_longer.ensures.same ∙ same;
          }
      | else-are_answered w ↦
          record {
            tried = ap (λ t. with_tries test (tally_meant t) left) w.tally-is
                ∙ sym (three_no (is_answered s) moves (λ l. commands l) test old list m rest (sym answered ∙ w.if-are_answered.false)) ∙ back;
            same = ap (λ b. b.state) w.browser-is ∙ same;
          }
    ]
