use Rattle.std.proofs.Common.{[], List, ap, map, ◌∙◌}
use Rattle.session_steps.specs.State.{State}
use Rattle.unlock_audit.specs.Tries.{Try, commands, longer, longer_each, opens, write}
use Rattle.unlock_audit.specs.code.Counting.{with_tries}
use Rattle.unlock_audit.specs.code.Tallies.{tally_meant}
use Rattle.unlock_audit.specs.declared.moves.Move.{Move}
use Rattle.unlock_audit.proofs.AskingLemmas.{on_ok}
use Rattle.unlock_audit.proofs.SearchLemmas.{all_tried}
use Rattle.unlock_audit.proofs.search.Search.try_all.Goals as goal

abbrev all : List (List Move) → List Try
all lists = map (λ l. commands l) lists

pub returns-clause-tried : goal.returns-clause-tried
returns-clause-tried c =
    let s = c.args.browser.now.state in
    let again = c.args.self.again in
    let id = c.args.self.id in
    let moves = c.args.self.moves.now in
    let ones = longer moves [] in
    let twos = longer_each s moves ones in
    let threes = longer_each s moves twos in
    let one = c.try_longer.ensures.same in
    let two = c.try_two_longer.ensures.same ∙ one in
    let three = c.try_threes.ensures.same ∙ two in
    let a = tally_meant c.try_longer.new.tally in
    let b = tally_meant c.try_two_longer.new.tally in
    let d = tally_meant c.try_threes.new.tally in
    let is_b = c.in_ok-try_two_longer.ensures.tried ∙ ap (λ (st : State). with_tries (opens again st id) a (all (longer_each st moves ones))) one in
    let is_c = c.in_ok-try_threes.ensures.tried ∙ ap (λ (st : State). with_tries (opens again st id) b (all (longer_each st moves (longer_each st moves ones)))) two in
    on_ok c.try_writes.result (λ h. all_tried (opens again s id) (λ l. commands l) (λ m. write m) (tally_meant c.args.tally.now) a b d (tally_meant c.try_writes.new.tally) ones twos threes moves c.in_ok-try_longer.ensures.tried is_b is_c
    (h ∙ ap (λ (st : State). with_tries (opens again st id) d (map (λ m. write m) moves)) three)) c.try_writes.ensures.tried
