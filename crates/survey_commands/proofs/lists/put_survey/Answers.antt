use Rattle.std.proofs.Common.{◌≤◌, ◌<◌, ◌^◌, ◌++◌, ◌∙◌, [], ap, arith, length, length-append, refl, rules, subst, sym}
use Rattle.std.specs.List.{concat}
use Rattle.hii_bytes.specs.Watching.{Writes}
use Rattle.hii_bytes.proofs.WritingLemmas.{writes_nil, writes_trans}
use Rattle.hii_dumps.specs.code.Lists.{entry_of}
use Rattle.dump_audit.specs.Lines.{has_lists, no_lists_told}
use Rattle.dump_audit.proofs.LineLemmas.{few_lists, with_lists}
use Rattle.question_audit.proofs.BeginningLemmas.{at_error}
use Rattle.survey_commands.specs.Surveying.{lists_told}
use Rattle.survey_commands.specs.code.Views.{asked_view}
use Rattle.survey_commands.proofs.ListLemmas.{LieBelow, all_told, goes_more, next_lies, no_lists, some_lists, told_fewer, told_some, whole_lie}
use Rattle.survey_commands.proofs.lists.put_survey.Goals as goal

pub loop-list-init : goal.loop-list-init
loop-list-init g c =
    let all = c.into_iter-list-iterator.ensures.into_iter_gives ∙ c.lists-list-items.ensures in
    record {
      lists = c.read-split.result.lists;
      rest = c.read-split.result.rest;
      spelled = c.read-split.ensures;
      goes = record {
        surveyed = [];
        each = tt;
        in_order = all;
        next = refl;
        written = writes_nil _;
        lie = subst (LieBelow (length c.args.dump.now)) (sym all) (whole_lie c.args.dump.now c.read-split.result.lists c.read-split.result.rest c.read-split.ensures);
      };
    }

pub put_list-requires-clause-in_dump : goal.put_list-requires-clause-in_dump
put_list-requires-clause-in_dump g c =
    let lies = next_lies (entry_of c.in-Some.list) c.loop-list.invariant.goes c.in-Some.ensures.steps in
    let small : length c.args.dump.now < 2 ^ 64 = search rules in
    omega (arith, lies, small)

pub overflow_add-number : goal.overflow_add-number
overflow_add-number g c =
    let over = c.loop-list.invariant in
    let fewer = told_fewer over.goes in
    let one : 1 ≤ length c.loop-list.list-iterator = rw c.in-Some.ensures.steps (omega arith) in
    let few = few_lists 0 over.lists over.spelled.each in
    let whole = ap length over.spelled.whole ∙ length-append (concat over.lists) over.rest in
    let small : length c.args.dump.now < 2 ^ 64 = search rules in
    omega (arith, fewer, one, few, whole, small)

pub loop-list-preserved : goal.loop-list-preserved
loop-list-preserved g c =
    let said = c.in_ok-put_list.ensures.told in
    let over = c.loop-list.invariant in
    record {
      lists = over.lists;
      rest = over.rest;
      spelled = over.spelled;
      goes = goes_more (record { entry = entry_of c.in-Some.list; contents = said.0 }) over.goes c.in-Some.ensures.steps said.1 said.2;
    }

pub returns-in_err-put_list-clause-begun : goal.returns-in_err-put_list-clause-begun
returns-in_err-put_list-clause-begun g c =
    let said = c.in_err-put_list.ensures.begun in
    at_error c.from_residual.result (told_some (entry_of c.in-Some.list) said.0 c.loop-list.invariant.spelled c.loop-list.invariant.goes c.in-Some.ensures.steps said.1 said.2)

pub returns-then-number-gt1-clause-told : goal.returns-then-number-gt1-clause-told
returns-then-number-gt1-clause-told g c =
    let over = c.loop-list.invariant in
    let goes = over.goes in
    let asked = asked_view g.F.StoreFiles.known c.args.asked.now in
    let order = all_told goes c.in-None.ensures.steps.0 in
    let some = some_lists 0 over.lists goes.surveyed order (omega (arith, goes.next, c.if-number-gt1.true)) in (
      _,
      record { lists = over.lists; rest = over.rest; spelled = over.spelled; surveyed = goes.surveyed; each = goes.each; in_order = order; some = sym some; written = refl },
      subst (Writes _ _) (sym (with_lists asked.telling over.lists (lists_told asked 1 goes.surveyed) some)) goes.written,
    )

pub returns-clause-told : goal.returns-clause-told
returns-clause-told g c =
    let over = c.loop-list.invariant in
    let goes = over.goes in
    let asked = asked_view g.F.StoreFiles.known c.args.asked.now in
    let order = all_told goes c.in-None.ensures.steps.0 in
    let none = no_lists 0 over.lists goes.surveyed order (omega (arith, goes.next, c.if-number-gt1.false)) in (
      _,
      record { lists = over.lists; rest = over.rest; spelled = over.spelled; surveyed = goes.surveyed; each = goes.each; in_order = order; some = sym (ap has_lists none); written = refl },
      subst (Writes _ _) (ap (λ l. lists_told asked 1 goes.surveyed ++ l) (sym (ap (no_lists_told asked.telling) none))) (writes_trans goes.written c.put_no_list.ensures),
    )
