use Rattle.std.proofs.Common.{◌≤◌, ◌<◌, ◌^◌, [], ◌++◌, length, refl, sym, ap, ◌∙◌, subst, arith, rules, length-append}
use Rattle.std.specs.List.{concat}
use Rattle.hii_bytes.specs.Watching.{Writes}
use Rattle.hii_bytes.proofs.WritingLemmas.{writes_nil, writes_trans}
use Rattle.hii_dumps.specs.code.Lists.{entry_of}
use Rattle.dump_audit.specs.Lines.{has_lists, lists_told, no_lists_told, rest_told}
use Rattle.dump_audit.proofs.LineLemmas.{all_told, few_lists, goes_more, no_lists, some_lists, told_fewer, with_lists}
use Rattle.dump_audit.proofs.lines.put_split.Goals as goal

pub loop-list-init : goal.loop-list-init
loop-list-init g c = record {
  told = [];
  each = tt;
  in_order = c.into_iter-list-iterator.ensures.into_iter_gives ∙ c.lists-list-items.ensures;
  next = refl;
  written = writes_nil _;
}

pub overflow_add-number : goal.overflow_add-number
overflow_add-number g c =
    let lists = c.read-split.result.lists in
    let fewer = told_fewer c.loop-list.invariant in
    let one : 1 ≤ length c.loop-list.list-iterator = rw c.in-Some.ensures.steps (omega arith) in
    let few = few_lists 0 lists c.read-split.ensures.each in
    let whole = ap length c.read-split.ensures.whole ∙ length-append (concat lists) c.read-split.result.rest in
    let small : length c.args.dump.now < 2 ^ 64 = search rules in
    omega (arith, fewer, one, few, whole, small)

pub loop-list-preserved : goal.loop-list-preserved
loop-list-preserved g c =
    let said = c.in_ok-put_list.ensures.told in
    goes_more (record { entry = entry_of c.in-Some.list; finding = said.0 }) c.loop-list.invariant c.in-Some.ensures.steps said.1 said.2

pub returns-then-number-gt1-clause-told : goal.returns-then-number-gt1-clause-told
returns-then-number-gt1-clause-told g c =
    let goes = c.loop-list.invariant in
    let lists = c.read-split.result.lists in
    let order = all_told goes c.in-None.ensures.steps.0 in
    let some = some_lists 0 lists goes.told order (omega (arith, goes.next, c.if-number-gt1.true)) in
    let text = lists_told c.args.telling 1 goes.told ++ rest_told c.args.telling (length (concat lists)) c.read-split.result.rest in (
      _,
      record { lists = lists; rest = c.read-split.result.rest; spelled = c.read-split.ensures; told = goes.told; each = goes.each; in_order = order; some = sym some; written = refl },
      subst (Writes _ _) (sym (with_lists c.args.telling lists text some)) (writes_trans goes.written c.put_rest.ensures),
    )

pub returns-clause-told : goal.returns-clause-told
returns-clause-told g c =
    let goes = c.loop-list.invariant in
    let lists = c.read-split.result.lists in
    let order = all_told goes c.in-None.ensures.steps.0 in
    let none = no_lists 0 lists goes.told order (omega (arith, goes.next, c.if-number-gt1.false)) in
    let text = lists_told c.args.telling 1 goes.told ++ rest_told c.args.telling (length (concat lists)) c.read-split.result.rest in (
      _,
      record { lists = lists; rest = c.read-split.result.rest; spelled = c.read-split.ensures; told = goes.told; each = goes.each; in_order = order; some = sym (ap has_lists none); written = refl },
      subst (Writes _ _) (ap (λ l. text ++ l) (sym (ap (no_lists_told c.args.telling) none))) (writes_trans (writes_trans goes.written c.put_rest.ensures) c.put_no_list.ensures),
    )
