use Rattle.std.proofs.Common.{List, Some, None, length, refl, sym, ap, ◌∙◌, arith}
use Rattle.std.specs.List.{flat_map}
use Rattle.std.specs.Prelude.{is_none}
use Rattle.std.proofs.lemmas.Bool.{cond-true, cond-false}
use Rattle.ifr_opcodes.specs.Forest.{Node}
use Rattle.ifr_scopes.specs.code.Lists.{statement_node}
use Rattle.guard_policy.specs.Policy.{hidden}
use Rattle.form_page.specs.Pages.{row_of, row_text, rows_from}
use Rattle.form_page.specs.code.ListedViews.{all_left}
use Rattle.form_page.specs.code.PageViews.{texts_of, world_of}
use Rattle.form_page.proofs.LineLemmas.{all_gathered, none_gathered, one_gathered}
use Rattle.form_page.proofs.StatementLemmas.{first_row, listed_among, no_row}
use Rattle.form_page.proofs.print.put_rows.Goals as goal

pub loop-statement-init : goal.loop-statement-init
loop-statement-init g c = record { page = refl; same = refl; few = c.args.rows.few; gathered = none_gathered _ _ _ c.new-line.ensures }

pub overflow_add-rows : goal.overflow_add-rows
overflow_add-rows g c =
    let page = c.args.rows.listed.page in
    let n = statement_node c.in-Some.statement in
    let number = c.loop-statement.rows.1.0 in
    let row = row_of (texts_of page) (world_of page) page.stores.now number n in
    let told = sym (cond-true (is_none (hidden (world_of page) n)) (Some row) None (sym c.if-put_row_of.ensures.seen)) in
    let its = first_row (texts_of page) (world_of page) page.stores.now number (all_left c.loop-statement.rows.0) (all_left c.take_first.new.self) n row c.in-Some.ensures.steps told in
    omega (arith, c.loop-statement.invariant.few, ap length its.listed)

pub loop-statement-preserved-then-put_row_of : goal.loop-statement-preserved-then-put_row_of
loop-statement-preserved-then-put_row_of g c =
    let page = c.args.rows.listed.page in
    let n = statement_node c.in-Some.statement in
    let number = c.loop-statement.rows.1.0 in
    let row = row_of (texts_of page) (world_of page) page.stores.now number n in
    let told = sym (cond-true (is_none (hidden (world_of page) n)) (Some row) None (sym c.if-put_row_of.ensures.seen)) in
    let its = first_row (texts_of page) (world_of page) page.stores.now number (all_left c.loop-statement.rows.0) (all_left c.take_first.new.self) n row c.in-Some.ensures.steps told in
    record {
      page = refl;
      same = c.in-Some.ensures.page ∙ c.loop-statement.invariant.same;
      few = omega (arith, c.loop-statement.invariant.few, ap length its.listed);
      gathered = one_gathered _ _ _ _ _ _ _ _ _ (ap (flat_map row_text) its.rows) c.loop-statement.invariant.gathered c.if-put_row_of.ensures.row;
    }

pub loop-statement-preserved : goal.loop-statement-preserved
loop-statement-preserved g c =
    let page = c.args.rows.listed.page in
    let n = statement_node c.in-Some.statement in
    let number = c.loop-statement.rows.1.0 in
    let row = row_of (texts_of page) (world_of page) page.stores.now number n in
    let told = sym (cond-false (is_none (hidden (world_of page) n)) (Some row) None (sym c.if-put_row_of.ensures.seen)) in
    let passed = no_row (world_of page) (all_left c.loop-statement.rows.0) (all_left c.take_first.new.self) n row c.in-Some.ensures.steps told in
    let later = ap (λ (ns : List Node). flat_map row_text (rows_from (texts_of page) (world_of page) page.stores.now number ns)) passed in
    record {
      page = refl;
      same = c.in-Some.ensures.page ∙ c.loop-statement.invariant.same;
      few = omega (arith, c.loop-statement.invariant.few, ap length passed);
      gathered = one_gathered _ _ _ _ _ _ _ _ _ later c.loop-statement.invariant.gathered c.if-put_row_of.ensures.row;
    }

pub returns : goal.returns
returns g c =
    let page = c.args.rows.listed.page in
    let none = ap (λ (ns : List Node). flat_map row_text (rows_from (texts_of page) (world_of page) page.stores.now c.loop-statement.rows.1.0 (listed_among (world_of page) ns))) c.in_default.ensures.steps.0 in
    all_gathered _ _ _ _ _ _ none c.loop-statement.invariant.gathered c.end.ensures
