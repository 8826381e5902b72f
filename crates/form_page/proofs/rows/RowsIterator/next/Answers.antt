use Rattle.std.proofs.Common.{◌≡◌, ℕ, ◌+◌, List, ◌∷◌, length, refl, sym, ap, ◌∙◌, arith}
use Rattle.ifr_opcodes.specs.Forest.{Node}
use Rattle.ifr_scopes.specs.code.Lists.{statement_node}
use Rattle.form_page.specs.Pages.{row_of, rows_from}
use Rattle.form_page.specs.code.ListedViews.{all_left, listed_left}
use Rattle.form_page.specs.code.PageViews.{texts_of, world_of}
use Rattle.form_page.specs.code.Views.{row_seen, rows_left}
use Rattle.form_page.specs.declared.page.Page.{Page}
use Rattle.form_page.proofs.StatementLemmas.{IsFirstRow, first_row, listed_among, no_row}
use Rattle.form_page.proofs.rows.RowsIterator.next.Goals as goal
use Rattle.form_page.proofs.rows.RowsIterator.next.Goals.{In-Some-row_of, In_default-row_of}

-- the first of the rows that are left
first : (g : _) (c : In-Some-row_of g)
    → IsFirstRow (texts_of c.args.self.now.listed.page) (world_of c.args.self.now.listed.page) c.args.self.now.listed.page.stores.now c.loop-statement.self.number (all_left c.loop-statement.self.listed) (all_left c.take_first.new.self)
    (statement_node c.in-Some.statement) (row_seen c.in-Some-row_of.row)
first g c =
    let page = c.args.self.now.listed.page in
    first_row (texts_of page) (world_of page) page.stores.now c.loop-statement.self.number (all_left c.loop-statement.self.listed) (all_left c.take_first.new.self) (statement_node c.in-Some.statement) (row_seen c.in-Some-row_of.row)
    c.in-Some.ensures.steps c.in-Some-row_of.ensures.row

pub overflow_add-self : goal.overflow_add-self
overflow_add-self g c =
    let it = c.loop-statement.self in
    let old_left = ap (λ (page : Page _ _). listed_among (world_of page) (all_left it.listed)) c.loop-statement.invariant.same in
    let its = first g (goal.at.overflow_add-self g c).In-Some-row_of in
    let count = ap length (old_left ∙ its.listed) in
    omega (arith, it.few, count)

pub invariant_of-self : goal.invariant_of-self
invariant_of-self g c =
    let it = c.loop-statement.self in
    let new = c.take_first.new.self in
    let same = c.loop-statement.invariant.same in
    let old_left = ap (λ (page : Page _ _). listed_among (world_of page) (all_left it.listed)) same in
    let new_left = ap (λ (page : Page _ _). listed_among (world_of page) (all_left new)) (c.in-Some.ensures.page ∙ same) in
    let its = first g (goal.at.invariant_of-self g c).In-Some-row_of in
    let count : length (listed_left it.listed) ≡ length (statement_node c.in-Some.statement ∷ listed_left new) = ap length (old_left ∙ its.listed ∙ ap (λ (l : List Node). statement_node c.in-Some.statement ∷ l) (sym new_left)) in
    record { few = omega (arith, it.few, count) }

-- the row that is given, and those behind it
given : (g : _) (c : In-Some-row_of g)
    → rows_left c.args.self.now
    ≡ row_seen c.in-Some-row_of.row ∷ rows_from (texts_of c.take_first.new.self.page) (world_of c.take_first.new.self.page) c.take_first.new.self.page.stores.now (c.loop-statement.self.number + 1) (listed_left c.take_first.new.self)
given g c =
    let it = c.loop-statement.self in
    let fn = c.args.self.now in
    let page = fn.listed.page in
    let new = c.take_first.new.self in
    let same = c.loop-statement.invariant.same in
    let rows = rows_from (texts_of page) (world_of page) page.stores.now in
    let old_left = ap (λ (page : Page _ _). listed_among (world_of page) (all_left it.listed)) same in
    let its = first g c in
    ap (λ (k : ℕ). rows k (listed_left fn.listed)) (sym c.loop-statement.invariant.number)
    ∙ ap (rows it.number) (sym c.loop-statement.invariant.left ∙ old_left)
    ∙ its.rows
    ∙ ap (λ (page : Page _ _). row_seen c.in-Some-row_of.row ∷ rows_from (texts_of page) (world_of page) page.stores.now (it.number + 1) (listed_among (world_of page) (all_left new))) (sym (c.in-Some.ensures.page ∙ same))

pub returns-in-Some-row_of-clause-steps : goal.returns-in-Some-row_of-clause-steps
returns-in-Some-row_of-clause-steps g c = given g (goal.at.returns-in-Some-row_of-clause-steps g c).In-Some-row_of

pub returns-in-Some-row_of-clause-goes : goal.returns-in-Some-row_of-clause-goes
returns-in-Some-row_of-clause-goes g c =
    let e = given g (goal.at.returns-in-Some-row_of-clause-goes g c).In-Some-row_of in
    record { on = λ _. (tt, tt, omega (arith, ap length e)); keeps = tt; rests = λ _. tt }

-- no row of a hidden statement
passed : (g : _) (c : In_default-row_of g) → listed_left c.take_first.new.self ≡ listed_left c.loop-statement.self.listed
passed g c =
    let it = c.loop-statement.self in
    let page = c.args.self.now.listed.page in
    let new = c.take_first.new.self in
    let n = statement_node c.in-Some.statement in
    let same = c.loop-statement.invariant.same in
    let old_left = ap (λ (page : Page _ _). listed_among (world_of page) (all_left it.listed)) same in
    let new_left = ap (λ (page : Page _ _). listed_among (world_of page) (all_left new)) (c.in-Some.ensures.page ∙ same) in
    new_left ∙ sym (no_row (world_of page) (all_left it.listed) (all_left new) n (row_of (texts_of page) (world_of page) page.stores.now it.number n) c.in-Some.ensures.steps c.in_default-row_of.ensures.row) ∙ sym old_left

pub invariant_of-self-in_default-row_of : goal.invariant_of-self-in_default-row_of
invariant_of-self-in_default-row_of g c =
    let count = ap length (passed g (goal.at.invariant_of-self-in_default-row_of g c).In_default-row_of) in
    record { few = omega (arith, c.loop-statement.self.few, count) }

pub loop-statement-preserved : goal.loop-statement-preserved
loop-statement-preserved g c =
    record {
      page = refl;
      same = c.in-Some.ensures.page ∙ c.loop-statement.invariant.same;
      number = c.loop-statement.invariant.number;
      left = passed g (goal.at.loop-statement-preserved g c).In_default-row_of ∙ c.loop-statement.invariant.left;
    }
