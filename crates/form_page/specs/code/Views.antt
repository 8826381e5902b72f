-- What the values of a page stand for.
use Rattle.std.specs.Prelude.{List}
use Rattle.hii_languages.specs.code.Views.{text_of}
use Rattle.guard_policy.specs.declared.conditions.Conditions.{Ghosts}
use Rattle.form_page.specs.code.ListedViews.{listed_left}
use Rattle.form_page.specs.code.PageViews.{texts_of, world_of}
use Rattle.form_page.specs.Pages.{rows_from}
use Rattle.form_page.specs.Pages as pages
use Rattle.form_page.specs.code.RowViews.{value_text}
use Rattle.form_page.specs.declared.row.Row.{Row}
use Rattle.form_page.specs.declared.rows.Rows.{Rows}

-- a row with the characters of its texts
abbrev pub row_seen : {C : Type 0} {g : Ghosts C} → Row C g → pages.Row
row_seen row =
    record {
      number = row.number;
      mark = row.mark;
      question = row.question;
      prompt = text_of row.prompt;
      value = value_text row.value;
    }

abbrev pub rows_left : {C : Type 0} {g : Ghosts C} → Rows C g → List pages.Row
rows_left it =
    let page = it.listed.page in
    rows_from (texts_of page) (world_of page) page.stores.now it.number (listed_left it.listed)
