use Rattle.std.proofs.Common.{[], ◌∷◌, codes}
use Rattle.form_page.specs.Pages.{id_text}
use Rattle.form_page.proofs.LineLemmas.{◌▹◌, five_more}
use Rattle.form_page.proofs.row.put_front.Goals as goal

pub returns : goal.returns
returns g c =
    five_more (codes " ") (c.args.mark ∷ []) (codes " ") (id_text c.args.question) (codes " ") c.put_number.ensures c.put_mark_and_id.ensures ▹ c.put_in_columns.ensures
