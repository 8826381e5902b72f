use Rattle.std.proofs.Common.{◌≡◌, ℕ, List, ◌∷◌, Option, map, sym, ap, ◌∙◌}
use Rattle.ifr_scopes.specs.code.Lists.{statement_node}
use Rattle.form_page.specs.RowValues.{choice}
use Rattle.form_page.specs.code.PageViews.{texts_of, world_of}
use Rattle.form_page.proofs.LineLemmas.{◌▹◌, none_added, one_added}
use Rattle.form_page.proofs.ValueLemmas.{utf8_later, utf8_list}
use Rattle.form_page.proofs.value_bytes.put_many.Goals as goal

-- the first of some elements
first_told : (tell : ℕ → Option (List ℕ)) (left : List ℕ) (value : ℕ) (rest : List ℕ) (its : Option (List ℕ)) → left ≡ value ∷ rest → its ≡ tell value → map tell left ≡ its ∷ map tell rest
first_told tell left value rest its is told = ap (map tell) is ∙ ap (λ (o : Option (List ℕ)). o ∷ map tell rest) (sym told)

pub loop-next-init : goal.loop-next-init
loop-next-init g c =
    let page = c.args.elements.page in
    let tell = choice (texts_of page) (world_of page) (statement_node c.args.elements.statement) in
    one_added _ _ _ _ _ _ _ _ _ _ (utf8_list _ _ _ (first_told tell _ _ _ _ c.in-Some.ensures c.text_among-choice.ensures)) (none_added _ _ _) c.put_choice.ensures

pub loop-next-preserved : goal.loop-next-preserved
loop-next-preserved g c =
    let page = c.args.elements.page in
    let tell = choice (texts_of page) (world_of page) (statement_node c.args.elements.statement) in
    one_added _ _ _ _ _ _ _ _ _ _ (utf8_later _ _ _ (first_told tell _ _ _ _ c.in-Some-step.ensures c.text_among-choice-in-Some-step.ensures)) c.loop-next.invariant (c.put.ensures ▹ c.put_choice-in-Some-step.ensures)
