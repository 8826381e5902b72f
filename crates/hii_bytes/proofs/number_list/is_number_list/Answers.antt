use Rattle.std.proofs.Common.{◌≡◌, ◌==◌, rules, tests, sym, subst, ◌∙◌}
use Rattle.std.specs.Bool.{Decides}
use Rattle.std.proofs.lemmas.Iterator.Search.{all_from_yields_List}
use Rattle.std.proofs.lemmas.Iterator.Splits.{YieldsList-from_slice_split}
use Rattle.hii_bytes.specs.NumberList.{IsList, is_element, is_number_list}
use Rattle.hii_bytes.proofs.NumberListLemmas.{decides, list_of_parts}
use Rattle.hii_bytes.proofs.number_list.is_number_list.Goals as goal

-- the parts are tried
test : (c : goal.After-all) → c.all.result ≡ is_number_list c.args.text.now
test c =
    all_from_yields_List is_element _ _ _ c.all.ensures.ran
    (YieldsList-from_slice_split _ (λ byte. byte == 44) c.args.text.now c.split.ensures.rest c.split.ensures.done c.split.ensures.closure (λ x b q k. search (rules, tests)))
    (λ x b q k. search (rules, tests))
    ∙ list_of_parts c.args.text.now (sym c.is_empty.ensures ∙ c.if-is_empty.false)

pub returns-else-is_empty-clause-test : goal.returns-else-is_empty-clause-test
returns-else-is_empty-clause-test c = test c

pub returns-else-is_empty-clause-list : goal.returns-else-is_empty-clause-list
returns-else-is_empty-clause-list c = subst (λ b. Decides b (IsList c.args.text.now)) (sym (test c)) (decides c.args.text.now)
