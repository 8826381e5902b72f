use Rattle.std.proofs.Common.{◌+◌, drop, sym, ap, ◌∙◌, [], ◌∷◌}
use Rattle.std.proofs.lemmas.List.{take_rest}
use Rattle.hii_bytes.specs.NumberList.{is_number_list, numbers_of}
use Rattle.hii_bytes.proofs.NumberListLemmas.{first_at, first_whole}
use Rattle.hii_bytes.proofs.number_list.split_number.Goals as goal

pub value_of-requires : goal.value_of-requires
value_of-requires c = (first_at c.args.text.now c.in-Some.end c.requires.list (sym c.in-Some.ensures)).first

pub returns-in-Some-clause-rest : goal.returns-in-Some-clause-rest
returns-in-Some-clause-rest c =
    ap is_number_list (take_rest c.args.text.now (c.in-Some.end + 1)) ∙ (first_at c.args.text.now c.in-Some.end c.requires.list (sym c.in-Some.ensures)).others

pub returns-in-Some-clause-numbers : goal.returns-in-Some-clause-numbers
returns-in-Some-clause-numbers c =
    (first_at c.args.text.now c.in-Some.end c.requires.list (sym c.in-Some.ensures)).numbers
    ∙ sym (ap (λ n. n ∷ numbers_of (drop (c.in-Some.end + 1) c.args.text.now)) c.value_of.ensures)
    ∙ sym (ap (λ l. c.value_of.result ∷ numbers_of l) (take_rest c.args.text.now (c.in-Some.end + 1)))

pub value_of-requires-in-None : goal.value_of-requires-in-None
value_of-requires-in-None c = (first_whole c.args.text.now c.requires.list c.requires.some (sym c.in-None.ensures)).first

pub returns-in-None-clause-numbers : goal.returns-in-None-clause-numbers
returns-in-None-clause-numbers c =
    (first_whole c.args.text.now c.requires.list c.requires.some (sym c.in-None.ensures)).numbers ∙ sym (ap (λ n. n ∷ []) c.value_of-in-None.ensures)
