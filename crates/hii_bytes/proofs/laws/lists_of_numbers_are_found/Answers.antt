use Rattle.hii_bytes.proofs.NumberListLemmas.{listed, list-is}
use Rattle.hii_bytes.proofs.laws.lists_of_numbers_are_found.Goals as goal

pub returns : goal.returns
returns c = λ text. (listed text, list-is text)
