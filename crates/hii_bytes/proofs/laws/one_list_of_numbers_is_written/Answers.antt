use Rattle.hii_bytes.proofs.NumberListLemmas.{numbers_of-is}
use Rattle.hii_bytes.proofs.laws.one_list_of_numbers_is_written.Goals as goal

pub returns : goal.returns
returns c = numbers_of-is
