use Rattle.hii_bytes.proofs.NumberSetLemmas.{has_number-none}
use Rattle.hii_bytes.proofs.number_set.NumberSet.new.Goals as goal

pub returns : goal.returns
returns c = λ number. rw (c.in_ok-extend_from_slice.ensures.items, c.new-has.ensures.items) (has_number-none 65536 number)
