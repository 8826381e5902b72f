-- What the iterator over a list of numbers has before it.
use Rattle.std.specs.Prelude.{ℕ, List}
use Rattle.hii_bytes.specs.NumberList.{numbers_of}
use Rattle.hii_bytes.specs.declared.number_list.NumberList.{NumberList}

-- the numbers that are left
abbrev pub numbers_left : NumberList → List ℕ
numbers_left numbers = numbers_of numbers.rest.now
