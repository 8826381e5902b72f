-- A list that is given, without where its bytes lie in memory.
use Rattle.audit_answers.specs.Listing.{Listed}
use Rattle.audit_answers.specs.declared.given.GivenList.{GivenList}

abbrev pub listed : GivenList → Listed
listed list = record { bytes = list.bytes.now; origin = list.origin }
