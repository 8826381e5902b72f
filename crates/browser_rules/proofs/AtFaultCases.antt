-- What a fault leaves: the reader, or the writer, of a worked case fails behind so many bytes.
use Rattle.std.proofs.Common.{refl, inr}
use Rattle.std.specs.Prelude.{ℕ, true, [], ◌∷◌, take, None}
use Rattle.std.proofs.lemmas.Bool.{leb-true}
use Rattle.browser_rules.specs.Stores.{Stores}
use Rattle.browser_rules.specs.Session.{State}
use Rattle.browser_rules.specs.Headline.{Given, Served, Ended, ReadScript, WriteAnswers, begins, IsOpen}
use Rattle.browser_rules.specs.AtFault.{Leaves}
use Rattle.browser_rules.proofs.CaseWords.{hex, given_of, answers_of}
use Rattle.browser_rules.proofs.cases.Computing.{computing}
use Rattle.browser_rules.proofs.cases.Packages.{box_is_set_and_submitted}

-- `page`, `set 1 1` and `submit`, with 5, 8 and 7 bytes, and answers of 51, 3 and 15
abbrev box : Given
box = given_of box_is_set_and_submitted

-- served so many bytes of the answers
abbrev served : Ended → ℕ → Served
served ended count = record { ended = ended; answers = take count (answers_of box_is_set_and_submitted); image = None }

abbrev zeros : Stores
zeros = (1, hex "0000") ∷ []

abbrev ones : Stores
ones = (1, hex "0100") ∷ []

opened : IsOpen box zeros
unfolding computing
opened = record { sound = refl; spelled = record { form = inr refl; laid = refl } }

abbrev at_first : State
at_first = begins box zeros

-- The LF of `set 1 1` was not read: the page alone is answered, and nothing is set.
a_line_without_its_end_is_not_run : Leaves box 12 (served ReadScript 51) ReadScript
unfolding computing
a_line_without_its_end_is_not_run =
    (zeros, at_first, opened, record { few = leb-true 12 1048576 refl; state = refl; answers = refl }, refl)

a_line_with_its_end_is_run : Leaves box 13 (served ReadScript 54) ReadScript
unfolding computing
a_line_with_its_end_is_run =
    (zeros, record at_first { working = ones }, opened, record { few = leb-true 13 1048576 refl; state = refl; answers = refl }, refl)

-- The writer takes nothing: nothing is set.
nothing_is_written : Leaves box 20 (served WriteAnswers 0) WriteAnswers
unfolding computing
nothing_is_written = (
  refl,
  inr (
    zeros,
    at_first,
    true,
    opened,
    λ ended. leb-true 20 20 refl,
    record {
      few = leb-true 20 1048577 refl;
      lines = 1;
      soon = leb-true 0 1 refl;
      state = refl;
      part = record { part = 0; within = leb-true 0 51 refl; are = refl };
      all_before = leb-true 0 0 refl;
    },
  ),
)

-- The writer takes the page and nothing behind it: the box is set then. One that takes the next answer too: it is
-- submitted.
a_line_whose_answer_is_not_written_is_run : Leaves box 20 (served WriteAnswers 51) WriteAnswers
unfolding computing
a_line_whose_answer_is_not_written_is_run = (
  refl,
  inr (
    zeros,
    record at_first { working = ones },
    true,
    opened,
    λ ended. leb-true 20 20 refl,
    record {
      few = leb-true 20 1048577 refl;
      lines = 2;
      soon = leb-true 0 2 refl;
      state = refl;
      part = record { part = 51; within = leb-true 51 54 refl; are = refl };
      all_before = leb-true 51 51 refl;
    },
  ),
)

a_submit_whose_answer_is_not_written_is_carried_out : Leaves box 20 (served WriteAnswers 54) WriteAnswers
unfolding computing
a_submit_whose_answer_is_not_written_is_carried_out = (
  refl,
  inr (
    zeros,
    record at_first { working = ones; committed = ones },
    true,
    opened,
    λ ended. leb-true 20 20 refl,
    record {
      few = leb-true 20 1048577 refl;
      lines = 3;
      soon = leb-true 0 3 refl;
      state = refl;
      part = record { part = 54; within = leb-true 54 69 refl; are = refl };
      all_before = leb-true 54 54 refl;
    },
  ),
)
