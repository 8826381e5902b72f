use Rattle.std.proofs.Common.{refl}
use Rattle.survey_audit.proofs.tally.Tally.with.Goals as goal

pub returns : goal.returns
returns c =
    rw (
      c.counted.ensures,
      c.is_open.ensures,
      c.counted-2.ensures,
      c.is_grayed.ensures,
      c.counted-3.ensures,
      c.is_hidden.ensures,
      c.counted-4.ensures,
      c.is_disabled.ensures,
      c.counted-5.ensures,
      c.is_fixed.ensures,
      c.counted-6.ensures,
    ) refl
