-- Headings and counts whose numbers have 64 bits.
use Rattle.std.specs.Prelude.{◌≡◌, ℕ, ◌<◌, ◌^◌, true}
use Rattle.std.specs.Str.{all_scalars}
use Rattle.hii_bytes.specs.Numbers.{AreBytes}
use Rattle.check_audit.specs.Lines.{text_of}
use Rattle.survey_audit.specs.Lines.{Heading}
use Rattle.survey_audit.specs.declared.counts.Counts.{Counts}

-- the package is bytes, and what is shown is characters
pub record CanHead (h : Heading) : Type 0 where
  pub list : h.list < 2 ^ 64
  pub number : h.number < 2 ^ 64
  pub bytes : AreBytes h.source.bytes
  pub shows : (id : ℕ) → id < 2 ^ 64 → all_scalars (text_of h.spoken id) ≡ true

pub record AreFew (c : Counts) : Type 0 where
  pub forms : c.forms < 2 ^ 64
  pub questions : c.questions < 2 ^ 64
  pub changeable : c.tally.changeable < 2 ^ 64
  pub grayed : c.tally.grayed < 2 ^ 64
  pub hidden : c.tally.hidden < 2 ^ 64
  pub disabled : c.tally.disabled < 2 ^ 64
  pub fixed : c.tally.fixed < 2 ^ 64
  pub constant : c.tally.constant < 2 ^ 64
