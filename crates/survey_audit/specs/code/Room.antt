-- Counts that are counted on.
use Rattle.std.specs.Prelude.{ℕ, ◌+◌, ◌<◌, ◌^◌, Bool, true, false}
use Rattle.survey_audit.specs.Counts.{is_disabled, is_fixed, is_grayed, is_hidden, is_open}
use Rattle.survey_audit.specs.declared.standing.Standing.{Standing}
use Rattle.survey_audit.specs.declared.tally.Tally.{Tally}

abbrev pub counted : Bool → ℕ → ℕ
counted true n = n + 1
counted false n = n

-- one question more
abbrev pub added : Tally → Standing → Bool → Tally
added t s is_constant = record {
  changeable = counted (is_open s) t.changeable;
  grayed = counted (is_grayed s) t.grayed;
  hidden = counted (is_hidden s) t.hidden;
  disabled = counted (is_disabled s) t.disabled;
  fixed = counted (is_fixed s) t.fixed;
  constant = counted is_constant t.constant;
}

-- All of them are below a number that the code has.
pub record HasRoom (t : Tally) : Type 0 where
  pub changeable : t.changeable + 1 < 2 ^ 64
  pub grayed : t.grayed + 1 < 2 ^ 64
  pub hidden : t.hidden + 1 < 2 ^ 64
  pub disabled : t.disabled + 1 < 2 ^ 64
  pub fixed : t.fixed + 1 < 2 ^ 64
  pub constant : t.constant + 1 < 2 ^ 64
