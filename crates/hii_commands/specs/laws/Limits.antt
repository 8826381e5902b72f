-- How many bytes lines and scripts may have (own rule).
use Rattle.std.specs.Prelude.{◌≡◌}
use Rattle.browser_rules.specs.Script as script
use Rattle.hii_commands.specs.declared.limits.TheConstants.{LINE_LIMIT, SCRIPT_LIMIT}

-- A line has at most 4 KiB, as `command_of` says, a script 1 MiB.
pub record HaveLimits : Type 0 where
  pub line : LINE_LIMIT ≡ 4096
  pub script : SCRIPT_LIMIT ≡ script.SCRIPT_LIMIT
