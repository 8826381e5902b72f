-- Numbers in columns.
use Rattle.std.specs.Prelude.{ℕ, ◌+◌, ◌%◌, ◌==◌, if◌then◌else◌}

-- the last decimal digit of a number, or a space for 0
abbrev pub last_digit : ℕ → ℕ
last_digit n = if n == 0 then 32 else 48 + n % 10
