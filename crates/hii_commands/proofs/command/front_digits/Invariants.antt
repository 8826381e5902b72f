use Rattle.std.proofs.Common.{◌≡◌, ◌<◌, ◌≤◌, take}
use Rattle.std.specs.Str.Parse.{AllDigits, digits_value}
use Rattle.hii_commands.proofs.command.front_digits.Given as goal

-- the number of the digits so far
abbrev pub invariant-loop-count : goal.invariant-loop-count
invariant-loop-count l = record {
  all : AllDigits 10 (take l.count l.text);
  number : l.number ≡ digits_value 10 (take l.count l.text);
  few : l.count ≤ 5;
  small : l.count ≤ 4 → l.number < 10000;
}
