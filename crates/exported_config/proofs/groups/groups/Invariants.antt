use Rattle.std.proofs.Common.{◌≡◌, ◌++◌, ◌-◌, ◌*◌, ◌/◌, length, option_map}
use Rattle.exported_config.specs.Exported.{numbers}
use Rattle.exported_config.proofs.groups.groups.Given as goal

-- the numbers so far, and behind them those of the groups that are left
abbrev pub invariant-loop : goal.invariant-loop
invariant-loop l =
    (option_map (λ ns. l.numbers.items ++ ns) (numbers (l.end - l.counter) l.size l.rest)
    ≡ numbers (length l.text / l.size) l.size l.text)
    × (length l.rest ≡ (l.end - l.counter) * l.size)
