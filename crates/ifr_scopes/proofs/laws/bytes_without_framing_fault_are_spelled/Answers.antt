use Rattle.ifr_scopes.proofs.laws.bytes_without_framing_fault_are_spelled.Goals as goal

pub returns-in-Err : goal.returns-in-Err
returns-in-Err c = let told = c.in-Err.ensures.refused.told in λ none. absurd (none _ _ told)
