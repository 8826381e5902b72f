use Rattle.condition_text.proofs.openings.Openings.+put_first.Given as goal

abbrev pub decreases-put_first : goal.decreases-put_first
decreases-put_first g l = l.count
