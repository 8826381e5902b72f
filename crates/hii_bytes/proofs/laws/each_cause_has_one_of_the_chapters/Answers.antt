use Rattle.hii_bytes.proofs.ChapterFaultLemmas.{no_other_cause, causes_apart}
use Rattle.hii_bytes.proofs.laws.each_cause_has_one_of_the_chapters.Goals as goal

pub returns-clause-all : goal.returns-clause-all
returns-clause-all c = no_other_cause

pub returns-clause-apart : goal.returns-clause-apart
returns-clause-apart c = causes_apart
