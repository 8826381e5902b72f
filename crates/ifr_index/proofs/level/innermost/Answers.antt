use Rattle.ifr_index.proofs.IndexingLemmas.{last_level}
use Rattle.ifr_index.proofs.level.innermost.Goals as goal

pub returns-in-Some : goal.returns-in-Some
returns-in-Some c = λ ns path outer levels. last_level ns path c.args.levels.now c.in-Some.level.now levels c.in-Some.ensures.value
