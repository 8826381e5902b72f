use Rattle.std.proofs.Common.{rules}
use Rattle.audit_options.proofs.ReadingLemmas.{no_store_files, store_files_next}
use Rattle.audit_options.proofs.reading.store_files.Goals as goal

pub loop-word-preserved : goal.loop-word-preserved
loop-word-preserved c =
    store_files_next c.args.words.now c.loop-word.word-index _ c.loop-word.files.items _ c.in-Some.file c.loop-word.invariant (search rules) c.in-Some.ensures c.in_ok-push-in-Some.ensures.items

pub returns-in-None : goal.returns-in-None
returns-in-None c = no_store_files c.args.words.now c.loop-word.word-index _ (search rules) c.in-None.ensures
