use Rattle.std.proofs.Common.{map, take}
use Rattle.audit_options.specs.Asked.{AreStoreFiles}
use Rattle.audit_options.proofs.reading.store_files.Given as goal

-- the files of the words so far
abbrev pub invariant-loop-word : goal.invariant-loop-word
invariant-loop-word l = AreStoreFiles (map (λ word. word.now) (take l.word-index l.words)) l.files.items
