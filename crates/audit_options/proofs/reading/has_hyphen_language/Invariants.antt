use Rattle.std.proofs.Common.{◌≡◌, map, string_bytes, drop}
use Rattle.audit_options.specs.CommandLine.{has_hyphen_behind, has_hyphen_language}
use Rattle.audit_options.proofs.reading.has_hyphen_language.Given as goal

-- the words that are left decide it
abbrev pub invariant-loop-word : goal.invariant-loop-word
invariant-loop-word l =
    has_hyphen_behind l.is_behind (map string_bytes (drop l.word-index l.words)) ≡ has_hyphen_language (map string_bytes l.words)
