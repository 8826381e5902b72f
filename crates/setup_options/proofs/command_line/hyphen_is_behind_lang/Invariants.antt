use Rattle.std.proofs.Common.{◌≡◌, false, drop}
use Rattle.setup_options.specs.CommandLine.{has_hyphen_behind_lang, texts_of}
use Rattle.setup_options.proofs.command_line.hyphen_is_behind_lang.Given as goal

-- no word before this one is met
abbrev pub invariant-loop-word : goal.invariant-loop-word
invariant-loop-word l = has_hyphen_behind_lang l.is_behind (texts_of (drop l.word-index l.words)) ≡ has_hyphen_behind_lang false (texts_of l.words)
