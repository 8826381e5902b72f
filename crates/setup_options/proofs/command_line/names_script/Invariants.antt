use Rattle.std.proofs.Common.{◌≡◌, true, drop}
use Rattle.setup_options.specs.CommandLine.{names_script, texts_of}
use Rattle.setup_options.proofs.command_line.names_script.Given as goal

-- no word before this one is met
abbrev pub invariant-loop-word : goal.invariant-loop-word
invariant-loop-word l = names_script l.is_value (texts_of (drop l.word-index l.words)) ≡ names_script true (texts_of l.words)
