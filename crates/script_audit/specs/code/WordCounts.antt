-- How many words a command has.
use Rattle.script_audit.specs.Words as spec
use Rattle.script_audit.specs.declared.wanted.Words.{Words}

abbrev pub words_meant : Words → spec.Words
words_meant words = record { least = words.least; most = words.most; takes_number = words.takes_number }
