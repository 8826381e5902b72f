-- Which byte shows for one of a name, and words of tables.
use Rattle.std.specs.Prelude.{ℕ, ◌==◌, List}
use Rattle.std.specs.List.{before_first}
use Rattle.audit_text.specs.Texts.{shown_byte, language_byte}
use Rattle.audit_text.specs.declared.names.Named.{Named}
use Rattle.audit_text.specs.declared.names.Named.TheVariants.{Store, Language}

abbrev pub shown_in : Named → ℕ → ℕ
shown_in Store = shown_byte
shown_in Language = language_byte

-- a word that is filled up with spaces
abbrev pub word_in : List ℕ → List ℕ
word_in padded = before_first (λ byte. byte == 32) padded
