use Rattle.json_laws.proofs.ConditionLemmas.{condition_word}
use Rattle.json_laws.proofs.WordLemmas.{attributes_word, bytes_word, decimal_word, guid_word, hexadecimal_word, opcode_word, signed_word, word_behind}
use Rattle.json_laws.proofs.values.what_is_quoted_is_words.Goals as goal

pub returns-clause-natural : goal.returns-clause-natural
returns-clause-natural c = decimal_word

pub returns-clause-integer : goal.returns-clause-integer
returns-clause-integer c = signed_word

pub returns-clause-hexadecimal : goal.returns-clause-hexadecimal
returns-clause-hexadecimal c = hexadecimal_word

pub returns-clause-digits : goal.returns-clause-digits
returns-clause-digits c = bytes_word

pub returns-clause-guid : goal.returns-clause-guid
returns-clause-guid c = guid_word

pub returns-clause-opcode : goal.returns-clause-opcode
returns-clause-opcode c = opcode_word

pub returns-clause-attributes : goal.returns-clause-attributes
returns-clause-attributes c = attributes_word

pub returns-clause-condition : goal.returns-clause-condition
returns-clause-condition c = condition_word

pub returns-clause-behind : goal.returns-clause-behind
returns-clause-behind c = word_behind
