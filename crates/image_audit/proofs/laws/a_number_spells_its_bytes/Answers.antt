use Rattle.std.proofs.Common.{length, refl, sym}
use Rattle.std.specs.Str.Parse.{digits_value}
use Rattle.config_text.proofs.BackLemmas.{value_number}
use Rattle.browser_commands.proofs.ByteLemmas.{bytes_of_number}
use Rattle.image_audit.specs.Lines.{number_digits}
use Rattle.image_audit.proofs.laws.a_number_spells_its_bytes.Goals as goal

pub returns : goal.returns
returns c = λ bytes are. sym (bytes_of_number bytes (length bytes) (digits_value 16 (number_digits bytes)) are refl (sym (value_number bytes are)))
