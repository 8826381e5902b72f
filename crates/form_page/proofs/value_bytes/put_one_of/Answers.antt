use Rattle.std.proofs.Common.{option_map}
use Rattle.hii_languages.specs.code.Views.{text_of}
use Rattle.form_page.proofs.LineLemmas.{◌▹◌}
use Rattle.form_page.proofs.ValueLemmas.{utf8_one_of}
use Rattle.form_page.proofs.value_bytes.put_one_of.Goals as goal

pub returns : goal.returns
returns g c = rw (utf8_one_of (option_map text_of c.args.option)) (c.put_byte.ensures ▹ c.put_choice.ensures ▹ c.put_byte-2.ensures)
