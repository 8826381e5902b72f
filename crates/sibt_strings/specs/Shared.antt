-- Which string ids have a text in two string packages (own rule).
use Rattle.std.specs.Prelude.{ℕ, ◌&&◌, Bool, List, is_some}
use Rattle.std.specs.List.{count_by, range_with_len}
use Rattle.browser_rules.specs.Strings.{Spoken, text_at}

abbrev pub has_text : Spoken → ℕ → Bool
has_text s id = is_some (text_at s.texts id)

abbrev pub is_in_both : Spoken → Spoken → ℕ → Bool
is_in_both one other id = has_text one id && has_text other id

-- the numbers of 16 bits but 0
unfoldable pub every_id : List ℕ
every_id = range_with_len 1 65535

abbrev pub texts_in_both : Spoken → Spoken → ℕ
texts_in_both one other = count_by (is_in_both one other) every_id
