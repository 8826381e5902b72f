-- Elements of a row (HTML Living Standard, 4.4 Grouping content and 4.5 Text-level semantics; their classes are an own rule).
use Rattle.std.specs.Prelude.{ℕ, Bool, true, false, nat_lt, if◌then◌else◌, List, [], ◌∷◌, ◌++◌, codes}
use Rattle.std.specs.List.{flat_map}
use Rattle.audit_html.specs.Html.{html_char}

-- ---- texts that stand in lines, too

-- a byte of such a text, which is UTF-8: a character of ASCII as it stands in a page, and another byte as it is
abbrev pub html_byte : ℕ → List ℕ
html_byte b = if nat_lt b 0x80 then html_char b else b ∷ []

abbrev pub html_line : List ℕ → List ℕ
html_line line = flat_map html_byte line

-- one whose direction does not reach what stands around it
abbrev pub isolated_line : List ℕ → List ℕ
isolated_line line = codes "<bdi>" ++ html_line line ++ codes "</bdi>"

-- ---- paragraphs

abbrev pub small : List ℕ → List ℕ
small its = codes "<p class=\"small\">" ++ its ++ codes "</p>"

abbrev pub dim : List ℕ → List ℕ
dim its = codes "<p class=\"small dim\">" ++ its ++ codes "</p>"

-- ---- items one behind the other

-- with a text before each: one before the first, and another before later ones
abbrev pub run : List ℕ → List ℕ → Bool → List (List ℕ) → List ℕ
run start between is_first [] = []
run start between is_first (item ∷ items) =
    (if is_first then start else between) ++ item ++ run start between false items

abbrev pub has_none : List (List ℕ) → Bool
has_none [] = true
has_none (item ∷ items) = false

-- and a text behind the last one, where there is one
abbrev pub end_of : List ℕ → Bool → List ℕ
end_of end is_none = if is_none then [] else end

abbrev pub listed : List ℕ → List ℕ → List ℕ → List (List ℕ) → List ℕ
listed start between end items = run start between true items ++ end_of end (has_none items)
