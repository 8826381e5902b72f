-- Texts and links in a page (HTML Living Standard, 13.1.4 Character references and 4.5.24 The bdi element; that what is unsafe in a
-- line is written as its number is an own rule).
use Rattle.std.specs.Prelude.{ℕ, ◌==◌, if◌then◌else◌, List, [], ◌∷◌, ◌++◌, codes}
use Rattle.std.specs.List.{flat_map}
use Rattle.audit_text.specs.Texts.{hex_text, safe_char}

-- a character that could begin a tag or a reference or end an attribute is a reference to it, another one stands as in a line
abbrev pub html_char : ℕ → List ℕ
html_char c =
    if c == 38 then codes "&amp;"
    else if c == 60 then codes "&lt;"
    else if c == 62 then codes "&gt;"
    else if c == 34 then codes "&quot;"
    else if c == 39 then codes "&#x27;"
    else safe_char c

abbrev pub html_text : List ℕ → List ℕ
html_text text = flat_map html_char text

-- a text whose direction does not reach what stands around it
abbrev pub isolated : List ℕ → List ℕ
isolated text = codes "<bdi>" ++ html_text text ++ codes "</bdi>"

-- the title of a form, or words that it has none
abbrev pub title_text : List ℕ → List ℕ
title_text [] = isolated (codes "(no title)")
title_text (c ∷ title) = isolated (c ∷ title)

-- the start of a link to the element of this page that a prefix and a place in hex digits name
abbrev pub link_to : List ℕ → ℕ → List ℕ
link_to prefix place = codes "<a href=\"#" ++ prefix ++ hex_text place ++ codes "\">"
