-- How the values of rows are spelled.
use Rattle.std.proofs.Common.{◌≡◌, ℕ, suc, ◌^◌, ◌<◌, IsAscii, decimal, codes, encode_utf8, Option, List, [], ◌∷◌, ◌++◌, refl, ap, ◌∙◌}
use Rattle.std.proofs.lemmas.Fmt.{IsAscii-decimal}
use Rattle.std.proofs.lemmas.List.Concat.{flat_map-append}
use Rattle.std.proofs.lemmas.Str.{encode_ascii}
use Rattle.form_page.specs.RowValues.{choice_text, later_text, list_text, one_of_text}
use Rattle.form_page.specs.Texts.{utf8}
use Rattle.form_page.proofs.FrontLemmas.{plain_before, plain_utf8}

pub utf8-append : (front behind : List ℕ) → utf8 (front ++ behind) ≡ utf8 front ++ utf8 behind
utf8-append front behind = flat_map-append encode_utf8 front behind

utf8_ascii : (text : List ℕ) → IsAscii text → utf8 text ≡ text
utf8_ascii [] ascii = refl
utf8_ascii (c ∷ text) ascii =
    ap (λ (l : List ℕ). l ++ utf8 text) (encode_ascii c (ascii 0)) ∙ ap (λ (l : List ℕ). c ∷ l) (utf8_ascii text (λ i. ascii (suc i)))

pub utf8_decimal : (n : ℕ) → n < 2 ^ 64 → utf8 (decimal n) ≡ decimal n
utf8_decimal n small = utf8_ascii (decimal n) (IsAscii-decimal n small)

-- ---- texts with others around them

pub utf8_one_of : (its : Option (List ℕ)) → utf8 (one_of_text its) ≡ codes "<" ++ utf8 (choice_text its) ++ codes ">"
utf8_one_of its =
    utf8-append (codes "<" ++ choice_text its) (codes ">")
    ∙ ap (λ (l : List ℕ). l ++ utf8 (codes ">")) (plain_before (codes "<") (choice_text its) refl)
    ∙ ap (λ (l : List ℕ). codes "<" ++ utf8 (choice_text its) ++ l) (plain_utf8 (codes ">") refl)

pub utf8_list : (choices rest : List (Option (List ℕ))) (its : Option (List ℕ)) → choices ≡ its ∷ rest → utf8 (list_text choices) ≡ utf8 (choice_text its) ++ utf8 (later_text rest)
utf8_list choices rest its e =
    ap (λ (l : List (Option (List ℕ))). utf8 (list_text l)) e ∙ utf8-append (choice_text its) (later_text rest)

pub utf8_later : (choices rest : List (Option (List ℕ))) (its : Option (List ℕ)) → choices ≡ its ∷ rest
    → utf8 (later_text choices) ≡ (codes ", " ++ utf8 (choice_text its)) ++ utf8 (later_text rest)
utf8_later choices rest its e =
    ap (λ (l : List (Option (List ℕ))). utf8 (later_text l)) e
    ∙ utf8-append (codes ", " ++ choice_text its) (later_text rest)
    ∙ ap (λ (l : List ℕ). l ++ utf8 (later_text rest)) (plain_before (codes ", ") (choice_text its) refl)
