-- Texts of values, as they are spelled.
use Rattle.std.proofs.Common.{◌≡◌, arith, ℕ, codes, Option, List, [], ◌∷◌, ◌++◌, map, sym, ap, ◌∙◌}
use Rattle.std.proofs.lemmas.List.Concat.{flat_map-append}
use Rattle.std.proofs.lemmas.Str.{encode_ascii}
use Rattle.audit_json.specs.declared.telling.Telling.{Telling}
use Rattle.audit_json.specs.declared.telling.Telling.TheVariants.{Lines, Objects}
use Rattle.form_page.specs.RowValues.{choice_text, later_text, list_text, one_of_text}
use Rattle.script_audit.specs.Told.{spelled, spelled_char}

-- characters that are spelled alike
less : (t : Telling) → spelled_char t 60 ≡ codes "<"
less Lines = encode_ascii 60 (omega arith)
less Objects = encode_ascii 60 (omega arith)

greater : (t : Telling) → spelled_char t 62 ≡ codes ">"
greater Lines = encode_ascii 62 (omega arith)
greater Objects = encode_ascii 62 (omega arith)

question : (t : Telling) → spelled_char t 63 ≡ codes "?"
question Lines = encode_ascii 63 (omega arith)
question Objects = encode_ascii 63 (omega arith)

comma : (t : Telling) → spelled_char t 44 ≡ codes ","
comma Lines = encode_ascii 44 (omega arith)
comma Objects = encode_ascii 44 (omega arith)

space : (t : Telling) → spelled_char t 32 ≡ codes " "
space Lines = encode_ascii 32 (omega arith)
space Objects = encode_ascii 32 (omega arith)

pub spelled-append : (t : Telling) (front behind : List ℕ) → spelled t (front ++ behind) ≡ spelled t front ++ spelled t behind
spelled-append t front behind = flat_map-append (spelled_char t) front behind

pub spelled_one_of : (t : Telling) (its : Option (List ℕ)) → codes "<" ++ spelled t (choice_text its) ++ codes ">" ≡ spelled t (one_of_text its)
spelled_one_of t its =
    let text = spelled t (choice_text its) in
    sym (
    spelled-append t (codes "<" ++ choice_text its) (codes ">") ∙ ap (λ (l : List ℕ). (l ++ text) ++ spelled t (codes ">")) (less t)
    ∙ ap (λ (l : List ℕ). (codes "<" ++ text) ++ (l ++ [])) (greater t)
    )

-- where there is no option
pub spelled_mark : (t : Telling) → codes "?" ≡ spelled t (codes "?")
spelled_mark t = sym (ap (λ (l : List ℕ). l ++ []) (question t))

behind_comma : (t : Telling) (text : List ℕ) → spelled t (codes ", " ++ text) ≡ codes ", " ++ spelled t text
behind_comma t text =
    ap (λ (l : List ℕ). l ++ (spelled_char t 32 ++ spelled t text)) (comma t) ∙ ap (λ (l : List ℕ). codes "," ++ (l ++ spelled t text)) (space t)

pub spelled_list : (t : Telling) (told : ℕ → Option (List ℕ)) (items after : List ℕ) (item : ℕ) → items ≡ item ∷ after
    → spelled t (list_text (map told items)) ≡ spelled t (choice_text (told item)) ++ spelled t (later_text (map told after))
spelled_list t told items after item e =
    ap (λ (l : List ℕ). spelled t (list_text (map told l))) e ∙ spelled-append t (choice_text (told item)) (later_text (map told after))

pub spelled_later : (t : Telling) (told : ℕ → Option (List ℕ)) (items after : List ℕ) (item : ℕ) → items ≡ item ∷ after
    → spelled t (later_text (map told items)) ≡ (codes ", " ++ spelled t (choice_text (told item))) ++ spelled t (later_text (map told after))
spelled_later t told items after item e =
    ap (λ (l : List ℕ). spelled t (later_text (map told l))) e ∙ spelled-append t (codes ", " ++ choice_text (told item)) (later_text (map told after))
    ∙ ap (λ (l : List ℕ). l ++ spelled t (later_text (map told after))) (behind_comma t (choice_text (told item)))
