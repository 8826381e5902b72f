-- String ids are gathered field by field.
use Rattle.std.proofs.Common.{◌≡◌, ℕ, ◌+◌, ◌<◌, Option, None, Some, List, [], ◌++◌, length, get_or, drop, map, refl, sym, ap, ◌∙◌, append_assoc}
use Rattle.std.specs.List.{cons_option, filter_map}
use Rattle.std.proofs.lemmas.List.{at_drop_more}
use Rattle.opcode_audit.specs.Facts.{id_in}
use Rattle.opcode_audit.specs.code.Columns.{fact_of, value_of}
use Rattle.opcode_audit.specs.declared.facts.Fact.{Fact}

-- those of some fields
abbrev pub ids_of : List Fact → List ℕ
ids_of items = filter_map (λ f. id_in f.value) (map fact_of items)

in_front : (o : Option ℕ) (ids : List ℕ) → cons_option o [] ++ ids ≡ cons_option o ids
in_front None ids = refl
in_front (Some id) ids = refl

-- one more field
pub ids_more : (items : List Fact) (i : ℕ) (d item : Fact) (ids new all : List ℕ) → i < length items → item ≡ get_or items i d → ids ++ ids_of (drop i items) ≡ all
    → new ≡ ids ++ cons_option (id_in (value_of item.value)) [] → new ++ ids_of (drop (i + 1) items) ≡ all
ids_more items i d item ids new all lt is met more =
    let behind = ids_of (drop (i + 1) items) in
    let here = at_drop_more ids_of items i d lt ∙ ap (λ (f : Fact). cons_option (id_in (value_of f.value)) behind) (sym is) in
    ap (λ (l : List ℕ). l ++ behind) more ∙ append_assoc ids (cons_option (id_in (value_of item.value)) []) behind
    ∙ ap (λ (l : List ℕ). ids ++ l) (in_front (id_in (value_of item.value)) behind ∙ sym here) ∙ met
