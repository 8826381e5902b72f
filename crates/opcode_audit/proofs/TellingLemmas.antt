-- The lines of opcodes tell the bytes of a forms package.
use Rattle.std.proofs.Common.{◌≡◌, ℕ, zero, suc, ◌+◌, ◌*◌, ◌≤◌, false, List, [], ◌∷◌, ◌++◌, drop, length, take, replicate, refl, ap, sym, ◌∙◌, append_assoc, arith, inl, inr}
use Rattle.std.specs.Prelude.{codes, decimal}
use Rattle.browser_rules.specs.Opcodes.{number}
use Rattle.audit_json.specs.Objects.{member, member_key, number_member, object_kind, quoted}
use Rattle.audit_json.specs.declared.telling.Telling.{Telling}
use Rattle.audit_json.specs.declared.telling.Telling.TheVariants.{Lines, Objects}
use Rattle.std.specs.List.{concat}
use Rattle.std.proofs.lemmas.Bool.{cases_Bool}
use Rattle.std.proofs.lemmas.List.{take-append-drop}
use Rattle.browser_rules.specs.Forest.{stated_length}
use Rattle.browser_rules.specs.Packages.{Package}
use Rattle.browser_rules.specs.Strings.{Spoken}
use Rattle.hii_bytes.specs.Texts.{place_text}
use Rattle.audit_text.specs.Texts.{digits_of}
use Rattle.opcode_audit.specs.Facts.{opcode_facts}
use Rattle.opcode_audit.specs.Lines.{Setting, fields_member, line, lines, opcode_object, opcodes_text, told}
use Rattle.opcode_audit.specs.Words.{facts_json, name_or_number, opcode_words}
use Rattle.opcode_audit.specs.Walk.{depth_at, fits, opcodes_from, opcodes_in, scopes_behind}
use Rattle.opcode_audit.specs.laws.Telling.{AreLinesOf, IsLineOf, TellsOpcodes}
use Rattle.opcode_audit.proofs.LineLemmas.{from_first, none_from, shorter}
use Rattle.opcode_audit.proofs.TextLemmas.{IsInLine, both, decimal_number, hex_bytes, members, opcode_named, place, spaces, within_quotes, words}

-- ---- the bytes

nothing_left : (bytes : List ℕ) → length bytes ≤ 0 → fits bytes ≡ false
nothing_left [] less = refl
nothing_left (byte ∷ bytes) less = absurd (none less)
  where
    none : suc (length bytes) ≤ 0 → ⊥
    none h = omega (arith, h)

pub split_all : (fuel : ℕ) (bytes : List ℕ) → length bytes ≤ fuel → (rest : List ℕ) × (concat (opcodes_from fuel bytes) ++ rest ≡ bytes) × (fits rest ≡ false)
split_all zero bytes enough =
    let cut = nothing_left bytes enough in (bytes, ap (λ (ops : List (List ℕ)). concat ops ++ bytes) (none_from zero bytes cut), cut)
split_all (suc fuel) bytes enough = elim (cases_Bool (fits bytes)) [
  | inr cut ↦ (bytes, ap (λ (ops : List (List ℕ)). concat ops ++ bytes) (none_from (suc fuel) bytes cut), cut)
  | inl fit ↦
      let size = stated_length bytes in
      let more = split_all fuel (drop size bytes) (shorter fuel bytes enough fit) in
      let later = concat (opcodes_from fuel (drop size bytes)) in (
        more.0,
        ap (λ (ops : List (List ℕ)). concat ops ++ more.0) (from_first fuel bytes fit) ∙ append_assoc (take size bytes) later more.0
            ∙ ap (λ (l : List ℕ). take size bytes ++ l) more.1 ∙ take-append-drop size bytes,
        more.2,
      )
]

-- ---- the lines

abbrev pub lines_of : Setting → ℕ → ℕ → List (List ℕ) → List (List ℕ)
lines_of s at scopes [] = []
lines_of s at scopes (op ∷ ops) = told s at (depth_at scopes op) op ∷ lines_of s (at + length op) (scopes_behind scopes op) ops

one_text : (s : Setting) (at scopes : ℕ) (ops : List (List ℕ)) → lines s at scopes ops ≡ concat (lines_of s at scopes ops)
one_text s at scopes [] = refl
one_text s at scopes (op ∷ ops) = ap (λ (l : List ℕ). told s at (depth_at scopes op) op ++ l) (one_text s (at + length op) (scopes_behind scopes op) ops)

-- what stands between the place and the bytes
abbrev between : Setting → ℕ → ℕ → List ℕ → List ℕ
between s at depth op = place_text (s.base + at) ++ codes " " ++ replicate (2 * depth) 32 ++ opcode_words s.spoken op

joined : (a b c d e : List ℕ) → a ++ b ++ c ++ d ++ e ≡ a ++ (b ++ c ++ d ++ e)
joined a b c d e = ap (λ l. l ++ d ++ e) (append_assoc a b c) ∙ ap (λ l. l ++ e) (append_assoc a (b ++ c) d) ∙ append_assoc a (b ++ c ++ d) e

one_line : (s : Setting) (at depth : ℕ) (op : List ℕ) → IsLineOf Lines at op (line s at depth op)
one_line s at depth op =
    let front : List ℕ = place_text at ++ codes " " in
    let second : List ℕ = place_text (s.base + at) in
    let indent : List ℕ = replicate (2 * depth) 32 in
    let said : List ℕ = opcode_words s.spoken op in
    record {
      between = between s at depth op;
      told = ap (λ (l : List ℕ). l ++ codes " ; " ++ digits_of false op ++ codes "\n") (joined front second (codes " ") indent said)
          ∙ ap (λ (l : List ℕ). l ++ codes "\n") (append_assoc (front ++ between s at depth op) (codes " ; ") (digits_of false op));
      whole = both (front ++ between s at depth op) (codes " ; " ++ digits_of false op)
          (both front (between s at depth op) (both (place_text at) (codes " ") (place at) refl)
          (both (second ++ codes " " ++ indent) said (both (second ++ codes " ") indent (both second (codes " ") (place (s.base + at)) refl) (spaces (2 * depth))) (words s.spoken op)))
          (both (codes " ; ") (digits_of false op) refl (hex_bytes false op));
    }

-- the members between
abbrev byte_and_depth : Setting → ℕ → ℕ → List ℕ
byte_and_depth s at depth = number_member (codes "byte") (s.base + at) ++ number_member (codes "depth") depth

abbrev name_and_fields : Setting → List ℕ → List ℕ
name_and_fields s op = member (codes "name") (quoted (name_or_number (number op))) ++ fields_member s.spoken op

-- a member whose key and value are in one line
one_member : (key value : List ℕ) → IsInLine key → IsInLine value → IsInLine (member key value)
one_member key value e f = both (member_key key) value (both (codes ",\"" ++ key) (codes "\":") (both (codes ",\"") key refl e) refl) f

-- pieces of an object, joined in another order
inside_joined : (a b d n f : List ℕ) → a ++ b ++ d ++ n ++ f ≡ a ++ (b ++ d ++ (n ++ f))
inside_joined a b d n f =
    append_assoc (a ++ b ++ d) n f ∙ ap (λ (l : List ℕ). l ++ (n ++ f)) (append_assoc a b d) ∙ append_assoc a (b ++ d) (n ++ f)

object_joined : (k a i l e : List ℕ) → k ++ (a ++ i ++ l) ++ e ≡ k ++ a ++ i ++ (l ++ e)
object_joined k a i l e =
    ap (λ (t : List ℕ). t ++ e) (sym (append_assoc k (a ++ i) l) ∙ ap (λ (t : List ℕ). t ++ l) (sym (append_assoc k a i))) ∙ append_assoc (k ++ a ++ i) l e

one_object : (s : Setting) (at depth : ℕ) (op : List ℕ) → IsLineOf Objects at op (opcode_object s at depth op)
one_object s at depth op =
    let inside = byte_and_depth s at depth ++ name_and_fields s op in
    let fields = facts_json s.spoken (opcode_facts op) in
    let name = quoted (name_or_number (number op)) in
    let front : List ℕ = codes "{\"kind\":\"opcode\",\"at\":" ++ decimal at in
    let last : List ℕ = codes ",\"bytes\":\"" ++ digits_of false op ++ codes "\"}" in
    record {
      between = inside;
      told = ap (λ (l : List ℕ). object_kind (codes "opcode") ++ (l ++ member (codes "bytes") (quoted (digits_of false op))) ++ codes "}\n")
          (inside_joined (number_member (codes "at") at) (number_member (codes "byte") (s.base + at)) (number_member (codes "depth") depth) (member (codes "name") name) (fields_member s.spoken op))
          ∙ object_joined (object_kind (codes "opcode")) (number_member (codes "at") at) inside (member (codes "bytes") (quoted (digits_of false op))) (codes "}\n")
          ∙ ap (λ (l : List ℕ). front ++ inside ++ (codes ",\"bytes\":\"" ++ l)) (append_assoc (digits_of false op) (codes "\"") (codes "}\n") ∙ sym (append_assoc (digits_of false op) (codes "\"}") (codes "\n")))
          ∙ sym (append_assoc (front ++ inside) last (codes "\n"));
      whole = both (front ++ inside) last
          (both front inside (both (codes "{\"kind\":\"opcode\",\"at\":") (decimal at) refl (decimal_number at))
          (both (byte_and_depth s at depth) (name_and_fields s op)
          (both (number_member (codes "byte") (s.base + at)) (number_member (codes "depth") depth) (one_member (codes "byte") (decimal (s.base + at)) refl (decimal_number (s.base + at)))
          (one_member (codes "depth") (decimal depth) refl (decimal_number depth)))
          (both (member (codes "name") name) (fields_member s.spoken op) (one_member (codes "name") name refl (within_quotes (name_or_number (number op)) (opcode_named (number op))))
          (one_member (codes "fields") (codes "{" ++ fields ++ codes "}") refl (both (codes "{" ++ fields) (codes "}") (both (codes "{") fields refl (members s.spoken op)) refl)))))
          (both (codes ",\"bytes\":\"" ++ digits_of false op) (codes "\"}") (both (codes ",\"bytes\":\"") (digits_of false op) refl (hex_bytes false op)) refl);
    }

one_told : (telling : Telling) (s : Setting) (at depth : ℕ) (op : List ℕ) → s.telling ≡ telling → IsLineOf telling at op (told s at depth op)
one_told Lines s at depth op e = rw e (one_line s at depth op)
one_told Objects s at depth op e = rw e (one_object s at depth op)

all_lines : (s : Setting) (at scopes : ℕ) (ops : List (List ℕ)) → AreLinesOf s.telling at ops (lines_of s at scopes ops)
all_lines s at scopes [] = tt
all_lines s at scopes (op ∷ ops) = (one_told s.telling s at (depth_at scopes op) op refl, all_lines s (at + length op) (scopes_behind scopes op) ops)

pub tells : (telling : Telling) (spoken : List Spoken) (start : ℕ) (p : Package) → TellsOpcodes telling p.bytes (opcodes_text telling spoken start p)
tells telling spoken start p =
    let bytes = drop 4 p.bytes in
    let s : Setting = record { telling = telling; spoken = spoken; base = start + p.place } in
    let all = split_all (length bytes) bytes (omega arith) in
    record {
      ops = opcodes_in bytes;
      rest = all.0;
      whole = all.1;
      ended = all.2;
      lines = lines_of s 4 0 (opcodes_in bytes);
      each = all_lines s 4 0 (opcodes_in bytes);
      text_is = one_text s 4 0 (opcodes_in bytes);
    }
