-- The bytes of a script, one after the other.
use Rattle.std.proofs.Common.{◌≡◌, ◌==◌, ℕ, ◌+◌, ◌≤◌, ◌<◌, List, [], ◌∷◌, ◌++◌, length, drop, take, slice_index, Option, Some, None, refl, sym, ap, subst, ◌∙◌, arith, append_assoc}
use Rattle.std.specs.Prelude.{if◌then◌else◌}
use Rattle.std.specs.List.{position, before_first}
use Rattle.std.proofs.lemmas.Bool.{cond-false, ne_eqb}
use Rattle.browser_rules.specs.Script as script
use Rattle.browser_rules.specs.Script.{cut_lines, in_front}
use Rattle.hii_commands.specs.code.Reading as reading
use Rattle.hii_commands.specs.laws.Lines.{Lacks}
use Rattle.hii_commands.proofs.CutLemmas.{Lacks-before_first, piece_whole, piece_at}
use Rattle.script_audit.specs.Script.{all_lines}

-- bytes are the first of them and those behind it
pub split_front : (rest behind : List ℕ) → behind ≡ drop 1 rest → 1 ≤ length rest → rest ≡ slice_index rest 0 ∷ behind
split_front [] behind e some = absurd (none some)
  where
    none : 1 ≤ 0 → ⊥
    none h = omega arith
split_front (byte ∷ rest) behind e some = ap (λ (l : List ℕ). byte ∷ l) (sym e)

-- both rules cut a word alike
pub same_cut : (text : List ℕ) → script.cut_word text ≡ reading.cut_word text
same_cut [] = refl
same_cut (b ∷ text) = ap (λ (p : List ℕ × Option (List ℕ)). if b == 32 then ([], Some text) else (b ∷ p.0, p.1)) (same_cut text)

-- a line ends at the first LF
cut_first : (line rest : List ℕ) → Lacks 10 line → cut_lines (line ++ 10 ∷ rest) ≡ (line ∷ (cut_lines rest).0, (cut_lines rest).1)
cut_first [] rest h = refl
cut_first (b ∷ line) rest h = cond-false (b == 10) _ _ (ne_eqb b 10 h.0) ∙ ap (in_front b) (cut_first line rest h.1)

cut_alone : (line : List ℕ) → Lacks 10 line → cut_lines line ≡ ([], line)
cut_alone [] h = refl
cut_alone (b ∷ line) h = cond-false (b == 10) _ _ (ne_eqb b 10 h.0) ∙ ap (in_front b) (cut_alone line h.1)

-- all lines of what was cut so
abbrev lines_in : List (List ℕ) × List ℕ → List (List ℕ)
lines_in cut = cut.0 ++ cut.1 ∷ []

pub lines_at : (text : List ℕ) (end : ℕ) → position (λ byte. byte == 10) text ≡ Some end → all_lines text ≡ take end text ∷ all_lines (drop (end + 1) text)
lines_at text end e =
    let p = piece_at 10 text end e in
    let before = before_first (λ byte. byte == 10) text in
    let rest = drop (end + 1) text in
    ap lines_in (ap cut_lines (p.2 ∙ append_assoc before (10 ∷ []) rest) ∙ cut_first before rest (Lacks-before_first 10 text)) ∙ ap (λ (line : List ℕ). line ∷ all_lines rest) p.1

pub lines_whole : (text : List ℕ) → position (λ byte. byte == 10) text ≡ None → all_lines text ≡ text ∷ []
lines_whole text e = ap lines_in (cut_alone text (subst (Lacks 10) (piece_whole 10 text e) (Lacks-before_first 10 text)))

-- where the first LF stands
pub within : (text : List ℕ) (end : ℕ) → position (λ byte. byte == 10) text ≡ Some end → end < length text
within text end e = (piece_at 10 text end e).0
