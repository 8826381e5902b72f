-- Cutting a script into lines, piece by piece.
use Rattle.std.proofs.Common.{append-nil, ◌≡◌, ◌≢◌, ◌↔◌, ℕ, ◌+◌, Bool, true, false, MatchOption, List, [], ◌∷◌, ◌++◌, length, drop, Option, Some, None, map, refl, sym, ap, subst, ◌∙◌, arith, inl, inr, append_assoc}
use Rattle.std.proofs.lemmas.Bool.{cond-true, cond-false, cases_Bool, eqb-true, eqb-false, ne_eqb}
use Rattle.std.proofs.lemmas.List.{drop_all}
use Rattle.std.specs.List.{AllByRecursion, position, before_first, concat}
use Rattle.browser_rules.specs.Script.{cut_lines}
use Rattle.hii_commands.specs.code.Lines.{ends_line, whole_lines, rest_of}
use Rattle.hii_commands.specs.laws.Lines.{AreLines, cut_pieces, joined, IsWithinLine}
use Rattle.hii_commands.proofs.CutLemmas.{Lacks-before_first, piece_whole, piece_at}

-- the byte in front of the first line, or of what stands after the last LF
abbrev in_front : ℕ → List (List ℕ) × List ℕ → List (List ℕ) × List ℕ
in_front b ([], rest) = ([], b ∷ rest)
in_front b (line ∷ lines, rest) = ((b ∷ line) ∷ lines, rest)

in_front-rest : (b : ℕ) (c : List (List ℕ) × List ℕ) (p : List ℕ) → in_front b (c.0, c.1 ++ p) ≡ ((in_front b c).0, (in_front b c).1 ++ p)
in_front-rest b ([], r) p = refl
in_front-rest b (l ∷ ls, r) p = refl

in_front-line : (b : ℕ) (c : List (List ℕ) × List ℕ) (l : List ℕ) → in_front b (c.0 ++ (c.1 ++ l) ∷ [], []) ≡ ((in_front b c).0 ++ ((in_front b c).1 ++ l) ∷ [], [])
in_front-line b ([], r) l = refl
in_front-line b (x ∷ xs, r) l = refl

within_step : (b : ℕ) → b ≢ 10 → ends_line b ≡ false
within_step b h = ne_eqb b 10 h

cut_within : (p : List ℕ) → IsWithinLine p → cut_lines p ≡ ([], p)
cut_within [] h = refl
cut_within (b ∷ p) h = cond-false (ends_line b) _ _ (within_step b h.0) ∙ ap (in_front b) (cut_within p h.1)

cut_ended : (l : List ℕ) → IsWithinLine l → cut_lines (l ++ 10 ∷ []) ≡ (l ∷ [], [])
cut_ended [] h = refl
cut_ended (b ∷ l) h = cond-false (ends_line b) _ _ (within_step b h.0) ∙ ap (in_front b) (cut_ended l h.1)

-- bytes of one line go on with what stands after the last LF
pub cut-within : (bytes p : List ℕ) → IsWithinLine p → cut_lines (bytes ++ p) ≡ (whole_lines bytes, rest_of bytes ++ p)
cut-within [] p h = cut_within p h
cut-within (b ∷ bytes) p h = elim (cases_Bool (ends_line b)) [
  | inl e ↦ cond-true (ends_line b) _ _ e ∙ ap (λ (c : List (List ℕ) × List ℕ). ([] ∷ c.0, c.1)) (cut-within bytes p h) ∙ sym (ap (λ (c : List (List ℕ) × List ℕ). (c.0, c.1 ++ p)) (cond-true (ends_line b) _ _ e))
  | inr e ↦ cond-false (ends_line b) _ _ e ∙ ap (in_front b) (cut-within bytes p h) ∙ in_front-rest b (cut_lines bytes) p ∙ sym (ap (λ (c : List (List ℕ) × List ℕ). (c.0, c.1 ++ p)) (cond-false (ends_line b) _ _ e))
]

-- an LF ends the line
pub cut-ended : (bytes l : List ℕ) → IsWithinLine l → cut_lines (bytes ++ (l ++ 10 ∷ [])) ≡ (whole_lines bytes ++ (rest_of bytes ++ l) ∷ [], [])
cut-ended [] l h = cut_ended l h
cut-ended (b ∷ bytes) l h = elim (cases_Bool (ends_line b)) [
  | inl e ↦ cond-true (ends_line b) _ _ e ∙ ap (λ (c : List (List ℕ) × List ℕ). ([] ∷ c.0, c.1)) (cut-ended bytes l h) ∙ sym (ap (λ (c : List (List ℕ) × List ℕ). (c.0 ++ (c.1 ++ l) ∷ [], [])) (cond-true (ends_line b) _ _ e))
  | inr e ↦ cond-false (ends_line b) _ _ e ∙ ap (in_front b) (cut-ended bytes l h) ∙ in_front-line b (cut_lines bytes) l ∙ sym (ap (λ (c : List (List ℕ) × List ℕ). (c.0 ++ (c.1 ++ l) ∷ [], [])) (cond-false (ends_line b) _ _ e))
]

-- ---- the first line of a piece

pub IsWithinLine-before_first : (piece : List ℕ) → IsWithinLine (before_first ends_line piece)
IsWithinLine-before_first piece = Lacks-before_first 10 piece

-- ---- two pieces, one after the other

joined-none : (c : List (List ℕ) × List ℕ) → joined ([], []) c ≡ c
joined-none ([], r) = refl
joined-none (l ∷ ls, r) = refl

joined-in_front : (b : ℕ) (c d : List (List ℕ) × List ℕ) → in_front b (joined c d) ≡ joined (in_front b c) d
joined-in_front b ([], r) ([], s) = refl
joined-in_front b ([], r) (m ∷ ms, s) = refl
joined-in_front b (l ∷ ls, r) ([], s) = refl
joined-in_front b (l ∷ ls, r) (m ∷ ms, s) = refl

joined-ended : (c d : List (List ℕ) × List ℕ) → ([] ∷ (joined c d).0, (joined c d).1) ≡ joined ([] ∷ c.0, c.1) d
joined-ended (ls, r) ([], s) = refl
joined-ended (ls, r) (m ∷ ms, s) = refl

pub cut_lines-append : (a b : List ℕ) → cut_lines (a ++ b) ≡ joined (cut_lines a) (cut_lines b)
cut_lines-append [] b = sym (joined-none (cut_lines b))
cut_lines-append (x ∷ a) b = elim (cases_Bool (ends_line x)) [
  | inl e ↦ cond-true (ends_line x) _ _ e ∙ ap (λ (c : List (List ℕ) × List ℕ). ([] ∷ c.0, c.1)) (cut_lines-append a b) ∙ joined-ended (cut_lines a) (cut_lines b) ∙ sym (ap (λ c. joined c (cut_lines b)) (cond-true (ends_line x) _ _ e))
  | inr e ↦ cond-false (ends_line x) _ _ e ∙ ap (in_front x) (cut_lines-append a b) ∙ joined-in_front x (cut_lines a) (cut_lines b) ∙ sym (ap (λ c. joined c (cut_lines b)) (cond-false (ends_line x) _ _ e))
]

joined-front : (c d : List (List ℕ) × List ℕ) → (later : List (List ℕ)) × ((joined c d).0 ≡ c.0 ++ later)
joined-front (ls, r) ([], s) = ([], sym (append-nil ls))
joined-front (ls, r) (m ∷ ms, s) = ((r ++ m) ∷ ms, refl)

-- the lines of a front are the first lines
pub whole_lines-front : (a b : List ℕ) → (later : List (List ℕ)) × (whole_lines (a ++ b) ≡ whole_lines a ++ later)
whole_lines-front a b = let f = joined-front (cut_lines a) (cut_lines b) in (f.0, ap (λ (c : List (List ℕ) × List ℕ). c.0) (cut_lines-append a b) ∙ f.1)

-- ---- what a fed piece says

-- the clause of `feed`, at the position of the first LF
abbrev pub IsFed : List ℕ → ℕ → Bool → Option ℕ → Type 0
IsFed piece taken complete o = MatchOption o ((taken ≡ length piece) × (complete ≡ false)) (λ i. (taken ≡ i + 1) × (complete ≡ true))

fed_line_at : (piece : List ℕ) (taken : ℕ) (complete : Bool) (o : Option ℕ) → position ends_line piece ≡ o → IsFed piece taken complete o → complete ≡ true
    → piece ≡ (before_first ends_line piece ++ 10 ∷ []) ++ drop taken piece
fed_line_at piece taken complete None e h is_true = let bad : false ≡ true = sym h.1 ∙ is_true in (cc)
fed_line_at piece taken complete (Some i) e h is_true = (piece_at 10 piece i e).2 ∙ ap (λ k. (before_first ends_line piece ++ 10 ∷ []) ++ drop k piece) (sym h.0)

fed_rest_at : (piece : List ℕ) (taken : ℕ) (complete : Bool) (o : Option ℕ) → position ends_line piece ≡ o → IsFed piece taken complete o → complete ≡ false
    → (before_first ends_line piece ≡ piece) × (drop taken piece ≡ [])
fed_rest_at piece taken complete None e h is_false = (piece_whole 10 piece e, ap (λ k. drop k piece) h.0 ∙ drop_all (length piece) piece (omega arith))
fed_rest_at piece taken complete (Some i) e h is_false = let bad : true ≡ false = sym h.1 ∙ is_false in (cc)

-- the piece has a line to its LF
pub fed_line : (piece : List ℕ) (taken : ℕ) (complete : Bool) → IsFed piece taken complete (position ends_line piece) → complete ≡ true
    → piece ≡ (before_first ends_line piece ++ 10 ∷ []) ++ drop taken piece
fed_line piece taken complete h is_true = fed_line_at piece taken complete (position ends_line piece) refl h is_true

-- the piece ends no line
pub fed_rest : (piece : List ℕ) (taken : ℕ) (complete : Bool) → IsFed piece taken complete (position ends_line piece) → complete ≡ false
    → (before_first ends_line piece ≡ piece) × (drop taken piece ≡ [])
fed_rest piece taken complete h is_false = fed_rest_at piece taken complete (position ends_line piece) refl h is_false

-- ---- any pieces

-- which lines come does not depend on the pieces
pub cut_pieces-concat : (pieces : List (List ℕ)) → cut_pieces pieces ≡ cut_lines (concat pieces)
cut_pieces-concat [] = refl
cut_pieces-concat (p ∷ ps) = ap (joined (cut_lines p)) (cut_pieces-concat ps) ∙ sym (cut_lines-append p (concat ps))

-- ---- the lines as those before an LF

-- a line with its LF in front of the rest
cut-front : (line tail : List ℕ) → IsWithinLine line → cut_lines (line ++ 10 ∷ tail) ≡ (line ∷ (cut_lines tail).0, (cut_lines tail).1)
cut-front [] tail h = refl
cut-front (b ∷ line) tail h = cond-false (ends_line b) _ _ (within_step b h.0) ∙ ap (in_front b) (cut-front line tail h.1)

cut-joined : (lines : List (List ℕ)) (rest : List ℕ) → AllByRecursion IsWithinLine lines → IsWithinLine rest
    → cut_lines (concat (map (λ line. line ++ 10 ∷ []) lines) ++ rest) ≡ (lines, rest)
cut-joined [] rest each last = cut_within rest last
cut-joined (line ∷ lines) rest each last =
    let tail = concat (map (λ line. line ++ 10 ∷ []) lines) in
    ap cut_lines (append_assoc (line ++ 10 ∷ []) tail rest ∙ append_assoc line (10 ∷ []) (tail ++ rest))
    ∙ cut-front line (tail ++ rest) each.0
    ∙ ap (λ (c : List (List ℕ) × List ℕ). (line ∷ c.0, c.1)) (cut-joined lines rest each.1 last)

AreLines-in_front : (b : ℕ) (bytes : List ℕ) (c : List (List ℕ) × List ℕ) → b ≢ 10 → AreLines bytes c.0 c.1 → AreLines (b ∷ bytes) (in_front b c).0 (in_front b c).1
AreLines-in_front b bytes ([], rest) other a = record { each = tt; last = (other, a.last); whole = ap (λ l. b ∷ l) a.whole }
AreLines-in_front b bytes (line ∷ lines, rest) other a =
    record { each = ((other, a.each.0), a.each.1); last = a.last; whole = ap (λ l. b ∷ l) a.whole }

cut-AreLines : (bytes : List ℕ) → AreLines bytes (cut_lines bytes).0 (cut_lines bytes).1
cut-AreLines [] = record { each = tt; last = tt; whole = refl }
cut-AreLines (b ∷ bytes) = elim (cases_Bool (ends_line b)) [
  | inl e ↦
      let a = cut-AreLines bytes in
      let here : AreLines (b ∷ bytes) ([] ∷ (cut_lines bytes).0) (cut_lines bytes).1 =
      record { each = (tt, a.each); last = a.last; whole = ap (λ x. x ∷ bytes) (eqb-true b 10 e) ∙ ap (λ l. 10 ∷ l) a.whole } in
      subst (λ (c : List (List ℕ) × List ℕ). AreLines (b ∷ bytes) c.0 c.1) (sym (cond-true (ends_line b) _ _ e)) here
  | inr e ↦
      subst (λ (c : List (List ℕ) × List ℕ). AreLines (b ∷ bytes) c.0 c.1) (sym (cond-false (ends_line b) _ _ e))
      (AreLines-in_front b bytes (cut_lines bytes) (eqb-false b 10 e) (cut-AreLines bytes))
]

pub cut_lines-are : (bytes : List ℕ) (lines : List (List ℕ)) (rest : List ℕ) → (cut_lines bytes ≡ (lines, rest)) ↔ AreLines bytes lines rest
cut_lines-are bytes lines rest = (
  (λ e. subst (λ (c : List (List ℕ) × List ℕ). AreLines bytes c.0 c.1) e (cut-AreLines bytes)),
  (λ a. ap cut_lines a.whole ∙ cut-joined lines rest a.each a.last),
)
