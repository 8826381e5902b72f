-- The walk from opcode to opcode, and places of which the lowest bits are kept.
use Rattle.std.proofs.Common.{◌≡◌, ◌==◌, ℕ, suc, zero, ◌+◌, ◌≤◌, Bool, true, false, List, [], ◌∷◌, ◌++◌, length, take, drop, refl, sym, ap, subst, ◌∙◌, arith, inl, inr}
use Rattle.std.specs.Prelude.{◌&&◌}
use Rattle.std.proofs.lemmas.Bool.{cases_Bool, cond-true, cond-false, false≢true, leb-true}
use Rattle.std.proofs.lemmas.List.{length-drop, length-take}
use Rattle.browser_rules.specs.Forest.{END, stated_length}
use Rattle.browser_rules.specs.Opcodes.{has_scope, number}
use Rattle.hii_bytes.specs.Watching.{Pen, Writes}
use Rattle.hii_bytes.specs.code.Writing.{Stands}
use Rattle.hii_bytes.proofs.WritingLemmas.{Stands-all, Stands-start, past_piece}
use Rattle.opcode_audit.specs.Lines.{Setting, lines, told}
use Rattle.opcode_audit.specs.Walk.{depth_at, fits, opcodes_from, opcodes_in, scopes_behind}

-- ---- the walk

-- The lines of the opcodes before those that are left are written.
pub record Walks (old new : Pen) (text : List ℕ) (s : Setting) (place scopes : ℕ) (rest : List ℕ) : Type 0 where
  pub fuel : ℕ
  pub enough : length rest ≤ fuel
  pub stands : Stands old new text (lines s place scopes (opcodes_from fuel rest))

and_left : (a b : Bool) → a && b ≡ true → a ≡ true
and_left true b e = refl
and_left false b e = absurd (false≢true e)

and_right : (a b : Bool) → a && b ≡ true → b ≡ true
and_right true b e = e
and_right false b e = absurd (false≢true e)

-- one more opcode
pub first_of : (fuel : ℕ) (rest : List ℕ) → length rest ≤ fuel → fits rest ≡ true → (less : ℕ) × (fuel ≡ suc less)
first_of zero rest enough fit = absurd (none rest enough fit)
  where
    none : (rest : List ℕ) → length rest ≤ 0 → fits rest ≡ true → ⊥
    none [] enough fit = false≢true fit
    none (byte ∷ rest) enough fit = omega (arith, enough)
first_of (suc less) rest enough fit = (less, refl)

pub from_first : (less : ℕ) (rest : List ℕ) → fits rest ≡ true → opcodes_from (suc less) rest ≡ take (stated_length rest) rest ∷ opcodes_from less (drop (stated_length rest) rest)
unfolding opcodes_from
from_first less rest fit = cond-true (fits rest) _ _ fit

pub none_from : (fuel : ℕ) (rest : List ℕ) → fits rest ≡ false → opcodes_from fuel rest ≡ []
unfolding opcodes_from
none_from zero rest cut = refl
none_from (suc less) rest cut = cond-false (fits rest) _ _ cut

pub shorter : (less : ℕ) (rest : List ℕ) → length rest ≤ suc less → fits rest ≡ true → length (drop (stated_length rest) rest) ≤ less
shorter less rest enough fit =
    let two : 2 ≤ stated_length rest = leb-true 2 (stated_length rest) (and_left _ _ fit) in
    let size = length-drop (stated_length rest) rest in
    omega (arith, enough, two, size)

walk_on : {a b c : Pen} {text : List ℕ} (s : Setting) (place scopes fuel : ℕ) (rest op behind : List ℕ) → length rest ≤ fuel → Stands a b text (lines s place scopes (opcodes_from fuel rest)) → fits rest ≡ true
    → op ≡ take (stated_length rest) rest → behind ≡ drop (stated_length rest) rest → Writes b c (told s place (depth_at scopes op) op)
    → (less : ℕ) → fuel ≡ suc less → Walks a c text s (place + length op) (scopes_behind scopes op) behind
walk_on {a} {b} {c} {text} s place scopes fuel rest op behind enough stands fit is_op is_behind w less e =
    let first : lines s place scopes (opcodes_from fuel rest) ≡ told s place (depth_at scopes op) op ++ lines s (place + length op) (scopes_behind scopes op) (opcodes_from less behind) =
    ap (λ (n : ℕ). lines s place scopes (opcodes_from n rest)) e ∙ ap (lines s place scopes) (from_first less rest fit)
    ∙ ap (λ (o : List ℕ). told s place (depth_at scopes o) o ++ lines s (place + length o) (scopes_behind scopes o) (opcodes_from less (drop (stated_length rest) rest))) (sym is_op)
    ∙ ap (λ (r : List ℕ). told s place (depth_at scopes op) op ++ lines s (place + length op) (scopes_behind scopes op) (opcodes_from less r)) (sym is_behind) in
    let short = shorter less rest (subst (λ (n : ℕ). length rest ≤ n) e enough) fit in
    record {
      fuel = less;
      enough = subst (λ (r : List ℕ). length r ≤ less) (sym is_behind) short;
      stands = past_piece _ _ _ _ _ (told s place (depth_at scopes op) op) (lines s (place + length op) (scopes_behind scopes op) (opcodes_from less behind)) first stands w;
    }

-- one more opcode is written
pub walk_more : {a b c : Pen} {text : List ℕ} (s : Setting) (place scopes : ℕ) (rest op behind : List ℕ) → Walks a b text s place scopes rest → fits rest ≡ true
    → op ≡ take (stated_length rest) rest → behind ≡ drop (stated_length rest) rest → Writes b c (told s place (depth_at scopes op) op) → Walks a c text s (place + length op) (scopes_behind scopes op) behind
walk_more s place scopes rest op behind walks fit is_op is_behind w =
    let one = first_of walks.fuel rest walks.enough fit in
    walk_on s place scopes walks.fuel rest op behind walks.enough walks.stands fit is_op is_behind w one.0 one.1

-- at the end all are
pub walk_end : {a b : Pen} {text : List ℕ} (s : Setting) (place scopes : ℕ) (rest : List ℕ) → Walks a b text s place scopes rest → fits rest ≡ false → Writes a b text
walk_end {a} {b} {text} s place scopes rest walks cut = Stands-all a b text _ walks.stands (ap (lines s place scopes) (none_from walks.fuel rest cut))

-- the length of an opcode that fits, and what is left
pub opcode_size : (rest op behind : List ℕ) → fits rest ≡ true → op ≡ take (stated_length rest) rest → behind ≡ drop (stated_length rest) rest → (2 ≤ length op) × (length op + length behind ≡ length rest)
opcode_size rest op behind fit is_op is_behind =
    let two : 2 ≤ stated_length rest = leb-true 2 (stated_length rest) (and_left _ _ fit) in
    let inside : stated_length rest ≤ length rest = leb-true (stated_length rest) (length rest) (and_right _ _ fit) in
    let front = ap (λ (l : List ℕ). length l) is_op ∙ length-take (stated_length rest) rest in
    let left = ap (λ (l : List ℕ). length l) is_behind ∙ length-drop (stated_length rest) rest in
    (omega (arith, two, inside, front), omega (arith, two, inside, front, left))

-- a scope more at most is open behind an opcode
pub scope_more : (scopes : ℕ) (op : List ℕ) → scopes_behind scopes op ≤ scopes + 1
scope_more scopes op = elim (cases_Bool (number op == END)) [
  | inl e ↦ rw e (omega arith)
  | inr e ↦ elim (cases_Bool (has_scope op)) [ inl h ↦ rw (e, h) (omega arith) | inr h ↦ rw (e, h) (omega arith) ]
]

pub depth_less : (scopes : ℕ) (op : List ℕ) → depth_at scopes op ≤ scopes
depth_less scopes op = elim (cases_Bool (number op == END)) [ inl e ↦ rw e (omega arith) | inr e ↦ rw e (omega arith) ]

-- at the beginning all are left
pub walk_begun : (a : Pen) (s : Setting) (bytes rest : List ℕ) → rest ≡ drop 4 bytes → Walks a a (lines s 4 0 (opcodes_in (drop 4 bytes))) s 4 0 rest
walk_begun a s bytes rest e =
    let left = drop 4 bytes in
    subst (λ (r : List ℕ). Walks a a (lines s 4 0 (opcodes_in left)) s 4 0 r) (sym e) record { fuel = length left; enough = omega arith; stands = Stands-start a (lines s 4 0 (opcodes_in left)) }

pub begun_within : (bytes rest : List ℕ) → rest ≡ drop 4 bytes → 4 ≤ length bytes → 4 + length rest ≡ length bytes
begun_within bytes rest e header =
    let size = ap (λ (l : List ℕ). length l) e ∙ length-drop 4 bytes in
    omega (arith, size, header)
