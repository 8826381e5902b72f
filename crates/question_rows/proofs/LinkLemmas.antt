-- Texts with links, byte by byte.
use Rattle.std.proofs.Common.{◌≡◌, ℕ, ◌-◌, ◌<◌, ◌≤◌, false, Option, Some, None, List, [], ◌∷◌, ◌++◌, length, drop, slice_index, refl, sym, ap, ◌∙◌, arith}
use Rattle.std.specs.Prelude.{◌==◌, codes, option_map}
use Rattle.std.proofs.lemmas.Bool.{ne_eqb}
use Rattle.hii_bytes.specs.Watching.{Pen, Writes}
use Rattle.hii_bytes.specs.code.Writing.{Stands}
use Rattle.hii_bytes.proofs.WritingLemmas.{◌⨾◌, Stands-all, past_piece}
use Rattle.ifr_opcodes.specs.Forest.{Node}
use Rattle.hii_questions.specs.Fields.{Asked, asked}
use Rattle.audit_html.specs.Html.{link_to}
use Rattle.question_rows.specs.Elements.{html_byte}
use Rattle.question_rows.specs.Referring.{link_end, link_left, link_start, linked_from, question_front, question_named, reference_front, size_of_link, start_of_link}

none_linked : (ns : List Node) (left : ℕ) → linked_from ns left [] ≡ []
unfolding linked_from
none_linked ns left = refl

-- one byte with the link that begins or ends with it
abbrev byte_part : List Node → ℕ → List ℕ → ℕ → ℕ → List ℕ
byte_part ns left text byte now = link_start ns left text ++ html_byte byte ++ link_end now

byte_linked : (ns : List Node) (left b : ℕ) (text : List ℕ) → linked_from ns left (b ∷ text) ≡ byte_part ns left (b ∷ text) b (link_left ns left (b ∷ text)) ++ linked_from ns (link_left ns left (b ∷ text) - 1) text
unfolding linked_from
byte_linked ns left b text = refl

-- past one more byte
pub past_byte : {a b c d e : Pen} {text : List ℕ} (ns : List Node) (rest behind : List ℕ) (left now : ℕ) → behind ≡ drop 1 rest → 1 ≤ length rest → now ≡ link_left ns left rest
    → Stands a b text (linked_from ns left rest) → Writes b c (link_start ns left rest) → Writes c d (html_byte (slice_index rest 0)) → Writes d e (link_end now) → Stands a e text (linked_from ns (now - 1) behind)
past_byte ns [] behind left now step some size s w v u = absurd (none some)
  where
    none : 1 ≤ 0 → ⊥
    none h = omega arith
past_byte ns (byte ∷ rest) behind left now step some size s w v u =
    let text = byte ∷ rest in
    past_piece _ _ _ _ _ (byte_part ns left text byte now) (linked_from ns (now - 1) behind)
    (byte_linked ns left byte rest ∙ ap (λ (k : ℕ). byte_part ns left text byte k ++ linked_from ns (k - 1) rest) (sym size)
    ∙ ap (λ (l : List ℕ). byte_part ns left text byte now ++ linked_from ns (now - 1) l) (sym step))
    s (w ⨾ v ⨾ u)

none_behind : (rest : List ℕ) → length rest < 1 → rest ≡ []
none_behind [] h = refl
none_behind (byte ∷ rest) h = absurd (some h)
  where
    some : length (byte ∷ rest) < 1 → ⊥
    some h = omega (arith, h)

-- at last none is left
pub all_linked : {a b : Pen} {text : List ℕ} (ns : List Node) (left : ℕ) (rest : List ℕ) → length rest < 1 → Stands a b text (linked_from ns left rest) → Writes a b text
all_linked {a} {b} {text} ns left rest few s = Stands-all a b text (linked_from ns left rest) s (ap (linked_from ns left) (none_behind rest few) ∙ none_linked ns left)

-- ---- where a link begins

-- within a link none begins
pub within_link : (ns : List Node) (left : ℕ) (text : List ℕ) → 0 < left → link_start ns left text ≡ []
within_link ns left text some =
    let is : (left == 0) ≡ false = ne_eqb left 0 (λ none. absurd (no none some)) in
    rw is refl
  where
    no : left ≡ 0 → 0 < left → ⊥
    no e h = omega (arith, e, h)

found_node : (ns : List Node) (o : Option Node) (q : Asked) → Some q ≡ option_map (asked ns) o → o ≡ Some q.node
found_node ns None q e = absurd cc
found_node ns (Some n) q e =
    let own : q ≡ asked ns n = cc in
    ap (λ (r : Asked). Some r.node) (sym own)

no_node : (ns : List Node) (o : Option Node) → None ≡ option_map (asked ns) o → o ≡ None
no_node ns None e = refl
no_node ns (Some n) e = absurd cc

-- one begins where digits in front name a question, and none where they do not
pub link_begun : (ns : List Node) (left : ℕ) (text digits : List ℕ) (q : Asked) → left ≡ 0 → digits ≡ (reference_front text).digits → Some q ≡ option_map (asked ns) (question_named ns digits)
    → link_to (codes "q") q.node.place ≡ link_start ns left text
link_begun ns left text digits q zero same e =
    let found : question_front ns text ≡ Some q.node = ap (question_named ns) (sym same) ∙ found_node ns (question_named ns digits) q e in
    rw zero (ap start_of_link (sym found))

pub not_begun : (ns : List Node) (left : ℕ) (text digits : List ℕ) → left ≡ 0 → digits ≡ (reference_front text).digits → None ≡ option_map (asked ns) (question_named ns digits) → [] ≡ link_start ns left text
not_begun ns left text digits zero same e =
    let none : question_front ns text ≡ None = ap (question_named ns) (sym same) ∙ no_node ns (question_named ns digits) e in
    rw zero (ap start_of_link (sym none))

pub none_left : (ns : List Node) (left : ℕ) (text digits : List ℕ) → left ≡ 0 → digits ≡ (reference_front text).digits → None ≡ option_map (asked ns) (question_named ns digits) → 0 ≡ link_left ns left text
none_left ns left text digits zero same e =
    let none : question_front ns text ≡ None = ap (question_named ns) (sym same) ∙ no_node ns (question_named ns digits) e in
    rw zero (ap (λ (o : Option Node). size_of_link o (reference_front text).size) (sym none))
