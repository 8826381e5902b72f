-- What is written, piece by piece.
use Rattle.std.proofs.Common.{◌≡◌, ℕ, zero, suc, ◌+◌, ◌-◌, ◌<◌, ◌≤◌, List, [], ◌∷◌, ◌++◌, length, take, get_or, refl, sym, ap, subst, ◌∙◌, arith, append-nil}
use Rattle.std.specs.List.{flat_map}
use Rattle.std.proofs.lemmas.List.{take_more, take_all, reverse-append}
use Rattle.std.proofs.lemmas.Grind.{flat_map-append}
use Rattle.hii_bytes.specs.Texts.{hex_of}
use Rattle.hii_bytes.specs.Watching.{Pen, Writes}
use Rattle.hii_bytes.proofs.WritingLemmas.{◌⨾◌}
use Rattle.browser_rules.specs.Configuration.{Header, Block, blocks_asked}
use Rattle.config_text.specs.code.Written.{value_digits, block_text, header_text, whole_store}
use Rattle.config_text.specs.Written.{response_to, AreInside}

-- one more of some numbers
pub one_more : {a b c : Pen} (f : ℕ → List ℕ) (xs : List ℕ) (i : ℕ) → i < length xs → Writes a b (flat_map f (take i xs)) → Writes b c (f (get_or xs i 0))
    → Writes a c (flat_map f (take (i + 1) xs))
one_more {a} {b} {c} f xs i less p q =
    let last : flat_map f (get_or xs i 0 ∷ []) ≡ f (get_or xs i 0) = append-nil (f (get_or xs i 0)) in
    let text : flat_map f (take (i + 1) xs) ≡ flat_map f (take i xs) ++ f (get_or xs i 0) =
    ap (flat_map f) (take_more xs i 0 less) ∙ flat_map-append f (take i xs) (get_or xs i 0 ∷ []) ∙ ap (λ l. flat_map f (take i xs) ++ l) last in
    subst (Writes a c) (sym text) (p ⨾ q)

pub all_written : {a b : Pen} (f : ℕ → List ℕ) (xs : List ℕ) (i : ℕ) → length xs ≤ i → Writes a b (flat_map f (take i xs)) → Writes a b (flat_map f xs)
all_written {a} {b} f xs i all p = subst (λ l. Writes a b (flat_map f l)) (take_all i xs all) p

-- the last byte of a value is written first
pub value_digits-last : (bytes : List ℕ) → 0 < length bytes → value_digits bytes ≡ hex_of (get_or bytes (length bytes - 1) 0) ++ value_digits (take (length bytes - 1) bytes)
value_digits-last bytes some =
    let i = length bytes - 1 in
    let less : i < length bytes = omega (arith, some) in
    let all : length bytes ≤ i + 1 = omega (arith, some) in
    let whole : bytes ≡ take i bytes ++ get_or bytes i 0 ∷ [] = sym (take_all (i + 1) bytes all) ∙ take_more bytes i 0 less in
    ap value_digits whole ∙ ap (flat_map hex_of) (reverse-append (take i bytes) (get_or bytes i 0 ∷ []))

-- ---- blocks

-- a block's text is that of its offset and its width
pub block_written : {a b : Pen} (store : List ℕ) (offset width : ℕ) (area : Block) → area.offset ≡ offset → area.width ≡ width
    → Writes a b (block_text store record { offset = offset; width = width; digits = [] }) → Writes a b (block_text store area)
block_written {a} {b} store offset width area e f w =
    let plain : ℕ → ℕ → List ℕ = λ o n. block_text store record { offset = o; width = n; digits = [] } in
    let same : plain area.offset area.width ≡ plain offset width = ap (λ o. plain o area.width) e ∙ ap (plain offset) f in
    subst (Writes a b) (sym same) w

-- the header, and the blocks
pub response_written : {a b c : Pen} (named : Header) (store : List ℕ) (areas left : List Block) → left ≡ blocks_asked areas (length store)
    → Writes a b (header_text named) → Writes b c (flat_map (block_text store) left) → Writes a c (response_to (named, areas) store)
response_written {a} {b} {c} named store areas left e p q =
    p ⨾ subst (λ all. Writes b c (flat_map (block_text store) all)) e q

-- the whole store is asked for where there are no own blocks
pub asked_whole : (size : ℕ) → whole_store size ≡ blocks_asked [] size
asked_whole zero = refl
asked_whole (suc n) = refl

-- the blocks asked for lie in a store where the own ones do
pub asked_inside : (areas : List Block) (size : ℕ) → AreInside areas size → AreInside (blocks_asked areas size) size
asked_inside [] zero h = tt
asked_inside [] (suc n) h = (omega arith, tt)
asked_inside (area ∷ areas) size h = h

-- blocks that lie in a store, one by one
pub inside_some : (areas rest : List Block) (area : Block) (size : ℕ) → areas ≡ area ∷ rest → AreInside areas size → (area.offset + area.width ≤ size) × AreInside rest size
inside_some areas rest area size e h = subst (λ all. AreInside all size) e h
