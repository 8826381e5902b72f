-- The text of an id, by the blocks.
use Rattle.std.proofs.Common.{◌≡◌, ℕ, zero, suc, ◌+◌, ◌<◌, ◌≤◌, List, [], ◌∷◌, ◌++◌, length, map, replicate, Option, None, Some, refl, ap, sym, ◌∙◌, subst, arith, append_assoc, length-append}
use Rattle.std.specs.List.{slice_get}
use Rattle.std.specs.Option.{unwrap_or}
use Rattle.std.proofs.lemmas.List.{append-nil, length-map, length-replicate}
use Rattle.sibt_strings.specs.code.Blocks.{Block, Texts, Duplicate, Skip, Extension, Whole, front_of, AreBlocks, added_by, with_block, with_blocks, texts_said}
use Rattle.sibt_strings.specs.code.Ends.{Stops}
use Rattle.browser_rules.specs.Strings.{text_at}
use Rattle.sibt_strings.specs.code.Views.{count_of, TellsOf}
use Rattle.sibt_strings.specs.declared.entry.Entry.{Entry}
use Rattle.sibt_strings.specs.declared.entry.Entry.TheVariants as entry
use Rattle.sibt_strings.proofs.BlockLemmas.{blocks_behind, blocks_none}

abbrev pub OptionText : Type 0
OptionText = Option (List ℕ)

get_left : (xs ys : List OptionText) (i : ℕ) → i < length xs → slice_get (xs ++ ys) i ≡ slice_get xs i
get_left [] ys i lt = absurd (omega arith)
get_left (x ∷ xs) ys zero lt = refl
get_left (x ∷ xs) ys (suc i) lt = get_left xs ys i (omega arith)

get_right : (xs ys : List OptionText) (i : ℕ) → slice_get (xs ++ ys) (length xs + i) ≡ slice_get ys i
get_right [] ys i = let same : 0 + i ≡ i = omega arith in ap (slice_get ys) same
get_right (x ∷ xs) ys i =
    let next : suc (length xs) + i ≡ suc (length xs + i) = omega arith in
    ap (slice_get (x ∷ (xs ++ ys))) next ∙ get_right xs ys i

get_past : (xs : List OptionText) (i : ℕ) → length xs ≤ i → slice_get xs i ≡ None
get_past [] i le = refl
get_past (x ∷ xs) zero le = absurd (omega arith)
get_past (x ∷ xs) (suc i) le = get_past xs i (omega arith)

-- more texts behind leave those before
pub text_at-left : (texts more : List OptionText) (id : ℕ) → id ≤ length texts → text_at (texts ++ more) id ≡ text_at texts id
text_at-left texts more zero le = refl
text_at-left texts more (suc n) le = ap (λ t. unwrap_or t None) (get_left texts more n (omega arith))

-- the nth text behind others
pub text_at-right : (texts more : List OptionText) (n id : ℕ) → length texts + n + 1 ≡ id → text_at (texts ++ more) id ≡ unwrap_or (slice_get more n) None
text_at-right texts more n zero e = absurd (omega arith)
text_at-right texts more n (suc id) e =
    let place : id ≡ length texts + n = omega arith in
    ap (λ t. unwrap_or t None) (ap (slice_get (texts ++ more)) place ∙ get_right texts more n)

-- an id past all texts has none
pub text_at-past : (texts : List OptionText) (id : ℕ) → length texts < id → text_at texts id ≡ None
text_at-past texts zero lt = absurd (omega arith)
text_at-past texts (suc n) lt = ap (λ t. unwrap_or t None) (get_past texts n (omega arith))

length-added_by : (texts : List OptionText) (block : Block) → length (added_by texts block) ≡ count_of block
length-added_by texts (Texts more) = length-map more Some
length-added_by texts (Duplicate id) = refl
length-added_by texts (Skip count) = length-replicate count None
length-added_by texts Extension = refl

pub length-with_block : (texts : List OptionText) (block : Block) → length (with_block texts block) ≡ length texts + count_of block
length-with_block texts block = omega (arith, length-append texts (added_by texts block), length-added_by texts block)

-- the texts so far stay in front
pub with_blocks-more : (texts : List OptionText) (blocks : List Block) → (more : List OptionText) × (with_blocks texts blocks ≡ texts ++ more)
with_blocks-more texts [] = ([], sym (append-nil texts))
with_blocks-more texts (b ∷ blocks) =
    let r = with_blocks-more (with_block texts b) blocks in
    (added_by texts b ++ r.0, r.1 ∙ append_assoc texts (added_by texts b) r.0)

get_map-some : (xs : List (List ℕ)) (n : ℕ) (x : List ℕ) → slice_get xs n ≡ Some x → unwrap_or (slice_get (map Some xs) n) None ≡ Some x
get_map-some [] n x e = absurd (none_some x e)
  where
    none_some : (x : List ℕ) → None ≡ Some x → ⊥
    none_some x e = cc
get_map-some (y ∷ xs) zero x e = e
get_map-some (y ∷ xs) (suc n) x e = get_map-some xs n x e

abbrev no_text : OptionText
no_text = None

get_replicate : (count n : ℕ) → n < count → unwrap_or (slice_get (replicate count no_text) n) None ≡ None
get_replicate zero n lt = absurd (omega arith)
get_replicate (suc count) zero lt = refl
get_replicate (suc count) (suc n) lt = get_replicate count n (omega arith)

-- the nth of the texts of a block
pub told_text : (before : List OptionText) (texts : List (List ℕ)) (n id : ℕ) (text : List ℕ) → length before + n + 1 ≡ id → slice_get texts n ≡ Some text →
    text_at (with_block before (Texts texts)) id ≡ Some text
told_text before texts n id text e get = text_at-right before (map Some texts) n id e ∙ get_map-some texts n text get

-- a duplicate of an id before its own
pub told_duplicate : (before : List OptionText) (id other : ℕ) → length before + 1 ≡ id → other < id →
    text_at (with_block before (Duplicate other)) id ≡ text_at (with_block before (Duplicate other)) other
told_duplicate before id other e less =
    text_at-right before (text_at before other ∷ []) 0 id (omega arith) ∙ sym (text_at-left before (text_at before other ∷ []) other (omega arith))

-- a duplicate of its own id or of a later one
pub told_later : (before : List OptionText) (id other : ℕ) → length before + 1 ≡ id → id ≤ other → text_at (with_block before (Duplicate other)) id ≡ None
told_later before id other e later =
    text_at-right before (text_at before other ∷ []) 0 id (omega arith) ∙ text_at-past before other (omega arith)

pub told_skip : (before : List OptionText) (count n id : ℕ) → length before + n + 1 ≡ id → n < count → text_at (with_block before (Skip count)) id ≡ None
told_skip before count n id e lt = text_at-right before (replicate count None) n id e ∙ get_replicate count n lt

-- what is told of an id among texts is told among more
tells_more : (texts more : List OptionText) (id : ℕ) (found : Entry) → id ≤ length texts → TellsOf texts id found → TellsOf (texts ++ more) id found
tells_more texts more id (entry.Text units) le told = text_at-left texts more id le ∙ told
tells_more texts more id (entry.Duplicate other) le told =
    (told.0, text_at-left texts more id le ∙ told.1 ∙ sym (text_at-left texts more other (omega (arith, told.0))))
tells_more texts more id entry.Nothing le told = text_at-left texts more id le ∙ told

-- What is left of blocks behind those that say something of so many ids.
pub record Left (rest : List ℕ) (count : ℕ) (whole : List Block) : Type 0 where
  pub done : List OptionText
  pub left : List Block
  pub are : AreBlocks rest left
  pub counted : length done ≡ count
  pub same : with_blocks done left ≡ texts_said whole

unfoldable pub left_all : (bytes : List ℕ) (whole : List Block) → AreBlocks bytes whole → Left bytes 0 whole
left_all bytes whole are = record { done = []; left = whole; are = are; counted = refl; same = refl }

-- one block less
pub left_behind : (rest : List ℕ) (count : ℕ) (whole : List Block) (block : Block) (behind : List ℕ) (l : Left rest count whole) → front_of rest ≡ Whole block behind →
    (later : Left behind (count + count_of block) whole) × (later.done ≡ with_block l.done block)
left_behind rest count whole block behind l front =
    let b = blocks_behind rest l.left block behind l.are front in (
      record {
        done = with_block l.done block;
        left = b.0;
        are = b.1;
        counted = length-with_block l.done block ∙ ap (λ n. n + count_of block) l.counted;
        same = ap (with_blocks l.done) (sym b.2) ∙ l.same;
      },
      refl,
    )

-- what a block tells of one of its ids
pub left_here : (rest : List ℕ) (count : ℕ) (whole : List Block) (block : Block) (behind : List ℕ) (id : ℕ) (found : Entry) (l : Left rest count whole) → front_of rest ≡ Whole block behind →
    id ≤ count + count_of block → TellsOf (with_block l.done block) id found → TellsOf (texts_said whole) id found
left_here rest count whole block behind id found l front within told =
    let later = left_behind rest count whole block behind l front in
    let more = with_blocks-more later.0.done later.0.left in
    let texts : texts_said whole ≡ with_block l.done block ++ more.0 = sym later.0.same ∙ more.1 ∙ ap (λ front. front ++ more.0) later.1 in
    subst (λ t. TellsOf t id found) (sym texts) (tells_more (with_block l.done block) more.0 id found (omega (arith, length-with_block l.done block, l.counted)) told)

-- an id behind all blocks has no text
pub left_none : (rest : List ℕ) (count : ℕ) (whole : List Block) (id : ℕ) → Left rest count whole → Stops (front_of rest) → count < id → text_at (texts_said whole) id ≡ None
left_none rest count whole id l stops past =
    let texts : texts_said whole ≡ l.done = sym l.same ∙ ap (with_blocks l.done) (blocks_none rest l.left l.are stops) in
    ap (λ t. text_at t id) texts ∙ text_at-past l.done id (omega (arith, l.counted))
