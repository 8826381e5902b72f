-- What stands at the end of bytes.
use Rattle.std.proofs.Common.{◌≡◌, ℕ, ◌-◌, List, [], ◌++◌, length, take, drop, refl, ap, sym, ◌∙◌, arith, append_assoc, length-append, take-append-drop}
use Rattle.std.proofs.lemmas.List.{drop_at, take_rest}
use Rattle.sibt_strings.specs.code.Views.{EndsWith, HasTextsIn, LiesIn}
use Rattle.sibt_strings.specs.declared.block.Block.{Block}
use Rattle.sibt_strings.specs.declared.block.Block.TheVariants as block
use Rattle.sibt_strings.specs.declared.front.Front.{Front}
use Rattle.sibt_strings.specs.declared.front.Front.TheVariants as front

pub ends_all : (bytes : List ℕ) → EndsWith bytes bytes
ends_all bytes = record { front = []; parts = refl }

pub ends_drop : (bytes : List ℕ) (n : ℕ) → EndsWith bytes (drop n bytes)
ends_drop bytes n = record { front = take n bytes; parts = sym (take-append-drop n bytes) }

-- the bytes from a place on, as a range without an end has them
pub ends_range : (bytes : List ℕ) (n : ℕ) → EndsWith bytes (take (length bytes - n) (drop n bytes))
ends_range bytes n = rw take_rest (ends_drop bytes n)

pub ends_trans : {bytes more rest : List ℕ} → EndsWith bytes more → EndsWith more rest → EndsWith bytes rest
ends_trans {bytes} {more} {rest} a b = record {
  front = a.front ++ b.front;
  parts = a.parts ∙ ap (λ m. a.front ++ m) b.parts ∙ sym (append_assoc a.front b.front rest);
}

-- the rest begins at the place that is as far from the front as the lengths differ
pub ends_place : {bytes rest : List ℕ} → EndsWith bytes rest → drop (length bytes - length rest) bytes ≡ rest
ends_place {bytes} {rest} e =
    let size : length bytes - length rest ≡ length e.front = omega (arith, ap length e.parts, length-append e.front rest) in
    ap (λ n. drop n bytes) size ∙ ap (drop (length e.front)) e.parts ∙ drop_at e.front rest (length e.front) refl

pub texts_behind : {bytes more : List ℕ} (block : Block) → EndsWith bytes more → HasTextsIn block more → HasTextsIn block bytes
texts_behind (block.Texts texts) e has = ends_trans e has
texts_behind (block.Duplicate id) e has = tt
texts_behind (block.Skip count) e has = tt
texts_behind block.Extension e has = tt

-- what lies at the end of the bytes lies in them
pub lies_behind : {bytes more : List ℕ} (found : Front) → EndsWith bytes more → LiesIn found more → LiesIn found bytes
lies_behind front.End e lies = tt
lies_behind (front.Whole block rest) e lies = (texts_behind block e lies.0, ends_trans e lies.1)
lies_behind front.CutText e lies = tt
lies_behind front.BadBlock e lies = tt
