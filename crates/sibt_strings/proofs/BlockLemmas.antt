-- Where blocks lead to.
use Rattle.std.proofs.Common.{◌≡◌, ℕ, zero, suc, ◌+◌, ◌<◌, ◌≤◌, List, [], ◌∷◌, ◌++◌, length, Option, None, Some, refl, ap, sym, ◌∙◌, subst, arith, length-append}
use Rattle.sibt_strings.specs.code.Blocks.{Block, End, Whole, front_of, Leads, AreBlocks}
use Rattle.sibt_strings.specs.code.Ends.{Stops}
use Rattle.sibt_strings.specs.code.Views.{blocks_in, blocks_from, HoldsBlocks}

-- the bytes of a language behind these
abbrev pub language_behind : List ℕ → Option (List ℕ) → Option (List ℕ)
language_behind front None = None
language_behind front (Some more) = Some (front ++ more)

-- one more block
pub leads_more : (bytes : List ℕ) (blocks : List Block) (rest : List ℕ) (block : Block) (behind : List ℕ) →
    Leads bytes blocks rest → front_of rest ≡ Whole block behind → Leads bytes (blocks ++ block ∷ []) behind
leads_more bytes [] rest block behind same front = (behind, ap front_of (sym same) ∙ front, refl)
leads_more bytes (b ∷ blocks) rest block behind (next, here, leads) front = (next, here, leads_more next blocks rest block behind leads front)

-- the blocks up to the end, computed
pub blocks_in-leads : (fuel : ℕ) (bytes : List ℕ) (bs : List Block) (rest : List ℕ) → length bs ≤ fuel → Leads bytes bs rest → front_of rest ≡ End → blocks_in fuel bytes ≡ bs
unfolding blocks_in
blocks_in-leads zero bytes [] rest le same end = refl
blocks_in-leads (suc fuel) bytes [] rest le same end = ap (λ f. blocks_from f (λ behind. blocks_in fuel behind)) (ap front_of (sym same) ∙ end)
blocks_in-leads zero bytes (b ∷ bs) rest le leads end = absurd (omega arith)
blocks_in-leads (suc fuel) bytes (b ∷ bs) rest le (mid, here, leads) end =
    ap (λ f. blocks_from f (λ behind. blocks_in fuel behind)) here
    ∙ ap (λ bs. b ∷ bs) (blocks_in-leads fuel mid bs rest (omega arith) leads end)

-- blocks lead to the rest, no more of them than bytes before it
pub record LeadsTo (bytes rest : List ℕ) : Type 0 where
  pub blocks : List Block
  pub leads : Leads bytes blocks rest
  pub few : length blocks + length rest ≤ length bytes

unfoldable pub leads_start : (bytes : List ℕ) → LeadsTo bytes bytes
leads_start bytes = record { blocks = []; leads = refl; few = omega arith }

unfoldable pub leads_on : (bytes rest : List ℕ) (block : Block) (behind : List ℕ) → LeadsTo bytes rest → front_of rest ≡ Whole block behind → length behind < length rest → LeadsTo bytes behind
leads_on bytes rest block behind l front less = record {
  blocks = l.blocks ++ block ∷ [];
  leads = leads_more bytes l.blocks rest block behind l.leads front;
  few = omega (arith, l.few, length-append l.blocks (block ∷ []));
}

-- the blocks that are held are those that are read
pub held_blocks : (bytes : List ℕ) (h : HoldsBlocks bytes) → blocks_in (length bytes) bytes ≡ h.0
held_blocks bytes (blocks, (rest, leads, end), few) = blocks_in-leads (length bytes) bytes blocks rest few leads end

pub held_are : (bytes : List ℕ) → HoldsBlocks bytes → AreBlocks bytes (blocks_in (length bytes) bytes)
held_are bytes h = subst (AreBlocks bytes) (sym (held_blocks bytes h)) h.1

-- what stands behind the first of blocks up to an end
pub blocks_behind : (bytes : List ℕ) (bs : List Block) (block : Block) (behind : List ℕ) → AreBlocks bytes bs → front_of bytes ≡ Whole block behind →
    (later : List Block) × AreBlocks behind later × (bs ≡ block ∷ later)
blocks_behind bytes [] block behind (rest, same, end) front = absurd (whole_end (sym front ∙ ap front_of (sym same) ∙ end))
  where
    whole_end : Whole block behind ≡ End → ⊥
    whole_end e = cc
blocks_behind bytes (b ∷ bs) block behind (rest, (mid, here, leads), end) front =
    let same : Whole b mid ≡ Whole block behind = sym here ∙ front in
    let mid_is : mid ≡ behind = cc in
    let first_is : b ≡ block = cc in
    (bs, (rest, subst (λ m. Leads m bs rest) mid_is leads, end), ap (λ f. f ∷ bs) first_is)

-- there are none where no whole block stands
pub blocks_none : (bytes : List ℕ) (bs : List Block) → AreBlocks bytes bs → Stops (front_of bytes) → bs ≡ []
blocks_none bytes [] are stops = refl
blocks_none bytes (b ∷ bs) (rest, (mid, here, leads), end) stops = absurd (subst Stops here stops)
