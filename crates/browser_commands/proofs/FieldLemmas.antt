-- The fields of blocks, as ranges of bytes.
use Rattle.std.proofs.Common.{ℕ, List, [], ◌∷◌, map}
use Rattle.std.specs.List.{AllByRecursion}
use Rattle.browser_rules.specs.Configuration.{Block}
use Rattle.hii_varstore.specs.Layout.{Shape}
use Rattle.hii_varstore.specs.code.Ranges.{HasRange}
use Rattle.hii_questions.specs.declared.field_range.FieldRange.{FieldRange}
use Rattle.kept_conditions.specs.code.Invalidation as ranges
use Rattle.browser_commands.specs.code.Changing.{HaveRanges, NoneHasByte, range_of_block}

of_blocks : (P : FieldRange → Type 0) (store : ℕ) (blocks : List Block) → AllByRecursion (λ b. P (range_of_block store b)) blocks → AllByRecursion P (map (range_of_block store) blocks)
of_blocks P store [] all = tt
of_blocks P store (block ∷ blocks) all = (all.0, of_blocks P store blocks all.1)

of_ranges : (P : FieldRange → Type 0) (store : ℕ) (blocks : List Block) → AllByRecursion P (map (range_of_block store) blocks) → AllByRecursion (λ b. P (range_of_block store b)) blocks
of_ranges P store [] all = tt
of_ranges P store (block ∷ blocks) all = (all.0, of_ranges P store blocks all.1)

pub fields_inside : (shape : Shape) (store : ℕ) (blocks : List Block) → HaveRanges shape store blocks → ranges.HaveRanges shape (map (range_of_block store) blocks)
fields_inside shape store blocks all = of_blocks (λ r. HasRange shape r.store r.offset r.width) store blocks all

pub none_has : (store : ℕ) (blocks : List Block) (other at : ℕ) → ranges.NoneHasByte (map (range_of_block store) blocks) other at → NoneHasByte store blocks other at
none_has store blocks other at none = of_ranges (λ r. ranges.LiesWithin r other at → ⊥) store blocks none
