use Rattle.std.proofs.Common.{◌≡◌, ◌+◌, ◌-◌, ◌*◌, ◌<◌, ◌≤◌, List, ℕ, length, take, drop, refl, sym, ap, ◌∙◌, arith, length-drop}
use Rattle.std.proofs.lemmas.List.{take_rest, drop-drop}
use Rattle.hii_values.specs.Items.{items_in}
use Rattle.hii_values.proofs.UnitLemmas.{units_in_front}
use Rattle.hii_values.proofs.unit_blocks.unit_blocks.Goals as goal

pub loop-rest-init : goal.loop-rest-init
loop-rest-init c = record { within = omega arith; behind = refl; counted = omega arith }

-- a block more lies in the bytes
room : (end : ℕ) (bytes rest : List ℕ) → rest ≡ drop end bytes → 64 ≤ length rest → end ≤ length bytes → end + 64 ≤ length bytes
room end bytes rest behind long within = let left = ap (λ (l : List ℕ). length l) behind ∙ length-drop end bytes in omega (arith, left)

shorter : (rest : List ℕ) → 64 ≤ length rest → length (take (length rest - 64) (drop 64 rest)) < length rest
shorter rest long = let cut = ap (λ (l : List ℕ). length l) (take_rest rest 64) ∙ length-drop 64 rest in omega (arith, cut)

pub overflow_add-end : goal.overflow_add-end
overflow_add-end c =
    let more = room c.loop-rest.end c.args.bytes.now c.loop-rest.rest.now c.loop-rest.invariant.behind c.loop-rest-test.true c.loop-rest.invariant.within in
    omega (arith, more)

pub loop-rest-smaller : goal.loop-rest-smaller
loop-rest-smaller c = shorter c.loop-rest.rest.now c.loop-rest-test.true

pub loop-rest-preserved : goal.loop-rest-preserved
loop-rest-preserved c =
    let end = c.loop-rest.end in
    let bytes = c.args.bytes.now in
    let rest = c.loop-rest.rest.now in
    let counted : end + length (items_in 2 rest) * 2 ≡ length (items_in 2 bytes) * 2 = c.loop-rest.invariant.counted in
    let block = units_in_front 32 rest c.loop-rest-test.true (sym c.are_units.ensures ∙ c.if-are_units.true) in
    let cut = ap (λ (l : List ℕ). length (items_in 2 l)) (take_rest rest 64) in
    record {
      within = room end bytes rest c.loop-rest.invariant.behind c.loop-rest-test.true c.loop-rest.invariant.within;
      behind = take_rest rest 64 ∙ ap (λ (l : List ℕ). drop 64 l) c.loop-rest.invariant.behind ∙ drop-drop 64 end bytes;
      counted = omega (arith, counted, block, cut);
    }

told : (end : ℕ) (bytes rest : List ℕ) → rest ≡ drop end bytes → end + length (items_in 2 rest) * 2 ≡ length (items_in 2 bytes) * 2 → end + length (items_in 2 (drop end bytes)) * 2 ≡ length (items_in 2 bytes) * 2
told end bytes rest behind counted = ap (λ (l : List ℕ). end + length (items_in 2 l) * 2) (sym behind) ∙ counted

pub returns-else-are_units-clause-within : goal.returns-else-are_units-clause-within
returns-else-are_units-clause-within c = c.loop-rest.invariant.within

pub returns-else-are_units-clause-counted : goal.returns-else-are_units-clause-counted
returns-else-are_units-clause-counted c = told c.loop-rest.end c.args.bytes.now c.loop-rest.rest.now c.loop-rest.invariant.behind c.loop-rest.invariant.counted

pub returns-after-loop-rest-clause-within : goal.returns-after-loop-rest-clause-within
returns-after-loop-rest-clause-within c = c.loop-rest.invariant.within

pub returns-after-loop-rest-clause-counted : goal.returns-after-loop-rest-clause-counted
returns-after-loop-rest-clause-counted c = told c.loop-rest.end c.args.bytes.now c.loop-rest.rest.now c.loop-rest.invariant.behind c.loop-rest.invariant.counted
