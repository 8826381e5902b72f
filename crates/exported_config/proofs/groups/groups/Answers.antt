use Rattle.std.proofs.Common.{◌≡◌, ◌+◌, ◌-◌, ◌*◌, ◌/◌, ◌^◌, ◌++◌, [], ◌∷◌, List, ℕ, option_map, suc, sym, ap, length-drop, ◌∙◌, take, arith, length, Some, None}
use Rattle.hii_bytes.specs.Digits.{number_below}
use Rattle.exported_config.specs.Exported.{numbers}
use Rattle.exported_config.proofs.GivingLemmas.{four_digits, no_more, one_less, one_more, whole_groups}
use Rattle.exported_config.proofs.groups.groups.Goals as goal

pub returns-in_default : goal.returns-in_default
returns-in_default c =
    let text = c.args.text.now in
    let size = c.args.size in
    let rest = c.loop.rest.now in
    let left = length text / size - c.loop.counter in
    let more : left ≡ suc (left - 1) = omega (arith, c.loop-test.true) in
    let none : number_below (2 ^ 64) 16 size (take size rest) ≡ None = rw (← c.split_at.ensures.front) (sym c.number_of_digits.ensures ∙ c.in_default.is) in
    sym (whole_groups size text c.if-text-size-ne0.false ∙ sym c.loop.invariant.0 ∙ no_more c.loop.numbers.items left (left - 1) size rest more none)

pub overflow_cast-number : goal.overflow_cast-number
overflow_cast-number c =
    record { fits = four_digits c.args.size c.split_at.result.0.now c.in-Some.number c.requires.few (sym c.number_of_digits.ensures ∙ c.in-Some.is) }

pub loop-preserved : goal.loop-preserved
loop-preserved c =
    let text = c.args.text.now in
    let size = c.args.size in
    let rest = c.loop.rest.now in
    let so_far = c.loop.numbers.items in
    let left = length text / size - c.loop.counter in
    let next = length text / size - (c.loop.counter + 1) in
    let more : left ≡ suc next = omega (arith, c.loop-test.true) in
    let some : number_below (2 ^ 64) 16 size (take size rest) ≡ Some c.in-Some.number = rw (← c.split_at.ensures.front) (sym c.number_of_digits.ensures ∙ c.in-Some.is) in
    let one = one_more so_far left next size rest c.in-Some.number more some in
    let less : length rest - size ≡ next * size = one_less left next size (length rest) more c.loop.invariant.1 in (
      ap (λ (items : List ℕ). option_map (λ ns. items ++ ns) (numbers next size c.split_at.result.1.now)) c.in_ok-push.ensures.items
          ∙ ap (λ (l : List ℕ). option_map (λ ns. (so_far ++ (c.in-Some.number ∷ [])) ++ ns) (numbers next size l)) c.split_at.ensures.back
          ∙ sym one ∙ c.loop.invariant.0,
      ap length c.split_at.ensures.back ∙ length-drop size rest ∙ less,
    )
