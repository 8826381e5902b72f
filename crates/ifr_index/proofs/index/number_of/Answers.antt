use Rattle.std.proofs.Common.{◌≡◌, ℕ, Some, get_or, ap, ◌∙◌}
use Rattle.std.proofs.lemmas.Map.Lookups.{exact_unsigned}
use Rattle.std.proofs.lemmas.Option.{slice_get-get_or}
use Rattle.ifr_index.proofs.index.number_of.Goals as goal

pub returns-in-Ok : goal.returns-in-Ok
returns-in-Ok c =
    let places = c.args.places.now in
    let number = c.in-Ok.number in
    let same : get_or places number 0 ≡ c.args.place = exact_unsigned (get_or places number 0) c.args.place (c.in-Ok.ensures.ok 0) in
    slice_get-get_or places number 0 c.in-Ok.ensures.bound ∙ ap (λ (p : ℕ). Some p) same
