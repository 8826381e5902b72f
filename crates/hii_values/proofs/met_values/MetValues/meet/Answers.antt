use Rattle.std.proofs.Common.{◌≡◌, ◌<◌, ◌==◌, ◌&&◌, ◌||◌, ℕ, true, false, get_or, set, length, sym, arith, subst}
use Rattle.std.specs.List.{list_any}
use Rattle.std.proofs.lemmas.Option.{cond_some}
use Rattle.hii_values.specs.code.MetValues.{first_from, is_sought, is_met}
use Rattle.hii_values.proofs.MetLemmas.{met_more, rises}
use Rattle.hii_values.proofs.met_values.MetValues.meet.Goals as goal

pub returns-in-Some-clause-met : goal.returns-in-Some-clause-met
returns-in-Some-clause-met c v =
    let s = c.args.self.now in
    let value = c.args.value in
    let xs = s.values.items in
    let found = cond_some (is_sought s value) (first_from value xs) c.in-Some.at (sym c.in-Some.ensures.found) in
    let within : first_from value xs < length s.met = let e = c.in-Some.ensures.within in let f = found.1 in let g = s.all in omega (arith, e, f, g) in
    let more = met_more value xs s.met v (rises xs s.rising) found.0 within in
    subst (λ (at : ℕ). (list_any (λ x. x == v) xs && get_or (set s.met at true) (first_from v xs) false) ≡ (is_met s v || (is_sought s v && (value == v)))) found.1 more
