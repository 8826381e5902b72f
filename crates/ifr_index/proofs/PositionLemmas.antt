-- What stands at a position of a list whose places rise is what a search finds.
use Rattle.std.proofs.Common.{◌≡◌, ◌==◌, ◌<◌, ℕ, List, Some, length, get_or, sym, ap, ◌∙◌, arith}
use Rattle.std.specs.List.{find}
use Rattle.std.specs.declared.cmp.Ordering.TheVariants.{Equal}
use Rattle.std.specs.Ordering.{nat_cmp}
use Rattle.std.proofs.lemmas.Bool.Decides.{nat_tests}
use Rattle.std.proofs.lemmas.List.{get_or_default}
use Rattle.hii_bytes.specs.code.FirstFaults.{Rise}
use Rattle.hii_bytes.proofs.SearchLemmas.{searched}

pub found_there : {X : Type 0} (key : X → ℕ) (low place at : ℕ) (xs : List X) (x : X) → Rise key low xs → at < length xs → x ≡ get_or xs at x → key x ≡ place → Some x ≡ find (λ y. key y == place) xs
found_there {X = X} key low place at xs x rise within here keyed =
    let equal : (d : X) → nat_cmp (key (get_or xs at d)) place ≡ Equal = λ d.
    let same : key (get_or xs at d) ≡ place = ap key (get_or_default xs at d x within ∙ sym here) ∙ keyed in
    grind (arith, nat_tests) in
    ap Some here ∙ sym (searched key low place xs at x rise within equal)
