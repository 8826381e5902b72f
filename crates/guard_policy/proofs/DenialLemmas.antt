-- What answers tell of denials.
use Rattle.std.proofs.Common.{◌≡◌, Option, Some, None, Ok, Err, refl, ap}
use Rattle.std.specs.Prelude.{is_some, is_none, is_ok, is_err}
use Rattle.guard_policy.specs.Policy.{or_else}
use Rattle.guard_policy.specs.code.Answers.{unless}
use Rattle.guard_policy.specs.declared.denial.Denial.{Denial}

pub allowed : (denial : Option Denial) → is_ok (unless denial) ≡ is_none denial
allowed None = refl
allowed (Some d) = refl

pub denied : (denial : Option Denial) → is_err (unless denial) ≡ is_some denial
denied None = refl
denied (Some d) = refl

-- the first denial decides
pub first_allows : (a b : Option Denial) → unless a ≡ Ok tt → unless (or_else a b) ≡ unless b
first_allows None b e = refl
first_allows (Some d) b e = absurd cc

pub first_denies : (a b : Option Denial) (d : Denial) → unless a ≡ Err d → unless (or_else a b) ≡ Err d
first_denies None b d e = absurd cc
first_denies (Some other) b d e = e

pub none_of : (o : Option Denial) → unless o ≡ Ok tt → o ≡ None
none_of None e = refl
none_of (Some denial) e = absurd cc

pub some_of : (o : Option Denial) (denial : Denial) → unless o ≡ Err denial → o ≡ Some denial
some_of None denial e = absurd cc
some_of (Some other) denial e = let same : other ≡ denial = cc in ap (λ (d : Denial). Some d) same

pub or_nothing : (o : Option Denial) → or_else o None ≡ o
or_nothing None = refl
or_nothing (Some d) = refl
