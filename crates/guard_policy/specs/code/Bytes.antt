-- The bytes of a package.
use Rattle.std.specs.Prelude.{ℕ, List}
use Rattle.std.proofs.Props.{props}
use Rattle.hii_bytes.specs.Numbers.{AreBytes}

pub AreBytes-prop : (bytes : List ℕ) → IsProp (AreBytes bytes)
AreBytes-prop bytes = hlevel props
