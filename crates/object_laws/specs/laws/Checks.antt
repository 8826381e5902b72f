-- What can be told in objects of the details of warnings: bounds and counts have 64 bits, and languages are characters.
use Rattle.std.specs.Prelude.{◌≡◌, nat_abs, ◌<◌, ◌^◌, true}
use Rattle.std.specs.List.{AllByRecursion}
use Rattle.std.specs.Str.{all_scalars}
use Rattle.check_audit.specs.Lacks.{Lack}
use Rattle.check_audit.specs.WarningLines.{Details}

pub record CanLack (lack : Lack) : Type 0 where
  pub language : all_scalars lack.language ≡ true
  pub lacks : lack.lacks < 2 ^ 64
  pub texts : lack.texts < 2 ^ 64

pub record CanDetail (d : Details) : Type 0 where
  pub spans : AllByRecursion (λ span. (nat_abs span.minimum < 2 ^ 64) × (nat_abs span.maximum < 2 ^ 64)) d.spans
  pub lacks : AllByRecursion CanLack d.lacks
