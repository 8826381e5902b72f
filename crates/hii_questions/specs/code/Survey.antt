-- What all questions of a form set are seen as.
use Rattle.std.specs.Prelude.{ℕ, List}

-- the forms package that they are read from
pub record Survey : Type 0 where
  pub ifr : List ℕ
