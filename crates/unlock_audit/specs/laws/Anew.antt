-- A new run over other stores is an opening over their image.
use Rattle.std.specs.Prelude.{◌≡◌, ℕ, List}
use Rattle.hii_varstore.specs.Image.{image_of}
use Rattle.hii_varstore.specs.Stores.{StoreMap, shape_of}
use Rattle.session_steps.specs.Opening.{Opens, layout_in}
use Rattle.session_steps.specs.State.{State}
use Rattle.unlock_audit.specs.Tries.{begun_over}

abbrev pub OpensAnew : Type 0
OpensAnew =
    (list : List ℕ) (n : ℕ) (image language : List ℕ) (s : State) (stores : StoreMap)
    → Opens list n image language s → shape_of stores ≡ layout_in s.ifr
    → Opens list n (image_of stores) language (begun_over s stores)
