-- Commands for questions.
use Rattle.std.proofs.Common.{◌≡◌, ℕ, Bool, true, Option, Some, None, List, [], map, ap, sym, ◌∙◌}
use Rattle.std.specs.Prelude.{if◌then◌else◌, is_some, option_map}
use Rattle.ifr_opcodes.specs.Forest.{Node}
use Rattle.hii_questions.specs.Fields.{Asked, asked, question_with}
use Rattle.unlock_audit.specs.Moves.{constants_about, moved, moves_among, moves_of, moves_with, values_of}

-- those of the question of an id
pub moves_found : (ns cs : List Node) (id : ℕ) (q : Asked) → question_with ns id ≡ Some q.node → q ≡ asked ns q.node → moves_of ns cs id ≡ moves_with ns cs id q
moves_found ns cs id q e own = ap (moves_among ns cs id) e ∙ ap (moves_with ns cs id) (sym own)

pub some_field : {A B : Type 0} (f : A → B) (o : Option A) (p : Option B) → option_map f o ≡ p → is_some o ≡ true → is_some p ≡ true
some_field f None p e h = absurd cc
some_field f (Some x) p e h = ap (λ o. is_some o) (sym e)

pub moves_where : (ns cs : List Node) (id : ℕ) (q : Asked) → is_some q.field ≡ true → moves_with ns cs id q ≡ map (moved id) (values_of q (constants_about ns cs id))
moves_where ns cs id q e = ap (λ (b : Bool). if b then map (moved id) (values_of q (constants_about ns cs id)) else []) e
