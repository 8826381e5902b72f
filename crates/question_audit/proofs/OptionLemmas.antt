-- Options are written one behind the other.
use Rattle.std.proofs.Common.{◌≡◌, ℕ, Bool, false, Option, Some, None, List, [], ◌∷◌, sym, ap, subst}
use Rattle.std.specs.Prelude.{Result, is_some}
use Rattle.std.specs.Result.{is_err}
use Rattle.hii_bytes.specs.Watching.{Pen, Writes}
use Rattle.hii_bytes.specs.code.Writing.{Stands}
use Rattle.hii_bytes.proofs.WritingLemmas.{Stands-all, Stands-start, past_piece}
use Rattle.ifr_opcodes.specs.Forest.{Node}
use Rattle.ifr_opcodes.specs.Rows.{is_among}
use Rattle.guard_policy.specs.code.Answers.{unless}
use Rattle.guard_policy.specs.declared.denial.Denial.{Denial}
use Rattle.question_audit.specs.Audited.{Audited}
use Rattle.question_audit.specs.OptionFacts.{option_fact, option_facts_behind, own_denial, with_place}
use Rattle.question_audit.specs.code.Beginnings.{Begins}
use Rattle.question_audit.proofs.BeginningLemmas.{piece_begun, stands_begun}

-- these are the places of a set
abbrev pub AreTold : (ℕ → Bool) → List ℕ → Type 0
AreTold has places = (place : ℕ) → has place ≡ is_among place places

-- The options before those that are left were written, and the set has the places of what denies them.
pub record AreWritten (a : Audited) (place : ℕ) (is_denied : Bool) (has : ℕ → Bool) (old new : Pen) (text : List ℕ) (left : List Node) : Type 0 where
  pub places : List ℕ
  pub told : AreTold has places
  pub written : Stands old new text (option_facts_behind a place is_denied places left)

pub at_first : (a : Audited) (place : ℕ) (is_denied : Bool) (has : ℕ → Bool) (pen : Pen) (text : List ℕ) (left : List Node) → ((p : ℕ) → has p ≡ false) → option_facts_behind a place is_denied [] left ≡ text
    → AreWritten a place is_denied has pen pen text left
at_first a place is_denied has pen text left none e = record {
  places = [];
  told = none;
  written = subst (Stands pen pen text) (sym e) (Stands-start pen text);
}

pub past_option : (a : Audited) (place : ℕ) (is_denied : Bool) (has more : ℕ → Bool) (old mid new : Pen) (text : List ℕ) (left rest : List Node) (o : Node) → left ≡ o ∷ rest
    → ((places : List ℕ) → AreTold has places → Writes mid new (option_fact a place is_denied places o)) → ((places : List ℕ) → AreTold has places → AreTold more (with_place (own_denial a.world place o) places))
    → AreWritten a place is_denied has old mid text left → AreWritten a place is_denied more old new text rest
past_option a place is_denied has more old mid new text left rest o e writes tells w =
    let places = with_place (own_denial a.world place o) w.places in
    record {
      places = places;
      told = tells w.places w.told;
      written =
          past_piece old mid new text (option_facts_behind a place is_denied w.places left) (option_fact a place is_denied w.places o) (option_facts_behind a place is_denied places rest)
          (ap (option_facts_behind a place is_denied w.places) e) w.written (writes w.places w.told);
    }

pub no_option_left : (a : Audited) (place : ℕ) (is_denied : Bool) (has : ℕ → Bool) (old new : Pen) (text : List ℕ) (left : List Node) → left ≡ [] → AreWritten a place is_denied has old new text left → Writes old new text
no_option_left a place is_denied has old new text left e w = Stands-all old new text _ w.written (ap (option_facts_behind a place is_denied w.places) e)

-- or the next was begun
pub option_begun : (a : Audited) (place : ℕ) (is_denied : Bool) (has : ℕ → Bool) (old mid new : Pen) (text : List ℕ) (left rest : List Node) (o : Node) → left ≡ o ∷ rest
    → ((places : List ℕ) → AreTold has places → Begins mid new (option_fact a place is_denied places o)) → AreWritten a place is_denied has old mid text left → Begins old new text
option_begun a place is_denied has old mid new text left rest o e begins w =
    piece_begun (option_facts_behind a place is_denied (with_place (own_denial a.world place o) w.places) rest) (ap (option_facts_behind a place is_denied w.places) e) w.written (begins w.places w.told)

-- nothing was written
pub nothing_begun : (pen : Pen) (text : List ℕ) → Begins pen pen text
nothing_begun pen text = stands_begun (Stands-start pen text)

-- an answer that names what forbids is an error
pub error_where_denied : (answer : Result Unit Denial) (denied : Option Denial) → answer ≡ unless denied → is_err answer ≡ is_some denied
error_where_denied answer None e = ap is_err e
error_where_denied answer (Some denial) e = ap is_err e
