-- Options are written one behind the other.
use Rattle.std.proofs.Common.{◌≡◌, ℕ, Bool, true, false, List, [], ◌∷◌, ◌++◌, codes, sym, ap, subst}
use Rattle.hii_bytes.specs.Watching.{Pen, Writes}
use Rattle.ifr_opcodes.specs.Forest.{Node}
use Rattle.question_audit.specs.Audited.{Audited}
use Rattle.audit_json.specs.Objects.{array_end, array_member, before_item}
use Rattle.audit_json.proofs.ArrayLemmas.{Lists, lists_end, lists_start}
use Rattle.question_audit.specs.OptionFacts.{own_denial, with_place}
use Rattle.question_audit.specs.code.Beginnings.{Begins}
use Rattle.question_audit.proofs.OptionLemmas.{AreTold}
use Rattle.question_objects.specs.Options.{option_item, option_items}
use Rattle.question_objects.specs.declared.detail.Detail.{Detail}
use Rattle.question_objects.proofs.ListingLemmas.{listed_begun, value_next}

-- The options before those that are left were written, and the set has the places of what denies them.
pub record AreListed (detail : Detail) (a : Audited) (place : ℕ) (is_denied : Bool) (has : ℕ → Bool) (all left : List Node) (is_first : Bool) (old new : Pen) : Type 0 where
  pub places : List ℕ
  pub told : AreTold has places
  pub written : Lists (codes "options") (option_items detail a place is_denied [] all) (option_items detail a place is_denied places left) is_first old new

pub at_first : (detail : Detail) (a : Audited) (place : ℕ) (is_denied : Bool) (has : ℕ → Bool) (pen : Pen) (all left : List Node) → ((p : ℕ) → has p ≡ false) → left ≡ all
    → AreListed detail a place is_denied has all left true pen pen
at_first detail a place is_denied has pen all left none e = record {
  places = [];
  told = none;
  written = subst (λ (l : List Node). Lists (codes "options") (option_items detail a place is_denied [] all) (option_items detail a place is_denied [] l) true pen pen) (sym e) (lists_start _ _ pen);
}

pub option_next : (detail : Detail) (a : Audited) (place : ℕ) (is_denied : Bool) (has more : ℕ → Bool) (all left rest : List Node) (is_first : Bool) (old mid new : Pen) (o : Node) → left ≡ o ∷ rest
    → ((places : List ℕ) → AreTold has places → Writes mid new (before_item (codes "options") is_first ++ option_item detail a place is_denied places o))
    → ((places : List ℕ) → AreTold has places → AreTold more (with_place (own_denial a.world place o) places)) → AreListed detail a place is_denied has all left is_first old mid
    → AreListed detail a place is_denied more all rest false old new
option_next detail a place is_denied has more all left rest is_first old mid new o e writes tells w = record {
  places = with_place (own_denial a.world place o) w.places;
  told = tells w.places w.told;
  written = value_next (option_item detail a place is_denied w.places o) w.written (ap (option_items detail a place is_denied w.places) e) (writes w.places w.told);
}

pub no_option_left : (detail : Detail) (a : Audited) (place : ℕ) (is_denied : Bool) (has : ℕ → Bool) (all left : List Node) (is_first : Bool) (old mid new : Pen) → left ≡ [] → AreListed detail a place is_denied has all left is_first old mid
    → Writes mid new (array_end is_first) → Writes old new (array_member (codes "options") (option_items detail a place is_denied [] all))
no_option_left detail a place is_denied has all left is_first old mid new e w wrote = lists_end w.written (ap (option_items detail a place is_denied w.places) e) wrote

pub options_begun : (detail : Detail) (a : Audited) (place : ℕ) (is_denied : Bool) (has : ℕ → Bool) (all left : List Node) (is_first : Bool) (old new : Pen) → AreListed detail a place is_denied has all left is_first old new
    → Begins old new (array_member (codes "options") (option_items detail a place is_denied [] all))
options_begun detail a place is_denied has all left is_first old new w = listed_begun w.written
