-- Fields that have bytes in common (own rule; UEFI 2.8, 33.2.5.6 Storage).
use Rattle.std.specs.Prelude.{ℕ, ◌+◌, ◌-◌, ◌*◌, min, ◌||◌, not, if◌then◌else◌, Option, Some, None, option_map, List, [], ◌∷◌}
use Rattle.std.specs.List.{filter_map}
use Rattle.std.specs.List.Sorted.{IsSortedByKey, IsStableByKey}
use Rattle.std.specs.Ordering.{nat_cmp}
use Rattle.ifr_opcodes.specs.Fields.{question_id}
use Rattle.ifr_opcodes.specs.Forest.{Node}
use Rattle.hii_questions.specs.Fields.{Asked, Field, is_same_field, meets, questions}
use Rattle.check_audit.specs.declared.overlaps.Laid.{Laid}
use Rattle.check_audit.specs.declared.warning.Oddity.TheVariants.{Overlap}
use Rattle.check_audit.specs.declared.warning.Warning.{Warning}

-- a question and its field
abbrev pub laid_at : Node → Field → Laid
laid_at n field = record {
  field = record { store = field.store; offset = field.offset; width = field.width };
  place = n.place;
  question = question_id n.op;
}

abbrev pub laid_of : Asked → Option Laid
laid_of q = option_map (laid_at q.node) q.field

abbrev pub field_of_laid : Laid → Field
field_of_laid l = record { store = l.field.store; offset = l.field.offset; width = l.field.width }

-- a number that rises by store, then offset, then falling width
abbrev pub laid_order : Laid → ℕ
laid_order l = (l.field.store * 65536 + l.field.offset) * 65536 + (65535 - min l.field.width 65535)

-- These are the fields of a form set in this order; those that are the same stand by place.
abbrev pub AreLaid : List Node → List Laid → Type 0
AreLaid ns laid =
    IsSortedByKey laid_order nat_cmp laid × IsStableByKey laid_order nat_cmp (filter_map laid_of (questions ns)) laid

-- a field shares bytes with the one before it, and is not the same
abbrev pub overlap_of : Laid → Laid → Option Warning
overlap_of before next =
    if is_same_field (field_of_laid before) (field_of_laid next) || not (meets (field_of_laid next) (field_of_laid before))
    then None
    else Some record { place = next.place; oddity = Overlap record { question = next.question; other = before.question } }

abbrev pub with_warning : Option Warning → List Warning → List Warning
with_warning None ws = ws
with_warning (Some w) ws = w ∷ ws

abbrev pub overlaps_behind : Laid → List Laid → List Warning
overlaps_behind before [] = []
overlaps_behind before (next ∷ laid) = with_warning (overlap_of before next) (overlaps_behind next laid)

abbrev pub overlaps_among : List Laid → List Warning
overlaps_among [] = []
overlaps_among (first ∷ laid) = overlaps_behind first laid
