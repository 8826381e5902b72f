-- A text has not more blocks than bytes.
use Rattle.std.proofs.Common.{ℕ, ◌+◌, ◌≤◌, ◌&&◌, Bool, true, false, cond, List, [], ◌∷◌, length, nat_lt, Option, Some, None, Result, Ok, Err, arith, length-append}
use Rattle.std.proofs.lemmas.List.Splits.{length-slice_split}
use Rattle.std.proofs.lemmas.List.Sums.{count_by-le-length}
use Rattle.hii_bytes.specs.declared.cause.Cause.{Cause}
use Rattle.config_text.specs.code.Reading.{Wanted, wants_offset, wants_width, wants_value, key_of, PartStep, number_step, width_step, step_of, part_step, areas_before, then_areas, at_end, areas_in}
use Rattle.browser_rules.specs.Configuration.{Block}
use Rattle.config_text.specs.code.PartReading.{fits_width, body_in, offset_in, width_in, are_hex}
use Rattle.config_text.specs.code.Parts.{is_between}
use Rattle.config_text.specs.code.Elements.{parts_behind, areas_or_none, areas_of}
use Rattle.config_text.specs.declared.kind.TextKind.{TextKind}
use Rattle.config_text.specs.declared.kind.TextKind.TheVariants.{Ask, Tell}

-- a part ends one block at most
abbrev FewOf : Result PartStep Cause → Type 0
FewOf (Err cause) = Unit {0}
FewOf (Ok step) = length step.areas ≤ 1

few_offset : (o : Option ℕ) → FewOf (number_step (λ n. record { areas = []; wanted = wants_width n }) o)
few_offset None = tt
few_offset (Some n) = omega arith

few_width : (kind : TextKind) (offset : ℕ) (o : Option ℕ) → FewOf (number_step (width_step kind offset) o)
few_width kind offset None = tt
few_width Ask offset (Some n) = omega arith
few_width Tell offset (Some n) = omega arith

few_value : (offset width : ℕ) (body : List ℕ) (hex fits : Bool)
    → FewOf (cond hex (cond fits (Ok record { areas = record { offset = offset; width = width; digits = body } ∷ []; wanted = wants_offset }) (Err Cause.ValueWidth)) (Err Cause.BadNumber))
few_value offset width body true true = omega arith
few_value offset width body true false = tt
few_value offset width body false fits = tt

few_body : (kind : TextKind) (wanted : Wanted) (body : List ℕ) → FewOf (step_of kind wanted body)
few_body kind wants_offset body = few_offset (offset_in body)
few_body kind (wants_width offset) body = few_width kind offset (width_in body)
few_body kind (wants_value offset width) body = few_value offset width body (nat_lt 0 (length body) && are_hex body) (fits_width width body)

few_part : (kind : TextKind) (wanted : Wanted) (o : Option (List ℕ)) → FewOf (part_step kind wanted o)
few_part kind wanted None = tt
few_part kind wanted (Some body) = few_body kind wanted body

-- blocks before others
few_before : (areas : List Block) (others : Result (List Block) Cause) (n : ℕ) → length areas ≤ 1 → length (areas_or_none others) ≤ n → length (areas_or_none (areas_before areas others)) ≤ n + 1
few_before areas (Err cause) n one few = omega arith
few_before areas (Ok others) n one few = omega (arith, one, few, length-append areas others)

few_then : (r : Result PartStep Cause) (follow : Wanted → Result (List Block) Cause) (n : ℕ) → FewOf r → ((wanted : Wanted) → length (areas_or_none (follow wanted)) ≤ n) → length (areas_or_none (then_areas r follow)) ≤ n + 1
few_then (Err cause) follow n one few = omega arith
few_then (Ok step) follow n one few = few_before step.areas (follow step.wanted) n one (few step.wanted)

few_end : (wanted : Wanted) → length (areas_or_none (at_end wanted)) ≤ 0
few_end wants_offset = omega arith
few_end (wants_width offset) = omega arith
few_end (wants_value offset width) = omega arith

few_in : (kind : TextKind) (parts : List (List ℕ)) (wanted : Wanted) → length (areas_or_none (areas_in kind wanted parts)) ≤ length parts
few_in kind [] wanted = few_end wanted
few_in kind (part ∷ parts) wanted =
    let few = few_then (part_step kind wanted (body_in (key_of wanted) part)) (λ next. areas_in kind next parts) (length parts) (few_part kind wanted (body_in (key_of wanted) part)) (few_in kind parts) in
    omega (arith, few)

few_parts : (text : List ℕ) → length (parts_behind text) ≤ length text
few_parts [] = omega arith
few_parts (b ∷ text) = omega (arith, length-slice_split is_between text, count_by-le-length is_between text)

pub few_areas : (kind : TextKind) (text : List ℕ) → length (areas_of kind text) ≤ length text
few_areas kind text = let few = few_in kind (parts_behind text) wants_offset in omega (arith, few, few_parts text)
