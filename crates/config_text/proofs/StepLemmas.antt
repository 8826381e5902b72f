-- One part of an element.
use Rattle.std.proofs.Common.{◌≡◌, ℕ, ◌<◌, List, [], ◌∷◌, ◌++◌, length, Option, Some, None, Result, Ok, Err, refl, sym, ap, ◌∙◌, append_assoc, arith, option_map}
use Rattle.hii_bytes.specs.declared.cause.Cause.{Cause}
use Rattle.hii_bytes.specs.declared.cause.Cause.TheVariants.{BadElement}
use Rattle.config_text.specs.code.PartReading.{body_in, body_first}
use Rattle.browser_rules.specs.Configuration.{Block}
use Rattle.config_text.specs.code.Reading.{wants_offset, key_of, areas_in, then_areas, part_step, areas_before}
use Rattle.config_text.specs.code.Elements.{areas_behind}
use Rattle.config_text.specs.declared.kind.TextKind.{TextKind}

-- a body, and the parts behind it
abbrev Found : Type 0
Found = Option (List ℕ × List (List ℕ))

-- the first part has not the key of an offset
pub areas_lack_offset : (kind : TextKind) (parts : List (List ℕ)) → ◌≡◌ {A = Found} None (body_first (key_of wants_offset) parts) → 0 < length parts → areas_in kind wants_offset parts ≡ Err BadElement
areas_lack_offset kind [] e some = absurd (omega (arith, some))
areas_lack_offset kind (part ∷ parts) e some = go (body_in (key_of wants_offset) part) e
  where
    go : (o : Option (List ℕ)) → ◌≡◌ {A = Found} None (option_map (λ b. (b, parts)) o) → then_areas (part_step kind wants_offset o) (λ next. areas_in kind next parts) ≡ Err BadElement
    go None e = refl
    go (Some b) e = (cc)

-- no blocks before others
pub areas_before_nil : (r : Result (List Block) Cause) → areas_before [] r ≡ r
areas_before_nil (Ok areas) = refl
areas_before_nil (Err cause) = refl

pub areas_before_more : (areas others : List Block) (r : Result (List Block) Cause) → areas_before areas (areas_before others r) ≡ areas_before (areas ++ others) r
areas_before_more areas others (Ok rest) = ap Ok (sym (append_assoc areas others rest))
areas_before_more areas others (Err cause) = refl

-- ---- what is read of a text is what is read of its rest, behind some blocks

pub record Behind (kind : TextKind) (text rest : List ℕ) : Type 0 where
  pub areas : List Block
  pub same : areas_behind kind text ≡ areas_before areas (areas_behind kind rest)

pub Behind-start : (kind : TextKind) (text : List ℕ) → Behind kind text text
Behind-start kind text = record { areas = []; same = sym (areas_before_nil (areas_behind kind text)) }

pub Behind-more : (kind : TextKind) (text rest behind : List ℕ) (area : Block) → Behind kind text rest → areas_behind kind rest ≡ areas_before (area ∷ []) (areas_behind kind behind) → Behind kind text behind
Behind-more kind text rest behind area h e = record {
  areas = h.areas ++ area ∷ [];
  same = h.same ∙ ap (areas_before h.areas) e ∙ areas_before_more h.areas (area ∷ []) (areas_behind kind behind);
}
