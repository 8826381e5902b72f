-- What is seen of opcodes one behind the other.
use Rattle.std.proofs.Common.{◌≡◌, ℕ, suc, ◌≤◌, true, false, List, length, take, drop, refl, sym, ap, subst, ◌∙◌, arith}
use Rattle.browser_rules.specs.Forest.{stated_length}
use Rattle.opcode_audit.specs.Walk.{fits, opcodes_from, opcodes_in}
use Rattle.opcode_audit.proofs.LineLemmas.{first_of, from_first, none_from, shorter}
use Rattle.check_audit.specs.Behind.{nothing_seen, seen_from, seen_with}
use Rattle.check_audit.specs.declared.behind.Seen.{Seen}

-- What is seen of the rest behind what was seen before it is the whole.
pub record Sees (seen : Seen) (rest : List ℕ) (whole : Seen) : Type 0 where
  pub fuel : ℕ
  pub enough : length rest ≤ fuel
  pub ahead : seen_from seen (opcodes_from fuel rest) ≡ whole

pub sees_all : (bytes rest : List ℕ) → rest ≡ bytes → Sees nothing_seen rest (seen_from nothing_seen (opcodes_in bytes))
sees_all bytes rest e = subst (λ (r : List ℕ). Sees nothing_seen r (seen_from nothing_seen (opcodes_in bytes))) (sym e) record { fuel = length bytes; enough = omega arith; ahead = refl }

pub sees_end : (seen whole : Seen) (rest : List ℕ) → Sees seen rest whole → fits rest ≡ false → seen ≡ whole
sees_end seen whole rest sees cut = sym (ap (seen_from seen) (none_from sees.fuel rest cut)) ∙ sees.ahead

sees_on : (seen whole : Seen) (rest op behind : List ℕ) (fuel : ℕ) → length rest ≤ fuel → seen_from seen (opcodes_from fuel rest) ≡ whole → fits rest ≡ true → op ≡ take (stated_length rest) rest
    → behind ≡ drop (stated_length rest) rest → (less : ℕ) → fuel ≡ suc less → Sees (seen_with seen op) behind whole
sees_on seen whole rest op behind fuel enough ahead fit is_op is_behind less e =
    let short = shorter less rest (subst (λ (n : ℕ). length rest ≤ n) e enough) fit in
    let first : seen_from seen (opcodes_from fuel rest) ≡ seen_from (seen_with seen op) (opcodes_from less behind) =
    ap (λ (n : ℕ). seen_from seen (opcodes_from n rest)) e ∙ ap (seen_from seen) (from_first less rest fit)
    ∙ ap (λ (o : List ℕ). seen_from (seen_with seen o) (opcodes_from less (drop (stated_length rest) rest))) (sym is_op)
    ∙ ap (λ (r : List ℕ). seen_from (seen_with seen op) (opcodes_from less r)) (sym is_behind) in
    record {
      fuel = less;
      enough = subst (λ (r : List ℕ). length r ≤ less) (sym is_behind) short;
      ahead = sym first ∙ ahead;
    }

pub sees_more : (seen whole : Seen) (rest op behind : List ℕ) → Sees seen rest whole → fits rest ≡ true → op ≡ take (stated_length rest) rest → behind ≡ drop (stated_length rest) rest → Sees (seen_with seen op) behind whole
sees_more seen whole rest op behind sees fit is_op is_behind =
    let one = first_of sees.fuel rest sees.enough fit in
    sees_on seen whole rest op behind sees.fuel sees.enough sees.ahead fit is_op is_behind one.0 one.1
