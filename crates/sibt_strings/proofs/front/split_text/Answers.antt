use Rattle.std.proofs.Common.{◌≡◌, false, ◌==◌, ◌&&◌, Some, List, ℕ, ◌-◌, length, take, drop, get_or, ap, sym, ◌∙◌, arith}
use Rattle.std.proofs.lemmas.Bool.Decides.{nat_tests}
use Rattle.std.proofs.lemmas.List.{take_rest}
use Rattle.sibt_strings.proofs.EndLemmas.{ends_trans, ends_range}
use Rattle.sibt_strings.proofs.TextLemmas.{rest_more, rest_found, rest_none, rest_front}
use Rattle.sibt_strings.proofs.front.split_text.Goals as goal
use Rattle.sibt_strings.proofs.front.split_text.Goals.{else-low-eq0-via-then-low-eq0+else-high-eq0, else-low-eq0-via-else-low-eq0}

pub returns-then-high-eq0-clause-text : goal.returns-then-high-eq0-clause-text
returns-then-high-eq0-clause-text c =
    let bytes = c.args.bytes.now in
    let rest = c.loop-rest.rest.now in
    let r = c.loop-rest.invariant in
    ap (λ (u : List ℕ). Some (u, take (length rest - 2) (drop 2 rest))) (c.new.ensures ∙ rest_front bytes rest r)
    ∙ ap (λ (b : List ℕ). Some (r.front, b)) (take_rest rest 2)
    ∙ sym (rest_found bytes rest r c.in-len2-up.len_at_least c.if-low-eq0.true c.if-high-eq0.true)

pub returns-then-high-eq0-clause-rest : goal.returns-then-high-eq0-clause-rest
returns-then-high-eq0-clause-rest c =
    let r = c.loop-rest.invariant in
    ends_trans (record { front = r.front; parts = r.parts }) (ends_range c.loop-rest.rest.now 2)

pub loop-rest-preserved : goal.loop-rest-preserved
loop-rest-preserved c =
    let rest = c.loop-rest.rest.now in
    let some : ((get_or rest 0 0 == 0) && (get_or rest 1 0 == 0)) ≡ false =
    elim c.else-low-eq0.branch [
      | else-low-eq0-via-then-low-eq0+else-high-eq0 w ↦ grind (arith, nat_tests, w.if-high-eq0.false)
      | else-low-eq0-via-else-low-eq0 w ↦ grind (arith, nat_tests, w.if-low-eq0.false)
    ] in
    rw (take_rest rest 2) (rest_more c.args.bytes.now rest c.loop-rest.invariant c.in-len2-up.len_at_least some)

pub returns-clause-text : goal.returns-clause-text
returns-clause-text c = sym (rest_none c.args.bytes.now c.loop-rest.rest.now c.loop-rest.invariant c.in_default.len_below)
