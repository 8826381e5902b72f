use Rattle.std.proofs.Common.{◌≡◌, ℕ, List, [], ◌∷◌, ◌++◌, drop, length, true, false, sym, ap, ◌∙◌, subst, append_assoc, arith, length-append}
use Rattle.std.proofs.lemmas.Bool.{not-true, not-false}
use Rattle.std.proofs.lemmas.List.{take_rest}
use Rattle.std.specs.List.{before_first}
use Rattle.browser_rules.specs.Session.{step_line}
use Rattle.hii_bytes.specs.Watching.{Writes, pen_of}
use Rattle.hii_commands.specs.code.Lines.{ends_line, rest_of}
use Rattle.hii_commands.specs.laws.Lines.{IsWithinLine}
use Rattle.hii_commands.proofs.ScriptLemmas.{fed_rest, fed_line, IsWithinLine-before_first}
use Rattle.browser_core.specs.Shown.{shown_line}
use Rattle.browser_core.specs.code.Reading.{Stands}
use Rattle.browser_core.proofs.RunLemmas.{rest_of-ended, stands_within, stands_line, stops_piece, stops_sooner, whole_lines-more}
use Rattle.browser_core.proofs.script.run_piece.Goals as goal

is_within : (line rest : List ℕ) → line ≡ before_first ends_line rest → IsWithinLine line
is_within line rest is = subst IsWithinLine (sym is) (IsWithinLine-before_first rest)

pub returns-then-not-fed-clause-stands : goal.returns-then-not-fed-clause-stands
returns-then-not-fed-clause-stands g c = λ start pen bytes h sound.
    let piece = c.args.piece.now in
    let fed = fed_rest piece c.feed-fed.result.taken c.feed-fed.result.complete c.feed-fed.ensures.taken (not-true _ c.if-not-fed.true) in
    subst (λ p. Stands start pen (bytes ++ p) c.args.core.now c.feed-fed.new.self (pen_of g.W.Write.contents c.args.out.now)) fed.0
    (stands_within start c.args.core.now pen _ bytes (before_first ends_line piece) c.args.line.now c.feed-fed.new.self h (IsWithinLine-before_first piece) c.feed-fed.ensures.held)

pub returns-then-not-fed-clause-stops : goal.returns-then-not-fed-clause-stops
returns-then-not-fed-clause-stops g c = λ start pen bytes h broken. let bad : false ≡ true = sym h.sound ∙ broken in (cc)

pub returns-then-failed-clause-stops : goal.returns-then-failed-clause-stops
returns-then-failed-clause-stops g c = λ start pen bytes h broken.
    let piece = c.args.piece.now in
    let line = before_first ends_line piece in
    let fed = fed_line piece c.feed-fed.result.taken c.feed-fed.result.complete c.feed-fed.ensures.taken (not-false _ c.if-not-fed.false) in
    let held = c.feed-fed.ensures.held (rest_of bytes) h.line_is in
    stops_piece start c.args.core.now c.run_line.new.self pen _ _ bytes line (drop c.feed-fed.result.taken piece) _ (IsWithinLine-before_first piece)
    h.shown h.text h.sound (c.run_line.ensures.shown _ held) (c.run_line.ensures.text _ held) broken
    (ap (λ l. bytes ++ l) fed ∙ sym (append_assoc bytes (line ++ 10 ∷ []) (drop c.feed-fed.result.taken piece)))

pub loop-whole-init : goal.loop-whole-init
loop-whole-init g c =
    let piece = c.args.piece.now in
    let line = before_first ends_line piece in
    let within = IsWithinLine-before_first piece in (
      line ++ 10 ∷ [],
      fed_line piece c.feed-fed.result.taken c.feed-fed.result.complete c.feed-fed.ensures.taken (not-false _ c.if-not-fed.false) ∙ sym (ap (λ l. (line ++ 10 ∷ []) ++ l) (take_rest piece c.feed-fed.result.taken)),
      λ bytes. rest_of-ended bytes [] line within,
      λ start pen bytes h.
          let held = c.feed-fed.ensures.held (rest_of bytes) h.line_is in
          stands_line start c.args.core.now c.run_line.new.self pen _ _ bytes line c.clear.new.self within
          h.shown h.text (c.run_line.ensures.shown _ held) (c.run_line.ensures.text _ held) c.clear.ensures (sym c.failed.ensures ∙ c.if-failed.false),
    )

pub returns-then-failed-2-clause-stops : goal.returns-then-failed-2-clause-stops
returns-then-failed-2-clause-stops g c = λ start pen bytes h broken.
    let so_far = c.loop-whole.invariant in
    let whole = c.in-Some.whole.now in
    let behind = c.in-Some.behind.now in
    let cut = c.in-Some.ensures in
    let none = so_far.2 bytes in
    let stands = so_far.3 start pen bytes h in
    let stops = stops_piece start c.loop-whole.core c.run_bytes.new.self pen _ _ (bytes ++ so_far.0) whole behind _ (is_within whole c.loop-whole.rest.now cut.0)
    stands.shown stands.text stands.sound
    (subst (λ l. c.run_bytes.new.self ≡ shown_line c.loop-whole.core (l ++ whole)) (sym none) c.run_bytes.ensures.shown)
    (subst (λ l. Writes (pen_of g.W.Write.contents c.loop-whole.out) (pen_of g.W.Write.contents c.run_bytes.new.out) (step_line c.loop-whole.core.state (l ++ whole)).text) (sym none) c.run_bytes.ensures.text)
    broken
    (ap (λ l. bytes ++ l) (so_far.1 ∙ ap (λ l. so_far.0 ++ l) cut.1) ∙ sym (append_assoc bytes so_far.0 ((whole ++ 10 ∷ []) ++ behind))
    ∙ sym (append_assoc (bytes ++ so_far.0) (whole ++ 10 ∷ []) behind)) in
    stops_sooner _ _ _ _ _ _ _ stops (whole_lines-more bytes so_far.0)

pub loop-whole-smaller : goal.loop-whole-smaller
loop-whole-smaller g c =
    let whole = c.in-Some.whole.now in
    omega (arith, ap length c.in-Some.ensures.1, length-append (whole ++ 10 ∷ []) c.in-Some.behind.now, length-append whole (10 ∷ []))

pub loop-whole-preserved : goal.loop-whole-preserved
loop-whole-preserved g c =
    let so_far = c.loop-whole.invariant in
    let whole = c.in-Some.whole.now in
    let behind = c.in-Some.behind.now in
    let cut = c.in-Some.ensures in
    let within = is_within whole c.loop-whole.rest.now cut.0 in (
      so_far.0 ++ (whole ++ 10 ∷ []),
      so_far.1 ∙ ap (λ l. so_far.0 ++ l) cut.1 ∙ sym (append_assoc so_far.0 (whole ++ 10 ∷ []) behind),
      λ bytes. rest_of-ended bytes so_far.0 whole within,
      λ start pen bytes h.
          let none = so_far.2 bytes in
          let stands = so_far.3 start pen bytes h in
          subst (λ b. Stands start pen b c.run_bytes.new.self c.clear.new.self (pen_of g.W.Write.contents c.run_bytes.new.out)) (append_assoc bytes so_far.0 (whole ++ 10 ∷ []))
          (stands_line start c.loop-whole.core c.run_bytes.new.self pen _ _ (bytes ++ so_far.0) whole c.clear.new.self within stands.shown stands.text
          (subst (λ l. c.run_bytes.new.self ≡ shown_line c.loop-whole.core (l ++ whole)) (sym none) c.run_bytes.ensures.shown)
          (subst (λ l. Writes (pen_of g.W.Write.contents c.loop-whole.out) (pen_of g.W.Write.contents c.run_bytes.new.out) (step_line c.loop-whole.core.state (l ++ whole)).text) (sym none) c.run_bytes.ensures.text)
          c.clear.ensures (sym c.failed-in-Some.ensures ∙ c.if-failed-2.false)),
    )

pub returns-clause-stands : goal.returns-clause-stands
returns-clause-stands g c = λ start pen bytes h sound.
    let rest = c.loop-whole.rest.now in
    let so_far = c.loop-whole.invariant in
    let fed : before_first ends_line rest ≡ rest = c.in_default.ensures in
    subst (λ b. Stands start pen b c.loop-whole.core c.feed.new.self (pen_of g.W.Write.contents c.loop-whole.out))
    (append_assoc bytes so_far.0 (before_first ends_line rest) ∙ ap (λ l. bytes ++ (so_far.0 ++ l)) fed ∙ ap (λ l. bytes ++ l) (sym so_far.1))
    (stands_within start c.loop-whole.core pen _ (bytes ++ so_far.0) (before_first ends_line rest) c.clear.new.self c.feed.new.self (so_far.3 start pen bytes h) (IsWithinLine-before_first rest) c.feed.ensures.held)

pub returns-clause-stops : goal.returns-clause-stops
returns-clause-stops g c = λ start pen bytes h broken.
    let sound = (c.loop-whole.invariant.3 start pen bytes h).sound in
    let bad : false ≡ true = sym sound ∙ broken in (cc)
