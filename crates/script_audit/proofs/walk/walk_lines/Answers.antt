use Rattle.std.proofs.Common.{◌≡◌, ◌+◌, ◌++◌, Option, Some, None, List, true, arith, ap, refl, rules, sym, ◌∙◌}
use Rattle.std.specs.Prelude.{is_some, option_map}
use Rattle.hii_bytes.proofs.WritingLemmas.{Stands-end, Stands-start, past_piece}
use Rattle.condition_text.proofs.WriteLemmas.{written_as}
use Rattle.audit_json.specs.declared.telling.Telling.{Telling}
use Rattle.session_steps.specs.State.{State}
use Rattle.script_audit.specs.Script.{Line}
use Rattle.script_audit.specs.Walk.{Walk, walk}
use Rattle.script_audit.specs.code.LinesLeft.{line_run, lines_left}
use Rattle.script_audit.specs.code.Stops.{stop_meant}
use Rattle.script_audit.specs.declared.stop.Stop.{Stop}
use Rattle.script_audit.proofs.WalkLemmas.{first_line, walk_on, walk_stops}
use Rattle.script_audit.proofs.walk.walk_lines.Goals as goal

pub loop-left-init : goal.loop-left-init
loop-left-init g c = record {
  state = refl;
  stop = refl;
  told = Stands-start _ _;
  few = omega arith;
}

-- what the lines from the first that is left on come to, behind that one
pub loop-left-preserved : goal.loop-left-preserved
loop-left-preserved g c =
    let t = c.args.telling in
    let l = c.loop-left in
    let s = l.browser.state in
    let cut = c.cut_line-cut.result in
    let here = line_run l.number cut.line.now in
    let later = lines_left (l.number + 1) cut.behind in
    let inv = rw c.in-Some.is at l.invariant in
    let first = first_line l.number c.in-Some.rest.now cut.line.now cut.behind c.cut_line-cut.ensures.lines in
    let none : c.walk_line-stop.result ≡ None = search rules in
    let ended : (walk t s here).stop ≡ None = sym c.walk_line-stop.ensures.stop ∙ ap (option_map stop_meant) none in
    let on = ap (walk t s) first ∙ walk_on t s here later ended in
    let after = c.walk_line-stop.ensures.state in
    record {
      state = rw after (sym (ap (λ (w : Walk). w.state) on) ∙ inv.state);
      stop = rw after (sym (ap (λ (w : Walk). w.stop) on) ∙ inv.stop);
      told = rw after (past_piece _ _ _ _ _ (walk t s here).told (walk t (walk t s here).state later).told (ap (λ (w : Walk). w.told) on) inv.told c.walk_line-stop.ensures.told);
      few = search rules;
    }

-- behind a line that is given nothing is run
stops : (t : Telling) (s : State) (xs ys : List Line) (o : Option Stop) → is_some o ≡ true → option_map stop_meant o ≡ (walk t s xs).stop → walk t s (xs ++ ys) ≡ walk t s xs
stops t s xs ys None e m = absurd cc
stops t s xs ys (Some p) e m = walk_stops t s xs ys (stop_meant p) (sym m)

pub returns-then-is_some-clause-told : goal.returns-then-is_some-clause-told
returns-then-is_some-clause-told g c =
    let t = c.args.telling in
    let l = c.loop-left in
    let s = l.browser.state in
    let cut = c.cut_line-cut.result in
    let here = line_run l.number cut.line.now in
    let later = lines_left (l.number + 1) cut.behind in
    let inv = rw c.in-Some.is at l.invariant in
    let first = first_line l.number c.in-Some.rest.now cut.line.now cut.behind c.cut_line-cut.ensures.lines in
    let given : is_some c.walk_line-stop.result ≡ true = search rules in
    let on = ap (walk t s) first ∙ stops t s here later c.walk_line-stop.result given c.walk_line-stop.ensures.stop in
    Stands-end _ _ _ _ _ inv.told (written_as c.walk_line-stop.ensures.told (sym (ap (λ (w : Walk). w.told) on)))
