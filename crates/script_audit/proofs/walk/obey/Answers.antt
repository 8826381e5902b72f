use Rattle.std.proofs.Common.{Bool, ap, sym}
use Rattle.hii_bytes.proofs.WritingLemmas.{writes_nil}
use Rattle.hii_commands.specs.Meaning.{command_meant}
use Rattle.condition_text.proofs.WriteLemmas.{written_as}
use Rattle.session_steps.specs.Renewed.{Shown}
use Rattle.script_audit.specs.Walk.{seen, warnings_behind, warnings_if}
use Rattle.script_audit.proofs.WalkLemmas.{not_accepted}
use Rattle.script_audit.proofs.walk.obey.Goals as goal

pub returns-in_default : goal.returns-in_default
returns-in_default g c =
    let not = not_accepted c.carry_out-reply.result c.in_default.not-Accepted in
    let warnings = warnings_behind c.args.telling c.args.number (seen c.carry_out-reply.new.self.state) (command_meant c.args.command) in
    record {
      state = ap (λ (s : Shown). s.state) c.carry_out-reply.ensures.shown;
      reply = c.carry_out-reply.ensures.reply;
      told = written_as (writes_nil _) (sym (ap (λ (accepted : Bool). warnings_if accepted warnings) not));
    }
