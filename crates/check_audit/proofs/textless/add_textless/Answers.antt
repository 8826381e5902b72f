use Rattle.std.proofs.Common.{◌∙◌, ℕ, List, ap, arith, length}
use Rattle.std.proofs.lemmas.List.{length-drop}
use Rattle.opcode_audit.proofs.LineLemmas.{opcode_size}
use Rattle.check_audit.proofs.TextlessLemmas.{begins, ends, goes_on}
use Rattle.check_audit.proofs.textless.add_textless.Goals as goal

pub loop-opcode-init : goal.loop-opcode-init
loop-opcode-init c =
    let is = c.behind_header-rest.ensures in
    let size = ap (λ (l : List ℕ). length l) is ∙ length-drop 4 c.args.ifr.now in
    record {
      names = begins c.args.strings.now _ c.args.warnings.now.items c.args.ifr.now c.behind_header-rest.result.now c.in_ok-named.ensures is;
      within = omega (arith, size, c.requires.checked.header);
    }

pub overflow_add-place : goal.overflow_add-place
overflow_add-place c =
    let met = c.in-Some.ensures in
    let size = opcode_size c.loop-opcode.rest.now c.in-Some.opcode.now c.in-Some.behind.now met.0 met.1 met.2 in
    omega (arith, size.1, c.loop-opcode.invariant.within, c.requires.checked.small)

pub loop-opcode-preserved : goal.loop-opcode-preserved
loop-opcode-preserved c =
    let met = c.in-Some.ensures in
    let size = opcode_size c.loop-opcode.rest.now c.in-Some.opcode.now c.in-Some.behind.now met.0 met.1 met.2 in
    record {
      names = goes_on c.args.strings.now c.loop-opcode.named c.add_of_opcode.new.named c.loop-opcode.warnings.items c.add_of_opcode.new.warnings.items _ c.loop-opcode.place c.loop-opcode.rest.now c.in-Some.opcode.now c.in-Some.behind.now
          c.loop-opcode.invariant.names met.0 met.1 met.2 c.in_ok-add_of_opcode.ensures;
      within = omega (arith, size.1, c.loop-opcode.invariant.within);
    }

pub returns : goal.returns
returns c = ends c.args.strings.now c.loop-opcode.named c.loop-opcode.warnings.items _ c.loop-opcode.place c.loop-opcode.rest.now c.loop-opcode.invariant.names c.in_default.ensures
