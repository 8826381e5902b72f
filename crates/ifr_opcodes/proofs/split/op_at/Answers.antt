use Rattle.std.proofs.Common.{◌≡◌, ℕ, List, ◌++◌, drop, sym, rules, ◌∙◌, take-append-drop}
use Rattle.ifr_opcodes.specs.Opcode.{stated_length, IsWhole}
use Rattle.ifr_opcodes.specs.code.Marks.{mark_at}
use Rattle.ifr_opcodes.proofs.split.op_at.Goals as goal

none_there : (bytes rest : List ℕ) (at : ℕ) → rest ≡ drop at bytes → ((op more : List ℕ) → IsWhole op → rest ≡ op ++ more → ⊥) → IsWhole (mark_at bytes at).op → ⊥
none_there bytes rest at e missing w = missing _ _ w (e ∙ sym (take-append-drop (stated_length (drop at bytes)) (drop at bytes)))

pub returns-in-None-clause-refused : goal.returns-in-None-clause-refused
returns-in-None-clause-refused c =
    let missing : IsWhole (mark_at c.args.bytes.now c.args.place).op → ⊥ = none_there c.args.bytes.now _ c.args.place c.rest_from.ensures c.in-None.ensures in
    search rules

pub returns-in-None-clause-accepted : goal.returns-in-None-clause-accepted
returns-in-None-clause-accepted c = λ w. absurd (none_there c.args.bytes.now _ c.args.place c.rest_from.ensures c.in-None.ensures w)
