use Rattle.std.proofs.Common.{◌+◌, ◌∷◌, [], ◌++◌, take, drop, sym, ap, ◌∙◌}
use Rattle.std.proofs.lemmas.List.{take_rest}
use Rattle.hii_commands.proofs.CutLemmas.{piece_at, piece_whole}
use Rattle.browser_core.proofs.script.split_line.Goals as goal

pub returns-in_err-end : goal.returns-in_err-end
returns-in_err-end c = rw c.from_residual.ensures (piece_whole 10 c.args.bytes.now (sym c.first_end.ensures ∙ c.in_err-end.was))

pub returns : goal.returns
returns c =
    let bytes = c.args.bytes.now in
    let end = c.in_ok-end.end in
    let at = piece_at 10 bytes end (sym c.first_end.ensures ∙ c.in_ok-end.was) in (
      sym at.1,
      at.2 ∙ ap (λ l. (l ++ 10 ∷ []) ++ drop (end + 1) bytes) at.1 ∙ sym (ap (λ l. (take end bytes ++ 10 ∷ []) ++ l) (take_rest bytes (end + 1))),
    )
