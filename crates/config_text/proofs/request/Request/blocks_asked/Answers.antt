use Rattle.std.proofs.Common.{◌∙◌, ◌<◌, length, sym, rules}
use Rattle.config_text.proofs.TextLemmas.{asked_own}
use Rattle.config_text.proofs.request.Request.blocks_asked.Goals as goal

pub returns : goal.returns
returns c =
    let some : 0 < length c.args.self.now.elements.now = search rules in
    c.blocks-2.ensures ∙ sym (asked_own c.args.self.now.elements.now c.args.size c.args.self.now.sound some)
