use Rattle.browser_core.proofs.laws.bytes_without_fault_open.Goals as goal

pub returns : goal.returns
returns c = λ none. c.good_bytes_open.ensures.opens c.args.list.now c.args.forms c.args.image.now c.args.language.now (c.bytes_without_fault_are_good.ensures none)
