use Rattle.browser_commands.proofs.ChangeLemmas.{is_there}
use Rattle.browser_commands.proofs.blocks.keep_field.Goals as goal

pub unwrap-requires : goal.unwrap-requires
unwrap-requires c =
    let field = c.args.field in
    is_there c.args.stores.now field.store field.offset c.from.result field.width c.field-bytes.result c.requires.range c.from.ensures c.field-bytes.ensures
