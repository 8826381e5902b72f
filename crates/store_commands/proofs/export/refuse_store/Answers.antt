use Rattle.store_commands.proofs.export.refuse_store.Goals as goal

pub returns : goal.returns
returns g c = (_, c.put_no_store.ensures, c.finish.ensures)
