-- Why a store has no source.
use Rattle.std.specs.Prelude.{◌≢◌, ⊤}
use Rattle.setup_files.specs.declared.endings.Status.TheVariants.{Done}
use Rattle.store_commands.specs.declared.sources.Unsourced.{Unsourced}
use Rattle.store_commands.specs.declared.sources.Unsourced.TheVariants.{NoMemory, Unread}

-- The status of a file that is not read is not that of a run that is done.
abbrev pub IsUnsourced : Unsourced → Type 0
IsUnsourced (Unread status) = status ≢ Done
IsUnsourced NoMemory = ⊤
