-- The files that options give stores (own rule).
use Rattle.std.specs.Prelude.{ℕ, ◌==◌, if◌then◌else◌, Option, Some, None, List, [], ◌∷◌}
use Rattle.std.specs.Option.{option_or}
use Rattle.audit_options.specs.declared.tasks.StoreFile.{StoreFile}

-- the last file that is given to the store of an id
abbrev pub last_given : List StoreFile → ℕ → Option StoreFile
last_given [] id = None
last_given (file ∷ files) id =
    option_or (last_given files id) (if file.id == id then Some file else None)
