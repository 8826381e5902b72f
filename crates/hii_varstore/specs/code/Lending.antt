-- What a store and all stores end as, where a range of bytes is lent (own rule).
use Rattle.std.specs.Prelude.{ℕ, List}
use Rattle.std.specs.Borrow.{Lends, MutBor, Fml, Array, u8}
use Rattle.hii_varstore.specs.Stores.{Store, StoreMap, store_with, with_bytes}
use Rattle.hii_varstore.specs.contracts.store.Store.{the_row}
use Rattle.hii_varstore.specs.contracts.stores.Stores.{the_row as stores_row}

-- the store ends with the bytes from an offset on that were last written through r
abbrev pub LendsRange : MutBor Store → ℕ → MutBor (List ℕ) → Fml
LendsRange s offset r = Lends the_row (Array u8 0) s r (store_with s.now offset)

-- the stores end with the bytes of the store of an id, from an offset on, that were last written through r
abbrev pub LendsField : MutBor StoreMap → ℕ → ℕ → MutBor (List ℕ) → Fml
LendsField s id offset r = Lends stores_row (Array u8 0) s r (with_bytes s.now id offset)
