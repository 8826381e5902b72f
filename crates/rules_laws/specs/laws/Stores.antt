-- What contracts say of stores, in the words of the chapters.
use Rattle.std.specs.Prelude.{ℕ, List, map}
use Rattle.browser_rules.specs.Stores as chapter
use Rattle.hii_varstore.specs.Layout.{Shape}
use Rattle.hii_varstore.specs.Stores.{Store, StoreMap}
use Rattle.hii_varstore.specs.declared.buffer.Buffer.{Buffer}

abbrev pub buffer_for : Buffer → ℕ × ℕ
buffer_for b = (b.id, b.size)

abbrev pub shape_for : Shape → chapter.Shape
shape_for shape = record { guid = shape.guid; buffers = map buffer_for shape.buffers }

abbrev pub store_for : Store → ℕ × List ℕ
store_for s = (s.id, s.bytes)

abbrev pub stores_for : StoreMap → chapter.Stores
stores_for m = map store_for m.stores
