-- Tables: records of one size, one after the other in bytes (gABI, "Sections": sections that contain a table
-- of fixed-size entries).
use Rattle.std.specs.Prelude.{ℕ, zero, suc, ◌*◌, ◌/◌, List, [], ◌∷◌, length, drop, take}
use Rattle.std.specs.Borrow.{Bor}
use Rattle.elf_base.specs.declared.bytes.Order.{Order}
use Rattle.elf_base.specs.declared.bytes.table.Table.{Table}
use Rattle.elf_base.specs.declared.bytes.table.TableIter.{TableIter}

-- record i of the bytes, where `size` is the size of a record and `value` decodes its bytes
abbrev pub record_at : {V : Type 0} → ℕ → (List ℕ → V) → List ℕ → ℕ → V
record_at size value bytes i = value (take size (drop (i * size) bytes))

-- the first n records of bytes
unfoldable pub first_records : {V : Type 0} → ℕ → (List ℕ → V) → ℕ → List ℕ → List V
first_records size value zero bytes = []
first_records size value (suc n) bytes = value (take size bytes) ∷ first_records size value n (drop size bytes)

-- the records of the bytes: all that are whole
unfoldable pub records : {V : Type 0} → ℕ → (List ℕ → V) → List ℕ → List V
records size value bytes = first_records size value (length bytes / size) bytes

-- the slice that a table borrows: its place in memory and its bytes
abbrev pub table_bytes : {T : Type 0} → {r : _} → Table T r → Bor (List ℕ)
table_bytes table = table.bytes

-- the bytes of a table
abbrev pub table_data : {T : Type 0} → {r : _} → Table T r → List ℕ
table_data table = table.bytes.now

-- the byte order of a table
abbrev pub table_order : {T : Type 0} → {r : _} → Table T r → Order
table_order table = table.order

-- the records of a table
abbrev pub table_items : {T : Type 0} → {r : _} → Table T r → List T
table_items {T} {r} table = records r.SIZE (r.value (table_order table)) (table_data table)

-- the records that an iterator has not yet returned, as a table
abbrev pub table_rest : {T : Type 0} → {r : _} → TableIter T r → Table T r
table_rest iter = iter.rest
