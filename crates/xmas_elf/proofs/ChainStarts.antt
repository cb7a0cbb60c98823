-- The bucket where a look-up begins.
use Rattle.std.proofs.Common.{◌≡◌, ◌≢◌, ℕ, ◌%◌, List, Some, None, Result, inl, inr}
use Rattle.std.proofs.lemmas.Bool.{eq-eqb, ne_eqb}
use Rattle.std.proofs.lemmas.Bool.Decides.{eqb_tells}
use Rattle.elf_records.specs.HashNumber.{hash_number}
use Rattle.xmas_elf.specs.Prelude.{ElfError, HashTable}
use Rattle.xmas_elf.specs.HashTable.{bucket_count_of, bucket_of, start_of}

pub start_none : (table : HashTable) (name : List ℕ) → bucket_count_of table ≡ 0 → start_of table name ≡ None
unfolding start_of
start_none table name none = rw (eq-eqb (bucket_count_of table) 0 none)

pub start_some : (table : HashTable) (name : List ℕ) → (bucket_count_of table ≡ 0 → ⊥) → start_of table name ≡ Some (bucket_of table (hash_number name % bucket_count_of table))
unfolding start_of
start_some table name some = rw (ne_eqb (bucket_count_of table) 0 some)

pub start_at : (table : HashTable) (name : List ℕ) (b : Result ℕ ElfError) → start_of table name ≡ Some b → (bucket_count_of table ≢ 0) × (bucket_of table (hash_number name % bucket_count_of table) ≡ b)
start_at table name b start = elim (eqb_tells (bucket_count_of table) 0) [
  | inl none ↦ absurd (let e : start_of table name ≡ None = start_none table name none.1 in cc)
  | inr some ↦ (some.1, (let e : start_of table name ≡ Some (bucket_of table (hash_number name % bucket_count_of table)) = start_some table name some.1 in cc))
]
