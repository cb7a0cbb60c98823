-- Words of memory that a caller passes to the check of a hash table, one for each chain (this project's own).
use Rattle.std.specs.Prelude.{ℕ, ◌+◌, ◌^◌, ◌≡◌, List, slice_index_or}
use Rattle.xmas_elf.specs.Prelude.{HashTable}
use Rattle.xmas_elf.specs.HashTable.{Chains, Held, Reaches}
use Rattle.xmas_elf.specs.Symbol.{Symbols}

-- the word of index i links it to index j; a word below 2 ^ 31 links to nothing
abbrev pub Joins : List ℕ → ℕ → ℕ → Type 0
Joins words i j = slice_index_or words i 0 ≡ 2 ^ 31 + j

-- the chain leads from each linked index to the index that it is linked to
abbrev pub AreLinks : {E : Type 0} → Chains E → List ℕ → Type 0
AreLinks chains words = (i j : ℕ) → Joins words i j → Reaches chains i j

-- the chain from each linked index ends
abbrev pub AreEnding : {E : Type 0} → Chains E → List ℕ → Type 0
AreEnding chains words = (i j : ℕ) → Joins words i j → Reaches chains i 0

-- the symbol at each linked index is found, if it must be
abbrev pub AreHeld : {E : Type 0} → HashTable → Symbols E → List ℕ → Type 0
AreHeld table symbols words = (i j : ℕ) → Joins words i j → Held table symbols i
