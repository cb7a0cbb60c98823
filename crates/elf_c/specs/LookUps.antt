-- Look-ups in a hash table that was found, many in one call, and its check (gABI, "Hash Table"; the convention of GNU
-- binutils and glibc; that many are asked at once is this project's own).
use Rattle.std.specs.Prelude.{◌≡◌, ◌<◌, ◌≤◌, ℕ, List, length, slice_get, Option, None, Some, Result, Ok, Err, IsOkAnd, MatchResult}
use Rattle.std.specs.Borrow.{Bor}
use Rattle.std.specs.Str.{IsUtf8}
use Rattle.elf_base.specs.declared.error.ElfError.TheVariants.{TextUtf8}
use Rattle.elf_linking.specs.AnyTable.{FindsAllBy, IsCheckBy, IsCountBy, IsGoodBy, LooksBy as LooksAmong}
use Rattle.elf_linking.specs.declared.any_table.AnyTable.{AnyTable}
use Rattle.elf_linking.specs.declared.error.LinkError.{LinkError}
use Rattle.xmas_elf.specs.Ranges.{range_of}
use Rattle.xmas_elf.specs.Symbol.{Symbols, dyn_entry_32_fields, dyn_entry_64_fields}
use Rattle.xmas_elf.specs.Symbols.{named_symbols}
use Rattle.xmas_elf.specs.Types.{DynEntry32, DynEntry64}
use Rattle.elf_c.specs.HashTables.{ArePartsBy}
use Rattle.elf_c.specs.Status.{failure_number}
use Rattle.elf_c.specs.declared.hash_tables.HashParts.{HashParts}
use Rattle.elf_c.specs.declared.hash_tables.OpenedTable.{OpenedTable}
use Rattle.elf_c.specs.declared.look_ups.Answer.{Answer}
use Rattle.elf_c.specs.declared.look_ups.LookUp.{LookUp}
use Rattle.elf_c.specs.declared.names.Range.{Range}
use Rattle.elf_c.specs.declared.status.AnyError.{AnyError}
use Rattle.elf_c.specs.declared.status.AnyError.TheVariants.{Elf, Link}
use Rattle.elf_c.specs.declared.symbol_tables.AnySymbols.{AnySymbols}
use Rattle.elf_c.specs.declared.symbol_tables.AnySymbols.TheVariants.{Narrow, Wide}

-- the numbers of the symbol that a look-up finds, if any: its index, and the number of entries that it visited
abbrev pub look_up_record : {E : Type 0} → Option (ℕ × E) → ℕ → LookUp
look_up_record None count = record { found = 0; index = 0; looked_at = count }
look_up_record (Some entry) count = record { found = 1; index = entry.0; looked_at = count }

-- the result of a look-up as numbers
abbrev pub look_up_answer : {E : Type 0} → Result (Option (ℕ × E)) LinkError → ℕ → Result LookUp AnyError
look_up_answer (Ok found) count = Ok (look_up_record found count)
look_up_answer (Err error) count = Err (Link error)

-- the result is that of a look-up for the name among symbols, which visits no more entries than the table
-- allows, and than there are symbols; in a good table it finds what it must
abbrev pub IsLookUp : {E : Type 0} → AnyTable → List ℕ → Symbols E → Result LookUp AnyError → Type 0
IsLookUp {E} table name symbols answer = (found : Result (Option (ℕ × E)) LinkError) × (count : ℕ)
    × LooksAmong (λ e. symbols.text e ≡ Some name) table symbols.items name found count
    × IsCountBy table count × (count ≤ length symbols.items)
    × (IsGoodBy table symbols → FindsAllBy table symbols name (λ e. symbols.text e ≡ Some name) found)
    × (answer ≡ look_up_answer found count)

-- the result of a check, as a call gives it
abbrev pub check_result : Result (Unit {0}) LinkError → Result (Unit {0}) AnyError
check_result (Ok _) = Ok tt
check_result (Err error) = Err (Link error)

-- the result is that of the check of the table with symbols
abbrev pub IsChecked : {E : Type 0} → AnyTable → Symbols E → Result (Unit {0}) AnyError → Type 0
IsChecked table symbols answer =
    (verdict : Result (Unit {0}) LinkError) × IsCheckBy table symbols verdict × (answer ≡ check_result verdict)

-- the result satisfies P for the symbols of a table of either class, with their names in a string table
abbrev pub OfSymbols : {A : Type 0} → ((E : Type 0) → Symbols E → A → Type 0) → List ℕ → AnySymbols → A → Type 0
OfSymbols P strings (Narrow table) = P DynEntry32 (named_symbols dyn_entry_32_fields strings table)
OfSymbols P strings (Wide table) = P DynEntry64 (named_symbols dyn_entry_64_fields strings table)

-- the result is that of a look-up for the name in a hash table among its symbols
abbrev pub LooksIn : HashParts → List ℕ → Result LookUp AnyError → Type 0
LooksIn parts name = OfSymbols (λ E symbols. IsLookUp parts.table name symbols) parts.strings.now parts.symbols

-- the same, or the error if there is no table
abbrev pub LooksIfRead : Result HashParts AnyError → List ℕ → Result LookUp AnyError → Type 0
LooksIfRead found name answer = MatchResult found (λ parts. LooksIn parts name answer) (λ why. answer ≡ Err why)

-- the result is that of a look-up for the name by a record
abbrev pub LooksByRecord : List ℕ → OpenedTable → List ℕ → Result LookUp AnyError → Type 0
LooksByRecord input opened name answer =
    (found : Result HashParts AnyError) × ArePartsBy input opened found × LooksIfRead found name answer

-- the result is that of the check of a hash table with its symbols
abbrev pub ChecksIn : HashParts → Result (Unit {0}) AnyError → Type 0
ChecksIn parts = OfSymbols (λ E symbols. IsChecked parts.table symbols) parts.strings.now parts.symbols

-- the result is that of the check by a record
abbrev pub ChecksBy : List ℕ → OpenedTable → Result (Unit {0}) AnyError → Type 0
ChecksBy input opened answer = (found : Result HashParts AnyError) × ArePartsBy input opened found
    × MatchResult found (λ parts. ChecksIn parts answer) (λ why. answer ≡ Err why)

-- the record for the result of a look-up: its numbers, or the number of its error and zeros
abbrev pub answered : Result LookUp AnyError → Answer
answered (Ok said) = record { status = 0; found = said.found; index = said.index; looked_at = said.looked_at }
answered (Err why) = record { status = failure_number why; found = 0; index = 0; looked_at = 0 }

-- the result satisfies P for the name if it is UTF-8; otherwise it is an error
abbrev pub IfUtf8 : {A : Type 0} → (List ℕ → Result A AnyError → Type 0) → List ℕ → Result A AnyError → Type 0
IfUtf8 P name answer = (IsUtf8 name → P name answer) × (¬ IsUtf8 name → answer ≡ Err (Elf TextUtf8))

-- the result satisfies P for the name in a range of the bytes; if the range passes their end, it is an error
abbrev pub IsForRange : {A : Type 0} → (List ℕ → Result A AnyError → Type 0) → List ℕ → Range → Result A AnyError → Type 0
IsForRange P names range answer =
    MatchResult (range_of names range.offset range.size) (λ name. P name answer) (λ error. answer ≡ Err (Elf error))

-- the name was found
abbrev pub IsNameFound : List ℕ → Result (Bor (List ℕ)) AnyError → Type 0
IsNameFound name answer = IsOkAnd answer (λ text. text.now ≡ name)

-- each item of the slice that has a range is the record of a result that satisfies P for its name; the other
-- items are unchanged
pub record AreAnswered (P : List ℕ → Result LookUp AnyError → Type 0) (names : List ℕ) (ranges : List Range) (old new : List Answer) : Type 0 where
  pub long : length new ≡ length old
  pub each : (k : ℕ) (range : Range) → slice_get ranges k ≡ Some range → k < length old
      → (answer : Result LookUp AnyError) × IsForRange P names range answer × (slice_get new k ≡ Some (answered answer))
  pub rest : (k : ℕ) → length ranges ≤ k → slice_get new k ≡ slice_get old k
