-- The remaining references of an iterator, relocation by relocation.
use Rattle.std.proofs.Common.{◌≡◌, ℕ, ◌<◌, ◌≤◌, ◌*◌, ◌/◌, ◌^◌, zero, suc, length, arith, Bool, true, false, if◌then◌else◌, List, [], ◌∷◌, ◌++◌, length-append, drop, filter, map, take, mul-le-mul_left, refl, sym, ap, ◌∙◌}
use Rattle.std.proofs.Math.Nat.{div-mul-le_self}
use Rattle.elf_base.specs.Table.{first_records, records}
use Rattle.elf_base.specs.declared.bytes.Order.{Order}
use Rattle.elf_base.proofs.lemmas.RecordLemmas.{length-records}
use Rattle.elf_linking.specs.References.{names_symbol}
use Rattle.elf_linking.specs.RelocationRecords.{references_by}
use Rattle.elf_linking.specs.declared.references.Reference.{Reference}
use Rattle.elf_linking.proofs.Filtered.{kept_first, kept_none, kept_other}

-- the first of the relocations, which names a symbol or doesn't
pub named_none : (machine : ℕ) (relocations : List Reference) → relocations ≡ [] → filter (names_symbol machine) relocations ≡ []
named_none machine = kept_none names_symbol machine

pub named_first : (machine after : ℕ) (relocations others : List Reference) (relocation : Reference) → after ≡ machine → relocations ≡ relocation ∷ others → names_symbol machine relocation ≡ true
    → filter (names_symbol machine) relocations ≡ relocation ∷ filter (names_symbol after) others
named_first machine = kept_first names_symbol machine

pub named_other : (machine after : ℕ) (relocations others : List Reference) (relocation : Reference) → after ≡ machine → relocations ≡ relocation ∷ others → names_symbol machine relocation ≡ false
    → filter (names_symbol machine) relocations ≡ filter (names_symbol after) others
named_other machine = kept_other names_symbol machine

-- the first relocation of a table and of those after it, and those after a table without any
pub begins : (table others later : List Reference) (relocation : Reference) → table ≡ relocation ∷ others → table ++ later ≡ relocation ∷ (others ++ later)
begins table others later relocation is = ap (λ list. list ++ later) is

pub goes_on : (table later : List Reference) → table ≡ [] → table ++ later ≡ later
goes_on table later is = ap (λ list. list ++ later) is

-- The relocations of a table, record by record.
module _ {R : Type 0} (size : ℕ) (value : Order → List ℕ → R) (reference : R → Reference) where
  first_mapped : (order : Order) (count : ℕ) (bytes : List ℕ)
      → first_records size (λ one. reference (value order one)) count bytes ≡ map reference (first_records size (value order) count bytes)
  unfolding first_records
  first_mapped order zero bytes = refl
  first_mapped order (suc count) bytes = ap (λ others. reference (value order (take size bytes)) ∷ others) (first_mapped order count (drop size bytes))

  mapped : (order : Order) (bytes : List ℕ) → references_by size value reference order bytes ≡ map reference (records size (value order) bytes)
  unfolding references_by records
  mapped order bytes = first_mapped order (length bytes / size) bytes

  pub none_decoded : (order : Order) (bytes : List ℕ) → records size (value order) bytes ≡ [] → references_by size value reference order bytes ≡ []
  none_decoded order bytes is = mapped order bytes ∙ ap (map reference) is

  pub first_decoded : (order after : Order) (bytes others : List ℕ) (one : R) (found : Reference) → records size (value order) bytes ≡ one ∷ records size (value after) others
      → found ≡ reference one → references_by size value reference order bytes ≡ found ∷ references_by size value reference after others
  first_decoded order after bytes others one found is same =
      mapped order bytes ∙ ap (map reference) is ∙ ap (λ x. x ∷ map reference (records size (value after) others)) (sym same)
      ∙ ap (λ list. found ∷ list) (sym (mapped after others))

-- the records of 8 bytes or more in bytes
pub records_few : {R : Type 0} (size : ℕ) (value : List ℕ → R) (bytes : List ℕ) (room : ℕ) → length bytes ≡ room → room < 2 ^ 64 → 8 ≤ size
    → length (records size value bytes) < 2 ^ 61
records_few size value bytes room is below above =
    let count = length-records size value bytes in
    let least : length bytes / size * 8 ≤ length bytes / size * size = mul-le-mul_left (length bytes / size) above in
    let most = div-mul-le_self (length bytes) size in
    rw count (omega (arith, least, most, is, below))

-- the references are no more than the relocations
few_by : (b : Bool) (x : Reference) (kept : List Reference) (count : ℕ) → length kept ≤ count → length (if b then x ∷ kept else kept) ≤ suc count
few_by true x kept count few = omega (arith, few)
few_by false x kept count few = omega (arith, few)

references_few : (machine : ℕ) (relocations : List Reference) → length (filter (names_symbol machine) relocations) ≤ length relocations
references_few machine [] = omega arith
references_few machine (x ∷ relocations) = few_by (names_symbol machine x) x (filter (names_symbol machine) relocations) (length relocations) (references_few machine relocations)

pub relocations_fit : (rela rel plt : List Reference) → length rela < 2 ^ 61 → length rel < 2 ^ 61 → length plt < 2 ^ 61 → length (rela ++ (rel ++ plt)) < 2 ^ 64
relocations_fit rela rel plt a b c =
    let both = length-append rela (rel ++ plt) in
    let last = length-append rel plt in
    omega (arith, both, last, a, b, c)

pub references_fit : (machine : ℕ) (relocations : List Reference) → length relocations < 2 ^ 64 → length (filter (names_symbol machine) relocations) < 2 ^ 64
references_fit machine relocations below = let few = references_few machine relocations in omega (arith, few, below)
