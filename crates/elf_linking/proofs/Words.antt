-- Which chain words of a GNU hash table lie within its data.
use Rattle.std.proofs.Common.{◌≡◌, ◌+◌, ◌-◌, ◌*◌, ◌/◌, ◌<◌, ◌≤◌, ℕ, ◌⊎◌, inl, inr, Bool, true, false, List, Ok, Err, length, refl, sym, subst, arith}
use Rattle.std.proofs.lemmas.Bool.{cases_lt, le-ltb, ltb-true}
use Rattle.std.specs.Prelude.{if◌then◌else◌, nat_lt}
use Rattle.elf_linking.specs.GnuHash.{HasChain, Lacks, chain_of, chain_place, chain_word, first_symbol_of, gnu_class, gnu_data, gnu_order, no_word, symbol_end}
use Rattle.elf_linking.specs.Layouts.{chains_in}
use Rattle.elf_linking.specs.declared.error.LinkError.{LinkError}
use Rattle.elf_linking.specs.declared.error.LinkError.TheVariants.{ChainData, ChainIndex}
use Rattle.elf_linking.specs.declared.gnu_hash.GnuHashTable.{GnuHashTable}

-- of two errors, if the first condition does not hold, it is the second
second_failed : (a b : Bool) (word : ℕ) (error : LinkError) → (if a then Err ChainIndex else (if b then Err ChainData else Ok word)) ≡ Err error → a ≡ false → (b ≡ true) × (error ≡ ChainData)
second_failed true b word error e f = absurd (cc)
second_failed false true word error e f = (refl, cc)
second_failed false false word error e f = absurd (cc)

-- from the first symbol on, a chain word that has an error extends past the end of the data
pub chain_failed : {E : Type 0} (table : GnuHashTable) (symbols : List E) (i : ℕ) (error : LinkError) → i < symbol_end symbols → first_symbol_of table ≤ i → chain_of table i ≡ Err error → Lacks table symbols i error
unfolding chain_of
chain_failed table symbols i error below begins e =
    let (out, same) = second_failed (nat_lt i (first_symbol_of table)) (nat_lt (length (gnu_data table)) (chain_place table i + 4)) (chain_word table i) error e (le-ltb i (first_symbol_of table) begins) in
    subst (λ x. Lacks table symbols i x) (sym same) (no_word below (ltb-true (length (gnu_data table)) (chain_place table i + 4) out))

-- the chain words before a chain word within the data are within the data
pub chain_before : (table : GnuHashTable) (i j : ℕ) → first_symbol_of table ≤ i → i ≤ j → HasChain table j → HasChain table i
unfolding chain_place
chain_before table i j begins ordered (begins', fits) = (begins, omega arith)

-- a chain word lies within the data, or extends past its end
pub chain_cases : (table : GnuHashTable) (i : ℕ) → first_symbol_of table ≤ i → (HasChain table i → ⊥) → length (gnu_data table) < chain_place table i + 4
chain_cases table i begins lacks = go (cases_lt (length (gnu_data table)) (chain_place table i + 4))
  where
    go : (length (gnu_data table) < chain_place table i + 4) ⊎ (chain_place table i + 4 ≤ length (gnu_data table)) → length (gnu_data table) < chain_place table i + 4
    go (inl out) = out
    go (inr fits) = absurd (lacks (begins, fits))

-- words of four bytes from a place on: the first from an index on that extends past the end
first_past : (len start first from j : ℕ) → first ≤ from → from ≤ j → len < start + 4 * (j - first) + 4 → (last : ℕ) × (from ≤ last) × (last ≤ j) × (len < start + 4 * (last - first) + 4) × ((i : ℕ) → from ≤ i → i < last → start + 4 * (i - first) + 4 ≤ len)
first_past len start first from j begins ordered out = go (cases_lt len (start + 4 * (from - first) + 4))
  where
    go : (len < start + 4 * (from - first) + 4) ⊎ (start + 4 * (from - first) + 4 ≤ len) → (last : ℕ) × (from ≤ last) × (last ≤ j) × (len < start + 4 * (last - first) + 4) × ((i : ℕ) → from ≤ i → i < last → start + 4 * (i - first) + 4 ≤ len)
    go (inl past) = (from, omega arith, ordered, past, λ i above below. absurd (omega arith))
    go (inr fits) = (first + (len - start) / 4, omega arith, omega arith, omega arith, λ i above below. omega arith)

-- if a chain word is not within the data, one index is the first without one
pub chain_end : (table : GnuHashTable) (from j : ℕ) → first_symbol_of table ≤ from → from ≤ j → (HasChain table j → ⊥) → (last : ℕ) × (from ≤ last) × (last ≤ j) × (length (gnu_data table) < chain_place table last + 4) × ((i : ℕ) → from ≤ i → i < last → chain_place table i + 4 ≤ length (gnu_data table))
unfolding chain_place
chain_end table from j begins ordered lacks =
    first_past (length (gnu_data table)) (chains_in (gnu_class table) (gnu_order table) (gnu_data table)) (first_symbol_of table) from j begins ordered (chain_cases table j (omega arith) lacks)
