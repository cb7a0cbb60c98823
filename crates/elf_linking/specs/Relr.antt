-- Relative relocations packed into words (gABI, "Relocation", SHT_RELR): the addresses of the words to which
-- the load address is added.
use Rattle.std.specs.Prelude.{◌≡◌, ℕ, ◌+◌, ◌-◌, ◌*◌, ◌%◌, ◌^◌, ◌==◌, List, [], ◌∷◌, ◌++◌, filter, length, map, Option, Result, Ok, Err, if◌then◌else◌}
use Rattle.std.specs.Int.{bit_at}
use Rattle.std.specs.Iterator.{YieldsFirst}
use Rattle.std.specs.List.{range_with_len}
use Rattle.elf_base.specs.Number.{number}
use Rattle.elf_base.specs.Table.{records, table_items, table_rest}
use Rattle.elf_base.specs.declared.bytes.Order.{Order}
use Rattle.elf_base.specs.declared.header.numbers.Class.{Class}
use Rattle.elf_base.specs.declared.header.numbers.Class.TheVariants.{ThirtyTwo, SixtyFour}
use Rattle.elf_linking.specs.declared.error.LinkError.{LinkError}
use Rattle.elf_linking.specs.declared.error.LinkError.TheVariants.{NotMultiple, UnknownClass}
use Rattle.elf_linking.specs.declared.relr.Relr.{Relr}
use Rattle.elf_linking.specs.declared.relr.Words.{Words}
use Rattle.elf_linking.specs.declared.relr.Words.TheVariants.{Narrow, Wide}

-- the address `count` words of `size` bytes after another, modulo 2 to the number of a word's bits
unfoldable pub address_after : ℕ → ℕ → ℕ → ℕ
address_after size place count = (place + count * size) % 2 ^ (8 * size)

-- the number of words in a bitmap: one for each bit except the lowest
abbrev pub marks : ℕ → ℕ
marks size = 8 * size - 1

-- the addresses in a bitmap, of `count` bits from `first` on: bit k + 1 is for the address k words after
-- `place`
unfoldable pub marked : ℕ → ℕ → ℕ → ℕ → ℕ → List ℕ
marked size place bitmap first count =
    map (address_after size place) (filter (λ k. bit_at bitmap (k + 1) == 1) (range_with_len first count))

-- the addresses in a word: the word itself if it is even, otherwise those that it marks from a place on
abbrev pub addresses_of : ℕ → ℕ → ℕ → List ℕ
addresses_of size place word = if word % 2 == 0 then word ∷ [] else marked size place word 0 (marks size)

-- the place after the addresses of a word
abbrev pub place_after : ℕ → ℕ → ℕ → ℕ
place_after size place word =
    if word % 2 == 0 then address_after size word 1 else address_after size place (marks size)

-- the addresses in words, the first of which is read at a place
unfoldable pub addresses : ℕ → ℕ → List ℕ → List ℕ
addresses size place [] = []
addresses size place (word ∷ words) =
    addresses_of size place word ++ addresses size (place_after size place word) words

-- the addresses in bytes that are a whole number of words of a size; the first place is 0
abbrev pub addresses_in : ℕ → Order → List ℕ → Result (List ℕ) LinkError
addresses_in size order bytes = if length bytes % size == 0
    then Ok (addresses size 0 (records size (λ word. number order size 0 word) bytes)) else Err NotMultiple

-- the addresses in the bytes of a file of a class, or why there are none
abbrev pub relr_of : Class → Order → List ℕ → Result (List ℕ) LinkError
relr_of ThirtyTwo order bytes = addresses_in 4 order bytes
relr_of SixtyFour order bytes = addresses_in 8 order bytes
relr_of _ order bytes = Err UnknownClass

-- the size of a word in bytes
abbrev pub word_size : Words → ℕ
word_size (Narrow words) = 4
word_size (Wide words) = 8

-- the words that an iterator has not yet read
abbrev pub words_left : Words → List ℕ
words_left (Narrow words) = table_items (table_rest words)
words_left (Wide words) = table_items (table_rest words)

-- the remaining addresses in the rest of the current bitmap
abbrev pub marks_left : Relr → List ℕ
marks_left iter = let size = word_size iter.words in
    marked size iter.base iter.bitmap iter.looked_at (marks size - iter.looked_at)

-- all remaining addresses: those of the current bitmap, and those of the remaining words
abbrev pub relr_rest : Relr → List ℕ
relr_rest iter = marks_left iter ++ addresses (word_size iter.words) iter.place (words_left iter.words)

-- one step in the current bitmap, which keeps the words and their place
abbrev pub MarkStep : Relr → Option ℕ → Relr → Type 0
MarkStep old result new =
    (new.words ≡ old.words) × (new.place ≡ old.place) × YieldsFirst marks_left old result new
