-- Numbers in bytes (gABI, "ELF Header", data encoding: ELFDATA2LSB and ELFDATA2MSB), and tables of named
-- numbers (this project's own).
use Rattle.std.specs.Prelude.{ℕ, zero, suc, ◌+◌, ◌*◌, ◌^◌, List, slice_index, ◌==◌, [], ◌∷◌, if◌then◌else◌}
use Rattle.elf_base.specs.declared.bytes.Order.{Order}
use Rattle.elf_base.specs.declared.bytes.Order.TheVariants.{Little, Big}

-- the sum, over k below width, of the byte at place + k times 256 to the k
unfoldable pub little_sum : ℕ → ℕ → List ℕ → ℕ
little_sum zero place bytes = 0
little_sum (suc width) place bytes =
    little_sum width place bytes + slice_index bytes (place + width) * 256 ^ width

-- the sum, over k below width, of the byte at place + k times 256 to the width - 1 - k
unfoldable pub big_sum : ℕ → ℕ → List ℕ → ℕ
big_sum zero place bytes = 0
big_sum (suc width) place bytes =
    slice_index bytes place * 256 ^ width + big_sum width (suc place) bytes

-- the unsigned number in the `width` bytes from `place` on
unfoldable pub number : Order → ℕ → ℕ → List ℕ → ℕ
number Little width place bytes = little_sum width place bytes
number Big width place bytes = big_sum width place bytes

-- the number in one byte, which is the same in both byte orders
abbrev pub byte_at : ℕ → List ℕ → ℕ
byte_at place bytes = slice_index bytes place

-- the name of a number in a table, or what `other` makes of a number without a row
abbrev pub named_or : {A : Type 0} → (ℕ → A) → List (ℕ × A) → ℕ → A
named_or other [] n = other n
named_or other (row ∷ rows) n = if n == row.0 then row.1 else named_or other rows n
