-- The file as it is asked for (this project's own): whole, or without its section header table (gABI, "ELF Header":
-- e_shoff is 0 if there is none; it is at offset 32 in class 32, and at 40 in class 64).
use Rattle.std.specs.Prelude.{ℕ, ◌+◌, ◌++◌, ◌==◌, List, drop, if◌then◌else◌, length, nat_lt, replicate, slice_index, take}
use Rattle.elfsize.specs.declared.view.View.{View}
use Rattle.elfsize.specs.declared.view.View.TheVariants.{Segments, Symbols, Whole}

-- zeros in place of some bytes
abbrev pub zeroed : ℕ → ℕ → List ℕ → List ℕ
zeroed offset count bytes = (take offset bytes ++ replicate count 0) ++ drop (offset + count) bytes

-- a file without its section header table; a shorter one has no ELF header
abbrev pub without_sections : List ℕ → List ℕ
without_sections bytes =
    if nat_lt (length bytes) 48 then bytes else (if slice_index bytes 4 == 1 then zeroed 32 4 bytes else zeroed 40 8 bytes)

-- the bytes that are read of a file: all of them, or without the section header table if segments alone are asked for
abbrev pub shown : View → List ℕ → List ℕ
shown Whole bytes = bytes
shown Segments bytes = without_sections bytes
shown Symbols bytes = bytes
