-- What the data of a section or a segment is taken for, if it is of one kind.
use Rattle.std.specs.Prelude.{ℕ, List, Option, None, Some, Result, Ok}
use Rattle.xmas_elf.specs.Content.{Content, symbols_64, table_of}
use Rattle.xmas_elf.specs.Types.{ElfError}

-- the bytes of symbols of class 64, if that is what it is
abbrev pub symbols_64_in : Result Content ElfError → Option (List ℕ)
symbols_64_in (Ok (table_of symbols_64 order bytes)) = Some bytes
symbols_64_in _ = None
