-- Links to debug information in another file (a convention of GNU's tools; that the section may have any type
-- is this project's own).
use Rattle.std.specs.Prelude.{◌≡◌, ℕ, ◌+◌, ◌≤◌, List, codes, length, drop}
use Rattle.elf_base.specs.FileHeader.{file_order}
use Rattle.elf_base.specs.Number.{number}
use Rattle.elf_base.specs.Text.{IsText}
use Rattle.elf_records.specs.Note.{rounded_up}
use Rattle.xmas_elf.specs.Prelude.{ElfFile, Order}
use Rattle.xmas_elf.specs.SectionData.{IsDataNamed}

-- the offset of the checksum in a link: after the text and its zero byte, at a multiple of four
abbrev pub checksum_place : List ℕ → ℕ
checksum_place text = rounded_up (length text + 1)

-- the bytes are a link: a text at their start, and its checksum, a number of four bytes
pub record IsLink (order : Order) (bytes text : List ℕ) (checksum : ℕ) : Type 0 where
  pub front : IsText bytes 0 text
  pub within : checksum_place text + 4 ≤ length bytes
  pub checksum_is : checksum ≡ number order 4 (checksum_place text) bytes

-- the link to debug information in a file: the name of another file, and the checksum of its bytes
pub record IsDebugLink (file : ElfFile) (text : List ℕ) (checksum : ℕ) : Type 0 where
  pub bytes : List ℕ
  pub is_data : IsDataNamed file (codes ".gnu_debuglink") bytes
  pub is_link : IsLink (file_order file.header) bytes text checksum

-- the bytes are an alternate link: a text at their start, and all bytes after its zero byte
pub record IsTextAndRest (bytes text rest : List ℕ) : Type 0 where
  pub front : IsText bytes 0 text
  pub rest_is : rest ≡ drop (length text + 1) bytes

-- the alternate link in a file: the name of a file shared by several files, and its build id
pub record IsAlternateLink (file : ElfFile) (text rest : List ℕ) : Type 0 where
  pub bytes : List ℕ
  pub is_data : IsDataNamed file (codes ".gnu_debugaltlink") bytes
  pub is_link : IsTextAndRest bytes text rest
