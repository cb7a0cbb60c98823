-- The debug file whose symbols name what is in a file (gdb's manual, "Separate Debug Files"; that it has a symbol table is this
-- project's own). Which of the files at the paths of `DebugWanted::paths` it is, no definition says.
use Rattle.std.specs.Prelude.{◌≡◌, ℕ, List, None, Some, Ok, IfSome, option_map}
use Rattle.std.specs.Borrow.{Bor}
use Rattle.elf_addresses.specs.Symtab.{IsSymtabSection}
use Rattle.elf_base.specs.FileHeader.{header_of}
use Rattle.elf_debug.specs.Wanted.{checked, own_id}
use Rattle.elf_debug.specs.declared.paths.DebugHow.{DebugHow}
use Rattle.elf_debug.specs.declared.wanted.DebugWanted.{DebugWanted}
use Rattle.xmas_elf.specs.First.{FindsFirstAt}
use Rattle.xmas_elf.specs.Link.{IsDebugLink}
use Rattle.xmas_elf.specs.SectionHeader.{section_list}
use Rattle.xmas_elf.specs.Types.{ElfFile}

-- a file has a section of type SHT_SYMTAB
abbrev pub HasSymtab : ElfFile → Type 0
HasSymtab file = (index : ℕ) × FindsFirstAt IsSymtabSection (section_list file) (Some index)

-- a file passes the check of the debug file that is wanted, found in some way, and has a symbol table
pub record Agrees (wanted : DebugWanted) (debug : ElfFile) : Type 0 where
  pub how : DebugHow
  pub passes : checked how (option_map (λ id. id.now) wanted.build_id) (option_map (λ link. link.1) wanted.link) debug ≡ Ok tt
  pub symtab : HasSymtab debug

-- bytes are such a file
pub record IsWanted (wanted : DebugWanted) (bytes : List ℕ) : Type 0 where
  pub debug : ElfFile
  pub bytes_are : debug.input.now ≡ bytes
  pub header_is : header_of bytes ≡ Ok debug.header
  pub agrees : Agrees wanted debug

-- bytes are the debug file that a file says by its build id, and by its link if that is read
pub record IsDebugFileOf (file : ElfFile) (bytes : List ℕ) : Type 0 where
  pub wanted : DebugWanted
  pub id_is : wanted.build_id ≡ own_id file
  pub link_is : IfSome wanted.link (λ link. IsDebugLink file link.0.now link.1)
  pub is : IsWanted wanted bytes

-- bytes are the debug file of an input without a symbol table
pub record IsDebugOf (input bytes : List ℕ) : Type 0 where
  pub file : ElfFile
  pub input_is : file.input.now ≡ input
  pub header_is : header_of input ≡ Ok file.header
  pub no_symtab : FindsFirstAt IsSymtabSection (section_list file) None
  pub is : IsDebugFileOf file bytes

-- bytes name what is in an input: its own, or those of its debug file, if one is asked for
pub data AreNaming (Asked : Type 0) (input bytes : Bor (List ℕ)) : Type 0 where
  own : bytes ≡ input → AreNaming Asked input bytes
  of_debug : Asked → IsDebugOf input.now bytes.now → AreNaming Asked input bytes

-- a property of the bytes that name what is in an input
abbrev pub ByNaming : Type 0 → Bor (List ℕ) → (Bor (List ℕ) → Type 0) → Type 0
ByNaming Asked input P = (bytes : Bor (List ℕ)) × AreNaming Asked input bytes × P bytes
