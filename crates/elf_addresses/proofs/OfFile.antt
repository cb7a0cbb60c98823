-- The symbols of a file without a symbol table.
use Rattle.std.proofs.Common.{◌≡◌, ℕ, None, Result, Ok, Err}
use Rattle.std.specs.Prelude.{MatchResult}
use Rattle.elf_base.specs.FileHeader.{file_class}
use Rattle.elf_addresses.specs.OfFile.{AreDynamic, AreAddressSymbols, HasNoSymbols, by_dynamic, in_dynamic}
use Rattle.elf_addresses.specs.Symtab.{IsSymtabSection}
use Rattle.elf_addresses.specs.declared.symbols.AddressSymbols.{AddressSymbols}
use Rattle.elf_linking.specs.DynamicObject.{IsObjectError}
use Rattle.elf_linking.specs.declared.error.LinkError.{LinkError}
use Rattle.xmas_elf.specs.First.{FindsFirstAt}
use Rattle.xmas_elf.specs.SectionHeader.{section_list}
use Rattle.xmas_elf.specs.Types.{ElfFile}

pub dynamic_symbols : {E : Type 0} {r : _} (class size : ℕ) (file : ElfFile) (result : Result (AddressSymbols E r) LinkError) → file_class file.header ≡ class → FindsFirstAt IsSymtabSection (section_list file) None → MatchResult result (AreDynamic class size file) (IsObjectError class size file) → MatchResult result (AreAddressSymbols class size file) (HasNoSymbols class size file)
dynamic_symbols class size file (Ok symbols) is none are = in_dynamic is none are
dynamic_symbols class size file (Err error) is none why = by_dynamic error is none why
