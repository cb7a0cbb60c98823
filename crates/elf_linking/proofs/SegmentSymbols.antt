-- The symbols of a dynamic segment with their names, or why there are none.
use Rattle.std.proofs.Common.{◌≡◌, ℕ, List, Result, Ok, Err, refl, ap, ◌∙◌}
use Rattle.elf_base.specs.FirstError.{and_then}
use Rattle.elf_linking.specs.DynamicView.{counted_symbols_of, dynamic_entries_of, strings_by}
use Rattle.elf_linking.specs.FileSymbols.{AreSegmentSymbols, counted}
use Rattle.elf_linking.specs.References.{IsReachedCount}
use Rattle.elf_linking.specs.declared.error.LinkError.{LinkError}
use Rattle.elf_records.specs.declared.dynamic.Dynamic.{Dynamic}
use Rattle.xmas_elf.specs.declared.ElfFile.{ElfFile}

-- two slices, or the first error
abbrev both : Result (List ℕ) LinkError → Result (List ℕ) LinkError → Result (List ℕ × List ℕ) LinkError
both bytes strings = and_then bytes (λ bytes. and_then strings (λ text. Ok (bytes, text)))

module _ (file : ElfFile) (size : ℕ) (entries : List (Dynamic ℕ)) (read : dynamic_entries_of file ≡ Ok entries) where
  pub no_count : (error : LinkError) → IsReachedCount file entries (Err error) → AreSegmentSymbols file size (Err error)
  no_count error reached = counted entries (Err error) (Err error) read reached refl

  module _ (count : ℕ) (reached : IsReachedCount file entries (Ok count)) where
    by_parts : (bytes strings : Result (List ℕ) LinkError) → bytes ≡ counted_symbols_of file entries count size → strings ≡ strings_by file entries → AreSegmentSymbols file size (both bytes strings)
    by_parts bytes strings is are = counted entries (Ok count) (both bytes strings) read reached (ap (λ found. both found strings) is ∙ ap (both (counted_symbols_of file entries count size)) are)

    pub no_bytes : (error : LinkError) → Err error ≡ counted_symbols_of file entries count size → AreSegmentSymbols file size (Err error)
    no_bytes error is = by_parts (Err error) (strings_by file entries) is refl

    pub no_strings : (bytes : List ℕ) (error : LinkError) → Ok bytes ≡ counted_symbols_of file entries count size → Err error ≡ strings_by file entries → AreSegmentSymbols file size (Err error)
    no_strings bytes error is none = by_parts (Ok bytes) (Err error) is none

    pub all_read : (bytes text : List ℕ) → Ok bytes ≡ counted_symbols_of file entries count size → Ok text ≡ strings_by file entries → AreSegmentSymbols file size (Ok (bytes, text))
    all_read bytes text is are = by_parts (Ok bytes) (Ok text) is are
