-- The section of a symbol, by its section index.
use Rattle.std.proofs.Common.{◌≡◌, ◌≢◌, ℕ, inl, nat_le, Result, Ok, Err, IfOk, refl, sym}
use Rattle.std.proofs.lemmas.Bool.{leb-false}
use Rattle.xmas_elf.specs.Prelude.{ElfError, ElfFile, SectionHeader}
use Rattle.xmas_elf.specs.SectionHeader.{section_by_u16, section_of}
use Rattle.xmas_elf.specs.Symbol.{SymbolFields}
use Rattle.xmas_elf.specs.SymbolSection.{IsSectionIndex}
use Rattle.xmas_elf.proofs.FirstNamed.{not_failed}

-- the index of a section header that was read at the symbol's own index
pub has_own_index : (file : ElfFile) (symbol : SymbolFields) (self_index : ℕ) (r : Result SectionHeader ElfError) → symbol.shndx ≢ 0 → r ≡ section_by_u16 file.input.now file.header symbol.shndx → IfOk r (λ section. (index : ℕ) × IsSectionIndex file symbol self_index index × (section_of file index ≡ Ok section))
unfolding section_by_u16
has_own_index file symbol self_index (Ok section) defined exact =
    let (low, entry) = not_failed (nat_le 0xff00 symbol.shndx) _ _ section (sym exact) in
    (symbol.shndx, record { defined = defined; is = inl (leb-false 0xff00 symbol.shndx low, refl) }, entry)
has_own_index file symbol self_index (Err error) defined exact = tt
