-- What one call of `next` of an iterator over headers gives: the header at its index, which is below the count.
use Rattle.std.proofs.Common.{◌≡◌, ℕ, zero, suc, ◌+◌, ◌-◌, ◌<◌, List, ◌∷◌, Option, None, Some, Result, Ok, IfSome, arith}
use Rattle.xmas_elf.specs.SectionHeader.{SectionStep, section_count_of, section_of}
use Rattle.xmas_elf.specs.ElfError.{ElfError}
use Rattle.xmas_elf.specs.HeaderTable.{header_rest, headers_from}
use Rattle.xmas_elf.specs.declared.sections.SectionIter.{SectionIter}
use Rattle.xmas_elf.specs.declared.sections.section_header.SectionHeader.{SectionHeader}

some_left : {H : Type 0} (header_at : ℕ → Result H ElfError) (index count : ℕ) (h : H) (others : List H) → headers_from header_at index count ≡ h ∷ others → 0 < count
some_left header_at index zero h others is = cc
some_left header_at index (suc count) h others is = omega arith

is_below : {H : Type 0} (header_at : ℕ → Result H ElfError) (limit index : ℕ) (h : H) (others : List H) → header_rest header_at limit index ≡ h ∷ others → index < limit
is_below header_at limit index h others is =
    let some = some_left header_at index (limit - index) h others is in omega (arith, some)

-- the header that was given, and the index behind it
abbrev pub SectionGiven : SectionIter → SectionIter → Option SectionHeader → Type 0
SectionGiven old new found = IfSome found (λ section. (old.next_index < section_count_of old.file.now)
    × (section_of old.file.now old.next_index ≡ Ok section) × (new.next_index ≡ old.next_index + 1))

pub section_given : (old new : SectionIter) (found : Option SectionHeader) → SectionStep old found new → SectionGiven old new found
section_given old new None step = tt
section_given old new (Some h) step =
    (is_below (section_of old.file.now) (section_count_of old.file.now) old.next_index h _ step.1.0, step.1.1.1, step.1.1.0)
