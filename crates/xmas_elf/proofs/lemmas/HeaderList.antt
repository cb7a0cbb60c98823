-- For callers: the header at an index of a list, a search by position, and one more iteration of a loop.
use Rattle.std.proofs.Common.{◌≡◌, ℕ, ◌+◌, ◌-◌, ◌≤◌, ◌<◌, List, [], ◌∷◌, length, Option, None, Some, MatchOption, Result, Ok, IsOkAnd, refl, sym, ◌∙◌, arith}
use Rattle.std.specs.List.{AllWithin, HoldsAt}
use Rattle.xmas_elf.specs.Prelude.{ElfError, ElfFile, ProgramHeader, ProgramIter, SectionHeader, SectionIter}
use Rattle.xmas_elf.specs.SectionHeader.{SectionStep, program_count_of, section_count_of, section_list, section_of}
use Rattle.xmas_elf.specs.HeaderTable.{EachBelow, IsLongest, before, header_rest, headers_from}
use Rattle.xmas_elf.specs.ProgramHeader.{ProgramStep, program_list, program_of}
use Rattle.xmas_elf.proofs.HeaderLists.{header_list-longest}

-- an item of a list that isn't empty
pub first_item : {H : Type 0} (items : List H) (i : ℕ) → i < length items → H
first_item [] i below = absurd (omega arith)
first_item (h ∷ others) i below = h

-- a property of all items below a position of the longest list is a property of the headers below that index
pub headers_within : {H : Type 0} (header_at : ℕ → Result H ElfError) (limit : ℕ) (items : List H) (P : H → Type 0) (high : ℕ) → IsLongest header_at limit items → high ≤ length items → AllWithin P items 0 high → EachBelow header_at P high
headers_within header_at limit items P high longest fits all i h below is =
    let item = longest.each i (omega arith) h in
    let holds = all i h (omega arith) below in grind arith

-- what the result of `position` in a list says of the headers by index: if it is an index, the header there
-- has the property and those before it do not; otherwise no header in the list has it
module _ {H : Type 0} (header_at : ℕ → Result H ElfError) (limit : ℕ) (items : List H) (P N : H → Type 0) where
  abbrev pub FoundAt : Option ℕ → Type 0
  FoundAt r = MatchOption r (AllWithin N items 0 (length items))
      (λ i. (i < length items) × HoldsAt P items i × AllWithin N items 0 i)

  abbrev pub FoundHeader : Option ℕ → Type 0
  FoundHeader r = MatchOption r (EachBelow header_at N (length items))
      (λ i. IsOkAnd (header_at i) P × EachBelow header_at N i)

  pub found_header : (r : Option ℕ) → IsLongest header_at limit items → FoundAt r → FoundHeader r
  found_header None longest found = headers_within header_at limit items N (length items) longest (omega arith) found
  found_header (Some i) longest found = (
    let d = first_item items i found.0 in let item = longest.each i found.0 d in let holds = found.1 d in grind arith,
    headers_within header_at limit items N i longest (let below = found.0 in omega arith) found.2,
  )

-- the result of `position` in the sections, and in the segments, of a file
pub found_section : (file : ElfFile) (P N : SectionHeader → Type 0) (r : Option ℕ) → FoundAt (section_of file) (section_count_of file) (section_list file) P N r → FoundHeader (section_of file) (section_count_of file) (section_list file) P N r
found_section file P N r found =
    found_header (section_of file) (section_count_of file) (section_list file) P N r (header_list-longest (section_of file) (section_count_of file)) found

pub found_segment : (file : ElfFile) (P N : ProgramHeader → Type 0) (r : Option ℕ) → FoundAt (program_of file) (program_count_of file) (program_list file) P N r → FoundHeader (program_of file) (program_count_of file) (program_list file) P N r
found_segment file P N r found =
    found_header (program_of file) (program_count_of file) (program_list file) P N r (header_list-longest (program_of file) (program_count_of file)) found

pub sections_within : (file : ElfFile) (P : SectionHeader → Type 0) (high : ℕ) → high ≤ length (section_list file) → AllWithin P (section_list file) 0 high → EachBelow (section_of file) P high
sections_within file P high fits all =
    headers_within (section_of file) (section_count_of file) (section_list file) P high (header_list-longest (section_of file) (section_count_of file)) fits all

-- the first of the remaining headers is the header at the index, and the others are those that remain after
-- it
rest-first : {H : Type 0} (header_at : ℕ → Result H ElfError) (index count : ℕ) (h : H) (others : List H) → headers_from header_at index count ≡ h ∷ others → (header_at index ≡ Ok h) × (others ≡ headers_from header_at (index + 1) (count - 1))
rest-first header_at index count h others is = grind arith

pub first_of_rest : {H : Type 0} (header_at : ℕ → Result H ElfError) (limit index : ℕ) (h : H) (others : List H) → header_rest header_at limit index ≡ h ∷ others → (header_at index ≡ Ok h) × (others ≡ header_rest header_at limit (index + 1))
first_of_rest header_at limit index h others is = grind (arith, rest-first)

-- the progress of a loop with a counter over a list: all headers so far have the property, and the remaining
-- ones begin at the index
pub record HasPassed {H : Type 0} (header_at : ℕ → Result H ElfError) (limit : ℕ) (P : H → Type 0) (rest : List H) (index : ℕ) : Type 0 where
  pub left : rest ≡ header_rest header_at limit index
  pub counted : index + length rest ≡ length (header_rest header_at limit 0)
  pub passed : EachBelow header_at P index

pub has_passed_one : {H : Type 0} (header_at : ℕ → Result H ElfError) (limit : ℕ) (P : H → Type 0) (index : ℕ) (rest others : List H) (h : H) → rest ≡ h ∷ others → P h → HasPassed header_at limit P rest index → HasPassed header_at limit P others (index + 1)
has_passed_one header_at limit P index rest others h is holds before =
    let first = first_of_rest header_at limit index h others (sym before.left ∙ is) in grind arith

-- one call of `next`: it returns the header at the index, if that is below the limit and can be read
step_gives : {H : Type 0} (header_at : ℕ → Result H ElfError) (limit index : ℕ) (h : H) (rest others : List H) (r : Option H) → index < limit → header_at index ≡ Ok h → rest ≡ header_rest header_at limit index → MatchOption r ((rest ≡ []) × (others ≡ [])) (λ x. rest ≡ x ∷ others) → r ≡ Some h
step_gives header_at limit index h rest others r below is rest_is step = grind arith

pub next_section_gives : (old new : SectionIter) (r : Option SectionHeader) (h : SectionHeader) → SectionStep old r new → old.next_index < section_count_of old.file.now → section_of old.file.now old.next_index ≡ Ok h → r ≡ Some h
next_section_gives old new r h step below is =
    step_gives (section_of old.file.now) (section_count_of old.file.now) old.next_index h _ _ r below is refl step.1.0

pub next_segment_gives : (old new : ProgramIter) (r : Option ProgramHeader) (h : ProgramHeader) → ProgramStep old r new → old.next_index < program_count_of old.file.now → program_of old.file.now old.next_index ≡ Ok h → r ≡ Some h
next_segment_gives old new r h step below is =
    step_gives (program_of old.file.now) (program_count_of old.file.now) old.next_index h _ _ r below is refl step.1.0
