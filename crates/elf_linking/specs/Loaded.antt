-- The bytes of a file at addresses of its loaded segments (gABI, "Program Header": PT_LOAD, p_vaddr and
-- p_filesz; that the last segment with all of the bytes is the one read, since Linux and glibc map it over those before
-- it).
use Rattle.std.specs.Prelude.{◌≡◌, ◌≢◌, ℕ, ◌+◌, ◌-◌, ◌<◌, ◌≤◌, ◌&&◌, ◌==◌, if◌then◌else◌, nat_le, Bool, List, filter, Option, None, Result, Ok, Err, ok_or, drop, take, length}
use Rattle.std.specs.Borrow.{Bor}
use Rattle.std.specs.List.{AllWithin, HoldsAt, last_or}
use Rattle.elf_base.specs.FileHeader.{file_class, file_order}
use Rattle.elf_base.specs.Lent.{LiesAt}
use Rattle.elf_base.specs.Number.{number}
use Rattle.elf_base.specs.FirstError.{and_then}
use Rattle.elf_base.specs.declared.error.ElfError.{ElfError}
use Rattle.elf_linking.specs.declared.error.LinkError.{LinkError}
use Rattle.elf_linking.specs.declared.error.LinkError.TheVariants.{Address, Elf, UnknownClass}
use Rattle.elf_linking.specs.Segments.{segment_bytes, segments_of}
use Rattle.elf_linking.specs.declared.segments.Segment.{Segment}
use Rattle.xmas_elf.specs.declared.ElfFile.{ElfFile}

-- a result of the port, with its error in `Elf`
abbrev pub as_link_error : {A : Type 0} → Result A ElfError → Result A LinkError
as_link_error (Ok value) = Ok value
as_link_error (Err error) = Err (Elf error)

-- the returned bytes, or the error
abbrev pub lent : Result (Bor (List ℕ)) LinkError → Result (List ℕ) LinkError
lent (Ok part) = Ok part.now
lent (Err error) = Err error

-- the segment is loaded, and the file contains its bytes at `address .. address + count`
pub record HasFileBytes (address count : ℕ) (segment : Segment) : Type 0 where
  pub loaded : segment.kind ≡ 1
  pub begins : segment.address ≤ address
  pub ends : address + count ≤ segment.address + segment.file_size

-- whether a segment is loaded and the file contains its bytes at `address .. address + count`
abbrev pub has_file_bytes : ℕ → ℕ → Segment → Bool
has_file_bytes address count segment = segment.kind == 1 && nat_le segment.address address
    && nat_le (address + count) (segment.address + segment.file_size)

-- the last loaded segment with these bytes, as a function
unfoldable pub segment_at_of : ElfFile → ℕ → ℕ → Option Segment
segment_at_of file address count = last_or None (filter (has_file_bytes address count) (segments_of file))

-- no segment from an index on is loaded and has these bytes
abbrev pub NoneHasFileBytes : ElfFile → ℕ → ℕ → ℕ → Type 0
NoneHasFileBytes file address count low =
    AllWithin (λ segment. ¬ HasFileBytes address count segment) (segments_of file) low (length (segments_of file))

-- the segment is the last that is loaded and has these bytes
pub record IsLastWithBytes (file : ElfFile) (address count : ℕ) (segment : Segment) : Type 0 where
  pub index : ℕ
  pub below : index < length (segments_of file)
  pub stands : HoldsAt (λ item. item ≡ segment) (segments_of file) index
  pub holds : HasFileBytes address count segment
  pub last : NoneHasFileBytes file address count (index + 1)

-- the file offset of the byte at an address in this segment
abbrev pub place_of : Segment → ℕ → ℕ
place_of segment address = segment.offset + (address - segment.address)

-- `part` are the file bytes for `address .. address + count`
pub record IsAt (file : ElfFile) (address count : ℕ) (part : List ℕ) : Type 0 where
  pub segment : Segment
  pub holder : IsLastWithBytes file address count segment
  pub count_is : length part ≡ count
  pub bytes_are : part ≡ take count (drop (place_of segment address) file.input.now)

-- the place of `part` in the memory of the file; no bytes may be anywhere
pub record LiesAsLoaded (file : ElfFile) (address count : ℕ) (part : Bor (List ℕ)) : Type 0 where
  pub segment : Segment
  pub holder : IsLastWithBytes file address count segment
  pub lies : count ≢ 0 → LiesAt file.input (place_of segment address) part

-- what `keep` leaves of the bytes from an address on in a segment, if there is one
abbrev pub bytes_of_segment : ElfFile → ℕ → (List ℕ → List ℕ) → Option Segment → Result (List ℕ) LinkError
bytes_of_segment file address keep found = and_then (ok_or found Address) (λ segment.
    and_then (as_link_error (segment_bytes file segment)) (λ bytes. Ok (keep (drop (address - segment.address) bytes))))

-- the bytes at addresses, or why there are none, as a function
unfoldable pub bytes_at_of : ElfFile → ℕ → ℕ → Result (List ℕ) LinkError
bytes_at_of file address count = bytes_of_segment file address (take count) (segment_at_of file address count)

-- the bytes from an address on, or why there are none, as a function
unfoldable pub bytes_from_of : ElfFile → ℕ → Result (List ℕ) LinkError
bytes_from_of file address = bytes_of_segment file address (λ bytes. bytes) (segment_at_of file address 1)

-- the number in this many bytes at an address
abbrev pub number_at : ElfFile → ℕ → ℕ → Result ℕ LinkError
number_at file width address = and_then (bytes_at_of file address width) (λ bytes. Ok (number (file_order file.header) width 0 bytes))

-- the number in a word at an address, which is as wide as the addresses of the file's class
abbrev pub word_at_of : ElfFile → ℕ → Result ℕ LinkError
word_at_of file address = if file_class file.header == 1 then number_at file 4 address
    else (if file_class file.header == 2 then number_at file 8 address else Err UnknownClass)
