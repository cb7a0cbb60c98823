-- Different numbers mean different types, of sections and of segments.
use Rattle.std.proofs.Common.{◌≡◌, ℕ, Bool, List, [], ◌∷◌, Result, Ok, Err, if◌then◌else◌, sym, ◌∙◌, rules, arith}
use Rattle.elf_records.specs.declared.sections.ShType.TheVariants as sh_type
use Rattle.elf_records.specs.declared.program.Type.TheVariants as ph_type
use Rattle.elf_records.proofs.NamedRows.{named_has}
use Rattle.elf_records.specs.ProgramNumbers.{has_ph_type, ph_type_in_range, ph_type_of}
use Rattle.elf_records.specs.SectionNumbers.{has_sh_type, sh_type_in_range, sh_type_of}
use Rattle.xmas_elf.specs.Prelude.{ElfError, SegmentType, ShType}

-- the number of a type in a table
abbrev beside : {K : Type 0} → (K → Result K ElfError → Bool) → List (ℕ × Result K ElfError) → K → ℕ
beside means [] kind = 0
beside means (row ∷ rows) kind = if means kind row.1 then row.0 else beside means rows kind

module _ {K : Type 0} (number_of : K → ℕ) where
  -- the type has this number, if the result is a type
  abbrev HasNumber : ℕ → Result K ElfError → Type 0
  HasNumber n (Ok kind) = number_of kind ≡ n
  HasNumber n (Err error) = Unit {0}

  one_number : (type_of : ℕ → Result K ElfError) → ((n : ℕ) → HasNumber n (type_of n)) → (one other : ℕ) (kind : K) → type_of one ≡ Ok kind → type_of other ≡ Ok kind → one ≡ other
  one_number type_of has one other kind is also = sym (rw is at (has one)) ∙ (rw also at (has other))

abbrev sh_rows : List (ℕ × Result ShType ElfError)
sh_rows = (0, Ok sh_type.Null) ∷ (1, Ok sh_type.ProgBits) ∷ (2, Ok sh_type.SymTab) ∷ (3, Ok sh_type.StrTab) ∷ (4, Ok sh_type.Rela) ∷ (5, Ok sh_type.Hash) ∷ (6, Ok sh_type.Dynamic) ∷ (7, Ok sh_type.Note) ∷ (8, Ok sh_type.NoBits) ∷ (9, Ok sh_type.Rel) ∷ (10, Ok sh_type.ShLib) ∷ (11, Ok sh_type.DynSym) ∷ (14, Ok sh_type.InitArray) ∷ (15, Ok sh_type.FiniArray) ∷ (16, Ok sh_type.PreInitArray) ∷ (17, Ok sh_type.Group) ∷ (18, Ok sh_type.SymTabShIndex) ∷ []

abbrev sh_number : ShType → ℕ
sh_number (sh_type.OsSpecific n) = n
sh_number (sh_type.ProcessorSpecific n) = n
sh_number (sh_type.User n) = n
sh_number kind = beside has_sh_type sh_rows kind

sh_has : (n : ℕ) → HasNumber sh_number n (sh_type_of n)
unfolding sh_type_of
sh_has n = named_has sh_type_in_range (HasNumber sh_number) sh_rows n (search rules) (grind arith)

-- two numbers of the same section type are equal
pub one_section_number : (one other : ℕ) (kind : ShType) → sh_type_of one ≡ Ok kind → sh_type_of other ≡ Ok kind → one ≡ other
one_section_number = one_number sh_number sh_type_of sh_has

abbrev ph_rows : List (ℕ × Result SegmentType ElfError)
ph_rows = (0, Ok ph_type.Null) ∷ (1, Ok ph_type.Load) ∷ (2, Ok ph_type.Dynamic) ∷ (3, Ok ph_type.Interp) ∷ (4, Ok ph_type.Note) ∷ (5, Ok ph_type.ShLib) ∷ (6, Ok ph_type.Phdr) ∷ (7, Ok ph_type.Tls) ∷ (0x6474e552, Ok ph_type.GnuRelro) ∷ []

abbrev ph_number : SegmentType → ℕ
ph_number (ph_type.OsSpecific n) = n
ph_number (ph_type.ProcessorSpecific n) = n
ph_number kind = beside has_ph_type ph_rows kind

ph_has : (n : ℕ) → HasNumber ph_number n (ph_type_of n)
unfolding ph_type_of
ph_has n = named_has ph_type_in_range (HasNumber ph_number) ph_rows n (search rules) (grind arith)

-- two numbers of the same segment type are equal
pub one_segment_number : (one other : ℕ) (kind : SegmentType) → ph_type_of one ≡ Ok kind → ph_type_of other ≡ Ok kind → one ≡ other
one_segment_number = one_number ph_number ph_type_of ph_has
