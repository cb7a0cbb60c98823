-- Whether an opened file is a library for a search of `ld.so` (gABI, "ELF Header"; the tests, their order and what follows
-- from each are those of glibc 2.36 with Debian's own test of the machine).
use Rattle.std.specs.Prelude.{ℕ, ◌+◌, ◌*◌, ◌^◌, ◌==◌, ◌&&◌, ◌||◌, not, nat_lt, nat_le, is_err, Bool, List, [], ◌∷◌, ◌++◌, length, slice_index, Result, Ok, Err, if◌then◌else◌}
use Rattle.elf_base.specs.Number.{number}
use Rattle.elf_base.specs.FirstError.{and_then, unless}
use Rattle.elf_base.specs.declared.bytes.Order.TheVariants.{Little}
use Rattle.elf_library.specs.declared.error.HeaderError.{HeaderError}
use Rattle.elf_library.specs.declared.error.HeaderError.TheVariants as error
use Rattle.elf_library.specs.declared.fits.Fit.{Fit}
use Rattle.elf_library.specs.declared.fits.Fit.TheVariants as fit

-- the value of the first row whose condition is true, or else the last value
abbrev pub first_row : {A : Type 0} → List (Bool × A) → A → A
first_row [] last = last
first_row (row ∷ rows) last = if row.0 then row.1 else first_row rows last

-- the size of a file header: 52 bytes in class 32, 64 in class 64
abbrev pub header_size : ℕ → ℕ
header_size class = if class == 1 then 52 else 64

-- the number in two bytes at a place
abbrev pub half : ℕ → List ℕ → ℕ
half place head = number Little 2 place head

-- the number in four bytes at a place
abbrev pub word : ℕ → List ℕ → ℕ
word place head = number Little 4 place head

-- the first four bytes are 7f 45 4c 46
abbrev pub is_elf : List ℕ → Bool
is_elf head = word 0 head == 0x464c457f

-- the operating system's ABI (EI_OSABI) is 0 or that of GNU
abbrev pub is_abi : List ℕ → Bool
is_abi head = slice_index head 7 == 0 || slice_index head 7 == 3

-- the version of that ABI (EI_ABIVERSION) is 0, or below 4 of GNU's
abbrev pub is_abi_version : List ℕ → Bool
is_abi_version head = slice_index head 8 == 0 || (slice_index head 7 == 3 && nat_lt (slice_index head 8) 4)

-- the bytes 9 to 15 (EI_PAD) are 0
abbrev pub is_padded : List ℕ → Bool
is_padded head = slice_index head 9 == 0 && (half 10 head == 0 && word 12 head == 0)

-- why the first 16 bytes after the class are not those of a library, in order
abbrev pub ident_rows : List ℕ → List (Bool × HeaderError)
ident_rows head =
    (not (slice_index head 5 == 1), error.ByteOrder)
    ∷ (not (slice_index head 6 == 1), error.IdentVersion)
    ∷ (not (is_abi head), error.OsAbi)
    ∷ (not (is_abi_version head), error.AbiVersion)
    ∷ (not (is_padded head), error.Padding)
    ∷ []

-- one of these conditions is true
abbrev pub is_ident_other : List ℕ → Bool
is_ident_other head = is_err (unless (ident_rows head) (tt {0}))

-- the machine (e_machine) is another
abbrev pub is_machine_other : ℕ → List ℕ → Bool
is_machine_other machine head = not (half 18 head == machine)

-- the type (e_type) is that of an executable or of a shared object
abbrev pub is_type : List ℕ → Bool
is_type head = half 16 head == 2 || half 16 head == 3

-- the size of a program header: 32 bytes in class 32, 56 in class 64
abbrev pub entry_size : ℕ → ℕ
entry_size class = if class == 1 then 32 else 56

-- the size of a program header that the file gives (e_phentsize)
abbrev pub given_size : ℕ → List ℕ → ℕ
given_size class head = half (if class == 1 then 42 else 54) head

-- the number of program headers that the file gives (e_phnum)
abbrev pub given_count : ℕ → List ℕ → ℕ
given_count class head = half (if class == 1 then 44 else 56) head

-- the offset of the program headers that the file gives (e_phoff)
abbrev pub given_offset : ℕ → List ℕ → ℕ
given_offset class head = if class == 1 then word 28 head else number Little 8 32 head

-- the program headers are past the end of the file; where there are none, any offset below 2 to the 63 is as good
abbrev pub are_headers_past : ℕ → ℕ → List ℕ → Bool
are_headers_past class len head = if given_count class head == 0
    then nat_le (2 ^ 63) (given_offset class head) && nat_lt len (given_offset class head)
    else nat_lt len (given_offset class head + given_count class head * entry_size class)

-- the version of the file (e_version) is another than 1
abbrev pub is_version_other : List ℕ → Bool
is_version_other head = not (word 20 head == 1)

-- why the type and the program headers are not those of a library, in order
abbrev pub shape_rows : ℕ → ℕ → List ℕ → List (Bool × HeaderError)
shape_rows class len head =
    (not (is_type head), error.Type)
    ∷ (not (given_size class head == entry_size class), error.EntrySize)
    ∷ (are_headers_past class len head, error.FileData)
    ∷ []

-- what follows from the version and the machine
abbrev pub later_rows : ℕ → ℕ → List ℕ → List (Bool × Result Fit HeaderError)
later_rows class machine head =
    (is_version_other head, Err error.Version)
    ∷ (is_machine_other machine head, Ok fit.PassedOver)
    ∷ []

-- what follows from each test of the first bytes of a file, up to the machine
abbrev pub front_rows : ℕ → ℕ → List ℕ → List (Bool × Result Fit HeaderError)
front_rows class machine head =
    (nat_lt (length head) (header_size class), Err error.ShortFile)
    ∷ (not (is_elf head), Err error.Magic)
    ∷ (not (slice_index head 4 == class), Ok fit.PassedOver)
    ∷ (is_ident_other head && is_machine_other machine head, Ok fit.PassedOver)
    ∷ []

-- the result of the first test that fails, of those at the front, of the bytes 5 to 15 and of the later ones; a file that
-- fails none is taken
abbrev pub fits_of : ℕ → ℕ → ℕ → List ℕ → Result Fit HeaderError
fits_of class machine len head = first_row (front_rows class machine head)
    (and_then (unless (ident_rows head) (tt {0})) (λ _. first_row (later_rows class machine head)
    (and_then (unless (shape_rows class len head) (tt {0})) (λ _. Ok fit.Taken))))

-- the errors of the same tests for a program of the class and the machine that the file names itself (a class byte other
-- than 1 counts as class 64; that of an opened file is 1 or 2)
abbrev pub header_of_library : ℕ → List ℕ → Result (Unit {0}) HeaderError
header_of_library len head = unless (
    (nat_lt (length head) 52 || nat_lt (length head) (header_size (slice_index head 4)), error.ShortFile)
    ∷ (not (is_elf head), error.Magic)
    ∷ ident_rows head ++ ((is_version_other head, error.Version) ∷ shape_rows (slice_index head 4) len head)) tt
