-- Whether an opened file is a library for a search of `ld.so` (glibc 2.36).
use Rattle.std.specs.Prelude.{ℕ, List, Result, Ok, Err}
use Rattle.elf_library.specs.Fits.{fits_of}
use Rattle.elf_library.specs.declared.error.HeaderError.{HeaderError}
use Rattle.elf_library.specs.declared.error.HeaderError.TheVariants as header
use Rattle.elf_library.specs.declared.fits.Fit.{Fit}
use Rattle.elf_search.specs.declared.error.SearchError.{SearchError}
use Rattle.elf_search.specs.declared.error.SearchError.TheVariants as error

-- the error of a search for the error of a header
abbrev pub search_error : HeaderError → SearchError
search_error header.ShortFile = error.ShortFile
search_error header.Magic = error.Magic
search_error header.ByteOrder = error.ByteOrder
search_error header.IdentVersion = error.IdentVersion
search_error header.OsAbi = error.OsAbi
search_error header.AbiVersion = error.AbiVersion
search_error header.Padding = error.Padding
search_error header.Version = error.Version
search_error header.Type = error.Type
search_error header.EntrySize = error.EntrySize
search_error header.FileData = error.FileData

-- the same result with the error of a search
abbrev pub with_search_error : Result Fit HeaderError → Result Fit SearchError
with_search_error (Ok fit) = Ok fit
with_search_error (Err error) = Err (search_error error)

-- what a search does with the file with these first bytes and this number of bytes, for a program of a class and a machine
abbrev pub search_fit : ℕ → ℕ → ℕ → List ℕ → Result Fit SearchError
search_fit class machine len head = with_search_error (fits_of class machine len head)
