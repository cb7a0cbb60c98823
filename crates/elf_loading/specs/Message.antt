-- The number of each error, which never changes, and its text (this project's own).
use Rattle.std.specs.Prelude.{ℕ, List, codes}
use Rattle.elf_linking.specs.Message.{link_message, link_number}
use Rattle.elf_loading.specs.declared.error.LoadError.{LoadError}
use Rattle.elf_loading.specs.declared.error.LoadError.TheVariants as error

-- the number and the text of an error; for `Link` those of the inner one
abbrev pub load_row : LoadError → ℕ × List ℕ
load_row error.Type = (301, codes "Type is neither executable nor shared object")
load_row error.EntrySize = (302, codes "Program headers are not of the size of the class")
load_row error.Count = (303, codes "Program header table is empty or larger than a page")
load_row error.Table = (304, codes "Program header table is past the end of the file")
load_row error.FileSize = (305, codes "Load segment is larger in the file than in memory")
load_row error.Empty = (306, codes "Load segment is empty")
load_row error.Misaligned = (307, codes "Address and offset of a load segment differ modulo the page size")
load_row error.Alignment = (308, codes "Alignment of a load segment is not a power of two")
load_row error.Range = (309, codes "Load segment is past the address limit")
load_row error.Data = (310, codes "Load segment is past the end of the file")
load_row error.Overlap = (311, codes "Load segment begins before the end of the one before it")
load_row error.Zeros = (312, codes "Load segment has zeros but is not readable and writable")
load_row error.NoLoad = (313, codes "No load segment")
load_row error.Headers = (314, codes "Program headers are not where the file says they are in memory")
load_row error.Interpreter = (315, codes "Path of the interpreter is not valid")
load_row error.Relro = (316, codes "Part that is read-only after relocation is in no load segment")
load_row error.Tls = (317, codes "Thread-local storage is not valid")
load_row error.ImageSize = (318, codes "Image is not of the size of the span")
load_row error.Dynamic = (319, codes "Dynamic segment is in no readable load segment")
load_row error.NoEntry = (320, codes "No string table or no symbols")
load_row error.RelocationSize = (321, codes "Size of relocations is not that of the class")
load_row error.NotMultiple = (322, codes "Table of relocations is not a whole number of them")
load_row error.Unreadable = (323, codes "Table of the dynamic segment is in no readable load segment")
load_row error.SlotKind = (324, codes "Kind of relocations of the procedure linkage table is neither Rel nor Rela")
load_row error.Machine = (325, codes "Machine is not supported")
load_row error.FewMarks = (326, codes "Marks have fewer bits than the load segments have bytes")
load_row error.WordType = (327, codes "Type of a relocation is not supported")
load_row error.WordAddress = (328, codes "Word is in no load segment")
load_row error.ReadOnly = (329, codes "Word is in a load segment that is not writable")
load_row error.WordsOverlap = (330, codes "Words overlap")
load_row error.WordInTable = (331, codes "Word is in a table of the dynamic segment")
load_row error.Unresolved = (332, codes "Symbol is in no object")
load_row error.CopySource = (333, codes "Bytes to copy are not in the image of their object")
load_row error.ByteOrder = (334, codes "Byte order is not little-endian")
load_row error.IdentVersion = (335, codes "Version in the first bytes is not 1")
load_row error.OsAbi = (336, codes "ABI of the operating system is neither System V nor GNU")
load_row error.AbiVersion = (337, codes "Version of the ABI is not known")
load_row error.Padding = (338, codes "Bytes 9 to 15 are not zero")
load_row error.Version = (339, codes "Version of the file is not 1")
load_row error.Executable = (340, codes "Program at a fixed address is no library")
load_row error.NoDynamic = (341, codes "No dynamic segment")
load_row error.Entry = (342, codes "Entry point is past the address limit")
load_row error.NoAddends = (343, codes "Relocations without addends in a file of class 64")
load_row error.NoSlots = (344, codes "No table of the procedure linkage table for its kind of relocations")
load_row error.FirstPacked = (345, codes "First packed relocation is not an address")
load_row error.RelativeCount = (346, codes "Fewer relative relocations than are counted")
load_row error.SlotType = (347, codes "Type of a relocation is not for the procedure linkage table")
load_row error.NoSize = (348, codes "Size of a symbol that is in no object")
load_row error.CopyKind = (349, codes "Symbol to copy is absolute or an indirect function")
load_row error.CallSymbol = (350, codes "Relocation by a function that names a symbol")
load_row error.Addends = (351, codes "Relocations with addends in a file of class 32")
load_row (error.Link inner) = (link_number inner, link_message inner)

-- the number of an error
abbrev pub load_number : LoadError → ℕ
load_number error = (load_row error).0

-- the message of an error
abbrev pub load_message : LoadError → List ℕ
load_message error = (load_row error).1
