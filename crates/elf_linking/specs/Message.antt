-- The number of each error, which never changes, and its text (this project's own).
use Rattle.std.specs.Prelude.{ℕ, List, codes}
use Rattle.elf_base.specs.Message.{row_of}
use Rattle.elf_linking.specs.declared.error.LinkError.{LinkError}
use Rattle.elf_linking.specs.declared.error.LinkError.TheVariants.{Elf, ShortTable, UnknownClass, BloomCount, BucketIndex, ChainIndex, ChainData, SymbolIndex, Missing, NoDynamic, NoEntry, Address, ShortNote, NotMultiple, ShortVersion, VersionCount, RelocationKind, ObjectIndex, VersionChain}

-- the number and the text of an error; for `Elf` those of the inner error
abbrev pub link_row : LinkError → ℕ × List ℕ
link_row (Elf error) = row_of error
link_row ShortTable = (101, codes "GNU hash table is too short")
link_row UnknownClass = (102, codes "Class is neither 1 nor 2")
link_row BloomCount = (103, codes "Number of Bloom words is not a power of two")
link_row BucketIndex = (104, codes "Bucket index is out of range")
link_row ChainIndex = (105, codes "Symbol index is before the first of the table")
link_row ChainData = (106, codes "Chain is not in the data")
link_row SymbolIndex = (107, codes "Symbol index is out of range")
link_row Missing = (108, codes "Symbol is missing from the GNU hash table")
link_row NoDynamic = (109, codes "No dynamic segment")
link_row NoEntry = (110, codes "Dynamic segment has no such entry")
link_row Address = (111, codes "Address is in no loaded segment")
link_row ShortNote = (112, codes "Note is cut off")
link_row NotMultiple = (113, codes "Data is not a whole number of words")
link_row ShortVersion = (114, codes "Version record is cut off")
link_row VersionCount = (115, codes "Version needs have more parts than bytes")
link_row RelocationKind = (116, codes "Kind of relocations is neither Rel nor Rela")
link_row ObjectIndex = (117, codes "Object index is out of range")
link_row VersionChain = (118, codes "Version records are more or fewer than told")

-- the number of an error
abbrev pub link_number : LinkError → ℕ
link_number error = (link_row error).0

-- the message of an error
abbrev pub link_message : LinkError → List ℕ
link_message error = (link_row error).1
