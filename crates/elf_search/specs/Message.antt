-- The number of each error, which never changes, and its text (that of `ld.so` of glibc; those of the cache and the numbers
-- are this project's own).
use Rattle.std.specs.Prelude.{ℕ, List, codes}
use Rattle.elf_linking.specs.Message.{link_message, link_number}
use Rattle.elf_search.specs.declared.error.SearchError.{SearchError}
use Rattle.elf_search.specs.declared.error.SearchError.TheVariants as error

-- the number and the text of an error; for `Link` those of the inner one
abbrev pub search_row : SearchError → ℕ × List ℕ
search_row error.FileData = (501, codes "cannot read file data")
search_row error.ShortFile = (502, codes "file too short")
search_row error.Magic = (503, codes "invalid ELF header")
search_row error.ByteOrder = (504, codes "ELF file data encoding not little-endian")
search_row error.IdentVersion = (505, codes "ELF file version ident does not match current one")
search_row error.OsAbi = (506, codes "ELF file OS ABI invalid")
search_row error.AbiVersion = (507, codes "ELF file ABI version invalid")
search_row error.Padding = (508, codes "nonzero padding in e_ident")
search_row error.Version = (509, codes "ELF file version does not match current one")
search_row error.Type = (510, codes "only ET_DYN and ET_EXEC can be loaded")
search_row error.EntrySize = (511, codes "ELF file's phentsize not the expected size")
search_row error.NoLoad = (512, codes "object file has no loadable segments")
search_row error.Executable = (513, codes "cannot dynamically load executable")
search_row error.NoDynamic = (514, codes "object file has no dynamic section")
search_row error.SharedExecutable = (515, codes "cannot dynamically load position-independent executable")
search_row error.EmptyToken = (516, codes "empty dynamic string token substitution")
search_row error.NotACache = (517, codes "not a cache of libraries")
search_row error.CacheCount = (518, codes "entries extend past the end of the cache")
search_row error.CacheOrder = (519, codes "cache is of another byte order")
search_row error.FewWords = (520, codes "too few words for the objects")
search_row error.NoObject = (521, codes "no such object or entry")
search_row error.CacheEntry = (522, codes "key or value past the end of the cache")
search_row error.CacheNumber = (523, codes "number in a key of the cache is too large")
search_row error.CacheEntryOrder = (524, codes "entries of the cache are not in order")
search_row error.CacheExtension = (525, codes "extension of the cache is damaged")
search_row error.HwcapsName = (526, codes "name of hwcaps past the end of the cache")
search_row error.HwcapsOrder = (527, codes "names of hwcaps are not in order")
search_row error.NoProvider = (530, codes "file of a need of versions is no object")
search_row (error.Link e) = (link_number e, link_message e)

-- the number of an error
abbrev pub search_number : SearchError → ℕ
search_number error = (search_row error).0

-- the message of an error
abbrev pub search_message : SearchError → List ℕ
search_message error = (search_row error).1
