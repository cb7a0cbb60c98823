-- The directory that an element of a search path names, and the path of a candidate (glibc 2.36: empty elements, slashes at
-- the end).
use Rattle.std.specs.Prelude.{ℕ, ◌==◌, ◌&&◌, ◌||◌, not, true, false, Bool, List, [], ◌∷◌, ◌++◌, length, if◌then◌else◌}
use Rattle.elf_search.specs.Tokens.{Values, expanded, expanded_left}
use Rattle.elf_search.specs.declared.paths.DirectoryBytes.{DirectoryBytes}
use Rattle.elf_search.specs.declared.paths.PathBytes.{PathBytes}

-- all bytes are slashes (47)
abbrev pub are_slashes : List ℕ → Bool
are_slashes [] = true
are_slashes (byte ∷ bytes) = if byte == 47 then are_slashes bytes else false

-- the bytes without the slashes at the end, and one slash
abbrev pub with_slash : List ℕ → List ℕ
with_slash [] = 47 ∷ []
with_slash (byte ∷ bytes) = if are_slashes (byte ∷ bytes) then 47 ∷ [] else byte ∷ with_slash bytes

-- the same of a whole text, where a slash that begins it stays, and is then the one slash; the empty text stays empty
abbrev pub as_directory : List ℕ → List ℕ
as_directory [] = []
as_directory (byte ∷ bytes) = byte ∷ (if byte == 47 && are_slashes bytes then [] else with_slash bytes)

-- the directory that an element names, with its slash; for an empty one, which is the current directory, nothing
abbrev pub directory_bytes : Values → List ℕ → List ℕ
directory_bytes values element = as_directory (expanded values element)

-- a list is empty
abbrev pub is_empty : List ℕ → Bool
is_empty [] = true
is_empty (byte ∷ bytes) = false

-- an element names a directory: it is empty, or not empty with its tokens expanded
abbrev pub has_directory : Values → List ℕ → Bool
has_directory values element = length element == 0 || not (is_empty (expanded values element))

-- the bytes of a directory that an iterator has not yet returned
abbrev pub directory_left : DirectoryBytes → List ℕ
directory_left iter = if iter.is_done then [] else
    (if iter.is_first then as_directory (expanded_left iter.bytes) else with_slash (expanded_left iter.bytes))

-- the bytes of a path that an iterator has not yet returned
abbrev pub path_left : PathBytes → List ℕ
path_left iter = directory_left iter.directory ++ iter.subdirectory.now ++ iter.name.now
