-- Where a debug file is looked for (gdb's manual, "Separate Debug Files"; that a build id has at least two bytes, and that a
-- file at a relative path has no path in its folder under the directory, is this project's own).
use Rattle.std.specs.Prelude.{ℕ, ◌+◌, ◌/◌, ◌%◌, ◌==◌, ◌||◌, nat_lt, nat_eq, Bool, true, false, List, [], ◌∷◌, ◌++◌, Option, None, Some, codes, drop, if◌then◌else◌, length, take, unwrap_or}
use Rattle.std.specs.List.{starts_with}
use Rattle.elf_debug.specs.declared.paths.DebugHow.{DebugHow}
use Rattle.elf_debug.specs.declared.paths.DebugHow.TheVariants.{BuildId, Directory, Folder, Subfolder}
use Rattle.elf_debug.specs.declared.paths.DebugPath.{DebugPath}
use Rattle.elf_debug.specs.declared.paths.DebugPathBytes.{DebugPathBytes}
use Rattle.elf_debug.specs.declared.paths.DebugPaths.{DebugPaths}
use Rattle.elf_debug.specs.declared.paths.HexBytes.{HexBytes}
use Rattle.elf_debug.specs.declared.paths.IdBytes.{IdBytes}

-- the digit of a number in hexadecimal
abbrev pub digit : ℕ → ℕ
digit value = if nat_lt value 10 then 48 + value else 87 + value

-- bytes in hexadecimal, two digits for each
abbrev pub hex : List ℕ → List ℕ
hex [] = []
hex (byte ∷ bytes) = digit (byte / 16) ∷ (digit (byte % 16) ∷ hex bytes)

-- a build id as the path of a file: its first byte is the folder
abbrev pub id_text : List ℕ → List ℕ
id_text id = hex (take 1 id) ++ (codes "/" ++ hex (drop 1 id))

-- whether a text has a slash (47)
abbrev pub has_slash : List ℕ → Bool
has_slash [] = false
has_slash (byte ∷ bytes) = byte == 47 || has_slash bytes

-- the folder of a path: all up to its last slash, or nothing
abbrev pub folder_of : List ℕ → List ℕ
folder_of [] = []
folder_of (byte ∷ bytes) = if has_slash (byte ∷ bytes) then byte ∷ folder_of bytes else []

-- whether a folder begins with a slash
abbrev pub is_absolute : List ℕ → Bool
is_absolute folder = starts_with nat_eq folder (codes "/")

-- a path, and how it is found
abbrev pub Way : Type 0
Way = DebugHow × List ℕ

-- the path by a build id in a directory
abbrev pub ways_by_id : List ℕ → List ℕ → List Way
ways_by_id directory id =
    if nat_lt 1 (length id) then (BuildId, directory ++ (codes "/.build-id/" ++ (id_text id ++ codes ".debug"))) ∷ [] else []

-- the paths by the name in a link: in the folder of the file, in `.debug` there, and in the same folder under the directory
abbrev pub ways_by_link : List ℕ → List ℕ → Option (List ℕ) → List Way
ways_by_link directory folder None = []
ways_by_link directory folder (Some name) =
    (Folder, folder ++ name) ∷ ((Subfolder, folder ++ (codes ".debug/" ++ name))
    ∷ (if is_absolute folder then (Directory, directory ++ (folder ++ name)) ∷ [] else []))

-- all paths of the file at a path, with a build id and the name in a link where it has them
abbrev pub all_paths : Option (List ℕ) → Option (List ℕ) → List ℕ → List ℕ → List Way
all_paths id link path directory = ways_by_id directory (unwrap_or id []) ++ ways_by_link directory (folder_of path) link

-- What the iterators have left.

-- the digits that are left, where the first one of the first byte was returned or not
abbrev pub hex_after : Bool → List ℕ → List ℕ
hex_after false bytes = hex bytes
hex_after true [] = []
hex_after true (byte ∷ bytes) = digit (byte % 16) ∷ hex bytes

-- the digits that an iterator over bytes in hexadecimal has not yet returned
abbrev pub hex_left : HexBytes → List ℕ
hex_left iter = hex_after iter.is_low iter.bytes.now

-- the bytes of the path of a build id that an iterator has not yet returned
abbrev pub id_left : IdBytes → List ℕ
id_left iter = hex_left iter.first ++ (iter.slash.now ++ hex_left iter.others)

-- the bytes of the path of a debug file that an iterator has not yet returned
abbrev pub path_left : DebugPathBytes → List ℕ
path_left iter = iter.front.now ++ (iter.middle.now ++ (id_left iter.id ++ iter.name.now))

-- a path of the code
abbrev pub way_parts : DebugPath → Way
way_parts one = (one.how, path_left one.path)

-- what the paths are made of; without a link the name is empty
pub record Places : Type 0 where
  pub id : List ℕ
  pub has_link : Bool
  pub name : List ℕ
  pub folder : List ℕ
  pub directory : List ℕ

-- that of a value of the code
abbrev pub places_of : DebugPaths → Places
places_of iter = record {
  id = iter.id.now;
  has_link = iter.has_link;
  name = iter.name.now;
  folder = iter.folder.now;
  directory = iter.directory.now;
}

-- the path that is found in a way
abbrev pub path_of : Places → DebugHow → List ℕ
path_of places BuildId = places.directory ++ (codes "/.build-id/" ++ (id_text places.id ++ codes ".debug"))
path_of places Folder = places.folder ++ places.name
path_of places Subfolder = places.folder ++ (codes ".debug/" ++ places.name)
path_of places Directory = places.directory ++ (places.folder ++ places.name)

-- the first way by a link
abbrev pub first_by_link : Bool → Option DebugHow
first_by_link has_link = if has_link then Some Folder else None

-- the way after one
abbrev pub next_how : Places → DebugHow → Option DebugHow
next_how places BuildId = first_by_link places.has_link
next_how places Folder = Some Subfolder
next_how places Subfolder = if is_absolute places.folder then Some Directory else None
next_how places Directory = None

-- the path of the last way, if there is one
abbrev pub under_directory : Places → Option DebugHow → List Way
under_directory places None = []
under_directory places (Some how) = (how, path_of places how) ∷ []

-- the paths from that in `.debug` on
abbrev pub from_subfolder : Places → List Way
from_subfolder places = (Subfolder, path_of places Subfolder) ∷ under_directory places (next_how places Subfolder)

-- the paths from that in the folder of the file on
abbrev pub from_folder : Places → List Way
from_folder places = (Folder, path_of places Folder) ∷ from_subfolder places

-- the paths from a way on, none after the last
abbrev pub ways_from : Places → Option DebugHow → List Way
ways_from places None = []
ways_from places (Some BuildId) = (BuildId, path_of places BuildId) ∷ (if places.has_link then from_folder places else [])
ways_from places (Some Folder) = from_folder places
ways_from places (Some Subfolder) = from_subfolder places
ways_from places (Some Directory) = (Directory, path_of places Directory) ∷ []

-- the paths that an iterator has not yet returned
abbrev pub paths_left : DebugPaths → List Way
paths_left iter = ways_from (places_of iter) iter.next
