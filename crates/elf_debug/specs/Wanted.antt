-- Which file is the debug file of another (gdb's manual, "Separate Debug Files"; that a build id which can't be read is none
-- is this project's own).
use Rattle.std.specs.Borrow.{Bor}
use Rattle.std.specs.Prelude.{ℕ, ◌==◌, List, Option, None, Some, Result, Ok, Err, codes, if◌then◌else◌, option_map}
use Rattle.std.specs.Str.{bytes_eq}
use Rattle.elf_debug.specs.Crc.{checksum}
use Rattle.elf_debug.specs.declared.paths.DebugHow.{DebugHow}
use Rattle.elf_debug.specs.declared.paths.DebugHow.TheVariants.{BuildId, Directory, Folder, Subfolder}
use Rattle.elf_debug.specs.declared.wanted.DebugMismatch.{DebugMismatch}
use Rattle.elf_debug.specs.declared.wanted.DebugMismatch.TheVariants.{NoBuildId, OtherBuildId, OtherChecksum}
use Rattle.elf_linking.specs.BuildIds.{id_by_sections, id_by_segments}
use Rattle.elf_linking.specs.declared.error.LinkError.{LinkError}
use Rattle.xmas_elf.specs.declared.ElfFile.{ElfFile}

-- the build id that was found, or another
abbrev pub found_or : Result (Option (Bor (List ℕ))) LinkError → Option (Bor (List ℕ)) → Option (Bor (List ℕ))
found_or (Ok (Some id)) other = Some id
found_or (Ok None) other = other
found_or (Err error) other = other

-- the build id of a file: by its section headers, or else by its program headers
abbrev pub own_id : ElfFile → Option (Bor (List ℕ))
own_id file = found_or (id_by_sections file) (found_or (id_by_segments file) None)

-- a file with the second build id is the debug file of a file with the first one, or why not
abbrev pub check_by_id : Option (List ℕ) → Option (List ℕ) → Result (Unit {0}) DebugMismatch
check_by_id wanted None = Err NoBuildId
check_by_id None (Some own) = Err OtherBuildId
check_by_id (Some wanted) (Some own) = if bytes_eq wanted own then Ok tt else Err OtherBuildId

-- a file of these bytes is the debug file to a link with this checksum, or why not
abbrev pub check_by_checksum : Option ℕ → List ℕ → Result (Unit {0}) DebugMismatch
check_by_checksum None bytes = Err OtherChecksum
check_by_checksum (Some wanted) bytes = if checksum bytes == wanted then Ok tt else Err OtherChecksum

-- a file that was found by a build id or by the name in a link is the debug file, or why not
abbrev pub checked : DebugHow → Option (List ℕ) → Option ℕ → ElfFile → Result (Unit {0}) DebugMismatch
checked BuildId id crc file = check_by_id id (option_map (λ own. own.now) (own_id file))
checked Folder id crc file = check_by_checksum crc file.input.now
checked Subfolder id crc file = check_by_checksum crc file.input.now
checked Directory id crc file = check_by_checksum crc file.input.now

-- the text of a reason (this project's own)
abbrev pub message_of : DebugMismatch → List ℕ
message_of NoBuildId = codes "no build id"
message_of OtherBuildId = codes "another build id"
message_of OtherChecksum = codes "another CRC"
