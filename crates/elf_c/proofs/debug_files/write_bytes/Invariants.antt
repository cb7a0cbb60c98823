use Rattle.std.proofs.Common.{length}
use Rattle.elf_debug.specs.Paths.{path_left}
use Rattle.elf_c.proofs.DebugTexts.{IsWrittenSoFar}
use Rattle.elf_c.proofs.debug_files.write_bytes.Given as goal

-- the bytes so far are written
abbrev pub invariant-bytes : goal.invariant-bytes
invariant-bytes l = IsWrittenSoFar (path_left l.fn.path) (path_left l.rest) l.count l.fn.text l.text

-- fewer bytes are left
abbrev pub decreases-bytes : goal.decreases-bytes
decreases-bytes l = length (path_left l.rest)
