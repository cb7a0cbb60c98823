use Rattle.std.proofs.Common.{◌≡◌, take}
use Rattle.elf_linking.specs.Layouts.{gnu_hash_number}
use Rattle.elf_linking.proofs.gnu_hash.gnu_hash_of_bytes.Given as goal

abbrev pub invariant-loop-byte : goal.invariant-loop-byte
invariant-loop-byte l = l.number ≡ gnu_hash_number (take l.byte-index l.name)
