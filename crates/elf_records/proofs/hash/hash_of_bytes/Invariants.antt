use Rattle.std.proofs.Common.{◌≡◌, ◌*◌, take}
use Rattle.elf_records.specs.HashNumber.{hash_number}
use Rattle.elf_records.proofs.hash.hash_of_bytes.Given as goal

abbrev pub invariant-loop-byte : goal.invariant-loop-byte
invariant-loop-byte l = l.shifted ≡ 16 * hash_number (take l.byte-index l.name)
