use Rattle.std.proofs.Common.{◌≡◌, drop}
use Rattle.elf_debug.specs.Crc.{after_bits, message_bits}
use Rattle.elf_debug.proofs.crc.debug_crc.Given as goal

abbrev pub invariant-loop-byte : goal.invariant-loop-byte
invariant-loop-byte l = after_bits l.remainder (message_bits (drop l.byte-index l.bytes)) ≡ after_bits 0xFFFFFFFF (message_bits l.bytes)
