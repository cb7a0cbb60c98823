-- The load that has a segment's bytes.
use Rattle.std.proofs.Common.{ℕ, ◌≤◌, Option, Some, None}
use Rattle.std.specs.Prelude.{IfSome}
use Rattle.elf_linking.specs.Loaded.{IsLastWithBytes}
use Rattle.elf_linking.specs.declared.segments.Segment.{Segment}
use Rattle.xmas_elf.specs.Types.{ElfFile}

pub holder_begins : (file : ElfFile) (address count : ℕ) (holder : Option Segment) → IfSome holder (IsLastWithBytes file address count) → IfSome holder (λ load. load.address ≤ address)
holder_begins file address count (Some load) last = last.holds.begins
holder_begins file address count None none = none
