-- What glibc 2.36 asks of the segments of a library (gABI, "Program Header": PT_DYNAMIC).
use Rattle.std.specs.Prelude.{ℕ, ◌==◌, ◌&&◌, Bool, List, Option, None, Some, if◌then◌else◌}
use Rattle.std.specs.List.{filter, last_or, list_any}
use Rattle.elf_linking.specs.declared.segments.Segment.{Segment}

-- a segment is of type Dynamic (PT_DYNAMIC)
abbrev pub is_dynamic : Segment → Bool
is_dynamic segment = segment.kind == 2

-- it is, and has no bytes in the file
abbrev pub is_dynamic_without_bytes : Segment → Bool
is_dynamic_without_bytes segment = is_dynamic segment && segment.file_size == 0

-- the address of a segment, 0 if there is none
abbrev pub address_of : Option Segment → ℕ
address_of (Some segment) = segment.address
address_of None = 0

-- the address of the last segment of type Dynamic; 0 if there is none, or if one of them has no bytes in the file
abbrev pub dynamic_address : List Segment → ℕ
dynamic_address segments = if list_any is_dynamic_without_bytes segments then 0
    else address_of (last_or None (filter is_dynamic segments))
