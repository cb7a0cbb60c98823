-- For callers of `Segments`: how many segments are left.
use Rattle.std.proofs.Common.{◌≡◌, ℕ, zero, suc, ◌<◌, Bool, List, [], length, arith}
use Rattle.std.specs.List.{filter}
use Rattle.elf_base.specs.declared.bytes.Order.{Order}
use Rattle.elf_linking.specs.Segments.{segments_at}
use Rattle.elf_linking.specs.SegmentsLeft.{left_count, segments_left}
use Rattle.elf_linking.specs.declared.segments.Segment.{Segment}
use Rattle.elf_linking.specs.declared.segments.Segments.{Segments}
use Rattle.elf_linking.proofs.SegmentRecords.{none_are}

some_at : (test : Segment → Bool) (narrow : Bool) (order : Order) (input : List ℕ) (place left : ℕ) → 0 < length (filter test (segments_at narrow order input place left)) → 0 < left
some_at test narrow order input place zero some = absurd (omega arith)
some_at test narrow order input place (suc left) some = omega arith

-- where some of the segments that are left have a property, some are left
pub some_left : (test : Segment → Bool) (iter : Segments) → 0 < length (filter test (segments_left iter)) → 0 < left_count iter
some_left test iter some = some_at test iter.is_narrow iter.order iter.input.now iter.place iter.left some

-- where the count is 0, none are left
pub none_left : (iter : Segments) → (0 < left_count iter → ⊥) → segments_left iter ≡ []
none_left iter none = none_are iter.is_narrow iter.order iter.input.now iter.place iter.left (omega (arith, none))
