use Rattle.std.proofs.Common.{◌≡◌, ◌<◌, ℕ, true, length, None, Some, if◌then◌else◌}
use Rattle.std.specs.Prelude.{nat_lt, slice_get}
use Rattle.elf_c.proofs.search_order.write_list.Given as goal

-- without moved objects the numbers up to a place are written, and the next one is that place
abbrev pub invariant-loop-place : goal.invariant-loop-place
invariant-loop-place l = record {
  long : length l.list ≡ length l.initial.list;
  written : l.order.plain ≡ true → (k : ℕ) → k < l.place → slice_get l.list k ≡ Some k;
  following : l.order.plain ≡ true → l.next ≡ (if nat_lt l.place l.order.count then Some l.place else None);
}
