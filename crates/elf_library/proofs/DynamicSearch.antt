-- The search for the dynamic segment, segment by segment.
use Rattle.std.proofs.Common.{◌≡◌, ◌≢◌, ℕ, List, [], ◌∷◌, Option, Some, if◌then◌else◌, refl, ap, ◌∙◌}
use Rattle.std.proofs.lemmas.Bool.{eq-eqb, ne_eqb}
use Rattle.std.specs.List.{filter, last_or, list_any}
use Rattle.elf_linking.specs.declared.segments.Segment.{Segment}
use Rattle.elf_library.specs.Segments.{address_of, is_dynamic, is_dynamic_without_bytes}

-- the address that these segments give, after others of which this is the last of type Dynamic
abbrev pub dynamic_after : Option Segment → List Segment → ℕ
dynamic_after last segments = if list_any is_dynamic_without_bytes segments then 0
    else address_of (last_or last (filter is_dynamic segments))

pub after_end : (last : Option Segment) (segments : List Segment) → segments ≡ [] → dynamic_after last segments ≡ address_of last
after_end last segments is = ap (dynamic_after last) is

module _ (last : Option Segment) (segments others : List Segment) (segment : Segment) where
  pub after_empty : segments ≡ segment ∷ others → segment.kind ≡ 2 → segment.file_size ≡ 0 → dynamic_after last segments ≡ 0
  after_empty is kind size = ap (dynamic_after last) is ∙ rw (eq-eqb segment.kind 2 kind) (rw (eq-eqb segment.file_size 0 size) refl)

  pub after_full : segments ≡ segment ∷ others → segment.kind ≡ 2 → segment.file_size ≢ 0 → dynamic_after last segments ≡ dynamic_after (Some segment) others
  after_full is kind size = ap (dynamic_after last) is ∙ rw (eq-eqb segment.kind 2 kind) (rw (ne_eqb segment.file_size 0 size) refl)

  pub after_other : segments ≡ segment ∷ others → segment.kind ≢ 2 → dynamic_after last segments ≡ dynamic_after last others
  after_other is other = ap (dynamic_after last) is ∙ rw (ne_eqb segment.kind 2 other) refl
