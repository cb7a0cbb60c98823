-- Searches among segments, segment by segment.
use Rattle.std.proofs.Common.{◌≡◌, ◌≢◌, List, [], ◌∷◌, true, false, refl, ap, ◌∙◌}
use Rattle.std.proofs.lemmas.Bool.{eq-eqb, ne_eqb}
use Rattle.elf_linking.specs.declared.segments.Segment.{Segment}
use Rattle.elf_search.specs.Library.{has_load}

pub load_none : (segments : List Segment) → segments ≡ [] → has_load segments ≡ false
load_none segments is = ap has_load is

pub load_hit : (segments others : List Segment) (segment : Segment) → segments ≡ segment ∷ others → segment.kind ≡ 1 → has_load segments ≡ true
load_hit segments others segment is load = ap has_load is ∙ rw (eq-eqb segment.kind 1 load) refl

pub load_other : (segments others : List Segment) (segment : Segment) → segments ≡ segment ∷ others → segment.kind ≢ 1 → has_load segments ≡ has_load others
load_other segments others segment is other = ap has_load is ∙ rw (ne_eqb segment.kind 1 other) refl
