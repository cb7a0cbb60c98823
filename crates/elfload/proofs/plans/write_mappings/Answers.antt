use Rattle.std.proofs.Common.{◌++◌}
use Rattle.std.proofs.KnownBytes.{Appends-trans}
use Rattle.elfload.specs.Texts.{mapping_text}
use Rattle.elfload.proofs.MappingLines.{one_more_line}
use Rattle.elfload.proofs.plans.write_mappings.Goals as goal

pub loop-mapping-preserved : goal.loop-mapping-preserved
loop-mapping-preserved g c =
    let (text, so_far, grown) = c.loop-mapping.invariant in (
      text ++ mapping_text c.in-Some.mapping,
      one_more_line mapping_text _ _ _ c.in-Some.mapping text c.in-Some.ensures.steps so_far,
      Appends-trans _ _ _ _ _ grown c.in_ok-write.ensures.bytes,
    )
