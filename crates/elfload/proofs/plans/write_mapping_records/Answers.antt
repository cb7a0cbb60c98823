use Rattle.std.proofs.Common.{◌++◌}
use Rattle.std.proofs.KnownBytes.{Appends-trans}
use Rattle.elfload.specs.PlanRecords.{mapping_record}
use Rattle.elfload.proofs.MappingLines.{one_more_line}
use Rattle.elfload.proofs.plans.write_mapping_records.Goals as goal

pub loop-mapping-preserved : goal.loop-mapping-preserved
loop-mapping-preserved g c =
    let line_of = mapping_record c.args.path.now c.args.by.now in
    let (text, so_far, grown) = c.loop-mapping.invariant in (
      text ++ line_of c.in-Some.mapping,
      one_more_line line_of _ _ _ c.in-Some.mapping text c.in-Some.ensures.steps so_far,
      Appends-trans _ _ _ _ _ grown c.in_ok-write_mapping.ensures,
    )
