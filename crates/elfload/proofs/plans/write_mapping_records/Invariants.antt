use Rattle.elf_loading.specs.MappingsLeft.{mappings_left}
use Rattle.program_ends.specs.Appended.{AppendsSome}
use Rattle.elfload.specs.PlanRecords.{mapping_record}
use Rattle.elfload.proofs.MappingLines.{AreLinesSoFar}
use Rattle.elfload.proofs.plans.write_mapping_records.Given as goal

-- a line for each mapping so far
abbrev pub invariant-loop-mapping : goal.invariant-loop-mapping
invariant-loop-mapping g l = AppendsSome (AreLinesSoFar (mapping_record l.fn.path l.fn.by) (mappings_left l.fn.mappings) (mappings_left l.mapping-iterator))
    (g.W.Write.contents l.fn.out) (g.W.Write.contents l.out)
