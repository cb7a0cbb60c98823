use Rattle.std.proofs.Common.{rules}
use Rattle.elf_callers.proofs.Totals.{has_added_one}
use Rattle.elf_callers.specs.StringBytes.{LiesThere, string_size}
use Rattle.elf_callers.proofs.callers.string_bytes_of.Goals as goal

pub loop-section-preserved : goal.loop-section-preserved
loop-section-preserved c =
    has_added_one (LiesThere c.args.file.now) string_size _ _ _ c.in-Some.section c.loop-section.total _ c.in-Some.ensures.steps (search rules) (search rules) c.loop-section.invariant
