use Rattle.std.proofs.Common.{sym}
use Rattle.elf_linking.specs.FileSymbols.{in_section, in_segment}
use Rattle.elf_linking.proofs.SymbolsInPlace.{in_section_lie, in_segment_lie}
use Rattle.elf_linking.proofs.symbols.parts_of.Goals as goal

pub returns-in-Some-clause-exact : goal.returns-in-Some-clause-exact
returns-in-Some-clause-exact c = in_section c.in-Some.section _ (sym c.in-Some.ensures) c.section_parts.ensures.exact

pub returns-in-Some-clause-place : goal.returns-in-Some-clause-place
returns-in-Some-clause-place c = in_section_lie c.args.file.now c.in-Some.section c.section_parts.result (sym c.in-Some.ensures) c.section_parts.ensures.place

pub returns-in-None-clause-exact : goal.returns-in-None-clause-exact
returns-in-None-clause-exact c = in_segment _ (sym c.in-None.ensures) c.segment_parts.ensures.exact

pub returns-in-None-clause-place : goal.returns-in-None-clause-place
returns-in-None-clause-place c = in_segment_lie c.args.file.now c.segment_parts.result (sym c.in-None.ensures) c.segment_parts.ensures.place
