use Rattle.elf_linking.specs.DynamicView.{needed_bytes_left, needed_bytes_of}
use Rattle.program_ends.specs.Appended.{AppendsSome}
use Rattle.elfsym.proofs.LibraryLines.{AreLinesSoFar}
use Rattle.elfsym.proofs.libraries.write_needed.Given as goal

-- a line for each library so far
abbrev pub invariant-loop-name : goal.invariant-loop-name
invariant-loop-name g l = AppendsSome (AreLinesSoFar l.fn.form (needed_bytes_of l.view) (needed_bytes_left l.name-iterator))
    (g.W.Write.contents l.fn.out) (g.W.Write.contents l.out)
