use Rattle.std.proofs.Common.{take}
use Rattle.elfload.specs.Words.{AreTexts, IsAskedText}
use Rattle.program_ends.specs.Appended.{AppendsSome}
use Rattle.elfload.proofs.words.write_words.Given as goal

-- the words of the objects so far
abbrev pub invariant-loop-of : goal.invariant-loop-of
invariant-loop-of g l = AppendsSome
    (AreTexts (IsAskedText g.E.Entry.fields l.fn.form l.fn.when l.fn.inputs l.fn.objects) (take l.of l.fn.objects))
    (g.W.Write.contents l.fn.out) (g.W.Write.contents l.out)
