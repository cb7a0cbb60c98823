use Rattle.elf_loading.proofs.Lists.{some_more}
use Rattle.elf_loading.proofs.loads.Loads.step.Goals as goal

pub kind-requires : goal.kind-requires
kind-requires c = some_more c.args.self.now.left c.loop-segments.segments c.args.self.now.segments c.if-self-eq0.false c.args.self.now.counted c.loop-segments.invariant
