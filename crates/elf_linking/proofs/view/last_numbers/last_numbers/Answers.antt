use Rattle.std.proofs.Common.{rules, refl}
use Rattle.elf_linking.specs.Entries.{entries_left}
use Rattle.elf_linking.proofs.LastNumbers.{all_noted, none_at, none_noted, one_noted}
use Rattle.elf_linking.proofs.view.last_numbers.last_numbers.Goals as goal

pub loop-entry-init : goal.loop-entry-init
loop-entry-init c = rw c.into_iter-entry-iterator.ensures.into_iter_gives (none_noted _ _ refl none_at)

pub loop-entry-preserved : goal.loop-entry-preserved
loop-entry-preserved c =
    one_noted c.in-Some.entry (entries_left c.loop-entry.entry-iterator) (entries_left c.next.new.self) (entries_left c.args.entries) (search rules) c.loop-entry.numbers c.note.new.numbers
    (rw (← c.raw_tag.ensures, ← c.raw_val.ensures) c.note.ensures) c.loop-entry.invariant

pub returns : goal.returns
returns c = all_noted c.loop-entry.numbers (entries_left c.loop-entry.entry-iterator) (entries_left c.args.entries) (search rules) c.loop-entry.invariant
