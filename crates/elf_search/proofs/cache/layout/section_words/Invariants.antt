use Rattle.std.proofs.Common.{◌≡◌, ◌+◌, ◌*◌, ◌≤◌, true, length}
use Rattle.elf_search.specs.Cache.{are_within, tagged_words}
use Rattle.elf_search.proofs.cache.layout.section_words.Given as goal

abbrev pub invariant-loop-index : goal.invariant-loop-index
invariant-loop-index l =
    (l.words ≡ tagged_words l.bytes l.place l.index) × (are_within l.bytes l.place l.index ≡ true)
    × (l.words.0 + 4 * l.words.1 ≤ length l.bytes)
