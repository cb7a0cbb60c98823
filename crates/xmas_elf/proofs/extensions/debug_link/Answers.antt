use Rattle.std.proofs.Common.{◌≡◌, ◌+◌, ◌≤◌, length, rules}
use Rattle.elf_base.specs.Number.{number}
use Rattle.elf_base.proofs.lemmas.TextLemmas.{is-text_of}
use Rattle.xmas_elf.specs.Link.{checksum_place}
use Rattle.xmas_elf.proofs.extensions.debug_link.Goals as goal

pub returns-in_default-clause-only : goal.returns-in_default-clause-only
returns-in_default-clause-only c text checksum is = absurd (let front = is-text_of c.args.bytes.now 0 text is.front in let none = c.in_default.ensures.exact in cc)

pub returns-then-end-bytes-clause-only : goal.returns-then-end-bytes-clause-only
returns-then-end-bytes-clause-only c text checksum is =
    let same : c.in-Ok.text.now ≡ text = let front = is-text_of c.args.bytes.now 0 text is.front in let read = c.in-Ok.ensures.exact in cc in
    let within : checksum_place c.in-Ok.text.now + 4 ≤ length c.args.bytes.now = rw same is.within in
    search rules

pub returns-clause-only : goal.returns-clause-only
returns-clause-only c text checksum is =
    let same : c.in-Ok.text.now ≡ text = let front = is-text_of c.args.bytes.now 0 text is.front in let read = c.in-Ok.ensures.exact in cc in
    let there : checksum ≡ number c.args.order 4 (checksum_place c.in-Ok.text.now) c.args.bytes.now = rw same is.checksum_is in
    (same, search rules)
