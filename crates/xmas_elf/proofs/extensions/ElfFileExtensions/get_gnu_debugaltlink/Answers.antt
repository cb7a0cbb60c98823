use Rattle.std.proofs.Common.{◌≡◌}
use Rattle.xmas_elf.proofs.Places.{rest_lies}
use Rattle.xmas_elf.proofs.extensions.ElfFileExtensions.get_gnu_debugaltlink.Goals as goal

pub returns-in_err-bytes-clause-only : goal.returns-in_err-bytes-clause-only
returns-in_err-bytes-clause-only c text rest is = absurd (c.in_err-bytes.ensures.only is.bytes is.is_data)

pub returns-clause-only : goal.returns-clause-only
returns-clause-only c text rest is =
    let same : c.in_ok-bytes.bytes.now ≡ is.bytes = c.in_ok-bytes.ensures.only is.bytes is.is_data in
    c.alternate_link.ensures.only text rest (rw same is.is_link)

pub returns-clause-place : goal.returns-clause-place
returns-clause-place c =
    let found = c.in_ok-bytes.ensures.place in
    rest_lies c.args.self.now found.0 found.1 c.in_ok-bytes.bytes c.alternate_link.result found.2 found.3 c.alternate_link.ensures.place
