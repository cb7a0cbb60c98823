use Rattle.std.proofs.Common.{◌≡◌}
use Rattle.xmas_elf.proofs.extensions.ElfFileExtensions.get_gnu_debuglink.Goals as goal

pub returns-in_err-bytes-clause-only : goal.returns-in_err-bytes-clause-only
returns-in_err-bytes-clause-only c text checksum is = absurd (c.in_err-bytes.ensures.only is.bytes is.is_data)

pub returns-clause-only : goal.returns-clause-only
returns-clause-only c text checksum is =
    let same : c.in_ok-bytes.bytes.now ≡ is.bytes = c.in_ok-bytes.ensures.only is.bytes is.is_data in
    c.debug_link.ensures.only text checksum (rw (c.byte_order.ensures, same) is.is_link)
