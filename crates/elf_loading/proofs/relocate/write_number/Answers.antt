use Rattle.std.proofs.Common.{◌∙◌, ap, length, slice_index}
use Rattle.elf_loading.specs.Relocate.{byte_of_number}
use Rattle.elf_loading.proofs.NumberBytes.{at_once, high_first, low_first}
use Rattle.elf_loading.proofs.relocate.write_number.Goals as goal

pub returns-in-Little-eq8-clause-bytes : goal.returns-in-Little-eq8-clause-bytes
returns-in-Little-eq8-clause-bytes c = λ i.
    c.write_bytes.ensures.bytes i ∙ at_once c.args.index i (slice_index c.args.image.now i) c.to_le_bytes.result (byte_of_number c.args.order c.args.width c.args.number) c.args.width c.in-Little-eq8.is-1
    (ap length c.to_le_bytes.ensures) (λ j below. low_first c.args.order c.args.width c.args.number j c.to_le_bytes.result c.in-Little-eq8.is-0 c.to_le_bytes.ensures below)

pub returns-in-Big-eq8-clause-bytes : goal.returns-in-Big-eq8-clause-bytes
returns-in-Big-eq8-clause-bytes c = λ i.
    c.write_bytes-in-Big-eq8.ensures.bytes i ∙ at_once c.args.index i (slice_index c.args.image.now i) c.to_be_bytes.result (byte_of_number c.args.order c.args.width c.args.number) c.args.width c.in-Big-eq8.is-1
    (ap length c.to_be_bytes.ensures) (λ j below. high_first c.args.order c.args.width c.args.number j c.to_be_bytes.result c.in-Big-eq8.is-0 c.in-Big-eq8.is-1 c.to_be_bytes.ensures below)
