use Rattle.std.proofs.Common.{◌+◌}
use Rattle.elf_loading.specs.CheckedImage.{mapped_at, start_in}
use Rattle.elf_loading.specs.declared.mapping.Loader.TheVariants.{Glibc}
use Rattle.loading_tests.proofs.slot_callers.slot_after.Goals as goal

pub returns-clause-bound : goal.returns-clause-bound
returns-clause-bound g c =
    let image = c.args.image.now in
    c.read_word.ensures.slot c.args.places.now c.args.others.now (record {
      apart = c.requires.apart;
      bytes = λ i below. (mapped_at image Glibc (start_in image image.index + i), c.in_ok-load_checked.ensures.bytes i below);
    })
