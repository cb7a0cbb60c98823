use Rattle.std.proofs.Common.{◌≡◌, None}
use Rattle.elf_linking.specs.GnuHash.{gnu_start_of, no_run}
use Rattle.elf_linking.proofs.Kept.{found_none}
use Rattle.elf_linking.proofs.gnu_hash.GnuHashTable.find_in.Goals as goal

pub returns-in-None : goal.returns-in-None
returns-in-None g c =
    let none : gnu_start_of c.args.self.now c.args.name.now ≡ None = cc in
    found_none _ _ _ _ (λ P. (0, no_run none))
