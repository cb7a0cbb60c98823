use Rattle.std.proofs.Common.{◌≡◌, rules}
use Rattle.elf_linking.specs.Loaded.{segment_at_of}
use Rattle.elf_linking.proofs.LoadedBytes.{found_holds, missing_holds}
use Rattle.elf_linking.proofs.view.loaded.segment_at.Goals as goal

pub returns-clause-found : goal.returns-clause-found
unfolding segment_at_of
returns-clause-found c =
    let is : c.loop-segment.found ≡ segment_at_of c.args.file.now c.args.address c.args.count = search rules in
    found_holds c.args.file.now c.args.address c.args.count c.loop-segment.found is

pub returns-clause-missing : goal.returns-clause-missing
unfolding segment_at_of
returns-clause-missing c =
    let is : c.loop-segment.found ≡ segment_at_of c.args.file.now c.args.address c.args.count = search rules in
    missing_holds c.args.file.now c.args.address c.args.count c.loop-segment.found is
