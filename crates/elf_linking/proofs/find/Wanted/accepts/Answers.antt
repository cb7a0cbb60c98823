use Rattle.std.proofs.Common.{IfOk, IsTrue, ◌↔◌, subst, sym}
use Rattle.elf_linking.specs.Find.{IsAccepted}
use Rattle.elf_linking.specs.Versions.{version_list}
use Rattle.elf_linking.proofs.Accepted.{accepted_law}
use Rattle.elf_linking.proofs.find.Wanted.accepts.Goals as goal

pub returns : goal.returns
returns c = record {
  law = subst (λ answer. IfOk answer (λ held. IsTrue held ↔ IsAccepted (version_list c.args.versions.now) c.args.self.now c.args.index)) (sym c.is_accepted.ensures)
      (accepted_law (version_list c.args.versions.now) c.args.self.now c.args.index);
  exact = c.is_accepted.ensures;
}
