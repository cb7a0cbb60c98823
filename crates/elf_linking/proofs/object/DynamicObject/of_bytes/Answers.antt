use Rattle.std.proofs.Common.{ap}
use Rattle.elf_linking.specs.DynamicObject.{no_header}
use Rattle.elf_linking.proofs.lemmas.Objects.{input_of_object, object_of_bytes}
use Rattle.elf_linking.proofs.object.DynamicObject.of_bytes.Goals as goal

pub returns-in-Ok : goal.returns-in-Ok
returns-in-Ok g c = record {
  exact = object_of_bytes _ _ c.args.bytes.now c.in-Ok.file c.read_reached.result (ap (λ lent. lent.now) c.in-Ok.ensures.input, c.in-Ok.ensures.header) c.read_reached.ensures;
  place = input_of_object _ _ c.args.bytes c.in-Ok.file c.read_reached.result c.in-Ok.ensures.input c.read_reached.ensures;
}

pub returns-in-Err : goal.returns-in-Err
returns-in-Err g c = record { exact = no_header c.in-Err.error c.in-Err.ensures.failed; place = tt }
