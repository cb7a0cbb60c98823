use Rattle.std.proofs.Common.{List, Ok, sym, subst}
use Rattle.std.specs.Borrow.{Bor}
use Rattle.elf_linking.specs.Scope.{AreGood}
use Rattle.elf_linking.specs.declared.object.DynamicObject.{DynamicObject}
use Rattle.linking_callers.specs.SecondFile.{IsSecond}
use Rattle.linking_callers.proofs.SecondFiles.{loaded_good, three_good}
use Rattle.linking_callers.proofs.callers.second_file.is_of_second_file.Goals as goal

pub is_second-requires-clause-good : goal.is_second-requires-clause-good
is_second-requires-clause-good g c = subst (λ (objects : Bor (List (DynamicObject g.row.E.Denot g.E.Record))). AreGood g.E.Entry.fields objects.now) (sym c.new.ensures)
    (three_good g.E.Entry.fields c.in-Ok.object c.in-Ok-two.object c.in-Ok-three.object
    (loaded_good g.E.Entry.fields g.E.LinkedSymbol.CLASS g.E.Record.SIZE c.args.program.now c.in-Ok.object c.in-Ok.ensures)
    (loaded_good g.E.Entry.fields g.E.LinkedSymbol.CLASS g.E.Record.SIZE c.args.second.now c.in-Ok-two.object c.in-Ok-two.ensures)
    (loaded_good g.E.Entry.fields g.E.LinkedSymbol.CLASS g.E.Record.SIZE c.args.third.now c.in-Ok-three.object c.in-Ok-three.ensures))

pub returns : goal.returns
returns g c = (
  Ok c.in-Ok.object,
  Ok c.in-Ok-two.object,
  Ok c.in-Ok-three.object,
  c.in-Ok.ensures,
  c.in-Ok-two.ensures,
  c.in-Ok-three.ensures,
  subst (λ (objects : Bor (List (DynamicObject g.row.E.Denot g.E.Record))). IsSecond g.E.Entry.fields objects.now c.in-Ok.object c.args.name.now c.is_second.result) c.new.ensures c.is_second.ensures,
)
