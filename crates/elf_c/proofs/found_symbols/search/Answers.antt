use Rattle.std.proofs.lemmas.Result.{err_from_is_err_and}
use Rattle.elf_linking.proofs.lemmas.Objects.{versions_of_object}
use Rattle.elf_c.specs.FoundSymbols.{failed, searched}
use Rattle.elf_c.proofs.found_symbols.search.Goals as goal

pub returns : goal.returns
returns g c = searched _ _ (versions_of_object c.in_ok-object.object _ g.E.Entry.fields c.args.file.now c.in_ok-object.ensures) (record {
  wanted = c.wanted_of.result;
  found = c.find.result;
  is_wanted = c.wanted_of.ensures;
  is_found = c.find.ensures.answer;
  is_right = c.find.ensures.good;
  numbers = c.said.ensures;
})

pub returns-in_err-object : goal.returns-in_err-object
returns-in_err-object g c =
    let p = err_from_is_err_and c.from_residual.result c.from_residual.ensures.1 in
    rw (p.1, p.2) (failed _ c.in_err-object.ensures)
