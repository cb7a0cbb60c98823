use Rattle.elfaddr.proofs.print.print_by.Goals as goal

pub returns-in-Symtab : goal.returns-in-Symtab
returns-in-Symtab g c = rw (c.in-Symtab.is) c.print_symtab.ensures

pub returns-in-Dynamic : goal.returns-in-Dynamic
returns-in-Dynamic g c = rw (c.in-Dynamic.is) c.print_dynamic.ensures

pub returns-in-Dladdr : goal.returns-in-Dladdr
returns-in-Dladdr g c = rw (c.in-Dladdr.is) c.print_dladdr.ensures
