-- What a checked scope with plans was made of.
use Rattle.elf_loading.specs.declared.checked.CheckedLoadScope.{CheckedLoadScope}
use Rattle.elf_loading.specs.declared.load_scope.LoadScope.{LoadScope}

-- the scope that was checked
abbrev pub checked_loads : {E : Type 0} → {symbol : _} → {entry : _} → {record_of : _} → CheckedLoadScope E symbol entry record_of → LoadScope E record_of
checked_loads scope = scope.loads
