use Rattle.elf_addresses.proofs.symtab.index_data.Goals as goal

pub returns-clause-data : goal.returns-clause-data
returns-clause-data c = record { place = c.index_position-place.result; first = c.index_position-place.ensures; bytes_are = c.words_at.ensures.value }

pub returns-clause-place : goal.returns-clause-place
returns-clause-place c = (c.index_position-place.result, c.index_position-place.ensures, c.words_at.ensures.place)
