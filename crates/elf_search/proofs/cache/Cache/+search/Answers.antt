use Rattle.std.proofs.Common.{sym}
use Rattle.elf_search.specs.Cache.Searches.{after, before, here, none, outside}
use Rattle.elf_search.proofs.cache.Cache.+search.Goals as goal

pub returns-then-left-end-clause-searches : goal.returns-then-left-end-clause-searches
returns-then-left-end-clause-searches t c = none _ _ c.if-left-end.true

pub returns-in-Some-Less-clause-searches : goal.returns-in-Some-Less-clause-searches
returns-in-Some-Less-clause-searches t c = after _ _ _ c.if-left-end.false (sym (rw c.in-Some-Less.field-0-is at c.in-Some-Less.ensures)) c.search.ensures.searches

pub returns-in-Some-Equal-clause-searches : goal.returns-in-Some-Equal-clause-searches
returns-in-Some-Equal-clause-searches t c = here _ _ c.if-left-end.false (sym (rw c.in-Some-Equal.field-0-is at c.in-Some-Equal.ensures))

pub returns-in-Some-Greater-clause-searches : goal.returns-in-Some-Greater-clause-searches
returns-in-Some-Greater-clause-searches t c = before _ _ _ c.if-left-end.false (sym (rw c.in-Some-Greater.field-0-is at c.in-Some-Greater.ensures)) c.search-in-Some-Greater.ensures.searches

pub returns-in-None-clause-searches : goal.returns-in-None-clause-searches
returns-in-None-clause-searches t c = outside _ _ c.if-left-end.false (sym c.in-None.ensures)
