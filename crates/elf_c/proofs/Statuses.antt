-- No error has number 0, which is the status of a call that returned Ok; the numbers of each library are apart.
use Rattle.std.proofs.Common.{◌<◌, lit<}
use Rattle.elf_addresses.specs.Message.{index_number}
use Rattle.elf_addresses.specs.declared.error.IndexError.{IndexError}
use Rattle.elf_addresses.specs.declared.error.IndexError.TheVariants as index_error
use Rattle.elf_base.specs.Message.{error_number}
use Rattle.elf_base.specs.declared.error.ElfError.{ElfError}
use Rattle.elf_base.specs.declared.error.ElfError.TheVariants.{ShortPart1}
use Rattle.elf_linking.specs.Message.{link_number}
use Rattle.elf_linking.specs.declared.error.LinkError.{LinkError}
use Rattle.elf_linking.specs.declared.error.LinkError.TheVariants as link_error
use Rattle.elf_loading.specs.Message.{load_number}
use Rattle.elf_loading.specs.declared.error.LoadError.{LoadError}
use Rattle.elf_loading.specs.declared.error.LoadError.TheVariants as load_error
use Rattle.elf_search.specs.Message.{search_number}
use Rattle.elf_search.specs.declared.error.SearchError.{SearchError}
use Rattle.elf_search.specs.declared.error.SearchError.TheVariants as search_error
use Rattle.elf_c.specs.Status.{failure_number}
use Rattle.elf_c.specs.declared.status.AnyError.{AnyError}
use Rattle.elf_c.specs.declared.status.AnyError.TheVariants.{Elf, Index, Link, Load, Search}

pub error_above : (error : ElfError) → 0 < error_number error
error_above ShortPart1 = lit< tt
error_above _ = lit< tt

pub link_above : (error : LinkError) → 0 < link_number error
link_above (link_error.Elf error) = error_above error
link_above _ = lit< tt

-- the numbers of `elf_linking` are below 300, those of `elf_loading` below 400, those of `elf_addresses` above 400 and
-- below 500
error_below : (error : ElfError) → error_number error < 300
error_below ShortPart1 = lit< tt
error_below _ = lit< tt

elf_under : (error : ElfError) → error_number error < 400
elf_under ShortPart1 = lit< tt
elf_under _ = lit< tt

pub link_below : (error : LinkError) → link_number error < 300
link_below (link_error.Elf error) = error_below error
link_below _ = lit< tt

link_under : (error : LinkError) → link_number error < 400
link_under (link_error.Elf error) = elf_under error
link_under _ = lit< tt

pub load_below : (error : LoadError) → load_number error < 400
load_below load_error.Type = lit< tt
load_below (load_error.Link error) = link_under error
load_below _ = lit< tt

pub index_within : (error : IndexError) → 400 < index_number error
index_within index_error.ManySymbols = lit< tt
index_within index_error.FewWords = lit< tt

pub index_below : (error : IndexError) → index_number error < 500
index_below index_error.ManySymbols = lit< tt
index_below index_error.FewWords = lit< tt

load_above : (error : LoadError) → 0 < load_number error
load_above load_error.Type = lit< tt
load_above (load_error.Link error) = link_above error
load_above _ = lit< tt

index_above : (error : IndexError) → 0 < index_number error
index_above index_error.ManySymbols = lit< tt
index_above index_error.FewWords = lit< tt

search_above : (error : SearchError) → 0 < search_number error
search_above search_error.FileData = lit< tt
search_above (search_error.Link error) = link_above error
search_above _ = lit< tt

pub failure_above : (failure : AnyError) → 0 < failure_number failure
failure_above (Elf error) = error_above error
failure_above (Link error) = link_above error
failure_above (Load error) = load_above error
failure_above (Index error) = index_above error
failure_above (Search error) = search_above error
failure_above _ = lit< tt
