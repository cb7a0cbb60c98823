-- The texts of the statuses (this project's own).
use Rattle.std.specs.Prelude.{◌≡◌, ℕ, ◌++◌, List, [], drop, length, take, Option, None, Some}
use Rattle.elf_linking.specs.declared.error.LinkError.TheVariants as link_error
use Rattle.elf_loading.specs.declared.error.LoadError.TheVariants as load_error
use Rattle.elf_search.specs.declared.error.SearchError.TheVariants as search_error
use Rattle.elf_c.specs.Status.{failure_message, failure_number}
use Rattle.elf_c.specs.declared.status.AnyError.{AnyError}
use Rattle.elf_c.specs.declared.status.AnyError.TheVariants.{Elf, Link, Load, Search}

-- the error that is found by its number: for an error of the ELF reader inside one of `elf_linking`, and for one of
-- these inside one of `elf_loading` or `elf_search`, the inner error; no two others have the same number
abbrev pub error_within : AnyError → AnyError
error_within (Link (link_error.Elf error)) = Elf error
error_within (Load (load_error.Link (link_error.Elf error))) = Elf error
error_within (Load (load_error.Link error)) = Link error
error_within (Search (search_error.Link (link_error.Elf error))) = Elf error
error_within (Search (search_error.Link error)) = Link error
error_within failure = failure

-- an error has the number, or no error has it
abbrev pub HasNumber : ℕ → Option AnyError → Type 0
HasNumber number (Some failure) = failure_number failure ≡ number
HasNumber number None = (failure : AnyError) → failure_number failure ≡ number → ⊥

-- the text of an error, which is empty if there is none
abbrev pub text_of_found : Option AnyError → List ℕ
text_of_found None = []
text_of_found (Some failure) = failure_message failure

-- the text of a status: that of the error with this number, or empty if no error has it
abbrev pub IsStatusText : ℕ → List ℕ → Type 0
IsStatusText status text = (found : Option AnyError) × HasNumber status found × (text ≡ text_of_found found)

-- the bytes after as much of a text as fits was written to their start
abbrev pub written : List ℕ → List ℕ → List ℕ
written text room = take (length room) text ++ drop (length text) room
