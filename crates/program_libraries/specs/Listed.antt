-- The files of a program and its libraries, in the order in which names are looked up (this project's own).
use Rattle.std.specs.Prelude.{◌≡◌, ℕ, List, Option, map, option_and_then, option_map, slice_get}
use Rattle.std.specs.List.{filter_map}
use Rattle.std.specs.String.{string_bytes}
use Rattle.linking_programs.specs.declared.Input.{Input}
use Rattle.program_libraries.specs.declared.objects.Object.{Object}
use Rattle.program_libraries.specs.declared.store.StoredFile.{StoredFile}
use Rattle.program_libraries.specs.declared.trees.Tree.{Tree}

-- the path by which the object with a number was opened, and all bytes of its file; None if there is no such object or file
abbrev pub listed_file : List StoredFile → List Object → ℕ → Option (List ℕ × List ℕ)
listed_file files objects number = option_and_then (λ object.
    option_map (λ file. (string_bytes object.path, file.bytes.items)) (slice_get files object.file)) (slice_get objects number)

-- the path and the bytes of an input
abbrev pub input_parts : Input → List ℕ × List ℕ
input_parts input = (input.path.now, input.bytes.items)

-- the inputs are these files of the numbers in the list of a tree, in order; a number that has none is left out
abbrev pub AreListed : List StoredFile → Tree → List Input → Type 0
AreListed files tree inputs =
    map input_parts inputs ≡ filter_map (listed_file files tree.objects.items) tree.list.items
