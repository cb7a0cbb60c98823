-- How the program writes the parts of a plan (this project's own).
use Rattle.std.specs.Prelude.{ℕ, ◌++◌, ◌==◌, List, Option, Some, None, false, codes, decimal, bit_and, nat_lt, if◌then◌else◌}
use Rattle.std.specs.Fmt.{digits}
use Rattle.std.specs.List.{flat_map}
use Rattle.elfload.specs.Types.{Contents, Mapping, Span, Tls}
use Rattle.elf_loading.specs.declared.mapping.Contents.TheVariants.{File, NoAccess, Zero}
use Rattle.elfload.specs.declared.plans.Head.{Head}
use Rattle.xmas_elf.specs.Types.{Flags}

-- a letter if a flag of a segment is set, or else a dash
abbrev pub letter : ℕ → ℕ → List ℕ → List ℕ
letter flag flags name = if bit_and flags flag == 0 then codes "-" else name

-- the permissions by the flags of a segment (PF_R, 4, PF_W, 2, PF_X, 1): readable, writable, executable
abbrev pub permissions_text : Flags → List ℕ
permissions_text flags = letter 4 flags.0 (codes "r") ++ (letter 2 flags.0 (codes "w") ++ letter 1 flags.0 (codes "x"))

-- a number in hexadecimal
abbrev pub hex : ℕ → List ℕ
hex n = digits 16 false n

-- two addresses, the second after the range
abbrev pub range_text : ℕ → ℕ → List ℕ
range_text start end = hex start ++ (codes "-" ++ hex end)

-- the offset and the kind of what a mapping holds
abbrev pub contents_text : Contents → List ℕ
contents_text (File offset) = hex offset ++ codes " file"
contents_text Zero = codes "0 zero"
contents_text NoAccess = codes "0 none"

-- the line of a mapping
abbrev pub mapping_text : Mapping → List ℕ
mapping_text mapping =
    range_text mapping.start mapping.end
    ++ (codes " " ++ (permissions_text mapping.flags ++ (codes "p " ++ (contents_text mapping.contents ++ codes "\n"))))

-- the lines of mappings
abbrev pub mappings_text : List Mapping → List ℕ
mappings_text mappings = flat_map mapping_text mappings

-- a range, or that there is none or it is empty
abbrev pub span_text : Option Span → List ℕ
span_text (Some span) = if nat_lt span.start span.end then range_text span.start span.end else codes "none"
span_text None = codes "none"

-- thread-local storage: the address of its bytes, their number, its size, and its alignment
abbrev pub tls_text : Option Tls → List ℕ
tls_text (Some tls) =
    hex tls.address ++ (codes " " ++ (hex tls.file_size ++ (codes " " ++ (hex tls.mem_size ++ (codes " " ++ hex tls.align)))))
tls_text None = codes "none"

-- the permissions of the stack, or that the machine's default holds
abbrev pub stack_text : Option Flags → List ℕ
stack_text (Some flags) = permissions_text flags
stack_text None = codes "default"

-- what is written of a plan before the path of the interpreter
abbrev pub head_text : Head → List ℕ
head_text head =
    head.path.now
    ++ (codes "\nclass " ++ (decimal head.class
    ++ (codes "\ntype " ++ (decimal head.kind
    ++ (codes "\nmachine " ++ (decimal head.machine
    ++ (codes "\nentry " ++ (hex head.entry
    ++ (codes "\nspan " ++ (range_text head.span.start head.span.end
    ++ (codes "\nrelro " ++ (span_text head.relro
    ++ (codes "\ntls " ++ (tls_text head.tls
    ++ (codes "\nstack " ++ (stack_text head.stack
    ++ codes "\ninterpreter "))))))))))))))))
