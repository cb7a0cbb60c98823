-- The plan of a file as JSON (this project's own): the same facts as its text. Permissions are flags of segments (gABI, "Program
-- Header": PF_X, 1, PF_W, 2, PF_R, 4).
use Rattle.std.specs.Prelude.{ℕ, List, [], ◌∷◌, Option, None, Some, codes, if◌then◌else◌, nat_lt}
use Rattle.std.specs.List.{flat_map}
use Rattle.elf_loading.specs.declared.mapping.Contents.TheVariants.{File, NoAccess, Zero}
use Rattle.elfload.specs.Records.{flags_or_null}
use Rattle.elfload.specs.Types.{Contents, Mapping, Span, Tls}
use Rattle.elfload.specs.declared.plans.Edges.{Edges}
use Rattle.elfload.specs.declared.plans.Head.{Head}
use Rattle.elfload.specs.declared.plans.Template.{Template}
use Rattle.program_ends.specs.Json.{json_line, member, name_value, text_value}
use Rattle.program_ends.specs.declared.json.Member.{Member}
use Rattle.program_ends.specs.declared.json.Value as json
use Rattle.program_ends.specs.declared.json.Value.TheVariants.{Null, Number}

-- the first address of the pages that are only readable after relocation, and the first after them, if there are any
abbrev pub edges : json.Value → json.Value → Edges
edges start end = record { start = start; end = end }

-- those of the pages that a plan makes readable: null without a plan for them, or if they are empty
abbrev pub relro_edges : Option Span → Edges
relro_edges (Some span) = if nat_lt span.start span.end then edges (Number span.start) (Number span.end) else edges Null Null
relro_edges None = edges Null Null

-- the numbers of thread-local storage, if there is one
abbrev pub template : json.Value → json.Value → json.Value → json.Value → Template
template address file_size size align = record { address = address; file_size = file_size; size = size; align = align }

-- those of the storage of a plan: its address, its bytes in the file, its bytes in memory and its alignment, or null without one
abbrev pub template_of : Option Tls → Template
template_of (Some tls) = template (Number tls.address) (Number tls.file_size) (Number tls.mem_size) (Number tls.align)
template_of None = template Null Null Null Null

-- the path of the interpreter, or null
abbrev pub path_value : Option (List ℕ) → json.Value
path_value None = Null
path_value (Some path) = name_value path

-- the header, and the span of the segments
abbrev pub head_record : Head → List ℕ
head_record head = json_line (member (codes "file") (text_value head.path.now)
    ∷ member (codes "class") (Number head.class) ∷ member (codes "type") (Number head.kind)
    ∷ member (codes "machine") (Number head.machine) ∷ member (codes "entry") (Number head.entry)
    ∷ member (codes "start") (Number head.span.start) ∷ member (codes "end") (Number head.span.end) ∷ [])

-- what else a loader asks for
abbrev pub rest_record : Head → Option (List ℕ) → List ℕ
rest_record head interpreter = json_line (member (codes "file") (text_value head.path.now)
    ∷ member (codes "relro_start") (relro_edges head.relro).start ∷ member (codes "relro_end") (relro_edges head.relro).end
    ∷ member (codes "tls_address") (template_of head.tls).address ∷ member (codes "tls_file_size") (template_of head.tls).file_size
    ∷ member (codes "tls_size") (template_of head.tls).size ∷ member (codes "tls_align") (template_of head.tls).align
    ∷ member (codes "stack_flags") (flags_or_null head.stack) ∷ member (codes "interpreter") (path_value interpreter) ∷ [])

-- what a mapping holds, and the offset of its first byte in the file
abbrev pub contents_members : Contents → List Member
contents_members (File offset) = member (codes "holds") (text_value (codes "file")) ∷ member (codes "offset") (Number offset) ∷ []
contents_members Zero = member (codes "holds") (text_value (codes "zero")) ∷ member (codes "offset") Null ∷ []
contents_members NoAccess = member (codes "holds") (text_value (codes "none")) ∷ member (codes "offset") Null ∷ []

-- a mapping of a file by a loader
abbrev pub mapping_record : List ℕ → List ℕ → Mapping → List ℕ
mapping_record path by mapping = json_line (member (codes "file") (text_value path) ∷ member (codes "by") (text_value by)
    ∷ member (codes "start") (Number mapping.start) ∷ member (codes "end") (Number mapping.end)
    ∷ member (codes "flags") (Number mapping.flags.0) ∷ contents_members mapping.contents)

-- the lines of mappings
abbrev pub mapping_records : List ℕ → List ℕ → List Mapping → List ℕ
mapping_records path by mappings = flat_map (mapping_record path by) mappings
