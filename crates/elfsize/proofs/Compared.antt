-- The parts of a file, the lines of the differences of two, and how the program ends for them.
use Rattle.std.proofs.Common.{◌≡◌, ℕ, ◌+◌, ◌<◌, ◌≤◌, List, [], ◌∷◌, ◌++◌, Option, None, Some, Result, Ok, Err, codes, length, get_or, take, refl, ap, sym, subst, ◌∙◌, append_assoc, inl, inr, arith}
use Rattle.std.specs.Borrow.{Bor}
use Rattle.std.specs.Prelude.{IfSome, IsSomeAnd, MatchResult, ⊤}
use Rattle.std.proofs.KnownBytes.{Appends-nil}
use Rattle.std.specs.Io.KnownBytes.{Appends}
use Rattle.std.specs.List.{AllZip, flat_map, sum_by}
use Rattle.std.proofs.lemmas.List.{flat_map_more, get_or_default, take_all, take_more}
use Rattle.std.proofs.lemmas.List.Sums.{sum_by_push}
use Rattle.elf_addresses.specs.Differences.{AreDifferences, all_sizes, growth, new_size, old_size, shown, shrinkage}
use Rattle.elf_addresses.specs.FileClaims.{byte_count}
use Rattle.elf_addresses.specs.declared.difference.Change.{Change}
use Rattle.elf_addresses.specs.declared.difference.SizedPart.{SizedPart}
use Rattle.elfsize.specs.Differences.{AreKinds, AreLengths, AreParts, AreSides, IsChangesText, IsDifferenceEnd, IsDifferenceText, IsPairFault, IsPairText, IsPartOf, OfFiles, different_text, found_text, kind_number, mark_text, start_of}
use Rattle.elfsize.specs.Ends.{IsEnd, IsFault, IsFaultOf, IsOfInput, OfFile, fault_of}
use Rattle.elfsize.specs.Lines.{AreFileSizes, IsInputText, IsShort, part_name}
use Rattle.elfsize.specs.Sides.{IsInputError, IsInputThere, IsSide}
use Rattle.elfsize.specs.Sums.{AreInputSums, AreSums}
use Rattle.elfsize.specs.Totals.{all_bytes}
use Rattle.elfsize.specs.View.{shown as shown_in}
use Rattle.elfsize.specs.declared.changes.Kinds.{Kinds}
use Rattle.elfsize.specs.declared.difference.Comparison.{Comparison}
use Rattle.elfsize.specs.declared.difference.Lengths.{Lengths}
use Rattle.elfsize.specs.declared.lines.AnyError.{AnyError}
use Rattle.elfsize.specs.declared.lines.AnyError.TheVariants.{Elf, Many, Memory}
use Rattle.elfsize.specs.declared.side.Side.{Side}
use Rattle.elfsize.specs.declared.sums.Sums.{Sums}
use Rattle.elfsize.specs.declared.symbols.Symbols.{Symbols}
use Rattle.elfsize.specs.declared.totals.Run.{Run}
use Rattle.program_ends.specs.declared.json.Form.{Form}
use Rattle.program_ends.specs.declared.json.Form.TheVariants as forms
use Rattle.elfsize.specs.declared.view.Options.{Options}
use Rattle.elfsize.specs.declared.view.View.{View}
use Rattle.elfsize.proofs.Inputs.{fault_so, written_fault}
use Rattle.program_ends.proofs.Ends.{ends_so, fault_so as fault_from}
use Rattle.program_ends.proofs.LineLists.{zip_one_more}
use Rattle.program_ends.specs.Appended.{AppendsSome}
use Rattle.program_ends.specs.Names.{escaped}
use Rattle.program_ends.specs.Stops.{IsStop}
use Rattle.program_ends.specs.declared.Fault.{Fault}
use Rattle.program_ends.specs.declared.Fault.TheVariants.{Read}
use Rattle.program_ends.specs.declared.Stop.{Stop}
use Rattle.program_ends.specs.declared.Stop.TheVariants.{Failed}
use Rattle.xmas_elf.specs.Types.{ElfFile}

-- parts are those of the sizes before an index
pub record ArePartsTo (file : ElfFile) (symbols : Symbols) (sizes : List Run) (index : ℕ) (parts : List SizedPart) : Type 0 where
  pub each : AllZip (λ one part. IsPartOf file symbols one part) (take index sizes) parts
  pub sum : all_sizes parts ≡ all_bytes (take index sizes)

pub no_parts : (file : ElfFile) (symbols : Symbols) (sizes : List Run) → ArePartsTo file symbols sizes 0 []
no_parts file symbols sizes = record { each = tt; sum = refl }

pub part_step : (file : ElfFile) (symbols : Symbols) (sizes : List Run) (index : ℕ) (item : Run) (part : SizedPart) (parts : List SizedPart) → index < length sizes → item ≡ get_or sizes index item → IsPartOf file symbols item part
    → ArePartsTo file symbols sizes index parts → ArePartsTo file symbols sizes (index + 1) (parts ++ (part ∷ []))
part_step file symbols sizes index item part parts below at is so_far =
    let more : take index sizes ++ (item ∷ []) ≡ take (index + 1) sizes = ap (λ (one : Run). take index sizes ++ (one ∷ [])) at ∙ sym (take_more sizes index item below) in
    record {
      each = subst (λ (l : List Run). AllZip (λ one part. IsPartOf file symbols one part) l (parts ++ (part ∷ []))) more
          (zip_one_more (λ one part. IsPartOf file symbols one part) (take index sizes) parts item part so_far.each is);
      sum =
          let grown : all_sizes (parts ++ (part ∷ [])) ≡ all_sizes parts + part.size = sum_by_push (λ (one : SizedPart). one.size) parts part in
          let bytes : all_bytes (take index sizes ++ (item ∷ [])) ≡ all_bytes (take index sizes) + item.size = sum_by_push (λ (one : Run). one.size) (take index sizes) item in
          let was : all_sizes parts ≡ all_bytes (take index sizes) = so_far.sum in
          let size : part.size ≡ item.size = is.size in
          let all : all_bytes (take index sizes ++ (item ∷ [])) ≡ all_bytes (take (index + 1) sizes) = ap all_bytes more in
          omega (arith, grown, bytes, was, size, all);
    }

pub all_parts : (file : ElfFile) (symbols : Symbols) (sizes : List Run) (index : ℕ) (parts : List SizedPart) → length sizes ≤ index → AreFileSizes file symbols sizes → ArePartsTo file symbols sizes index parts → AreParts file symbols parts
all_parts file symbols sizes index parts end are so_far =
    let whole : take index sizes ≡ sizes = take_all index sizes end in
    record {
      sizes = sizes;
      are_sizes = are;
      each = subst (λ (l : List Run). AllZip (λ one part. IsPartOf file symbols one part) l parts) whole so_far.each;
      sum = so_far.sum ∙ (ap all_bytes whole ∙ are.sum);
    }

-- one more line
pub one_more_text : {X : Type 0} (text_of : X → List ℕ) (items : List X) (index : ℕ) (item : X) → index < length items → item ≡ get_or items index item → flat_map text_of (take index items) ++ text_of item ≡ flat_map text_of (take (index + 1) items)
one_more_text {X} text_of items index item below is =
    flat_map_more text_of [] (take index items) item
    ∙ ap (flat_map text_of) (ap (λ (one : X). take index items ++ (one ∷ [])) is ∙ sym (take_more items index item below))

-- the same of an item that is read with a default
pub one_more_text_at : {X : Type 0} (text_of : X → List ℕ) (items : List X) (index : ℕ) (none : X) → index < length items → flat_map text_of (take index items) ++ text_of (get_or items index none) ≡ flat_map text_of (take (index + 1) items)
one_more_text_at {X} text_of items index none below =
    one_more_text text_of items index (get_or items index none) below (get_or_default items index none (get_or items index none) below)

-- nothing more
pub nothing_added : (old : Option (List ℕ)) → Appends old old []
nothing_added old = Appends-nil old

-- the line of a change, as it is written
pub different_is : (change : Change) (old new : ℕ) (mark : List ℕ) (part : SizedPart) → old ≡ old_size change → new ≡ new_size change → mark ≡ mark_text change → part ≡ shown change
    → (start_of old new mark part.place ++ escaped part.name.now) ++ codes "\n" ≡ different_text forms.Text change
different_is change old new mark part old_is new_is mark_is part_is =
    ap (λ (n : ℕ). (start_of n new mark part.place ++ escaped part.name.now) ++ codes "\n") old_is
    ∙ (ap (λ (n : ℕ). (start_of (old_size change) n mark part.place ++ escaped part.name.now) ++ codes "\n") new_is
    ∙ (ap (λ (m : List ℕ). (start_of (old_size change) (new_size change) m part.place ++ escaped part.name.now) ++ codes "\n") mark_is
    ∙ (ap (λ (p : SizedPart). (start_of (old_size change) (new_size change) (mark_text change) p.place ++ escaped p.name.now) ++ codes "\n") part_is
    ∙ append_assoc (start_of (old_size change) (new_size change) (mark_text change) (shown change).place) (escaped (shown change).name.now) (codes "\n"))))

-- the text of two files
pub pair_text : (form : Form) (old new : Side) (old_parts new_parts : List SizedPart) (kinds : Kinds) → AreParts old.file old.symbols old_parts → AreParts new.file new.symbols new_parts → AreKinds old.file new.file kinds
    → (text : List ℕ) → IsChangesText form old_parts new_parts kinds text → IsDifferenceText form old new text
pair_text form old new old_parts new_parts kinds old_are new_are are_kinds text (changes, are, is) = record {
  old_parts = old_parts;
  new_parts = new_parts;
  changes = changes;
  kinds = kinds;
  old_are = old_are;
  new_are = new_are;
  are_changes = are;
  difference =
      let sum : sum_by growth changes + all_sizes old_parts ≡ sum_by shrinkage changes + all_sizes new_parts = are.difference in
      let one : all_sizes old_parts ≡ byte_count old.file = old_are.sum in
      let other : all_sizes new_parts ≡ byte_count new.file = new_are.sum in
      omega (arith, sum, one, other);
  are_kinds = are_kinds;
  text_is = is;
}

-- The faults of one of two inputs.

pub old_fault : (asked : Comparison) (old new : Bor (List ℕ)) (failure : AnyError) → IsInputError asked.options old failure → IsPairFault asked old new (fault_of asked.old (Failed failure))
old_fault asked old new failure why = inl (fault_so asked.old (IsInputError asked.options old) (AreSides asked.options old new) (Failed failure) why)

pub new_fault : (asked : Comparison) (old new : Bor (List ℕ)) (failure : AnyError) → IsInputError asked.options new failure → IsPairFault asked old new (fault_of asked.new (Failed failure))
new_fault asked old new failure why = inr (fault_so asked.new (IsInputError asked.options new) (AreSides asked.options old new) (Failed failure) why)

pub stop_fault : (asked : Comparison) (old new : Bor (List ℕ)) (old_side new_side : Side) (Written : Type 0) (stop : Stop AnyError) → IsSide asked.options old old_side → IsSide asked.options new new_side → IsStop IsShort Written ⊤ stop → IsPairFault asked old new (fault_of asked.old stop)
stop_fault asked old new old_side new_side Written stop old_is new_is why =
    inl (written_fault asked.options asked.old old Written (AreSides asked.options old new) stop ((old_side, old_is), (new_side, new_is)) why)

-- a text of two inputs
pub pair_found : (options : Options) (old new : Bor (List ℕ)) (old_side new_side : Side) (before after : Option (List ℕ)) → IsSide options old old_side → IsSide options new new_side
    → AppendsSome (IsDifferenceText options.form old_side new_side) before after → AppendsSome (IsPairText options old new) before after
unfolding IsPairText
pair_found options old new old_side new_side before after old_is new_is (text, is, grown) = (text, (old_side, new_side, old_is, new_is, is), grown)

-- How the program ends.

-- bytes are a view of all that a reader has left, as far as these are known
abbrev pub AreRead : {R : Type 0} → View → (R → Option (List ℕ)) → Option R → List ℕ → Type 0
AreRead view remaining file bytes = IsSomeAnd file (λ reader. IfSome (remaining reader) (λ all. bytes ≡ shown_in view all))

of_read : {R : Type 0} (view : View) (remaining : R → Option (List ℕ)) (file : Option R) (input : Bor (List ℕ)) (P : Bor (List ℕ) → Type 0) → AreRead view remaining file input.now → P input → OfFile view remaining file P
of_read view remaining None input P read holds = absurd read
of_read view remaining (Some reader) input P read holds = (input, read, holds)

of_reads : {R : Type 0} (view : View) (remaining : R → Option (List ℕ)) (old new : Option R) (input other : Bor (List ℕ)) (P : Bor (List ℕ) → Bor (List ℕ) → Type 0) → AreRead view remaining old input.now → AreRead view remaining new other.now → P input other → OfFiles view remaining old new P
of_reads view remaining old new input other P old_read new_read holds =
    of_read view remaining old input (λ i. OfFile view remaining new (λ o. P i o)) old_read (of_read view remaining new other (λ o. P input o) new_read holds)

pub difference_done : {R : Type 0} (options : Options) (remaining : R → Option (List ℕ)) (old new : Option R) (bytes others : List ℕ) (input other : Bor (List ℕ)) (lengths : Lengths) (before after : Option (List ℕ)) → AreRead options.view remaining old bytes → AreRead options.view remaining new others
    → input.now ≡ bytes → other.now ≡ others → AppendsSome (IsPairText options input other) before after → lengths.old ≡ length input.now → lengths.new ≡ length other.now
    → OfFiles options.view remaining old new (λ i o. AppendsSome (IsPairText options i o) before after × AreLengths i.now o.now lengths)
difference_done options remaining old new bytes others input other lengths before after old_read new_read same same' found one two =
    of_reads options.view remaining old new input other (λ i o. AppendsSome (IsPairText options i o) before after × AreLengths i.now o.now lengths)
    (subst (AreRead options.view remaining old) (sym same) old_read) (subst (AreRead options.view remaining new) (sym same') new_read) (found, (one, two))

of_file_so : {R : Type 0} (view : View) (remaining : R → Option (List ℕ)) (file : Option R) (P Q : Bor (List ℕ) → Type 0) → ((input : Bor (List ℕ)) → P input → Q input) → OfFile view remaining file P → OfFile view remaining file Q
of_file_so view remaining None P Q so holds = absurd holds
of_file_so view remaining (Some reader) P Q so (input, read, holds) = (input, read, so input holds)

-- the end of a program that has written the difference
pub difference_ended : {R : Type 0} (options : Options) (remaining : R → Option (List ℕ)) (old new : Option R) (lengths : Lengths) (before after : Option (List ℕ))
    → OfFiles options.view remaining old new (λ i o. AppendsSome (IsPairText options i o) before after × AreLengths i.now o.now lengths)
    → OfFiles options.view remaining old new (λ i o. ((text : List ℕ) × IsPairText options i o text) × AreLengths i.now o.now lengths)
difference_ended options remaining old new lengths before after written =
    of_file_so options.view remaining old (λ i. OfFile options.view remaining new (λ o. AppendsSome (IsPairText options i o) before after × AreLengths i.now o.now lengths))
    (λ i. OfFile options.view remaining new (λ o. ((text : List ℕ) × IsPairText options i o text) × AreLengths i.now o.now lengths))
    (λ i. of_file_so options.view remaining new (λ o. AppendsSome (IsPairText options i o) before after × AreLengths i.now o.now lengths)
    (λ o. ((text : List ℕ) × IsPairText options i o text) × AreLengths i.now o.now lengths)
    (λ o found. ((found.0.0, found.0.1), found.1)))
    written

error_of : {R : Type 0} (options : Options) (remaining : R → Option (List ℕ)) (file : Option R) (input : Bor (List ℕ)) → AreRead options.view remaining file input.now → (failure : AnyError) → IsOfInput (IsInputError options input) failure → IsOfInput (λ r. OfFile options.view remaining file (λ i. IsInputError options i r)) failure
error_of options remaining file input read (Elf error) why = of_read options.view remaining file input (λ i. IsInputError options i (Elf error)) read why
error_of options remaining file input read Many why = of_read options.view remaining file input (λ i. IsInputError options i Many) read why
error_of options remaining file input read Memory why = why

fault_of_file : {R : Type 0} (options : Options) (path : Bor (List ℕ)) (remaining : R → Option (List ℕ)) (file : Option R) (input : Bor (List ℕ)) (Was Is : Type 0) (fault : Fault AnyError) → (Was → Is) → AreRead options.view remaining file input.now → IsFault path (IsInputError options input) Was fault → IsFaultOf options path remaining file Is fault
fault_of_file options path remaining file input Was Is fault so read why =
    fault_from path (IsOfInput (IsInputError options input)) (IsOfInput (λ r. OfFile options.view remaining file (λ i. IsInputError options i r))) Was Is fault (error_of options remaining file input read) so why

pub difference_failed : {R : Type 0} (asked : Comparison) (remaining : R → Option (List ℕ)) (old new : Option R) (bytes others : List ℕ) (input other : Bor (List ℕ)) (fault : Fault AnyError) → AreRead asked.options.view remaining old bytes → AreRead asked.options.view remaining new others
    → input.now ≡ bytes → other.now ≡ others → IsPairFault asked input other fault → IsDifferenceEnd asked remaining old new (Err fault)
difference_failed asked remaining old new bytes others input other fault old_read new_read same same' why =
    let read : AreRead asked.options.view remaining old input.now = subst (AreRead asked.options.view remaining old) (sym same) old_read in
    let read' : AreRead asked.options.view remaining new other.now = subst (AreRead asked.options.view remaining new) (sym same') new_read in
    let sides : AreSides asked.options input other → OfFiles asked.options.view remaining old new (AreSides asked.options) = of_reads asked.options.view remaining old new input other (AreSides asked.options) read read' in
    elim why [
      | inl one ↦ inl (fault_of_file asked.options asked.old remaining old input (AreSides asked.options input other) (OfFiles asked.options.view remaining old new (AreSides asked.options)) fault sides read one)
      | inr two ↦ inr (fault_of_file asked.options asked.new remaining new other (AreSides asked.options input other) (OfFiles asked.options.view remaining old new (AreSides asked.options)) fault sides read' two)
    ]

-- The same of one file.

pub lines_done : {R : Type 0} (options : Options) (path : List ℕ) (remaining : R → Option (List ℕ)) (file : Option R) (bytes : List ℕ) (input : Bor (List ℕ)) (sums : Sums) (before after : Option (List ℕ)) → AreRead options.view remaining file bytes → input.now ≡ bytes
    → AppendsSome (IsInputText options path input) before after × AreInputSums input sums → OfFile options.view remaining file (λ i. AppendsSome (IsInputText options path i) before after × AreInputSums i sums)
lines_done options path remaining file bytes input sums before after read same found =
    of_read options.view remaining file input (λ i. AppendsSome (IsInputText options path i) before after × AreInputSums i sums) (subst (AreRead options.view remaining file) (sym same) read) found

pub lines_failed : {R : Type 0} (options : Options) (path : Bor (List ℕ)) (remaining : R → Option (List ℕ)) (file : Option R) (bytes : List ℕ) (input : Bor (List ℕ)) (fault : Fault AnyError) → AreRead options.view remaining file bytes → input.now ≡ bytes
    → IsFault path (IsInputError options input) (IsInputThere options input) fault → IsFaultOf options path remaining file (OfFile options.view remaining file (IsInputThere options)) fault
lines_failed options path remaining file bytes input fault read same why =
    let read' : AreRead options.view remaining file input.now = subst (AreRead options.view remaining file) (sym same) read in
    fault_of_file options path remaining file input (IsInputThere options input) (OfFile options.view remaining file (IsInputThere options)) fault (of_read options.view remaining file input (IsInputThere options) read') read' why

pub lines_ended : {R : Type 0} (options : Options) (path : Bor (List ℕ)) (remaining : R → Option (List ℕ)) (file : Option R) (sums : Sums) (before after : Option (List ℕ))
    → OfFile options.view remaining file (λ i. AppendsSome (IsInputText options path.now i) before after × AreInputSums i sums) → IsEnd options path remaining file (Ok sums)
lines_ended options path remaining file sums before after =
    of_file_so options.view remaining file (λ i. AppendsSome (IsInputText options path.now i) before after × AreInputSums i sums)
    (λ i. ((text : List ℕ) × IsInputText options path.now i text) × AreInputSums i sums) (λ i found. ((found.0.0, found.0.1), found.1))

pub old_unread : {R : Type 0} (asked : Comparison) (remaining : R → Option (List ℕ)) (old new : Option R) → IsDifferenceEnd asked remaining old new (Err (Read asked.old))
old_unread asked remaining old new = inl refl

pub new_unread : {R : Type 0} (asked : Comparison) (remaining : R → Option (List ℕ)) (old new : Option R) → IsDifferenceEnd asked remaining old new (Err (Read asked.new))
new_unread asked remaining old new = inr refl

-- what is written of two files, by their parts
pub pair_ends : (form : Form) (old new : Side) (old_parts new_parts old_seen new_seen : List SizedPart) (kinds : Kinds) → AreParts old.file old.symbols old_parts → AreParts new.file new.symbols new_parts → old_seen ≡ old_parts → new_seen ≡ new_parts → AreKinds old.file new.file kinds
    → (result : Result (Unit {0}) (Stop AnyError)) (before after : Option (List ℕ))
    → MatchResult result (λ done. AppendsSome (IsChangesText form old_seen new_seen kinds) before after) (IsStop IsShort ⊤ ⊥)
    → MatchResult result (λ done. AppendsSome (IsDifferenceText form old new) before after) (IsStop IsShort ⊤ ⊥)
pair_ends form old new old_parts new_parts old_seen new_seen kinds old_are new_are same same' are_kinds result before after ends =
    ends_so (λ done. IsChangesText form old_seen new_seen kinds) (λ done. IsDifferenceText form old new) IsShort IsShort ⊤ ⊤ ⊥ result before after
    (λ done text is. pair_text form old new old_seen new_seen kinds (subst (AreParts old.file old.symbols) (sym same) old_are) (subst (AreParts new.file new.symbols) (sym same') new_are) are_kinds text is)
    (λ error why. why) (λ w. w) ends

-- what is written of changes
pub changes_written : (form : Form) (old new : List SizedPart) (changes : List Change) (kinds : Kinds) (before after : Option (List ℕ)) → AreDifferences old new changes → Appends before after (found_text form changes kinds) → AppendsSome (IsChangesText form old new kinds) before after
changes_written form old new changes kinds before after are grown = (found_text form changes kinds, (changes, are, refl), grown)

pub part_is : (file : ElfFile) (symbols : Symbols) (one : Run) (part : SizedPart) → part.kind ≡ kind_number one.part → part.name.now ≡ part_name file symbols one.part → part.place ≡ one.part → part.size ≡ one.size → IsPartOf file symbols one part
part_is file symbols one part kind name place size = record { kind = kind; name = name; place = place; size = size }

pub kinds_are : (old new : ElfFile) (kinds : Kinds) → AreSums old kinds.old → AreSums new kinds.new → kinds.old_bytes ≡ byte_count old → kinds.new_bytes ≡ byte_count new → AreKinds old new kinds
kinds_are old new kinds old_sums new_sums old_bytes new_bytes = record { old_sums = old_sums; new_sums = new_sums; old_bytes = old_bytes; new_bytes = new_bytes }
