-- Comparisons of a text with the bytes at a place.
use Rattle.std.proofs.Common.{◌≡◌, ℕ, zero, suc, ◌-◌, ◌≤◌, ◌<◌, inl, inr, Bool, true, false, Option, None, Some, IsTrue, ◌↔◌, is_some, not, List, [], ◌∷◌, ◌++◌, length, take, drop, slice_index, refl, sym, ap, ◌∙◌, subst, arith}
use Rattle.std.proofs.Math.Seq.{drop-cons}
use Rattle.std.proofs.lemmas.Bool.{eq-eqb, eqb-true}
use Rattle.std.proofs.lemmas.List.{ext_get_or, get_or-take, length-take-le, take-append-drop}
use Rattle.std.specs.Str.{IsUtf8}
use Rattle.memchr.specs.Find.{IsFirstByte, is_byte}
use Rattle.elf_base.specs.Text.{EndsInZero, IsText}
use Rattle.elf_base.specs.TextCompared.{FrontCompared, HasZero, SameBelow, DiffersAt, TextCompared}
use Rattle.elf_base.proofs.Numbers.{rest}

-- if a search found no zero byte, the text contains none
pub has_no_zero : (text : List ℕ) (r : Option ℕ) → IsFirstByte (is_byte 0) text r → is_some r ≡ false → HasZero text → ⊥
has_no_zero text None found none (k, below, is) = found k (omega arith) below (eq-eqb (slice_index text k) 0 is)
has_no_zero text (Some k) found none has = cc

-- a text and a zero byte have the same bytes whatever follows
same_front : (text after : List ℕ) (k : ℕ) → k < length (text ++ (0 ∷ [])) → slice_index (text ++ (0 ∷ after)) k ≡ slice_index (text ++ (0 ∷ [])) k
same_front [] after zero below = refl
same_front [] after (suc k) below = absurd (omega arith)
same_front (x ∷ text) after zero below = refl
same_front (x ∷ text) after (suc k) below = same_front text after k (omega arith)

length_front : (text after : List ℕ) → length (text ++ (0 ∷ [])) ≤ length (text ++ (0 ∷ after))
length_front [] after = omega arith
length_front (x ∷ text) after = let h = length_front text after in omega (arith, h)

-- bytes that differ from a text and a zero byte do not begin with them
differs_before : (ys text after : List ℕ) (k count : ℕ) → DiffersAt ys (text ++ (0 ∷ [])) k count → ys ≡ text ++ (0 ∷ after) → ⊥
differs_before ys text after k count stop begins =
    let long : k < length ys = let h = length_front text after in let e = ap length begins in let low = stop.below in omega (arith, h, e, low) in
    let same : slice_index ys k ≡ slice_index (text ++ (0 ∷ [])) k = ap (λ l. slice_index l k) begins ∙ same_front text after k stop.below in
    elim stop.differs as (λ s. ⊥) [ inl short ↦ (let e = short.0 in omega (arith, e, long)) | inr other ↦ other.1 same ]

-- bytes that begin with a text and have a zero byte after it
zero_behind : (ys text : List ℕ) → length text < length ys → take (length text) ys ≡ text → slice_index ys (length text) ≡ 0 → ys ≡ text ++ (0 ∷ drop (suc (length text)) ys)
zero_behind ys text long front ends =
    let cut : drop (length text) ys ≡ 0 ∷ drop (suc (length text)) ys = drop-cons ys (length text) 0 long ∙ ap (λ b. b ∷ drop (suc (length text)) ys) ends in
    sym (take-append-drop (length text) ys) ∙ ap (λ r. take (length text) ys ++ r) cut ∙ ap (λ f. f ++ (0 ∷ drop (suc (length text)) ys)) front

-- bytes that agree with a text up to a zero byte begin with them
front_begins : (ys text : List ℕ) → length text < length ys → SameBelow ys text (length text) → slice_index ys (length text) ≡ 0 → ys ≡ text ++ (0 ∷ drop (suc (length text)) ys)
front_begins ys text long same ends =
    let len : length (take (length text) ys) ≡ length text = length-take-le (length text) ys (omega arith) in
    let front : take (length text) ys ≡ text = ext_get_or 0 (take (length text) ys) text len (λ i below. let h : i < length text = omega (arith, len, below) in get_or-take (length text) ys i 0 h ∙ same i h) in
    zero_behind ys text long front ends

-- what a comparison at the front of `&bytes[start..]` says of the text at `start`
pub record Answers (bytes : List ℕ) (start : ℕ) (text : List ℕ) (b : Bool) (count : ℕ) : Type 0 where
  pub yes : IsTrue b → IsText bytes start text
  pub no : IsText bytes start text → IsTrue b
  pub compared : TextCompared bytes start text b count

at_rest : (bytes : List ℕ) (start : ℕ) (text : List ℕ) (b : Bool) (count : ℕ) → start ≤ length bytes → IsUtf8 text → (HasZero text → ⊥) → FrontCompared (drop start bytes) text b count → Answers bytes start text b count
at_rest bytes start text true count there utf8 none front =
    let is : IsText bytes start text = record {
      utf8 = utf8;
      ended = record {
        after = drop (suc (length text)) (drop start bytes);
        begins = front_begins (drop start bytes) text front.0 front.1 front.2;
        no_zero = λ k below zero. none (k, below, zero);
      };
    } in
    record { yes = λ t. is; no = λ t. refl; compared = (is, front.3) }
at_rest bytes start text false count there utf8 none front = record {
  yes = λ t. cc;
  no = λ is. absurd (differs_before (drop start bytes) text is.ended.after front.0 count front.1 is.ended.begins);
  compared = inr (there, none, front);
}

pub answers : (bytes : List ℕ) (start : ℕ) (text : List ℕ) (b : Bool) (count : ℕ) → start ≤ length bytes → IsUtf8 text → (HasZero text → ⊥) → FrontCompared (take (length bytes - start) (drop start bytes)) text b count → Answers bytes start text b count
answers bytes start text b count there utf8 none front =
    at_rest bytes start text b count there utf8 none (subst (λ ys. FrontCompared ys text b count) (rest start bytes) front)

-- if `wanted` and a zero byte are at the front of `&bytes[start..]`, the bytes up to the first zero byte are
-- `wanted`, unless `wanted` contains a zero byte
ends_by : (bytes : List ℕ) (start : ℕ) (wanted : List ℕ) (none : Bool) (zero_at : Option ℕ) → drop start bytes ≡ wanted ++ (0 ∷ drop (suc (length wanted)) (drop start bytes)) → IsFirstByte (is_byte 0) wanted zero_at → is_some zero_at ≡ not none → IsTrue none ↔ EndsInZero bytes start wanted
ends_by bytes start wanted true None begins first is_none = (
  (λ _. record {
    after = drop (suc (length wanted)) (drop start bytes);
    begins = begins;
    no_zero = λ k below zero. has_no_zero wanted None first refl (k, below, zero);
  }),
  λ _. refl,
)
ends_by bytes start wanted false None begins first is_none = cc
ends_by bytes start wanted true (Some k) begins first is_none = cc
ends_by bytes start wanted false (Some k) begins first is_none =
    ((λ none. cc), λ ended. absurd (ended.no_zero k first.0.high (eqb-true (slice_index wanted k) 0 first.1)))

pub ends : (bytes : List ℕ) (start : ℕ) (wanted : List ℕ) (none : Bool) (zero_at : Option ℕ) → start ≤ length bytes → length wanted < length (take (length bytes - start) (drop start bytes)) → take (length wanted) (take (length bytes - start) (drop start bytes)) ≡ wanted → slice_index (take (length bytes - start) (drop start bytes)) (length wanted) ≡ 0 → IsFirstByte (is_byte 0) wanted zero_at → is_some zero_at ≡ not none → IsTrue none ↔ EndsInZero bytes start wanted
ends bytes start wanted none zero_at there long front closed first is_none =
    let all : take (length bytes - start) (drop start bytes) ≡ drop start bytes = rest start bytes in
    let begins : drop start bytes ≡ wanted ++ (0 ∷ drop (suc (length wanted)) (drop start bytes)) =
    zero_behind (drop start bytes) wanted (subst (λ ys. length wanted < length ys) all long) (subst (λ ys. take (length wanted) ys ≡ wanted) all front) (subst (λ ys. slice_index ys (length wanted) ≡ 0) all closed) in
    ends_by bytes start wanted none zero_at begins first is_none
