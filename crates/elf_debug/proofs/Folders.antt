-- The folder of a path, from its last byte on.
use Rattle.std.proofs.Common.{◌≡◌, ◌≢◌, ℕ, ◌==◌, ◌||◌, Bool, List, [], ◌∷◌, ◌++◌, true, false, if◌then◌else◌, refl, ap, ◌∙◌, sym}
use Rattle.std.proofs.lemmas.Bool.{eq-eqb, ne_eqb}
use Rattle.elf_debug.specs.Paths.{folder_of, has_slash}

slash_last : (front : List ℕ) (last : ℕ) → last ≡ 47 → has_slash (front ++ last ∷ []) ≡ true
slash_last [] last is = rw (eq-eqb last 47 is) refl
slash_last (byte ∷ front) last is = ap (λ later. byte == 47 || later) (slash_last front last is) ∙ either (byte == 47)
  where
    either : (b : Bool) → (b || true) ≡ true
    either true = refl
    either false = refl

no_slash_last : (front : List ℕ) (last : ℕ) → last ≢ 47 → has_slash (front ++ last ∷ []) ≡ has_slash front
no_slash_last [] last other = rw (ne_eqb last 47 other) refl
no_slash_last (byte ∷ front) last other = ap (λ later. byte == 47 || later) (no_slash_last front last other)

choice : (b c : Bool) (first second third : List ℕ) → b ≡ c → first ≡ second → (if b then first else third) ≡ (if c then second else third)
choice b c first second third same are = ap (λ d. if d then first else third) same ∙ ap (λ one. if c then one else third) are

whole : (front : List ℕ) (last : ℕ) → last ≡ 47 → folder_of (front ++ last ∷ []) ≡ front ++ last ∷ []
whole [] last is = rw (eq-eqb last 47 is) refl
whole (byte ∷ front) last is =
    choice (has_slash (byte ∷ (front ++ last ∷ []))) true (byte ∷ folder_of (front ++ last ∷ [])) (byte ∷ (front ++ last ∷ [])) [] (slash_last (byte ∷ front) last is) (ap (λ rest. byte ∷ rest) (whole front last is))

shorter : (front : List ℕ) (last : ℕ) → last ≢ 47 → folder_of (front ++ last ∷ []) ≡ folder_of front
shorter [] last other = rw (ne_eqb last 47 other) refl
shorter (byte ∷ front) last other =
    choice (has_slash (byte ∷ (front ++ last ∷ []))) (has_slash (byte ∷ front)) (byte ∷ folder_of (front ++ last ∷ [])) (byte ∷ folder_of front) [] (no_slash_last (byte ∷ front) last other) (ap (λ rest. byte ∷ rest) (shorter front last other))

pub folder_end : (path : List ℕ) → path ≡ [] → folder_of path ≡ []
folder_end path is = ap folder_of is

pub folder_here : (path front : List ℕ) (last : ℕ) → path ≡ front ++ last ∷ [] → last ≡ 47 → folder_of path ≡ path
folder_here path front last is slash = ap folder_of is ∙ whole front last slash ∙ sym is

pub folder_before : (path front : List ℕ) (last : ℕ) → path ≡ front ++ last ∷ [] → last ≢ 47 → folder_of path ≡ folder_of front
folder_before path front last is other = ap folder_of is ∙ shorter front last other
