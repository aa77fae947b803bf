-- The ending of a path, as its bytes are compared.
use Rattle.std.proofs.Common.{◌+◌, ◌<◌, ◌&&◌, ◌||◌, ◌==◌, ◌∷◌, get_or}
use Rattle.std.proofs.lemmas.List.{drop_more}
use Rattle.htmd_lexical.specs.Characters.{full_stop, slash}
use Rattle.std.proofs.Common.{◌≡◌, ℕ, ◌-◌, true, false, Bool, List, length, take, drop, map, sym, ap, ◌∙◌, Some, None}
use Rattle.std.proofs.Common.{arith}
use Rattle.std.specs.Prelude.{if◌then◌else◌}
use Rattle.std.specs.Char.{to_ascii_lowercase}
use Rattle.std.proofs.lemmas.Bool.{false_from_ne_true}
use Rattle.std.proofs.lemmas.Slice.Eq.{bytes_eq-Decides}
use Rattle.htmd_files.specs.Names.{ends_in, before_ending, hides, stem_len}

pub ending_found : (path ending stem : List ℕ) (start : ℕ) → start ≡ length path - length ending
    → map to_ascii_lowercase (drop start path) ≡ map to_ascii_lowercase ending → stem ≡ take (start - 0) path
    → Some stem ≡ before_ending path ending
ending_found path ending stem start e same cut =
    let q : map to_ascii_lowercase (drop (stem_len path ending) path) ≡ map to_ascii_lowercase ending =
    ap (λ (n : ℕ). map to_ascii_lowercase (drop n path)) (sym e) ∙ same in
    let t : ends_in path ending ≡ true = (bytes_eq-Decides _ _).1 q in
    let k : start - 0 ≡ stem_len path ending = omega arith in
    ap Some (cut ∙ ap (λ (n : ℕ). take n path) k)
    ∙ ap (λ (b : Bool). if b then Some (take (stem_len path ending) path) else None) (sym t)

pub ending_missed : (path ending : List ℕ) (start : ℕ) → start ≡ length path - length ending
    → (map to_ascii_lowercase (drop start path) ≡ map to_ascii_lowercase ending → ⊥)
    → None ≡ before_ending path ending
ending_missed path ending start e differs =
    let t : ends_in path ending ≡ false =
    false_from_ne_true _ (λ y. differs (ap (λ (n : ℕ). map to_ascii_lowercase (drop n path)) e
    ∙ (bytes_eq-Decides _ _).0 y)) in
    ap (λ (b : Bool). if b then Some (take (stem_len path ending) path) else None) (sym t)

-- ---- hidden names

-- the bytes that are left, with the next one
pub next_byte : (path : List ℕ) (i byte : ℕ) (begins : Bool) → i < length path → byte ≡ get_or path i byte
    → hides begins (drop i path)
    ≡ ((begins && byte == full_stop) || hides (byte == slash) (drop (i + 1) path))
next_byte path i byte begins l is =
    ap (hides begins) (drop_more path i byte l ∙ ap (λ (x : ℕ). x ∷ drop (i + 1) path) (sym is))
