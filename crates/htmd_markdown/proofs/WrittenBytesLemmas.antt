-- An address as it is written, byte by byte.
use Rattle.std.proofs.Common.{◌≡◌, ℕ, suc, ◌+◌, ◌<◌, ◌≤◌, Bool, true, false, cond, List, [], ◌∷◌, ◌++◌, length, get_or}
use Rattle.std.proofs.Common.{drop, refl, sym, ap, ◌∙◌, arith, add-one}
use Rattle.std.specs.Prelude.{◌==◌, slice_index}
use Rattle.std.specs.Str.{bytes_eq}
use Rattle.std.proofs.lemmas.Bool.Decides.{nat_tests}
use Rattle.std.proofs.lemmas.List.{drop_more, drop_all}
use Rattle.htmd_lexical.specs.Characters.{backslash, is_one_of}
use Rattle.htmd_text.specs.EscapedPlaces.{with_backslashes}
use Rattle.htmd_markdown.specs.Addresses.{parentheses}
use Rattle.htmd_markdown.specs.WrittenBytes.{written_byte}

-- what the address is written as from this place on
abbrev pub rest_written : List ℕ → ℕ → List ℕ
rest_written s i = with_backslashes (λ k. is_one_of parentheses (slice_index s k)) i (drop i s)

one_written : (m : Bool) (b : ℕ) (rest : List ℕ) → cond m (backslash ∷ b ∷ rest) (b ∷ rest) ≡ cond m
    (backslash ∷ b ∷ []) (b ∷ []) ++ rest
one_written true b rest = refl
one_written false b rest = refl

pub written_more : (s : List ℕ) (i : ℕ) → i < length s → rest_written s i ≡ written_byte (get_or s i 0)
    ++ rest_written s
    (i + 1)
written_more s i lt =
    let marked = λ (k : ℕ). is_one_of parentheses (slice_index s k) in
    ap (with_backslashes marked i) (drop_more s i 0 lt)
    ∙ one_written (is_one_of parentheses (get_or s i 0)) (get_or s i 0)
    (with_backslashes marked (suc i) (drop (i + 1) s))
    ∙ ap (λ n. written_byte (get_or s i 0) ++ with_backslashes marked n (drop (i + 1) s)) (sym (add-one i))

pub written_all : (s : List ℕ) (i : ℕ) → length s ≤ i → rest_written s i ≡ []
written_all s i past = ap (with_backslashes (λ k. is_one_of parentheses (slice_index s k)) i) (drop_all i s past)

pub is_empty_is : (xs : List ℕ) → (length xs == 0) ≡ bytes_eq xs []
is_empty_is [] = refl
is_empty_is (x ∷ xs) = grind (arith, nat_tests)
