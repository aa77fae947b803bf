-- Tokens beside each other that were read, and the one that they are together.
use Rattle.std.proofs.Common.{◌≡◌, ◌∙◌, ℕ, zero, suc, List, [], ◌∷◌, ◌++◌, refl, ap, sym}
use Rattle.std.specs.Prelude.{map, replicate}
use Rattle.htmd_commonmark_reading.specs.Markup.{Inlines, no_inlines, letter, code, formatted, link, image, line_break}
use Rattle.htmd_commonmark_reading.specs.Markup.{task, raw, joined, letters, signs}
use Rattle.htmd_commonmark_reading.specs.DelimiterRuns.{Token, finished, Stack, base, opener, with_items}
use Rattle.htmd_commonmark_reader.specs.Scans.{AreAlike}
use Rattle.htmd_parts.specs.Parts as parts
use Rattle.htmd_parts.specs.Parts.{inlines_parts}

-- ---- inlines and stacks

joined_joined : (xs ys zs : Inlines) → joined (joined xs ys) zs ≡ joined xs (joined ys zs)
joined_joined no_inlines ys zs = refl
joined_joined (letter c xs) ys zs = ap (letter c) (joined_joined xs ys zs)
joined_joined (code s xs) ys zs = ap (code s) (joined_joined xs ys zs)
joined_joined (formatted f content xs) ys zs = ap (formatted f content) (joined_joined xs ys zs)
joined_joined (link a t content xs) ys zs = ap (link a t content) (joined_joined xs ys zs)
joined_joined (image a t content xs) ys zs = ap (image a t content) (joined_joined xs ys zs)
joined_joined (line_break xs) ys zs = ap line_break (joined_joined xs ys zs)
joined_joined (task d xs) ys zs = ap (task d) (joined_joined xs ys zs)
joined_joined (raw tag xs) ys zs = ap (raw tag) (joined_joined xs ys zs)

joined_none : (xs : Inlines) → joined xs no_inlines ≡ xs
joined_none no_inlines = refl
joined_none (letter c xs) = ap (letter c) (joined_none xs)
joined_none (code s xs) = ap (code s) (joined_none xs)
joined_none (formatted f content xs) = ap (formatted f content) (joined_none xs)
joined_none (link a t content xs) = ap (link a t content) (joined_none xs)
joined_none (image a t content xs) = ap (image a t content) (joined_none xs)
joined_none (line_break xs) = ap line_break (joined_none xs)
joined_none (task d xs) = ap (task d) (joined_none xs)
joined_none (raw tag xs) = ap (raw tag) (joined_none xs)

with_both : (s : Stack) (xs ys : Inlines) → with_items (with_items s xs) ys ≡ with_items s (joined xs ys)
with_both (base items) xs ys = ap base (joined_joined items xs ys)
with_both (opener by items below) xs ys = ap (λ i. opener by i below) (joined_joined items xs ys)

with_none : (s : Stack) → with_items s no_inlines ≡ s
with_none (base items) = ap base (joined_none items)
with_none (opener by items below) = ap (λ i. opener by i below) (joined_none items)

-- ---- letters

-- each letter as a token
abbrev pub letter_tokens : List ℕ → List Token
letter_tokens [] = []
letter_tokens (c ∷ s) = finished (letter c no_inlines) ∷ letter_tokens s

pub letters_alike : (s : List ℕ) → AreAlike (letter_tokens s) (finished (letters s no_inlines) ∷ [])
letters_alike [] = λ t. sym (with_none t)
letters_alike (c ∷ s) = λ t.
    letters_alike s (with_items t (letter c no_inlines)) ∙ with_both t (letter c no_inlines) (letters s no_inlines)

pub letters_parts : (s : List ℕ) → map parts.letter s ++ [] ≡ inlines_parts (letters s no_inlines) []
letters_parts [] = refl
letters_parts (c ∷ s) = ap (λ l. parts.letter c ∷ l) (letters_parts s)

pub signs_parts : (c n : ℕ) → map parts.letter (replicate n c) ++ [] ≡ inlines_parts (signs c n no_inlines) []
signs_parts c zero = refl
signs_parts c (suc n) = ap (λ l. parts.letter c ∷ l) (signs_parts c n)
