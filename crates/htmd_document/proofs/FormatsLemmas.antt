-- Lemmas on formats.
use Rattle.std.proofs.Common.{◌≡◌, ℕ, Bool, true, false, ◌&&◌, ◌==◌, List, if◌then◌else◌, refl, sym, ◌∙◌, ap, arith}
use Rattle.std.specs.Str.{bytes_eq}
use Rattle.std.proofs.lemmas.Bool.Decides.{nat_tests}
use Rattle.htmd_lexical.proofs.BytesLemmas.{same_bytes, bytes_same}
use Rattle.htmd_document.specs.Formats.{Format}
use Rattle.htmd_document.specs.Formats.{Emphasis, Strong, Deleted, Superscript, Subscript, Inserted, Underlined, Marked}
use Rattle.htmd_document.specs.Formats.{Small, Keyboard, Abbreviation}
use Rattle.htmd_document.specs.Formats.{number, title_of, is_same_kind, is_same_format, is_raised}
use Rattle.htmd_document.specs.NormalInlines.{is_around, is_barred}

-- the format of this kind, with this title
abbrev format_at : ℕ → List ℕ → Format
format_at n title =
    if n == 0 then Emphasis
    else (if n == 1 then Strong
    else (if n == 2 then Deleted
    else (if n == 3 then Superscript
    else (if n == 4 then Subscript
    else (if n == 5 then Inserted
    else (if n == 6 then Underlined
    else (if n == 7 then Marked
    else (if n == 8 then Small
    else (if n == 9 then Keyboard
    else Abbreviation title)))))))))

at-number : (f : Format) → format_at (number f) (title_of f) ≡ f
at-number Emphasis = refl
at-number Strong = refl
at-number Deleted = refl
at-number Superscript = refl
at-number Subscript = refl
at-number Inserted = refl
at-number Underlined = refl
at-number Marked = refl
at-number Small = refl
at-number Keyboard = refl
at-number (Abbreviation title) = refl

equal-numbers : (m n : ℕ) → (m == n) ≡ true → m ≡ n
equal-numbers m n h = grind (arith, nat_tests, h)

parts : (a b : Bool) → (a && b) ≡ true → (a ≡ true) × (b ≡ true)
parts true b h = (refl, h)
parts false b h = absurd (cc)

pub same-format : (f g : Format) → is_same_format f g ≡ true → f ≡ g
same-format f g h =
    let both = parts (is_same_kind f g) (bytes_eq (title_of f) (title_of g)) h in
    let kind : number f ≡ number g = equal-numbers (number f) (number g) both.0 in
    let title : title_of f ≡ title_of g = same_bytes (title_of f) (title_of g) both.1 in
    sym (at-number f)
    ∙ (ap (λ n. format_at n (title_of f)) kind ∙ (ap (format_at (number g)) title ∙ at-number g))

number-itself : (n : ℕ) → (n == n) ≡ true
number-itself n = grind (arith, nat_tests)

both : (a b : Bool) → a ≡ true → b ≡ true → (a && b) ≡ true
both true b h k = k
both false b h k = h

pub same-kind : (f : Format) → is_same_kind f f ≡ true
same-kind f = number-itself (number f)

pub same-itself : (f : Format) → is_same_format f f ≡ true
same-itself f = both (is_same_kind f f) (bytes_eq (title_of f) (title_of f)) (same-kind f) (bytes_same (title_of f))

numbers-turned : (m n : ℕ) → (m == n) ≡ (n == m)
numbers-turned m n = grind (arith, nat_tests)

pub kind-turned : (f g : Format) → is_same_kind f g ≡ is_same_kind g f
kind-turned f g = numbers-turned (number f) (number g)

-- what isn't raised can't stand in itself
pub barred-mark : (around : List Format) (f : Format) → is_raised f ≡ false
    → is_barred around f ≡ is_around around f
barred-mark around f plain = rw plain refl
