-- A text is read byte by byte, and an error ends the reading.
use Rattle.std.proofs.Common.{◌≡◌, ℕ, suc, ◌+◌, ◌<◌, List, [], ◌∷◌, ◌++◌, length, get_or, drop, refl, sym, ap, subst}
use Rattle.std.proofs.Common.{◌∙◌, arith, add-one}
use Rattle.std.proofs.Common.{Result, Ok, Err}
use Rattle.std.proofs.lemmas.List.{drop_more, drop_all}
use Rattle.htmd_lexical.specs.Characters.{comma}
use Rattle.htmd_selectors.specs.declared.selectors.SelectorError.{SelectorError}
use Rattle.htmd_selectors.specs.declared.selectors.SelectorError.TheVariants.{Memory, NoSelector, NoName, Unclosed}
use Rattle.htmd_selectors.specs.declared.selectors.SelectorError.TheVariants.{Unsupported}
use Rattle.htmd_selectors.specs.Reading.{Reading, read, read_all, nothing_read, steps_read, finished_in, steps_of_text}
use Rattle.htmd_selectors.specs.ReaderViews.{IsFault}

read_all-err : (place : ℕ) (s : List ℕ) (e : SelectorError) → read_all place s (Err e) ≡ Err e
read_all-err place [] e = refl
read_all-err place (b ∷ s) e = read_all-err (suc place) s e

-- the byte at a place, and then the rest
pub read_all-next : (place : ℕ) (s end : List ℕ) (b : ℕ) (r : Reading) → place < length s
    → b ≡ get_or s place b
    → read_all place (drop place s ++ end) (Ok r)
    ≡ read_all (place + 1) (drop (place + 1) s ++ end) (read place b r)
read_all-next place s end b r l e =
    ap (λ x. read_all place (x ++ end) (Ok r)) (drop_more s place b l ∙ ap (λ y. y ∷ drop (place + 1) s) (sym e))
    ∙ ap (λ n. read_all n (drop (place + 1) s ++ end) (read place b r)) (sym (add-one place))

-- an error in a byte is that of the text
pub IsFault-read_all : (place n : ℕ) (s : List ℕ) (r : Result Reading SelectorError) (e : SelectorError)
    → IsFault r e → IsFault (steps_read n (read_all place s r)) e
IsFault-read_all place n s r Memory h = tt
IsFault-read_all place n s r (NoSelector p) h =
    ap (λ x. steps_read n (read_all place s x)) h ∙ ap (steps_read n) (read_all-err place s (NoSelector p))
IsFault-read_all place n s r (NoName p) h =
    ap (λ x. steps_read n (read_all place s x)) h ∙ ap (steps_read n) (read_all-err place s (NoName p))
IsFault-read_all place n s r (Unclosed p) h =
    ap (λ x. steps_read n (read_all place s x)) h ∙ ap (steps_read n) (read_all-err place s (Unclosed p))
IsFault-read_all place n s r (Unsupported p) h =
    ap (λ x. steps_read n (read_all place s x)) h ∙ ap (steps_read n) (read_all-err place s (Unsupported p))

-- so far, the text was read as this
abbrev pub IsRead : List ℕ → ℕ → Reading → Type 0
IsRead s place r = read_all place (drop place s ++ comma ∷ []) (Ok r)
    ≡ read_all 0 (s ++ comma ∷ []) (Ok nothing_read)

pub IsFault-at : (s : List ℕ) (place b : ℕ) (r : Reading) (e : SelectorError) → place < length s
    → b ≡ get_or s place b → IsRead s place r → IsFault (read place b r) e → IsFault (steps_of_text s) e
IsFault-at s place b r e l is so_far h =
    subst (λ x. IsFault (steps_read (length s) x) e) (sym (read_all-next place s (comma ∷ []) b r l is) ∙ so_far)
    (IsFault-read_all (place + 1) (length s) (drop (place + 1) s ++ comma ∷ []) (read place b r) e h)

-- the comma that is read after the text
read_all-end : (s : List ℕ) (place : ℕ) (r : Reading) → place ≡ length s → IsRead s place r
    → read (length s) comma r ≡ read_all 0 (s ++ comma ∷ []) (Ok nothing_read)
read_all-end s place r is so_far =
    let all : drop place s ≡ [] = drop_all place s (omega arith) in
    ap (λ n. read n comma r) (sym is) ∙ (ap (λ x. read_all place (x ++ comma ∷ []) (Ok r)) (sym all) ∙ so_far)

pub IsFault-at_end : (s : List ℕ) (place : ℕ) (r : Reading) (e : SelectorError) → place ≡ length s
    → IsRead s place r
    → IsFault (read (length s) comma r) e → IsFault (steps_of_text s) e
IsFault-at_end s place r e is so_far h =
    subst (λ x. IsFault (steps_read (length s) x) e) (read_all-end s place r is so_far)
    (IsFault-read_all (length s) (length s) [] (read (length s) comma r) e h)

pub finished-at_end : (s : List ℕ) (place : ℕ) (r after : Reading) → place ≡ length s → IsRead s place r
    → read (length s) comma r ≡ Ok after
    → finished_in after.group after.position (length s) after.steps ≡ steps_of_text s
finished-at_end s place r after is so_far h =
    ap (steps_read (length s)) (sym h) ∙ ap (steps_read (length s)) (read_all-end s place r is so_far)
