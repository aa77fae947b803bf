-- The stack of openers is the nesting of the formats whose marks are rows.
use Rattle.std.proofs.Common.{◌≡◌, ◌≢◌, ◌∙◌, ℕ, Bool, true, false, List, [], ◌∷◌, refl, ap, sym, None, Some}
use Rattle.std.specs.Prelude.{◌==◌, ◌+◌, ◌%◌, if◌then◌else◌}
use Rattle.std.proofs.lemmas.Bool.{eq-eqb, eqb-true, and_left, and_right, and_from}
use Rattle.htmd_document.specs.Formats.{Format}
use Rattle.htmd_document.specs.Formats.{Emphasis, Strong, Deleted}
use Rattle.htmd_commonmark_reading.specs.Markup.{Inlines, no_inlines, formatted, joined}
use Rattle.htmd_commonmark_reading.specs.DelimiterRuns.{Run, Stack, base, opener, with_items, with_run, with_token, run}
use Rattle.htmd_commonmark_reading.specs.DelimiterRuns.{is_closed_by, nearest, fits_by_three, Match, unused_signs}
use Rattle.htmd_commonmark_reading.specs.DelimiterRuns.{if_as_many, partner, after_search, one_or_two}
use Rattle.htmd_law_inlines.proofs.TextPieces.{test}
use Rattle.htmd_law_inlines.proofs.Pieces.{joined_none}

-- a format that is written by a row: one sign or two of them
pub data RowFormat : Type 0 where
  one : RowFormat
  two : RowFormat
  tildes : RowFormat

abbrev pub row_format : RowFormat → Format
row_format one = Emphasis
row_format two = Strong
row_format tildes = Deleted

abbrev pub row_length : RowFormat → ℕ
row_length one = 1
row_length two = 2
row_length tildes = 2

-- the sign is one that the format's rows have: a tilde, or another
abbrev pub IsSignOf : RowFormat → ℕ → Type 0
IsSignOf one sign = (sign == 126) ≡ false
IsSignOf two sign = (sign == 126) ≡ false
IsSignOf tildes sign = sign ≡ 126

-- the openers, innermost first, are of these formats
abbrev pub AreOpeners : List RowFormat → Stack → Type 0
AreOpeners [] (base items) = Unit {0}
AreOpeners [] (opener by items below) = ⊥
AreOpeners (f ∷ around) (base items) = ⊥
AreOpeners (f ∷ around) (opener by items below) =
    (by.count ≡ row_length f) × IsSignOf f by.sign × AreOpeners around below

abbrev pub IsNoneOf : RowFormat → List RowFormat → Type 0
IsNoneOf f [] = Unit {0}
IsNoneOf f (g ∷ around) = (g ≢ f) × IsNoneOf f around

pub no_openers : AreOpeners [] (base no_inlines)
no_openers = tt

pub still_openers : (around : List RowFormat) (s : Stack) (xs : Inlines) → AreOpeners around s
    → AreOpeners around (with_items s xs)
still_openers [] (base items) xs h = h
still_openers [] (opener by items below) xs h = h
still_openers (f ∷ around) (base items) xs h = h
still_openers (f ∷ around) (opener by items below) xs h = h

abbrev pub opening : RowFormat → ℕ → Bool → Run
opening f sign closes =
    record { sign = sign; unused = row_length f; count = row_length f; opens = true; closes = closes }

abbrev pub closing : RowFormat → ℕ → Bool → Run
closing f sign opens =
    record { sign = sign; unused = row_length f; count = row_length f; opens = opens; closes = true }

pub one_more_opener : (around : List RowFormat) (s : Stack) (f : RowFormat) (sign : ℕ) (closes : Bool)
    → IsSignOf f sign
    → AreOpeners around s → AreOpeners (f ∷ around) (opener (opening f sign closes) no_inlines s)
one_more_opener around s f sign closes i h = (refl, i, h)

-- A row that opens and closes finds no partner of another format: either their signs differ, or their lengths sum up
-- to 3.
tildes_differ : (a b : ℕ) → a ≡ 126 → (b == 126) ≡ false → (a == b) ≡ false
tildes_differ a b h k = test (a == b) (λ e. let x = ap (λ n. n == 126) (eqb-true a b e) in
    let y = ap (λ n. n == 126) h in let z : true ≡ false = sym y ∙ x ∙ k in absurd (cc)) (λ e. e)

differ_tildes : (a b : ℕ) → (a == 126) ≡ false → b ≡ 126 → (a == b) ≡ false
differ_tildes a b h k = rw k h

sum_is_three : (by : Run) (f : RowFormat) (sign n : ℕ) → by.count ≡ n → ((n + row_length f) % 3 == 0) ≡ true
    → (row_length f % 3 == 0) ≡ false → fits_by_three by (closing f sign true) ≡ false
sum_is_three by f sign n w h k = test by.closes (λ e. rw (w, e, h, k) refl) (λ e. rw (w, e, h, k) refl)

by_three : (by : Run) (f g : RowFormat) (sign : ℕ) → g ≢ f → by.count ≡ row_length g → IsSignOf g by.sign
    → IsSignOf f sign → is_closed_by by (closing f sign true) ≡ false
by_three by one one sign n w i j = absurd (n refl)
by_three by one two sign n w i j = and_right (by.sign == sign) _ (sum_is_three by one sign 2 w refl refl)
by_three by one tildes sign n w i j = and_left (by.sign == sign) _ (tildes_differ by.sign sign i j)
by_three by two one sign n w i j = and_right (by.sign == sign) _ (sum_is_three by two sign 1 w refl refl)
by_three by two two sign n w i j = absurd (n refl)
by_three by two tildes sign n w i j = and_left (by.sign == sign) _ (tildes_differ by.sign sign i j)
by_three by tildes one sign n w i j = and_left (by.sign == sign) _ (differ_tildes by.sign sign i j)
by_three by tildes two sign n w i j = and_left (by.sign == sign) _ (differ_tildes by.sign sign i j)
by_three by tildes tildes sign n w i j = absurd (n refl)

no_partner : (around : List RowFormat) (s : Stack) (f : RowFormat) (sign : ℕ) (inside : Inlines) → IsSignOf f sign
    → AreOpeners around s → IsNoneOf f around → nearest (closing f sign true) inside s ≡ None
no_partner [] (base items) f sign inside i h a = refl
no_partner [] (opener by items below) f sign inside i h a = absurd h
no_partner (g ∷ around) (base items) f sign inside i h a = absurd h
no_partner (g ∷ around) (opener by items below) f sign inside i h a =
    rw (by_three by f g sign a.0 h.0 h.1 i) (no_partner around below f sign _ i h.2 a.1)

-- a row that opens does
pub opens_own : (around : List RowFormat) (s : Stack) (f : RowFormat) (sign : ℕ) (closes : Bool) → IsSignOf f sign
    → AreOpeners around s → IsNoneOf f around
    → with_token s (run (opening f sign closes)) ≡ opener (opening f sign closes) no_inlines s
opens_own around s one sign false i h a = refl
opens_own around s one sign true i h a = rw (no_partner around s one sign no_inlines i h a) refl
opens_own around s two sign false i h a = refl
opens_own around s two sign true i h a = rw (no_partner around s two sign no_inlines i h a) refl
opens_own around s tildes sign false i h a = refl
opens_own around s tildes sign true i h a = rw (no_partner around s tildes sign no_inlines i h a) refl

fits_own : (f : RowFormat) (sign : ℕ) (closes reopens : Bool)
    → fits_by_three (opening f sign closes) (closing f sign reopens) ≡ true
fits_own one sign true reopens = refl
fits_own one sign false true = refl
fits_own one sign false false = refl
fits_own two sign true reopens = refl
fits_own two sign false true = refl
fits_own two sign false false = refl
fits_own tildes sign true reopens = refl
fits_own tildes sign false true = refl
fits_own tildes sign false false = refl

abbrev own_match : RowFormat → ℕ → Bool → Inlines → Stack → Match
own_match f sign closes inside s =
    record { opened = opening f sign closes; inside = joined inside no_inlines; below = s }

nearest_own : (f : RowFormat) (s : Stack) (sign : ℕ) (closes reopens : Bool) (inside : Inlines)
    → nearest (closing f sign reopens) no_inlines (opener (opening f sign closes) inside s)
    ≡ Some (own_match f sign closes inside s)
nearest_own f s sign closes reopens inside =
    ap (λ t. if t then Some (own_match f sign closes inside s)
    else nearest (closing f sign reopens) (unused_signs (opening f sign closes) (joined inside no_inlines)) s)
    (and_from (sign == sign) (fits_by_three (opening f sign closes) (closing f sign reopens)) (eq-eqb sign sign refl)
    (fits_own f sign closes reopens))

as_many : (f : RowFormat) (s : Stack) (sign : ℕ) (closes reopens : Bool) (inside : Inlines)
    → if_as_many (closing f sign reopens) (Some (own_match f sign closes inside s))
    ≡ Some (own_match f sign closes inside s)
as_many one s sign closes reopens inside = test (sign == 126) (λ e. rw e refl) (λ e. rw e refl)
as_many two s sign closes reopens inside = test (sign == 126) (λ e. rw e refl) (λ e. rw e refl)
as_many tildes s sign closes reopens inside = test (sign == 126) (λ e. rw e refl) (λ e. rw e refl)

partner_own : (f : RowFormat) (s : Stack) (sign : ℕ) (closes reopens : Bool) (inside : Inlines)
    → partner (closing f sign reopens) (opener (opening f sign closes) inside s)
    ≡ Some (own_match f sign closes inside s)
partner_own f s sign closes reopens inside =
    ap (if_as_many (closing f sign reopens)) (nearest_own f s sign closes reopens inside)
    ∙ as_many f s sign closes reopens inside

-- a row that closes closes its own
pub closes_own : (s : Stack) (f : RowFormat) (sign : ℕ) (closes reopens : Bool) (inside : Inlines) → IsSignOf f sign
    → with_token (opener (opening f sign closes) inside s) (run (closing f sign reopens))
    ≡ with_items s (formatted (row_format f) inside no_inlines)
closes_own s one sign closes reopens inside i =
    let st = opener (opening one sign closes) inside s in
    let r = closing one sign reopens in
    ap (after_search (λ n q t. t) r st) (partner_own one s sign closes reopens inside)
    ∙ rw (i, joined_none inside) refl
closes_own s two sign closes reopens inside i =
    let st = opener (opening two sign closes) inside s in
    let r = closing two sign reopens in
    ap (after_search (one_or_two (with_run 1) (with_run 0)) r st) (partner_own two s sign closes reopens inside)
    ∙ rw (i, joined_none inside) refl
closes_own s tildes sign closes reopens inside i =
    let st = opener (opening tildes sign closes) inside s in
    let r = closing tildes sign reopens in
    ap (after_search (one_or_two (with_run 1) (with_run 0)) r st) (partner_own tildes s sign closes reopens inside)
    ∙ rw (i, joined_none inside) refl
