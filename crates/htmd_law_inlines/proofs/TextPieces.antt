-- Characters of a text are read as themselves: those with a backslash, those that begin nothing, and rows of
-- underscores in words.
use Rattle.std.proofs.Common.{◌≡◌, ◌∙◌, refl, ap, ℕ, zero, suc, Bool, true, false, List, [], ◌∷◌, ◌++◌, Option, Some}
use Rattle.std.proofs.Common.{None}
use Rattle.std.specs.Prelude.{not, ◌&&◌, ◌||◌, ◌==◌, if◌then◌else◌, length}
use Rattle.std.specs.Char.{is_ascii_punctuation}
use Rattle.std.proofs.lemmas.Bool.{eqb-true, and_parts, not-true}
use Rattle.htmd_lexical.specs.Characters.{space, line_feed, backslash, left_square_bracket}
use Rattle.htmd_lexical.specs.CharacterClasses.{first_is, leading_run, behind_run}
use Rattle.htmd_commonmark_reading.specs.Characters.{past_blanks, is_space_or_tab, begins_with_punctuation, reference}
use Rattle.htmd_commonmark_reading.specs.Characters.{is_unicode_white, is_unicode_punctuation, last_character}
use Rattle.htmd_commonmark_reading.specs.Characters.{first_character, Piece}
use Rattle.htmd_commonmark_reading.specs.Markup.{no_inlines, letter, letters, signs}
use Rattle.htmd_commonmark_reading.specs.DelimiterRuns.{finished, run, Run, run_of, run_between, may_open, past_tildes}
use Rattle.htmd_commonmark_reading.specs.DelimiterRuns.{Stack, with_token, with_items}
use Rattle.htmd_commonmark_reading.specs.BlockStarts.{is_same}
use Rattle.htmd_commonmark_reading.specs.Brackets.{References, Brackets, outermost, bracket, and_tokens, scanned}
use Rattle.htmd_commonmark_reading.specs.Brackets.{step_of, kind, Kind, letter_step, token_step}
use Rattle.htmd_law_inlines.proofs.Pieces.{IsRead, steps_to, AreBrackets, pushed}

-- either way, with what the test says
pub test : {P : Type 0} (b : Bool) → (b ≡ true → P) → (b ≡ false → P) → P
test true f g = f refl
test false f g = g refl

-- the character that is there
abbrev pub in_some : Option ℕ → ℕ
in_some None = 0
in_some (Some n) = n

-- a test tells two characters apart
pub differs : (p : ℕ → Bool) (c d : ℕ) → p c ≡ true → p d ≡ false → (c == d) ≡ false
differs p c d h k = test (c == d) (λ e. let a = ap p (eqb-true c d e) in absurd (cc)) (λ e. e)

-- ---- backslashes

-- a backslash before punctuation
pub escaped_read : (refs : References) (in_link : Bool) (before ks : List ℕ) (c : ℕ) → is_ascii_punctuation c
    ≡ true
    → IsRead refs in_link before (92 ∷ c ∷ []) ks (letter c no_inlines)
escaped_read refs in_link before ks c p = record {
  tokens = finished (letter c no_inlines) ∷ [];
  scans = λ b h.
      steps_to refs 92 (c ∷ ks) before b (token_step b (letter c no_inlines) 1)
      (rw (differs is_ascii_punctuation c 10 p refl, p) refl);
  means = λ st. refl;
}

-- a character whose step is that of a letter
pub letter_read : (refs : References) (in_link : Bool) (before ks : List ℕ) (c : ℕ)
    → ((b : Brackets) → AreBrackets in_link b → step_of (kind c) refs b before c ks ≡ letter_step b c)
    → IsRead refs in_link before (c ∷ []) ks (letter c no_inlines)
letter_read refs in_link before ks c e = record {
  tokens = finished (letter c no_inlines) ∷ [];
  scans = λ b h. steps_to refs c ks before b (letter_step b c) (e b h);
  means = λ st. refl;
}

-- ---- characters that begin nothing

-- a line's end, or what no tag has after its `<`
abbrev pub begins_no_tag : List ℕ → Bool
begins_no_tag [] = true
begins_no_tag (c ∷ s) = (c == space) || (c == line_feed) || (c == backslash)

abbrev pub is_no_reference : Option Piece → Bool
is_no_reference None = true
is_no_reference (Some p) = false

-- a character of this kind before this text begins nothing; rows of signs aside
abbrev pub begins_nothing : Kind → Bool → List ℕ → Bool
begins_nothing Kind.blank in_link s = not (first_is line_feed (past_blanks s))
begins_nothing Kind.line_end in_link s = false
begins_nothing Kind.slash in_link s = not (first_is line_feed s) && not (begins_with_punctuation s)
begins_nothing Kind.grave in_link s = false
begins_nothing Kind.sign in_link s = false
begins_nothing Kind.angle_bracket in_link s = begins_no_tag s
begins_nothing Kind.and_sign in_link s = is_no_reference (reference s)
begins_nothing Kind.exclamation in_link s = not (first_is left_square_bracket s)
begins_nothing Kind.opening in_link s = false
begins_nothing Kind.closing in_link s = not in_link
begins_nothing Kind.other in_link s = true

-- ---- which character is of which kind

-- the kind by the tests in their order
abbrev kind_by : Bool → Bool → Bool → Bool → Bool → Bool → Bool → Bool → Bool → Bool → Kind
kind_by a b c d e f g h i j =
    if a then Kind.blank
    else if b then Kind.line_end
    else if c then Kind.slash
    else if d then Kind.grave
    else if e then Kind.sign
    else if f then Kind.angle_bracket
    else if g then Kind.and_sign
    else if h then Kind.exclamation
    else if i then Kind.opening
    else if j then Kind.closing
    else Kind.other

abbrev kind_tests : ℕ → Kind
kind_tests c =
    kind_by (is_space_or_tab c) (c == 10) (c == 92) (c == 96) ((c == 42) || (c == 95) || (c == 126)) (c == 60) (c == 38)
    (c == 33) (c == 91) (c == 93)

slash_test : (a b c d e f g h i j : Bool) → kind_by a b c d e f g h i j ≡ Kind.slash → c ≡ true
slash_test true b c d e f g h i j w = absurd (cc)
slash_test false true c d e f g h i j w = absurd (cc)
slash_test false false true d e f g h i j w = refl
slash_test false false false true e f g h i j w = absurd (cc)
slash_test false false false false true f g h i j w = absurd (cc)
slash_test false false false false false true g h i j w = absurd (cc)
slash_test false false false false false false true h i j w = absurd (cc)
slash_test false false false false false false false true i j w = absurd (cc)
slash_test false false false false false false false false true j w = absurd (cc)
slash_test false false false false false false false false false true w = absurd (cc)
slash_test false false false false false false false false false false w = absurd (cc)

angle_test : (a b c d e f g h i j : Bool) → kind_by a b c d e f g h i j ≡ Kind.angle_bracket → f ≡ true
angle_test true b c d e f g h i j w = absurd (cc)
angle_test false true c d e f g h i j w = absurd (cc)
angle_test false false true d e f g h i j w = absurd (cc)
angle_test false false false true e f g h i j w = absurd (cc)
angle_test false false false false true f g h i j w = absurd (cc)
angle_test false false false false false true g h i j w = refl
angle_test false false false false false false true h i j w = absurd (cc)
angle_test false false false false false false false true i j w = absurd (cc)
angle_test false false false false false false false false true j w = absurd (cc)
angle_test false false false false false false false false false true w = absurd (cc)
angle_test false false false false false false false false false false w = absurd (cc)

and_test : (a b c d e f g h i j : Bool) → kind_by a b c d e f g h i j ≡ Kind.and_sign → g ≡ true
and_test true b c d e f g h i j w = absurd (cc)
and_test false true c d e f g h i j w = absurd (cc)
and_test false false true d e f g h i j w = absurd (cc)
and_test false false false true e f g h i j w = absurd (cc)
and_test false false false false true f g h i j w = absurd (cc)
and_test false false false false false true g h i j w = absurd (cc)
and_test false false false false false false true h i j w = refl
and_test false false false false false false false true i j w = absurd (cc)
and_test false false false false false false false false true j w = absurd (cc)
and_test false false false false false false false false false true w = absurd (cc)
and_test false false false false false false false false false false w = absurd (cc)

mark_test : (a b c d e f g h i j : Bool) → kind_by a b c d e f g h i j ≡ Kind.exclamation → h ≡ true
mark_test true b c d e f g h i j w = absurd (cc)
mark_test false true c d e f g h i j w = absurd (cc)
mark_test false false true d e f g h i j w = absurd (cc)
mark_test false false false true e f g h i j w = absurd (cc)
mark_test false false false false true f g h i j w = absurd (cc)
mark_test false false false false false true g h i j w = absurd (cc)
mark_test false false false false false false true h i j w = absurd (cc)
mark_test false false false false false false false true i j w = refl
mark_test false false false false false false false false true j w = absurd (cc)
mark_test false false false false false false false false false true w = absurd (cc)
mark_test false false false false false false false false false false w = absurd (cc)

closing_test : (a b c d e f g h i j : Bool) → kind_by a b c d e f g h i j ≡ Kind.closing → j ≡ true
closing_test true b c d e f g h i j w = absurd (cc)
closing_test false true c d e f g h i j w = absurd (cc)
closing_test false false true d e f g h i j w = absurd (cc)
closing_test false false false true e f g h i j w = absurd (cc)
closing_test false false false false true f g h i j w = absurd (cc)
closing_test false false false false false true g h i j w = absurd (cc)
closing_test false false false false false false true h i j w = absurd (cc)
closing_test false false false false false false false true i j w = absurd (cc)
closing_test false false false false false false false false true j w = absurd (cc)
closing_test false false false false false false false false false true w = refl
closing_test false false false false false false false false false false w = absurd (cc)

pub is_slash : (c : ℕ) → kind c ≡ Kind.slash → c ≡ 92
is_slash c h = eqb-true c 92 (slash_test (is_space_or_tab c) (c == 10) (c == 92) (c == 96)
    ((c == 42) || (c == 95) || (c == 126))
    (c == 60) (c == 38) (c == 33) (c == 91) (c == 93) h)

pub is_angle : (c : ℕ) → kind c ≡ Kind.angle_bracket → c ≡ 60
is_angle c h = eqb-true c 60 (angle_test (is_space_or_tab c) (c == 10) (c == 92) (c == 96)
    ((c == 42) || (c == 95) || (c == 126))
    (c == 60) (c == 38) (c == 33) (c == 91) (c == 93) h)

pub is_and : (c : ℕ) → kind c ≡ Kind.and_sign → c ≡ 38
is_and c h = eqb-true c 38 (and_test (is_space_or_tab c) (c == 10) (c == 92) (c == 96)
    ((c == 42) || (c == 95) || (c == 126))
    (c == 60) (c == 38) (c == 33) (c == 91) (c == 93) h)

pub is_mark : (c : ℕ) → kind c ≡ Kind.exclamation → c ≡ 33
is_mark c h = eqb-true c 33 (mark_test (is_space_or_tab c) (c == 10) (c == 92) (c == 96)
    ((c == 42) || (c == 95) || (c == 126))
    (c == 60) (c == 38) (c == 33) (c == 91) (c == 93) h)

pub is_closing : (c : ℕ) → kind c ≡ Kind.closing → c ≡ 93
is_closing c h = eqb-true c 93 (closing_test (is_space_or_tab c) (c == 10) (c == 92) (c == 96)
    ((c == 42) || (c == 95) || (c == 126))
    (c == 60) (c == 38) (c == 33) (c == 91) (c == 93) h)

line_end_test : (a b c d e f g h i j : Bool) → kind_by a b c d e f g h i j ≡ Kind.line_end → b ≡ true
line_end_test true b c d e f g h i j w = absurd (cc)
line_end_test false true c d e f g h i j w = refl
line_end_test false false true d e f g h i j w = absurd (cc)
line_end_test false false false true e f g h i j w = absurd (cc)
line_end_test false false false false true f g h i j w = absurd (cc)
line_end_test false false false false false true g h i j w = absurd (cc)
line_end_test false false false false false false true h i j w = absurd (cc)
line_end_test false false false false false false false true i j w = absurd (cc)
line_end_test false false false false false false false false true j w = absurd (cc)
line_end_test false false false false false false false false false true w = absurd (cc)
line_end_test false false false false false false false false false false w = absurd (cc)

blank_test : (a b c d e f g h i j : Bool) → kind_by a b c d e f g h i j ≡ Kind.blank → a ≡ true
blank_test true b c d e f g h i j w = refl
blank_test false true c d e f g h i j w = absurd (cc)
blank_test false false true d e f g h i j w = absurd (cc)
blank_test false false false true e f g h i j w = absurd (cc)
blank_test false false false false true f g h i j w = absurd (cc)
blank_test false false false false false true g h i j w = absurd (cc)
blank_test false false false false false false true h i j w = absurd (cc)
blank_test false false false false false false false true i j w = absurd (cc)
blank_test false false false false false false false false true j w = absurd (cc)
blank_test false false false false false false false false false true w = absurd (cc)
blank_test false false false false false false false false false false w = absurd (cc)

grave_test : (a b c d e f g h i j : Bool) → kind_by a b c d e f g h i j ≡ Kind.grave → d ≡ true
grave_test true b c d e f g h i j w = absurd (cc)
grave_test false true c d e f g h i j w = absurd (cc)
grave_test false false true d e f g h i j w = absurd (cc)
grave_test false false false true e f g h i j w = refl
grave_test false false false false true f g h i j w = absurd (cc)
grave_test false false false false false true g h i j w = absurd (cc)
grave_test false false false false false false true h i j w = absurd (cc)
grave_test false false false false false false false true i j w = absurd (cc)
grave_test false false false false false false false false true j w = absurd (cc)
grave_test false false false false false false false false false true w = absurd (cc)
grave_test false false false false false false false false false false w = absurd (cc)

sign_test : (a b c d e f g h i j : Bool) → kind_by a b c d e f g h i j ≡ Kind.sign → e ≡ true
sign_test true b c d e f g h i j w = absurd (cc)
sign_test false true c d e f g h i j w = absurd (cc)
sign_test false false true d e f g h i j w = absurd (cc)
sign_test false false false true e f g h i j w = absurd (cc)
sign_test false false false false true f g h i j w = refl
sign_test false false false false false true g h i j w = absurd (cc)
sign_test false false false false false false true h i j w = absurd (cc)
sign_test false false false false false false false true i j w = absurd (cc)
sign_test false false false false false false false false true j w = absurd (cc)
sign_test false false false false false false false false false true w = absurd (cc)
sign_test false false false false false false false false false false w = absurd (cc)

opening_test : (a b c d e f g h i j : Bool) → kind_by a b c d e f g h i j ≡ Kind.opening → i ≡ true
opening_test true b c d e f g h i j w = absurd (cc)
opening_test false true c d e f g h i j w = absurd (cc)
opening_test false false true d e f g h i j w = absurd (cc)
opening_test false false false true e f g h i j w = absurd (cc)
opening_test false false false false true f g h i j w = absurd (cc)
opening_test false false false false false true g h i j w = absurd (cc)
opening_test false false false false false false true h i j w = absurd (cc)
opening_test false false false false false false false true i j w = absurd (cc)
opening_test false false false false false false false false true j w = refl
opening_test false false false false false false false false false true w = absurd (cc)
opening_test false false false false false false false false false false w = absurd (cc)

pub is_line_end : (c : ℕ) → kind c ≡ Kind.line_end → c ≡ 10
is_line_end c h = eqb-true c 10 (line_end_test (is_space_or_tab c) (c == 10) (c == 92) (c == 96)
    ((c == 42) || (c == 95) || (c == 126))
    (c == 60) (c == 38) (c == 33) (c == 91) (c == 93) h)

pub is_grave : (c : ℕ) → kind c ≡ Kind.grave → c ≡ 96
is_grave c h = eqb-true c 96 (grave_test (is_space_or_tab c) (c == 10) (c == 92) (c == 96)
    ((c == 42) || (c == 95) || (c == 126))
    (c == 60) (c == 38) (c == 33) (c == 91) (c == 93) h)

pub is_opening : (c : ℕ) → kind c ≡ Kind.opening → c ≡ 91
is_opening c h = eqb-true c 91 (opening_test (is_space_or_tab c) (c == 10) (c == 92) (c == 96)
    ((c == 42) || (c == 95) || (c == 126))
    (c == 60) (c == 38) (c == 33) (c == 91) (c == 93) h)

pub is_blank : (c : ℕ) → kind c ≡ Kind.blank → is_space_or_tab c ≡ true
is_blank c h = blank_test (is_space_or_tab c) (c == 10) (c == 92) (c == 96) ((c == 42) || (c == 95) || (c == 126))
    (c == 60) (c == 38) (c == 33) (c == 91) (c == 93) h

pub is_sign : (c : ℕ) → kind c ≡ Kind.sign → ((c == 42) || (c == 95) || (c == 126)) ≡ true
is_sign c h = sign_test (is_space_or_tab c) (c == 10) (c == 92) (c == 96) ((c == 42) || (c == 95) || (c == 126))
    (c == 60) (c == 38) (c == 33) (c == 91) (c == 93) h

-- ---- their steps

angle_step_of : (refs : References) (b : Brackets) (before ks : List ℕ) → begins_no_tag ks ≡ true
    → step_of Kind.angle_bracket refs b before 60 ks ≡ letter_step b 60
angle_step_of refs b before [] h = refl
angle_step_of refs b before (d ∷ ks) h =
    test (d == 32) (λ e. rw (eqb-true d 32 e) refl)
    (λ p. test (d == 10) (λ e. rw (eqb-true d 10 e) refl)
    (λ q. test (d == 92) (λ e. rw (eqb-true d 92 e) refl)
    (λ r. let k : false ≡ true = rw (p, q, r) at h in absurd (cc))))

slash_step_of : (refs : References) (b : Brackets) (before ks : List ℕ)
    → first_is line_feed ks ≡ false → begins_with_punctuation ks ≡ false
    → step_of Kind.slash refs b before 92 ks ≡ letter_step b 92
slash_step_of refs b before [] h k = refl
slash_step_of refs b before (d ∷ ks) h k = rw (h, k) refl

and_step_of : (refs : References) (b : Brackets) (before ks : List ℕ) (r : Option Piece) → reference ks ≡ r
    → is_no_reference r ≡ true → step_of Kind.and_sign refs b before 38 ks ≡ letter_step b 38
and_step_of refs b before ks None e h = rw e refl
and_step_of refs b before ks (Some p) e h = absurd (cc)

closing_step_of : (refs : References) (b : Brackets) (before ks : List ℕ) (in_link : Bool) → in_link ≡ false
    → AreBrackets in_link b → step_of Kind.closing refs b before 93 ks ≡ letter_step b 93
closing_step_of refs b before ks true e h = absurd (cc)
closing_step_of refs (outermost ts) before ks false e h = refl
closing_step_of refs (bracket i a s ts below) before ks false e h = absurd h

step_of_letter : (refs : References) (b : Brackets) (before ks : List ℕ) (in_link : Bool) (c : ℕ) (k : Kind)
    → kind c ≡ k → begins_nothing k in_link ks ≡ true → AreBrackets in_link b
    → step_of k refs b before c ks ≡ letter_step b c
step_of_letter refs b before ks in_link c Kind.blank e h w = rw (not-true (first_is line_feed (past_blanks ks)) h) refl
step_of_letter refs b before ks in_link c Kind.line_end e h w = absurd (cc)
step_of_letter refs b before ks in_link c Kind.slash e h w =
    let p = and_parts (not (first_is line_feed ks)) (not (begins_with_punctuation ks)) h in
    rw (is_slash c e)
    (slash_step_of refs b before ks (not-true (first_is line_feed ks) p.0) (not-true (begins_with_punctuation ks) p.1))
step_of_letter refs b before ks in_link c Kind.grave e h w = absurd (cc)
step_of_letter refs b before ks in_link c Kind.sign e h w = absurd (cc)
step_of_letter refs b before ks in_link c Kind.angle_bracket e h w =
    rw (is_angle c e) (angle_step_of refs b before ks h)
step_of_letter refs b before ks in_link c Kind.and_sign e h w =
    rw (is_and c e) (and_step_of refs b before ks (reference ks) refl h)
step_of_letter refs b before ks in_link c Kind.exclamation e h w =
    rw (is_mark c e, not-true (first_is left_square_bracket ks) h) refl
step_of_letter refs b before ks in_link c Kind.opening e h w = absurd (cc)
step_of_letter refs b before ks in_link c Kind.closing e h w =
    rw (is_closing c e) (closing_step_of refs b before ks in_link (not-true in_link h) w)
step_of_letter refs b before ks in_link c Kind.other e h w = refl

-- a character that begins nothing
pub plain_read : (refs : References) (in_link : Bool) (before ks : List ℕ) (c : ℕ)
    → begins_nothing (kind c) in_link ks ≡ true → IsRead refs in_link before (c ∷ []) ks (letter c no_inlines)
plain_read refs in_link before ks c h =
    letter_read refs in_link before ks c (λ b w. step_of_letter refs b before ks in_link c (kind c) refl h w)

-- ---- rows of underscores

abbrev pub underscores : ℕ → List ℕ
underscores zero = []
underscores (suc n) = 95 ∷ underscores n

abbrev pub is_word_beside : Option ℕ → Bool
is_word_beside None = false
is_word_beside (Some c) = not (is_unicode_white c) && not (is_unicode_punctuation c)

-- between characters of words a row can do nothing
idle_row : (n : ℕ) (before after : Option ℕ) → is_word_beside before ≡ true → is_word_beside after ≡ true
    → (may_open 95 before after ≡ false) × (may_open 95 after before ≡ false)
idle_row n None after h k = absurd (cc)
idle_row n (Some c) None h k = absurd (cc)
idle_row n (Some c) (Some d) h k =
    let p = and_parts (not (is_unicode_white c)) (not (is_unicode_punctuation c)) h in
    let q = and_parts (not (is_unicode_white d)) (not (is_unicode_punctuation d)) k in
    let p0 = not-true (is_unicode_white c) p.0 in
    let p1 = not-true (is_unicode_punctuation c) p.1 in
    let q0 = not-true (is_unicode_white d) q.0 in
    let q1 = not-true (is_unicode_punctuation d) q.1 in
    (rw (p0, p1, q0, q1) refl, rw (p0, p1, q0, q1) refl)

ends_row : (ks : List ℕ) → first_is 95 ks ≡ false → leading_run (is_same 95) ks ≡ []
ends_row [] h = refl
ends_row (d ∷ ks) h = rw h refl

behind_end : (ks : List ℕ) → first_is 95 ks ≡ false → behind_run (is_same 95) ks ≡ ks
behind_end [] h = refl
behind_end (d ∷ ks) h = rw h refl

row_length : (n : ℕ) (ks : List ℕ) → first_is 95 ks ≡ false
    → length (leading_run (is_same 95) (underscores n ++ ks)) ≡ n
row_length zero ks h = ap length (ends_row ks h)
row_length (suc n) ks h = ap suc (row_length n ks h)

behind_row : (n : ℕ) (ks : List ℕ) → first_is 95 ks ≡ false
    → behind_run (is_same 95) (underscores n ++ ks) ≡ ks
behind_row zero ks h = behind_end ks h
behind_row (suc n) ks h = behind_row n ks h

pub skips : (refs : References) (s ks before : List ℕ) (b : Brackets)
    → scanned refs (s ++ ks) (length s) before b ≡ scanned refs ks 0 (pushed s before) b
skips refs [] ks before b = refl
skips refs (c ∷ s) ks before b = skips refs s ks (c ∷ before) b

skips_row : (refs : References) (n : ℕ) (ks before : List ℕ) (b : Brackets)
    → scanned refs (underscores n ++ ks) n before b ≡ scanned refs ks 0 (pushed (underscores n) before) b
skips_row refs zero ks before b = refl
skips_row refs (suc n) ks before b = skips_row refs n ks (95 ∷ before) b

-- the run that a row is
abbrev row_run : ℕ → Option ℕ → Option ℕ → Run
row_run n before after = run_between 95 (suc n) before after

idle_token : (n : ℕ) (before after : Option ℕ) → is_word_beside before ≡ true → is_word_beside after ≡ true
    → row_run n before after ≡ record { sign = 95; unused = suc n; count = suc n; opens = false; closes = false }
idle_token n before after h k =
    let p = idle_row n before after h k in
    ap (λ (o : Bool). record {
      sign = 95;
      unused = suc n;
      count = suc n;
      opens = o;
      closes = may_open 95 after before;
    }) p.0
    ∙ ap (λ (o : Bool). record { sign = 95; unused = suc n; count = suc n; opens = false; closes = o }) p.1

signs_letters : (n : ℕ) → signs 95 n no_inlines ≡ letters (underscores n) no_inlines
signs_letters zero = refl
signs_letters (suc n) = ap (letter 95) (signs_letters n)

idle_means : (n : ℕ) (st : Stack)
    → with_token st (run (record { sign = 95; unused = suc n; count = suc n; opens = false; closes = false }))
    ≡ with_items st (letters (underscores (suc n)) no_inlines)
idle_means zero st = refl
idle_means (suc n) st = ap (λ x. with_items st (letter 95 (letter 95 x))) (signs_letters n)

-- a row of underscores in a word
pub row_read : (refs : References) (in_link : Bool) (before ks : List ℕ) (n : ℕ) → first_is 95 ks ≡ false
    → is_word_beside (last_character (past_tildes 95 before)) ≡ true
    → is_word_beside (first_character (past_tildes 95 ks)) ≡ true
    → IsRead refs in_link before (underscores (suc n)) ks (letters (underscores (suc n)) no_inlines)
row_read refs in_link before ks n h p q =
    let r = run_of 95 (suc n) before ks in
    record {
      tokens = run r ∷ [];
      scans = λ b w.
          steps_to refs 95 (underscores n ++ ks) before b (record { brackets = and_tokens b (run r ∷ []); more = n })
          (rw (row_length n ks h, behind_row n ks h) refl)
          ∙ skips_row refs n ks (95 ∷ before) (and_tokens b (run r ∷ []));
      means = λ st.
          ap (λ (x : Run). with_token st (run x))
          (idle_token n (last_character (past_tildes 95 before)) (first_character (past_tildes 95 ks)) p q)
          ∙ idle_means n st;
    }
