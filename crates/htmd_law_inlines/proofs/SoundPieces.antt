-- What was written so far is UTF-8, no backslash at its end escapes what comes next, and definitions only come behind
-- others.
use Rattle.std.proofs.Common.{◌≡◌, ◌∙◌, refl, ap, sym, ℕ, zero, suc, ◌+◌, Bool, true, false, List, [], ◌∷◌, ◌++◌, codes}
use Rattle.std.proofs.Common.{subst, arith}
use Rattle.std.specs.Prelude.{not, ◌&&◌, ◌||◌, ◌==◌, ◌%◌, reverse, replicate, slice_get}
use Rattle.std.specs.Option.{option_or}
use Rattle.std.specs.List.{prefix_len, suffix_len, position_or_len, range_with_len}
use Rattle.std.specs.Str.{IsUtf8}
use Rattle.std.specs.Char.{is_ascii_punctuation}
use Rattle.std.proofs.lemmas.Bool.{or_parts, eqb-true, ne_eqb, eq-eqb, not-true}
use Rattle.std.proofs.lemmas.List.{append_assoc, append-nil}
use Rattle.std.proofs.lemmas.Str.{IsUtf8-append}
use Rattle.htmd_lexical.specs.Characters.{is_one_of}
use Rattle.htmd_text.specs.EscapedPlaces.{with_backslashes}
use Rattle.htmd_markdown.specs.CodeSpans.{delimited_text, meets_delimiter, smallest_unused_len, space_if}
use Rattle.htmd_markdown.specs.Runs.{longest_run, has_run}
use Rattle.htmd_commonmark.specs.declared.line.Line.{Line}
use Rattle.htmd_commonmark.specs.declared.text_escape.Place.{Place}
use Rattle.htmd_commonmark.specs.WrittenText.{is_backslash, is_last_escaped}
use Rattle.htmd_commonmark.specs.TextEscapes.{escaped, is_marked, may_be_escaped}
use Rattle.htmd_commonmark.specs.InlineMarkdown.{written_code, needs_tags, place_in_tags}
use Rattle.htmd_commonmark_reading.specs.Brackets.{kind}
use Rattle.htmd_law_inlines.proofs.Pieces.{pushed, pushed_append}
use Rattle.htmd_law_inlines.proofs.TextPieces.{test}
use Rattle.htmd_law_inlines.proofs.ReferencePieces.{AreEscapes}
use Rattle.htmd_law_inlines.proofs.TextRead.{AreDue, escapes_of, needs_none}
use Rattle.htmd_law_inlines.proofs.TextMarks.{MarksAll, marks_all, are_due}
use Rattle.htmd_law_inlines.proofs.CharacterPieces.{pushed_reverse}
use Rattle.htmd_law_inlines.proofs.WalkPieces.{escaped_utf8, ascii_utf8}
use Rattle.htmd_law_inlines.proofs.TextWritten.{cut_one}
use lib.Utf8.{encode}

-- ---- the last character

-- the text ends in this character
abbrev pub EndsIn : ℕ → List ℕ → Type 0
EndsIn c s = (front : List ℕ) × (s ≡ front ++ (c ∷ []))

pub one_end : (c : ℕ) → EndsIn c (c ∷ [])
one_end c = ([], refl)

pub then_end : (c : ℕ) (x s : List ℕ) → EndsIn c s → EndsIn c (x ++ s)
then_end c x s (front, e) = (x ++ front, ap (λ l. x ++ l) e ∙ sym (append_assoc x front (c ∷ [])))

-- ---- backslashes

-- the text, given from its end, ends in a backslash that no other escapes
abbrev pub is_odd : List ℕ → Bool
is_odd [] = false
is_odd (c ∷ s) = (c == 92) && not (is_odd s)

-- the same after more text
abbrev pub odd_after : Bool → List ℕ → Bool
odd_after odd [] = odd
odd_after odd (c ∷ s) = odd_after ((c == 92) && not odd) s

pub odd_pushed : (s x : List ℕ) → is_odd (pushed s x) ≡ odd_after (is_odd x) s
odd_pushed [] x = refl
odd_pushed (c ∷ s) x = odd_pushed s (c ∷ x)

pub never : (b : Bool) → (b && false) ≡ false
never true = refl
never false = refl

slash_due : (place : Place) (t : List ℕ) (c : ℕ) → (c == 92) ≡ true → needs_none (kind c) place t ≡ true
    → may_be_escaped (option_or (slice_get t 0) place.after) ≡ false
slash_due place t c e h =
    let x : needs_none (kind 92) place t ≡ true = ap (λ d. needs_none (kind d) place t) (sym (eqb-true c 92 e))
    ∙ h in
    not-true (may_be_escaped (option_or (slice_get t 0) place.after)) x

no_underscore : (c : ℕ) → (c == 92) ≡ true → (c == 95) ≡ false
no_underscore c e = ap (λ d. d == 95) (eqb-true c 92 e)

even_text : (place : Place) (marked : ℕ → Bool) (k : ℕ) (t : List ℕ) → AreDue place marked k t
    → may_be_escaped place.after ≡ true → odd_after false (with_backslashes marked k t) ≡ false
even_text place marked k [] a h = refl
even_text place marked k (c ∷ []) a h =
    test (marked k)
    (λ m. rw m (never (c == 92)))
    (λ m. test (c == 92)
    (λ e. let x = slash_due place [] c e (a.1 (no_underscore c e) m) in absurd (cc))
    (λ e. rw (m, e) refl))
even_text place marked k (c ∷ d ∷ t) a h =
    test (marked k)
    (λ m. rw m (ap (λ o. odd_after o (with_backslashes marked (suc k) (d ∷ t))) (never (c == 92))
    ∙ even_text place marked (suc k) (d ∷ t) a.2 h))
    (λ m. test (c == 92)
    (λ e. let x : (d == 10) || is_ascii_punctuation d ≡ false =
    slash_due place (d ∷ t) c e (a.1 (no_underscore c e) m) in
    test (marked (suc k))
    (λ n. let y = a.2.0 n in let z = or_parts (d == 10) (is_ascii_punctuation d) x in
    let q = z.1 in absurd (cc))
    (λ n. let rest = with_backslashes marked (suc (suc k)) t in
    rw (m, n) (ap (λ o. odd_after ((d == 92) && not (o && true)) rest) e
    ∙ ap (λ o. odd_after o rest) (never (d == 92)) ∙ even_text place marked (suc (suc k)) t a.2.2 h)))
    (λ e. rw m (ap (λ o. odd_after (o && true) (with_backslashes marked (suc k) (d ∷ t))) e
    ∙ even_text place marked (suc k) (d ∷ t) a.2 h)))

-- ---- the last sign, and the backslashes before it

parity : (n : ℕ) → ((1 + n) % 2 == 1) ≡ not (n % 2 == 1)
parity n =
    test (n % 2 == 1)
    (λ e. let x = eqb-true (n % 2) 1 e in rw e (ne_eqb ((1 + n) % 2) 1 (λ y. absurd (omega arith))))
    (λ e. rw e (eq-eqb ((1 + n) % 2) 1 (let x : n % 2 ≡ 1
    → ⊥ = λ y. let z = eq-eqb (n % 2) 1 y in absurd (cc) in
    omega arith)))

odd_run : (s : List ℕ) → (prefix_len is_backslash s % 2 == 1) ≡ is_odd s
odd_run [] = refl
odd_run (c ∷ s) =
    test (c == 92)
    (λ e. rw e (parity (prefix_len is_backslash s) ∙ ap not (odd_run s)))
    (λ e. rw e refl)

pub last_escaped : (s : List ℕ) (c : ℕ) → is_last_escaped (s ++ (c ∷ [])) ≡ is_odd (pushed s [])
last_escaped s c =
    ap (λ l. suffix_len is_backslash l % 2 == 1) (cut_one s c)
    ∙ odd_run (reverse s) ∙ ap is_odd (sym (append-nil (reverse s)) ∙ sym (pushed_reverse s []))

-- ---- what was written so far

pub record IsSound (s : List ℕ) : Type 0 where
  pub utf8 : IsUtf8 s
  pub even : is_odd (pushed s []) ≡ false

pub nothing_sound : IsSound []
nothing_sound = record { utf8 = ([], (refl, refl)); even = refl }

-- a piece that ends in another character than a backslash
pub sound_end : (s t : List ℕ) (c : ℕ) → IsSound s → IsUtf8 t → EndsIn c t → (c == 92) ≡ false
    → IsSound (s ++ t)
sound_end s t c h u (front, e) n = record {
  utf8 = IsUtf8-append s t h.utf8 u;
  even =
      ap (λ l. is_odd (pushed (s ++ l) [])) e
      ∙ ap (λ l. is_odd (pushed l [])) (sym (append_assoc s front (c ∷ [])))
      ∙ ap is_odd (pushed_append (s ++ front) (c ∷ []) []) ∙ rw n refl;
}

pub sound_text : (place : Place) (marked : ℕ → Bool) (so_far s : List ℕ) → IsSound so_far → IsUtf8 s
    → MarksAll place s marked → may_be_escaped place.after ≡ true
    → IsSound (so_far ++ with_backslashes marked 0 s)
sound_text place marked so_far s h (cs, (sc, e)) m a =
    let d = are_due place s marked m [] s 0 refl refl in
    record {
      utf8 = IsUtf8-append so_far (with_backslashes marked 0 s) h.utf8
          (subst (λ l. IsUtf8 (with_backslashes marked 0 l)) e
          (escaped_utf8 marked 0 cs sc (subst (AreEscapes marked 0) (sym e) (escapes_of place marked 0 s d))));
      even =
          ap is_odd (pushed_append so_far (with_backslashes marked 0 s) [])
          ∙ odd_pushed (with_backslashes marked 0 s) (pushed so_far [])
          ∙ ap (λ o. odd_after o (with_backslashes marked 0 s)) h.even ∙ even_text place marked 0 s d a;
    }

-- ---- codes

pub escaped_is_utf8 : (place : Place) (s : List ℕ) → IsUtf8 s → IsUtf8 (escaped place s)
escaped_is_utf8 place s (cs, (sc, e)) =
    let marked = is_marked place s in
    let d = are_due place s marked (marks_all place s) [] s 0 refl refl in
    subst (λ l. IsUtf8 (with_backslashes marked 0 l)) e
    (escaped_utf8 marked 0 cs sc (subst (AreEscapes marked 0) (sym e) (escapes_of place marked 0 s d)))

graves_utf8 : (n : ℕ) → IsUtf8 (replicate n 96)
graves_utf8 zero = ([], (refl, refl))
graves_utf8 (suc n) =
    IsUtf8-append (96 ∷ []) (replicate n 96) (ascii_utf8 96 (omega arith) refl) (graves_utf8 n)

space_utf8 : (b : Bool) → IsUtf8 (space_if b)
space_utf8 true = ascii_utf8 32 (omega arith) refl
space_utf8 false = ([], (refl, refl))

graves_end : (n : ℕ) → EndsIn 96 (replicate (suc n) 96)
graves_end zero = ([], refl)
graves_end (suc n) = then_end 96 (96 ∷ []) (replicate (suc n) 96) (graves_end n)

span_utf8 : (padded : Bool) (n : ℕ) (s : List ℕ) → IsUtf8 s → IsUtf8 (delimited_text padded n s)
span_utf8 padded n s u =
    let g = graves_utf8 n in
    let p = space_utf8 padded in
    let a = IsUtf8-append (replicate n 96) (space_if padded) g p in
    let b = IsUtf8-append (replicate n 96 ++ space_if padded) s a u in
    let c = IsUtf8-append ((replicate n 96 ++ space_if padded) ++ s) (space_if padded) b p in
    IsUtf8-append (((replicate n 96 ++ space_if padded) ++ s) ++ space_if padded) (replicate n 96) c g

-- a code ends in a sign of its own
pub record IsClosed (s : List ℕ) : Type 0 where
  pub utf8 : IsUtf8 s
  pub last : ℕ
  pub ends : EndsIn last s
  pub is_mark : is_one_of (codes "`>)]") last ≡ true

span_closed : (padded : Bool) (n k : ℕ) (s : List ℕ) → n ≡ suc k → IsUtf8 s
    → IsClosed (delimited_text padded n s)
span_closed padded n k s e u = record {
  utf8 = span_utf8 padded n s u;
  last = 96;
  ends = then_end 96 (((replicate n 96 ++ space_if padded) ++ s) ++ space_if padded) (replicate n 96)
      (subst (λ m. EndsIn 96 (replicate m 96)) (sym e) (graves_end k));
  is_mark = refl;
}

code_tags_utf8 : (IsUtf8 (codes "<code>")) × (IsUtf8 (codes "</code>"))
unfolding encode
code_tags_utf8 = ((codes "<code>", (refl, refl)), (codes "</code>", (refl, refl)))

pub code_closed : (line : Line) (s : List ℕ) → IsUtf8 s → IsClosed (written_code line s)
code_closed line s u =
    test (needs_tags line s)
    (λ e. rw e (record {
      utf8 = IsUtf8-append (codes "<code>" ++ escaped (place_in_tags line) s) (codes "</code>")
          (IsUtf8-append (codes "<code>") (escaped (place_in_tags line) s) code_tags_utf8.0
          (escaped_is_utf8 (place_in_tags line) s u)) code_tags_utf8.1;
      last = 62;
      ends = then_end 62 (codes "<code>" ++ escaped (place_in_tags line) s) (codes "</code>") (codes "</code", refl);
      is_mark = refl;
    }))
    (λ e. let k = position_or_len (λ n. not (has_run 96 n s)) (range_with_len 1 (longest_run 96 s)) in
    let n : smallest_unused_len s ≡ suc k = omega arith in
    rw e (span_closed (meets_delimiter s) (smallest_unused_len s) k s n u))
