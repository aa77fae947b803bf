-- Rows of underscores in what the writer makes of a text, and the whole text read.
use Rattle.std.proofs.Common.{◌≡◌, ◌∙◌, refl, ap, sym, ℕ, zero, suc, ◌+◌, ◌-◌, ◌<◌, Bool, true, false, List, [], ◌∷◌}
use Rattle.std.proofs.Common.{◌++◌, Option, Some, None, codes, arith, subst, length}
use Rattle.std.specs.Prelude.{not, ◌==◌, slice_get, reverse, take, get_or}
use Rattle.std.specs.Option.{option_or}
use Rattle.std.specs.List.{list_all, prefix_len, suffix_len}
use Rattle.std.specs.Str.{IsUtf8}
use Rattle.std.specs.Char.{is_ascii_punctuation}
use Rattle.std.proofs.lemmas.Bool.{eqb-true, and_parts, not-true, not-false}
use Rattle.std.proofs.lemmas.List.{append_assoc, append-nil, length-append, reverse-append, take_at, take_all}
use Rattle.std.proofs.lemmas.List.{get_or_at}
use Rattle.std.proofs.lemmas.Str.{chars-encodes, chars-nil, encodes-append, IsUtf8-take, IsUtf8-drop}
use Rattle.std.proofs.lemmas.Str.{IsCharBoundary-before_ascii, IsCharBoundary-after_ascii}
use Rattle.htmd_lexical.specs.CharacterClasses.{first_is, leading_run}
use Rattle.htmd_text.specs.EscapedPlaces.{with_backslashes}
use Rattle.htmd_text.specs.Trims.{trimmed_start, trimmed_end}
use Rattle.htmd_commonmark.specs.declared.text_escape.Place.{Place}
use Rattle.htmd_commonmark.specs.CharacterKinds.{is_word}
use Rattle.htmd_commonmark.specs.CharacterKinds as writer
use Rattle.htmd_commonmark.specs.TextEscapes.{is_of_word, character_before, character_after, is_underscore}
use Rattle.htmd_commonmark.specs.TextEscapes.{may_be_escaped, is_marked}
use Rattle.htmd_commonmark.specs.TextEscapes as text
use Rattle.htmd_commonmark_reading.specs.Characters.{goes_on, last_character, first_character}
use Rattle.htmd_commonmark_reading.specs.DelimiterRuns.{past_tildes}
use Rattle.htmd_commonmark_reading.specs.Brackets.{References}
use Rattle.htmd_commonmark_reading.specs.Markup.{no_inlines, letters}
use Rattle.htmd_law_inlines.proofs.Pieces.{IsRead, pushed, pushed_append}
use Rattle.htmd_law_inlines.proofs.TextPieces.{test, underscores, is_word_beside}
use Rattle.htmd_law_inlines.proofs.ReferencePieces.{AreEscapes, follows_text, one_of}
use Rattle.htmd_law_inlines.proofs.CharacterPieces.{shape, word_before, word_after, no_punctuation, plain_bytes}
use Rattle.htmd_law_inlines.proofs.TextRead.{Follows, is_spaced, AreDue, escapes_of, Chunks, none, one, row, flat}
use Rattle.htmd_law_inlines.proofs.TextRead.{chunks, flat_chunks, with_one, AreAll, after, row_text, row_written}
use Rattle.htmd_law_inlines.proofs.TextRead.{one_text, one_written, IsRow, AreRows, chunks_read}
use Rattle.htmd_law_inlines.proofs.TextMarks.{MarksAll, marks_all, are_due, row_is_whole, is_row_in_word}
use Rattle.htmd_law_inlines.proofs.TextMarks.{trimmed_start_one, length_one, drop_after}
use lib.Utf8.{encode, encodes, scalar, scalars}

-- ---- parts of a text with backslashes

abbrev pub beyond : List ℕ → ℕ → ℕ
beyond [] k = k
beyond (c ∷ s) k = beyond s (suc k)

pub beyond_length : (s : List ℕ) (k : ℕ) → beyond s k ≡ k + length s
beyond_length [] k = omega arith
beyond_length (c ∷ s) k = beyond_length s (suc k) ∙ omega arith

pub marks_append : (marked : ℕ → Bool) (s t : List ℕ) (k : ℕ)
    → with_backslashes marked k (s ++ t) ≡ with_backslashes marked k s ++ with_backslashes marked (beyond s k) t
marks_append marked [] t k = refl
marks_append marked (c ∷ s) t k =
    test (marked k) (λ m. rw m (ap (λ l. 92 ∷ c ∷ l) (marks_append marked s t (suc k))))
    (λ m. rw m (ap (λ l. c ∷ l) (marks_append marked s t (suc k))))

pub escapes_front : (marked : ℕ → Bool) (s t : List ℕ) (k : ℕ) → AreEscapes marked k (s ++ t)
    → AreEscapes marked k s
escapes_front marked [] t k a = tt
escapes_front marked (c ∷ s) t k a = (a.0, escapes_front marked s t (suc k) a.1)

pub escapes_rest : (marked : ℕ → Bool) (s t : List ℕ) (k : ℕ) → AreEscapes marked k (s ++ t)
    → AreEscapes marked (beyond s k) t
escapes_rest marked [] t k a = a
escapes_rest marked (c ∷ s) t k a = escapes_rest marked s t (suc k) a.1

-- bytes that aren't punctuation have no backslashes
pub plain_written : (marked : ℕ → Bool) (s : List ℕ) (k : ℕ) → AreEscapes marked k s
    → list_all (λ b. not (is_ascii_punctuation b)) s ≡ true → with_backslashes marked k s ≡ s
plain_written marked [] k a h = refl
plain_written marked (c ∷ s) k a h =
    let p = and_parts (not (is_ascii_punctuation c)) (list_all (λ b. not (is_ascii_punctuation b)) s) h in
    test (marked k) (λ m. let x = a.0 m in let y = not-true (is_ascii_punctuation c) p.0 in absurd (cc))
    (λ m. rw m (ap (λ l. c ∷ l) (plain_written marked s (suc k) a.1 p.1)))

-- ---- the last character of a text, and the first

pub record Snoc (cs : List ℕ) : Type 0 where
  pub front : List ℕ
  pub last : ℕ
  pub is : cs ≡ front ++ (last ∷ [])

pub snoc : (c : ℕ) (cs : List ℕ) → Snoc (c ∷ cs)
snoc c [] = record { front = []; last = c; is = refl }
snoc c (d ∷ cs) = let s = snoc d cs in record { front = c ∷ s.front; last = s.last; is = ap (λ l. c ∷ l) s.is }

pub scalars_last : (cs : List ℕ) (c : ℕ) → scalars (cs ++ (c ∷ [])) ≡ true → scalar c ≡ true
scalars_last [] c h = (and_parts (scalar c) true h).0
scalars_last (d ∷ cs) c h = scalars_last cs c (and_parts (scalar d) (scalars (cs ++ (c ∷ []))) h).1

pub last_of_encodes : (cs : List ℕ) (c : ℕ) → scalars (cs ++ (c ∷ [])) ≡ true
    → writer.last_character (encodes (cs ++ (c ∷ []))) ≡ Some c
last_of_encodes cs c h =
    ap (λ l. slice_get (reverse l) 0) (chars-encodes (cs ++ (c ∷ [])) h)
    ∙ ap (λ l. slice_get l 0) (reverse-append cs (c ∷ []))

-- the word's character before a row
before_in_text : (marked : ℕ → Bool) (before0 pre : List ℕ) (other : Option ℕ) → IsUtf8 pre
    → AreEscapes marked 0 pre
    → (is_of_word other ≡ true → is_word_beside (last_character (past_tildes 95 before0)) ≡ true)
    → is_of_word (option_or (writer.last_character pre) other) ≡ true
    → is_word_beside (last_character (past_tildes 95 (pushed (with_backslashes marked 0 pre) before0))) ≡ true
before_in_text marked before0 pre other ([], (sc, e)) a w h =
    subst (λ p. is_word_beside (last_character (past_tildes 95 (pushed (with_backslashes marked 0 p) before0)))
    ≡ true) e
    (w (ap (λ p. is_of_word (option_or (slice_get (reverse p) 0) other)) (sym chars-nil)
    ∙ ap (λ p. is_of_word (option_or (writer.last_character p) other)) e ∙ h))
before_in_text marked before0 pre other (d ∷ ds, (sc, e)) a w h =
    let s = snoc d ds in
    let c = s.last in
    let sc' : scalars (s.front ++ (c ∷ [])) ≡ true = ap scalars (sym s.is) ∙ sc in
    let e' : pre ≡ encodes s.front ++ encode c =
    sym e ∙ ap encodes s.is ∙ encodes-append s.front (c ∷ [])
    ∙ ap (λ l. encodes s.front ++ l) (append-nil (encode c)) in
    let word : is_word c ≡ true =
    ap is_of_word (sym (ap (λ o. option_or o other)
    (ap writer.last_character (sym e ∙ ap encodes s.is) ∙ last_of_encodes s.front c sc'))) ∙ h in
    let b = subst (AreEscapes marked 0) e' a in
    let k = beyond (encodes s.front) 0 in
    ap (λ p. is_word_beside (last_character (past_tildes 95 (pushed (with_backslashes marked 0 p) before0)))) e'
    ∙ ap (λ p. is_word_beside (last_character (past_tildes 95 (pushed p before0))))
    (marks_append marked (encodes s.front) (encode c) 0
    ∙ ap (λ l. with_backslashes marked 0 (encodes s.front) ++ l)
    (plain_written marked (encode c) k (escapes_rest marked (encodes s.front) (encode c) 0 b) (plain_bytes c word)))
    ∙ ap (λ p. is_word_beside (last_character (past_tildes 95 p)))
    (pushed_append (with_backslashes marked 0 (encodes s.front)) (encode c) before0)
    ∙ word_before c (pushed (with_backslashes marked 0 (encodes s.front)) before0) (scalars_last s.front c sc') word

-- what is written doesn't go on with a character
pub no_going : (marked : ℕ → Bool) (k : ℕ) (cs ks : List ℕ) → follows_text ks ≡ true
    → leading_run goes_on (with_backslashes marked k (encodes cs) ++ ks) ≡ []
no_going marked k [] [] f = refl
no_going marked k [] (d ∷ ks) f =
    rw (not-true (goes_on d) (one_of (λ c. not (goes_on c)) (codes "`*_~<[]!\n \\") d f refl)) refl
no_going marked k (c ∷ cs) ks f =
    let s = shape c in
    ap (λ l. leading_run goes_on (with_backslashes marked k (l ++ encodes cs) ++ ks)) s.is
    ∙ test (marked k) (λ m. rw m refl) (λ m. rw (m, s.begins) refl)

-- the word's character after a row
after_in_text : (marked : ℕ → Bool) (k : ℕ) (t ks : List ℕ) (other : Option ℕ) → IsUtf8 t
    → AreEscapes marked k t
    → follows_text ks ≡ true → is_of_word other ≡ false
    → is_of_word (option_or (writer.first_character t) other) ≡ true
    → is_word_beside (first_character (past_tildes 95 (with_backslashes marked k t ++ ks))) ≡ true
after_in_text marked k t ks other ([], (sc, e)) a f w h =
    let x : is_of_word other ≡ true =
    ap (λ p. is_of_word (option_or (slice_get p 0) other)) (sym chars-nil)
    ∙ ap (λ p. is_of_word (option_or (writer.first_character p) other)) e ∙ h in
    absurd (cc)
after_in_text marked k t ks other (c ∷ cs, (sc, e)) a f w h =
    let word : is_word c ≡ true =
    ap is_of_word (sym (ap (λ o. option_or o other)
    (ap writer.first_character (sym e) ∙ ap (λ l. slice_get l 0) (chars-encodes (c ∷ cs) sc)))) ∙ h in
    let b : AreEscapes marked k (encode c ++ encodes cs) = subst (AreEscapes marked k) (sym e) a in
    ap (λ p. is_word_beside (first_character (past_tildes 95 (with_backslashes marked k p ++ ks)))) (sym e)
    ∙ ap (λ p. is_word_beside (first_character (past_tildes 95 (p ++ ks))))
    (marks_append marked (encode c) (encodes cs) k
    ∙ ap (λ l. l ++ with_backslashes marked (beyond (encode c) k) (encodes cs))
    (plain_written marked (encode c) k (escapes_front marked (encode c) (encodes cs) k b) (plain_bytes c word)))
    ∙ ap (λ p. is_word_beside (first_character (past_tildes 95 p)))
    (append_assoc (encode c) (with_backslashes marked (beyond (encode c) k) (encodes cs)) ks)
    ∙ word_after c (with_backslashes marked (beyond (encode c) k) (encodes cs) ++ ks)
    (and_parts (scalar c) (scalars cs) sc).0 word (no_going marked (beyond (encode c) k) cs ks f)

-- ---- rows

abbrev pub IsChunked : Chunks → Type 0
IsChunked none = Unit {0}
IsChunked (one c rest) = ((c == 95) ≡ false) × IsChunked rest
IsChunked (row n rest) = (first_is 95 (flat rest) ≡ false) × IsChunked rest

chunked_one : (g : Chunks) → IsChunked g → IsChunked (with_one g)
chunked_one none h = (refl, tt)
chunked_one (one c rest) h = (h.0, h)
chunked_one (row n rest) h = h

pub are_chunked : (s : List ℕ) → IsChunked (chunks s)
are_chunked [] = tt
are_chunked (c ∷ s) = test (c == 95) (λ e. rw e (chunked_one (chunks s) (are_chunked s)))
    (λ e. rw e (e, are_chunked s))

no_word_follows : (o : Option ℕ) → may_be_escaped o ≡ true → is_of_word o ≡ false
no_word_follows None h = refl
no_word_follows (Some c) h =
    test (is_word c)
    (λ e. let p = no_punctuation c e in let x : (c == 10) ≡ true =
    test (c == 10) (λ x. x) (λ x. let z : false ≡ true = rw (x, p) at h in absurd (cc)) in
    let y = ap is_word (eqb-true c 10 x) in absurd (cc))
    (λ e. e)

trimmed_none : (pre : List ℕ) → suffix_len is_underscore pre ≡ 0 → trimmed_end is_underscore pre ≡ pre
trimmed_none pre h =
    ap (λ n. take (length pre - n) pre) h ∙ take_all (length pre - 0) pre (omega arith)

trimmed_row : (n : ℕ) (t : List ℕ) → first_is 95 t ≡ false
    → trimmed_start is_underscore (underscores n ++ t) ≡ t
trimmed_row zero [] h = refl
trimmed_row zero (c ∷ t) h = rw h refl
trimmed_row (suc n) t h = trimmed_start_one (underscores n ++ t) ∙ trimmed_row n t h

row_first : (marked : ℕ → Bool) (k : ℕ) (t ks : List ℕ) → first_is 95 t ≡ false → (t ≡ [] → ⊥)
    → first_is 95 (with_backslashes marked k t ++ ks) ≡ false
row_first marked k [] ks h n = absurd (n refl)
row_first marked k (c ∷ t) ks h n = test (marked k) (λ m. rw m refl) (λ m. rw m h)

no_last : (pre : List ℕ) (c : ℕ) → (c == 95) ≡ false → suffix_len is_underscore (pre ++ (c ∷ [])) ≡ 0
no_last pre c h = ap (prefix_len is_underscore) (reverse-append pre (c ∷ [])) ∙ rw h refl

-- what the writer knows of the character before a text is so
abbrev pub KnowsBefore : Option ℕ → List ℕ → Type 0
KnowsBefore other before =
    is_of_word other ≡ true → is_word_beside (last_character (past_tildes 95 before)) ≡ true

-- a row that stands in a word is read as text
row_in_word : (place : Place) (marked : ℕ → Bool) (n k' : ℕ) (before0 ks pre t : List ℕ) → IsUtf8 pre
    → IsUtf8 t
    → AreEscapes marked 0 pre → AreEscapes marked k' t → Follows place.after ks
    → KnowsBefore place.before before0
    → suffix_len is_underscore pre ≡ 0 → first_is 95 t ≡ false
    → is_row_in_word place pre (underscores (suc n) ++ t) ≡ true
    → IsRow false (pushed (with_backslashes marked 0 pre) before0) (with_backslashes marked k' t ++ ks)
row_in_word place marked n k' before0 ks pre t u v a b f w s g h =
    let p = and_parts (is_of_word (character_before place pre))
    (is_of_word (character_after place (underscores (suc n) ++ t))) h in
    let x : is_of_word (option_or (writer.last_character pre) place.before) ≡ true =
    ap (λ l. is_of_word (option_or (writer.last_character l) place.before)) (sym (trimmed_none pre s)) ∙ p.0 in
    let y : is_of_word (option_or (writer.first_character t) place.after) ≡ true =
    ap (λ l. is_of_word (option_or (writer.first_character l) place.after)) (sym (trimmed_row (suc n) t g)) ∙ p.1 in
    let no = no_word_follows place.after f.escapes in (
      row_first marked k' t ks g (λ e. let z : is_of_word place.after ≡ true =
          ap (λ q. is_of_word (option_or (slice_get q 0) place.after)) (sym chars-nil)
          ∙ ap (λ l. is_of_word (option_or (writer.first_character l) place.after)) (sym e) ∙ y in absurd (cc)),
      before_in_text marked before0 pre place.before u a w x,
      after_in_text marked k' t ks place.after v b f.ends no y,
    )

row_fits : (place : Place) (whole : List ℕ) (marked : ℕ → Bool) → MarksAll place whole marked
    → (n k' : ℕ) (before0 ks pre t : List ℕ) (b : Bool) → whole ≡ pre ++ (underscores (suc n) ++ t)
    → marked (length pre) ≡ b → IsUtf8 pre → IsUtf8 t
    → AreEscapes marked 0 pre → AreEscapes marked k' t → Follows place.after ks
    → KnowsBefore place.before before0
    → suffix_len is_underscore pre ≡ 0 → first_is 95 t ≡ false
    → IsRow b (pushed (with_backslashes marked 0 pre) before0) (with_backslashes marked k' t ++ ks)
row_fits place whole marked m n k' before0 ks pre t true e l u v a b f w s g = tt
row_fits place whole marked m n k' before0 ks pre t false e l u v a b f w s g =
    row_in_word place marked n k' before0 ks pre t u v a b f w s g
    (not-false (is_row_in_word place pre (underscores (suc n) ++ t)) (sym (m.rows pre (underscores n ++ t) e) ∙ l))

-- ---- where a text may be cut

length_row : (n : ℕ) → length (underscores n) ≡ n
length_row zero = refl
length_row (suc n) = ap suc (length_row n)

ascii_at : (pre t : List ℕ) → get_or (pre ++ (95 ∷ t)) (length pre) 0 < 128
ascii_at pre t = let e = get_or_at pre 95 t 0 (length pre) refl in omega arith

is_inside : (pre t : List ℕ) → length pre < length (pre ++ (95 ∷ t))
is_inside pre t = let l = length-append pre (95 ∷ t) in omega arith

utf8_before : (whole pre t : List ℕ) → whole ≡ pre ++ (95 ∷ t) → IsUtf8 whole → IsUtf8 pre
utf8_before whole pre t e u =
    subst IsUtf8 (take_at pre (95 ∷ t) (length pre) refl)
    (IsUtf8-take (pre ++ (95 ∷ t)) (length pre) (subst IsUtf8 e u)
    (IsCharBoundary-before_ascii (pre ++ (95 ∷ t)) (length pre) (is_inside pre t) (ascii_at pre t)))

utf8_behind : (pre t : List ℕ) → IsUtf8 (pre ++ (95 ∷ t)) → IsUtf8 t
utf8_behind pre t u =
    subst IsUtf8 (drop_after pre t 95)
    (IsUtf8-drop (pre ++ (95 ∷ t)) (length pre + 1) u
    (IsCharBoundary-after_ascii (pre ++ (95 ∷ t)) (length pre) u (is_inside pre t) (ascii_at pre t)))

last_underscore : (n : ℕ) (t : List ℕ) → underscores (suc n) ++ t ≡ underscores n ++ (95 ∷ t)
last_underscore zero t = refl
last_underscore (suc n) t = ap (λ l. 95 ∷ l) (last_underscore n t)

utf8_after : (whole pre t : List ℕ) (n : ℕ) → whole ≡ pre ++ (underscores (suc n) ++ t) → IsUtf8 whole
    → IsUtf8 t
utf8_after whole pre t n e u =
    utf8_behind (pre ++ underscores n) t
    (subst IsUtf8
    (e ∙ ap (λ l. pre ++ l) (last_underscore n t) ∙ sym (append_assoc pre (underscores n) (95 ∷ t))) u)

after_beyond : (n k : ℕ) → after n k ≡ beyond (underscores n) k
after_beyond zero k = refl
after_beyond (suc n) k = after_beyond n (suc k)

pub rows_fit : (place : Place) (whole : List ℕ) (marked : ℕ → Bool) → MarksAll place whole marked
    → IsUtf8 whole
    → AreEscapes marked 0 whole → (before0 ks : List ℕ) → Follows place.after ks
    → KnowsBefore place.before before0
    → (g : Chunks) (pre : List ℕ) (k : ℕ) (before : List ℕ) → whole ≡ pre ++ flat g → length pre ≡ k
    → before ≡ pushed (with_backslashes marked 0 pre) before0 → IsChunked g
    → (first_is 95 (flat g) ≡ true → suffix_len is_underscore pre ≡ 0) → AreRows marked k before ks g
rows_fit place whole marked m u a before0 ks f w none pre k before e l p c s = tt
rows_fit place whole marked m u a before0 ks f w (one d rest) pre k before e l p c s =
    let pre' = pre ++ (d ∷ []) in
    let x : beyond pre 0 ≡ k = beyond_length pre 0 ∙ (omega arith) in (
      c.0,
      rows_fit place whole marked m u a before0 ks f w rest pre' (suc k) (pushed (one_text (marked k) d) before)
          (e ∙ sym (append_assoc pre (d ∷ []) (flat rest))) (let y = length_one pre d in omega arith)
          (ap (pushed (one_text (marked k) d)) p
          ∙ sym (pushed_append (with_backslashes marked 0 pre) (one_text (marked k) d) before0)
          ∙ ap (λ q. pushed (with_backslashes marked 0 pre ++ q) before0)
          (sym (append-nil (one_text (marked k) d)) ∙ sym (one_written marked k d [])
          ∙ ap (λ i. with_backslashes marked i (d ∷ [])) (sym x))
          ∙ ap (λ q. pushed q before0) (sym (marks_append marked pre (d ∷ []) 0)))
          c.1 (λ h. no_last pre d c.0),
    )
rows_fit place whole marked m u a before0 ks f w (row n rest) pre k before e l p c s =
    let pre' = pre ++ underscores (suc n) in
    let k' = after (suc n) k in
    let x : beyond pre 0 ≡ k = beyond_length pre 0 ∙ (omega arith) in
    let b = marked k in
    let r : AreAll b marked k (suc n) = row_is_whole place whole marked m n pre (flat rest) k b e l refl in
    let a' = escapes_rest marked pre (underscores (suc n) ++ flat rest) 0 (subst (AreEscapes marked 0) e a) in
    let a2 : AreEscapes marked k' (flat rest) =
    subst (λ i. AreEscapes marked i (flat rest))
    (ap (beyond (underscores (suc n))) x ∙ sym (after_beyond (suc n) k))
    (escapes_rest marked (underscores (suc n)) (flat rest) (beyond pre 0) a') in
    let fits = row_fits place whole marked m n k' before0 ks pre (flat rest) b e (ap marked l)
    (utf8_before whole pre (underscores n ++ flat rest) e u) (utf8_after whole pre (flat rest) n e u)
    (escapes_front marked pre (underscores (suc n) ++ flat rest) 0 (subst (AreEscapes marked 0) e a))
    a2 f w (s refl) c.0 in (
      r,
      subst (λ q. IsRow b q (with_backslashes marked k' (flat rest) ++ ks)) (sym p) fits,
      rows_fit place whole marked m u a before0 ks f w rest pre' k' (pushed (row_text b (suc n)) before)
          (e ∙ sym (append_assoc pre (underscores (suc n)) (flat rest)))
          (let y = length-append pre (underscores (suc n)) in let z = length_row (suc n) in
          let q = after_beyond (suc n) k in let v = beyond_length (underscores (suc n)) k in omega arith)
          (ap (pushed (row_text b (suc n))) p
          ∙ sym (pushed_append (with_backslashes marked 0 pre) (row_text b (suc n)) before0)
          ∙ ap (λ q. pushed (with_backslashes marked 0 pre ++ q) before0)
          (sym (append-nil (row_text b (suc n))) ∙ sym (row_written b marked (suc n) k [] r)
          ∙ ap (with_backslashes marked k) (append-nil (underscores (suc n)))
          ∙ ap (λ i. with_backslashes marked i (underscores (suc n))) (sym x))
          ∙ ap (λ q. pushed q before0) (sym (marks_append marked pre (underscores (suc n)) 0)))
          c.1 (λ h. let z = c.0 in absurd (cc)),
    )

-- ---- the text

-- What the writer makes of a text is read as the text: in a place of which the writer knows what stands beside it, in
-- one line with single spaces.
pub text_read : (refs : References) (place : Place) (whole : List ℕ) (marked : ℕ → Bool)
    (before ks : List ℕ)
    → MarksAll place whole marked → IsUtf8 whole → is_spaced whole ks ≡ true → Follows place.after ks
    → KnowsBefore place.before before
    → IsRead refs place.in_brackets before (with_backslashes marked 0 whole) ks (letters whole no_inlines)
text_read refs place whole marked before ks m u s f w =
    let e = flat_chunks whole in
    let d = are_due place whole marked m [] whole 0 refl refl in
    subst (λ t. IsRead refs place.in_brackets before (with_backslashes marked 0 t) ks (letters t no_inlines)) e
    (chunks_read refs place marked (chunks whole) 0 before ks f
    (subst (AreDue place marked 0) (sym e) d) (ap (λ t. is_spaced t ks) e ∙ s)
    (rows_fit place whole marked m u (escapes_of place marked 0 whole d) before ks f w (chunks whole) [] 0 before
    (sym e) refl refl
    (are_chunked whole) (λ h. refl)))

pub escaped_text_read : (refs : References) (place : Place) (s before ks : List ℕ) → IsUtf8 s
    → is_spaced s ks ≡ true → Follows place.after ks → KnowsBefore place.before before
    → IsRead refs place.in_brackets before (text.escaped place s) ks (letters s no_inlines)
escaped_text_read refs place s before ks u h f w =
    text_read refs place s (is_marked place s) before ks (marks_all place s) u h f w
