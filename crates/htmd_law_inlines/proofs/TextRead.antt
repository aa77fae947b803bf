-- A text with backslashes where they are due is read as that text.
use Rattle.std.proofs.Common.{◌≡◌, ◌∙◌, refl, ap, sym, ℕ, zero, suc, Bool, true, false, List, [], ◌∷◌, ◌++◌, Option}
use Rattle.std.proofs.Common.{subst}
use Rattle.std.specs.Prelude.{not, ◌&&◌, ◌||◌, ◌==◌, if◌then◌else◌, slice_get}
use Rattle.std.specs.Option.{option_or}
use Rattle.std.specs.Char.{is_ascii_punctuation}
use Rattle.std.proofs.lemmas.Bool.{eqb-true, and_parts, not-true, not-false, or_parts}
use Rattle.htmd_lexical.specs.CharacterClasses.{is_empty, first_is}
use Rattle.htmd_text.specs.EscapedPlaces.{with_backslashes}
use Rattle.htmd_commonmark.specs.declared.text_escape.Place.{Place}
use Rattle.htmd_commonmark.specs.References.{is_reference}
use Rattle.htmd_commonmark.specs.TextEscapes.{may_be_escaped, may_be_in_tag, is_bracket}
use Rattle.htmd_commonmark_reading.specs.Characters.{past_blanks, is_space_or_tab, begins_with_punctuation}
use Rattle.htmd_commonmark_reading.specs.Characters.{last_character, first_character}
use Rattle.htmd_commonmark_reading.specs.DelimiterRuns.{past_tildes}
use Rattle.htmd_commonmark_reading.specs.Brackets.{References, kind, Kind}
use Rattle.htmd_commonmark_reading.specs.Markup.{no_inlines, letter, letters, joined}
use Rattle.htmd_document.specs.NormalInlines.{is_line_byte}
use Rattle.htmd_law_inlines.proofs.Pieces.{IsRead, none_read, both_read, pushed}
use Rattle.htmd_law_inlines.proofs.TextPieces.{test, differs, escaped_read, plain_read, row_read, begins_nothing}
use Rattle.htmd_law_inlines.proofs.TextPieces.{begins_no_tag, underscores, is_word_beside, is_line_end, is_blank}
use Rattle.htmd_law_inlines.proofs.ReferencePieces.{AreEscapes, follows_text, reference_none}

-- ---- what follows a text

-- what the writer knows of what follows a text is so
pub record Follows (after : Option ℕ) (ks : List ℕ) : Type 0 where
  pub ends : follows_text ks ≡ true
  pub escapes : may_be_escaped after ≡ true
  pub in_tag : may_be_in_tag after ≡ false → begins_no_tag ks ≡ true
  pub bracket : is_bracket after ≡ false → first_is 91 ks ≡ false

-- ---- texts without white space but spaces

-- no line ends after spaces
abbrev pub no_blank_next : List ℕ → List ℕ → Bool
no_blank_next t ks = not (first_is 10 (past_blanks (t ++ ks)))

abbrev pub is_spaced : List ℕ → List ℕ → Bool
is_spaced [] ks = true
is_spaced (c ∷ t) ks = is_line_byte c && ((not (c == 32) || no_blank_next t ks) && is_spaced t ks)

-- ---- where backslashes are due

-- a character of this kind, before this, needs no backslash; underscores aside
abbrev pub needs_none : Kind → Place → List ℕ → Bool
needs_none Kind.blank place t = true
needs_none Kind.line_end place t = true
needs_none Kind.slash place t = not (may_be_escaped (option_or (slice_get t 0) place.after))
needs_none Kind.grave place t = false
needs_none Kind.sign place t = false
needs_none Kind.angle_bracket place t = not (may_be_in_tag (option_or (slice_get t 0) place.after))
needs_none Kind.and_sign place t = not (is_reference t)
needs_none Kind.exclamation place t = not (is_empty t && is_bracket place.after)
needs_none Kind.opening place t = false
needs_none Kind.closing place t = not place.in_brackets
needs_none Kind.other place t = true

abbrev pub AreDue : Place → (ℕ → Bool) → ℕ → List ℕ → Type 0
AreDue place marked k [] = Unit {0}
AreDue place marked k (c ∷ t) =
    (marked k ≡ true → is_ascii_punctuation c ≡ true)
    × ((c == 95) ≡ false → marked k ≡ false → needs_none (kind c) place t ≡ true)
    × AreDue place marked (suc k) t

pub escapes_of : (place : Place) (marked : ℕ → Bool) (k : ℕ) (t : List ℕ) → AreDue place marked k t
    → AreEscapes marked k t
escapes_of place marked k [] a = tt
escapes_of place marked k (c ∷ t) a = (a.0, escapes_of place marked (suc k) t a.2)

-- ---- a character without a backslash

-- a character that no backslash stands before is the next that is read
next : (marked : ℕ → Bool) (k d : ℕ) (t ks : List ℕ) → marked k ≡ false
    → with_backslashes marked k (d ∷ t) ++ ks ≡ d ∷ (with_backslashes marked (suc k) t ++ ks)
next marked k d t ks m = rw m refl

no_line_end : (place : Place) (marked : ℕ → Bool) (k : ℕ) (t ks : List ℕ) → no_blank_next t ks ≡ true
    → is_spaced t ks ≡ true → not (first_is 10 (past_blanks (with_backslashes marked k t ++ ks))) ≡ true
no_line_end place marked k [] ks h s = h
no_line_end place marked k (d ∷ t) ks h s =
    let p = and_parts (is_line_byte d) ((not (d == 32) || no_blank_next t ks) && is_spaced t ks) s in
    let q = (and_parts (not (d == 32) || no_blank_next t ks) (is_spaced t ks) p.1).1 in
    test (marked k) (λ m. rw m refl)
    (λ m. test (d == 32)
    (λ e. rw (m, e) (no_line_end place marked (suc k) t ks (rw e at h) q))
    (λ e. rw (m, e, differs is_line_byte d 9 p.0 refl) (rw (differs is_line_byte d 10 p.0 refl) refl)))

blank_next : (place : Place) (marked : ℕ → Bool) (k c : ℕ) (t ks : List ℕ) → is_space_or_tab c ≡ true
    → is_spaced (c ∷ t) ks ≡ true
    → not (first_is 10 (past_blanks (with_backslashes marked k t ++ ks))) ≡ true
blank_next place marked k c t ks b s =
    let p = and_parts (is_line_byte c) ((not (c == 32) || no_blank_next t ks) && is_spaced t ks) s in
    let q = and_parts (not (c == 32) || no_blank_next t ks) (is_spaced t ks) p.1 in
    let e : c ≡ 32 =
    test (c == 32) (λ x. eqb-true c 32 x)
    (λ x. let y : (c == 9) ≡ true = rw x at b in
    let z : false ≡ true = rw (eqb-true c 9 y) at p.0 in absurd (cc)) in
    no_line_end place marked k t ks (rw e at q.0) q.1

slash_next : (place : Place) (marked : ℕ → Bool) (k : ℕ) (t ks : List ℕ) → Follows place.after ks
    → AreEscapes marked k t → not (may_be_escaped (option_or (slice_get t 0) place.after)) ≡ true
    → (not (first_is 10 (with_backslashes marked k t ++ ks))
    && not (begins_with_punctuation (with_backslashes marked k t ++ ks)))
    ≡ true
slash_next place marked k [] ks f a h = let x = f.escapes in absurd (cc)
slash_next place marked k (d ∷ t) ks f a h =
    let p = or_parts (d == 10) (is_ascii_punctuation d) (not-true ((d == 10) || is_ascii_punctuation d) h) in
    test (marked k) (λ m. let x = a.0 m in let y = p.1 in absurd (cc)) (λ m. rw (m, p.0, p.1) refl)

angle_next : (place : Place) (marked : ℕ → Bool) (k : ℕ) (t ks : List ℕ) → Follows place.after ks
    → AreEscapes marked k t → not (may_be_in_tag (option_or (slice_get t 0) place.after)) ≡ true
    → begins_no_tag (with_backslashes marked k t ++ ks) ≡ true
angle_next place marked k [] ks f a h = f.in_tag (not-true (may_be_in_tag place.after) h)
angle_next place marked k (d ∷ t) ks f a h =
    let p = not-false ((d == 32) || (d == 10)) (not-true (not ((d == 32) || (d == 10))) h) in
    test (marked k) (λ m. rw m refl) (λ m. rw m (rw p refl))

mark_next : (place : Place) (marked : ℕ → Bool) (k : ℕ) (t ks : List ℕ) → Follows place.after ks
    → AreDue place marked k t → not (is_empty t && is_bracket place.after) ≡ true
    → not (first_is 91 (with_backslashes marked k t ++ ks)) ≡ true
mark_next place marked k [] ks f a h = rw (f.bracket (not-true (is_bracket place.after) h)) refl
mark_next place marked k (d ∷ t) ks f a h =
    test (marked k) (λ m. rw m refl)
    (λ m. test (d == 91)
    (λ e. let x : false ≡ true = rw (eqb-true d 91 e) at (a.1 (rw (eqb-true d 91 e) refl) m) in absurd (cc))
    (λ e. rw (m, e) refl))

begins_here : (place : Place) (marked : ℕ → Bool) (k c : ℕ) (t ks : List ℕ) (x : Kind) → kind c ≡ x
    → Follows place.after ks → AreDue place marked k t → is_spaced (c ∷ t) ks ≡ true
    → needs_none x place t ≡ true
    → begins_nothing x place.in_brackets (with_backslashes marked k t ++ ks) ≡ true
begins_here place marked k c t ks Kind.blank e f a s h = blank_next place marked k c t ks (is_blank c e) s
begins_here place marked k c t ks Kind.line_end e f a s h =
    let p = (and_parts (is_line_byte c) _ s).0 in
    let q : false ≡ true = rw (is_line_end c e) at p in absurd (cc)
begins_here place marked k c t ks Kind.slash e f a s h =
    slash_next place marked k t ks f (escapes_of place marked k t a) h
begins_here place marked k c t ks Kind.grave e f a s h = absurd (cc)
begins_here place marked k c t ks Kind.sign e f a s h = absurd (cc)
begins_here place marked k c t ks Kind.angle_bracket e f a s h =
    angle_next place marked k t ks f (escapes_of place marked k t a) h
begins_here place marked k c t ks Kind.and_sign e f a s h =
    reference_none marked k t ks (escapes_of place marked k t a) f.ends (not-true (is_reference t) h)
begins_here place marked k c t ks Kind.exclamation e f a s h = mark_next place marked k t ks f a h
begins_here place marked k c t ks Kind.opening e f a s h = absurd (cc)
begins_here place marked k c t ks Kind.closing e f a s h = h
begins_here place marked k c t ks Kind.other e f a s h = refl

-- ---- rows of underscores

-- a text cut into its rows of underscores, of one more than the number, and its other characters
pub data Chunks : Type 0 where
  none : Chunks
  one : (c : ℕ) (rest : Chunks) → Chunks
  row : (more : ℕ) (rest : Chunks) → Chunks

abbrev pub flat : Chunks → List ℕ
flat none = []
flat (one c rest) = c ∷ flat rest
flat (row n rest) = underscores (suc n) ++ flat rest

abbrev pub with_one : Chunks → Chunks
with_one none = row 0 none
with_one (one c rest) = row 0 (one c rest)
with_one (row n rest) = row (suc n) rest

abbrev pub chunks : List ℕ → Chunks
chunks [] = none
chunks (c ∷ s) = if c == 95 then with_one (chunks s) else one c (chunks s)

flat_one : (g : Chunks) → flat (with_one g) ≡ 95 ∷ flat g
flat_one none = refl
flat_one (one c rest) = refl
flat_one (row n rest) = refl

pub flat_chunks : (s : List ℕ) → flat (chunks s) ≡ s
flat_chunks [] = refl
flat_chunks (c ∷ s) =
    test (c == 95)
    (λ e. rw e (flat_one (chunks s) ∙ ap (λ l. 95 ∷ l) (flat_chunks s)
    ∙ ap (λ d. d ∷ s) (sym (eqb-true c 95 e))))
    (λ e. rw e (ap (λ l. c ∷ l) (flat_chunks s)))

abbrev pub AreAll : Bool → (ℕ → Bool) → ℕ → ℕ → Type 0
AreAll b marked k zero = Unit {0}
AreAll b marked k (suc n) = (marked k ≡ b) × AreAll b marked (suc k) n

abbrev pub after : ℕ → ℕ → ℕ
after zero k = k
after (suc n) k = after n (suc k)

abbrev pub escaped_underscores : ℕ → List ℕ
escaped_underscores zero = []
escaped_underscores (suc n) = 92 ∷ 95 ∷ escaped_underscores n

abbrev pub row_text : Bool → ℕ → List ℕ
row_text true n = escaped_underscores n
row_text false n = underscores n

pub row_written : (b : Bool) (marked : ℕ → Bool) (n k : ℕ) (t : List ℕ) → AreAll b marked k n
    → with_backslashes marked k (underscores n ++ t) ≡ row_text b n ++ with_backslashes marked (after n k) t
row_written true marked zero k t a = refl
row_written false marked zero k t a = refl
row_written true marked (suc n) k t a =
    rw a.0 (ap (λ l. 92 ∷ 95 ∷ l) (row_written true marked n (suc k) t a.1))
row_written false marked (suc n) k t a = rw a.0 (ap (λ l. 95 ∷ l) (row_written false marked n (suc k) t a.1))

escaped_row_read : (refs : References) (in_link : Bool) (n : ℕ) (before ks : List ℕ)
    → IsRead refs in_link before (escaped_underscores n) ks (letters (underscores n) no_inlines)
escaped_row_read refs in_link zero before ks = none_read refs in_link before ks
escaped_row_read refs in_link (suc n) before ks =
    both_read refs in_link before (92 ∷ 95 ∷ []) (escaped_underscores n) ks (letter 95 no_inlines)
    (letters (underscores n) no_inlines)
    (escaped_read refs in_link before (escaped_underscores n ++ ks) 95 refl)
    (escaped_row_read refs in_link n (95 ∷ 92 ∷ before) ks)

-- a row between these is read as text: each sign has a backslash, or none has and it stands in a word
abbrev pub IsRow : Bool → List ℕ → List ℕ → Type 0
IsRow true before ks = Unit {0}
IsRow false before ks =
    (first_is 95 ks ≡ false) × (is_word_beside (last_character (past_tildes 95 before)) ≡ true)
    × (is_word_beside (first_character (past_tildes 95 ks)) ≡ true)

pub any_row_read : (refs : References) (in_link : Bool) (b : Bool) (n : ℕ) (before ks : List ℕ)
    → IsRow b before ks
    → IsRead refs in_link before (row_text b (suc n)) ks (letters (underscores (suc n)) no_inlines)
any_row_read refs in_link true n before ks w = escaped_row_read refs in_link (suc n) before ks
any_row_read refs in_link false n before ks w = row_read refs in_link before ks n w.0 w.1 w.2

-- ---- the whole text

abbrev pub one_text : Bool → ℕ → List ℕ
one_text true c = 92 ∷ c ∷ []
one_text false c = c ∷ []

-- rows are as they have to be, in a text before which this stands
abbrev pub AreRows : (ℕ → Bool) → ℕ → List ℕ → List ℕ → Chunks → Type 0
AreRows marked k before ks none = Unit {0}
AreRows marked k before ks (one c rest) =
    ((c == 95) ≡ false) × AreRows marked (suc k) (pushed (one_text (marked k) c) before) ks rest
AreRows marked k before ks (row n rest) =
    AreAll (marked k) marked k (suc n)
    × IsRow (marked k) before (with_backslashes marked (after (suc n) k) (flat rest) ++ ks)
    × AreRows marked (after (suc n) k) (pushed (row_text (marked k) (suc n)) before) ks rest

one_read : (refs : References) (place : Place) (marked : ℕ → Bool) (k c : ℕ) (t before ks : List ℕ)
    → (c == 95) ≡ false → Follows place.after ks → AreDue place marked k (c ∷ t) → is_spaced (c ∷ t) ks
    ≡ true
    → IsRead refs place.in_brackets before (one_text (marked k) c) (with_backslashes marked (suc k) t ++ ks)
    (letter c no_inlines)
one_read refs place marked k c t before ks u f a s =
    test (marked k)
    (λ m. rw m (escaped_read refs place.in_brackets before (with_backslashes marked (suc k) t ++ ks) c (a.0 m)))
    (λ m. rw m (plain_read refs place.in_brackets before (with_backslashes marked (suc k) t ++ ks) c
    (begins_here place marked (suc k) c t ks (kind c) refl f a.2 s (a.1 u m))))

pub one_written : (marked : ℕ → Bool) (k c : ℕ) (t : List ℕ)
    → with_backslashes marked k (c ∷ t) ≡ one_text (marked k) c ++ with_backslashes marked (suc k) t
one_written marked k c t = test (marked k) (λ m. rw m refl) (λ m. rw m refl)

due_after : (place : Place) (marked : ℕ → Bool) (n k : ℕ) (t : List ℕ)
    → AreDue place marked k (underscores n ++ t) → AreDue place marked (after n k) t
due_after place marked zero k t a = a
due_after place marked (suc n) k t a = due_after place marked n (suc k) t a.2

spaced_after : (n : ℕ) (t ks : List ℕ) → is_spaced (underscores n ++ t) ks ≡ true → is_spaced t ks ≡ true
spaced_after zero t ks s = s
spaced_after (suc n) t ks s = spaced_after n t ks s

letters_append : (s t : List ℕ) → joined (letters s no_inlines) (letters t no_inlines)
    ≡ letters (s ++ t) no_inlines
letters_append [] t = refl
letters_append (c ∷ s) t = ap (letter c) (letters_append s t)

pub chunks_read : (refs : References) (place : Place) (marked : ℕ → Bool) (g : Chunks) (k : ℕ)
    (before ks : List ℕ)
    → Follows place.after ks → AreDue place marked k (flat g) → is_spaced (flat g) ks ≡ true
    → AreRows marked k before ks g
    → IsRead refs place.in_brackets before (with_backslashes marked k (flat g)) ks (letters (flat g) no_inlines)
chunks_read refs place marked none k before ks f a s r = none_read refs place.in_brackets before ks
chunks_read refs place marked (one c rest) k before ks f a s r =
    subst (λ x. IsRead refs place.in_brackets before x ks (letters (c ∷ flat rest) no_inlines))
    (sym (one_written marked k c (flat rest)))
    (both_read refs place.in_brackets before (one_text (marked k) c) (with_backslashes marked (suc k) (flat rest)) ks
    (letter c no_inlines) (letters (flat rest) no_inlines)
    (one_read refs place marked k c (flat rest) before ks r.0 f a s)
    (chunks_read refs place marked rest (suc k) (pushed (one_text (marked k) c) before) ks f a.2
    (and_parts (not (c == 32) || no_blank_next (flat rest) ks) (is_spaced (flat rest) ks)
    (and_parts (is_line_byte c) ((not (c == 32) || no_blank_next (flat rest) ks) && is_spaced (flat rest) ks) s).1).1
    r.1))
chunks_read refs place marked (row n rest) k before ks f a s r =
    let b = marked k in
    let k' = after (suc n) k in
    subst (λ x. IsRead refs place.in_brackets before x ks (letters (underscores (suc n) ++ flat rest) no_inlines))
    (sym (row_written b marked (suc n) k (flat rest) r.0))
    (subst (λ x. IsRead refs place.in_brackets before (row_text b (suc n) ++ with_backslashes marked k' (flat rest))
    ks x)
    (letters_append (underscores (suc n)) (flat rest))
    (both_read refs place.in_brackets before (row_text b (suc n)) (with_backslashes marked k' (flat rest)) ks
    (letters (underscores (suc n)) no_inlines) (letters (flat rest) no_inlines)
    (any_row_read refs place.in_brackets b n before (with_backslashes marked k' (flat rest) ++ ks) r.1)
    (chunks_read refs place marked rest k' (pushed (row_text b (suc n)) before) ks f
    (due_after place marked (suc n) k (flat rest) a) (spaced_after (suc n) (flat rest) ks s) r.2)))
