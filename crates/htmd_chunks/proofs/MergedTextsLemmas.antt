-- A text with a space in it gets no more backslashes than what stands before and behind the space do alone.
use Rattle.std.proofs.Common.{◌≡◌, ℕ, zero, suc, ◌+◌, ◌-◌, ◌*◌, ◌<◌, ◌≤◌, Bool, true, false, not, cond, List, [], ◌∷◌}
use Rattle.std.proofs.Common.{◌++◌}
use Rattle.std.proofs.Common.{length, take, drop, reverse, refl, sym, ap, ◌∙◌, subst, append_assoc, append-nil, arith}
use Rattle.std.proofs.Common.{Option, Some, None, codes, length-append, eqb-true}
use Rattle.std.specs.Prelude.{◌==◌, ◌&&◌, ◌||◌, nat_le, slice_get, slice_index}
use Rattle.std.specs.Char.{is_ascii_digit}
use Rattle.std.specs.List.{list_all, list_any, prefix_len, suffix_len}
use Rattle.std.specs.Option.{option_or}
use Rattle.std.specs.Str.{chars, chars_after, continuation_len, lead_bits}
use Rattle.std.proofs.lemmas.Bool.{and_parts, and_from}
use Rattle.std.proofs.lemmas.Bool.Decides.{nat_tests}
use Rattle.std.proofs.lemmas.List.Sums.{suffix_len-le-length}
use Rattle.std.proofs.lemmas.Str.{chars-nil}
use Rattle.htmd_lexical.specs.Characters.{line_feed, space, exclamation_mark, ampersand, less_than_sign, backslash}
use Rattle.htmd_lexical.specs.Characters.{right_square_bracket, underscore, hyphen, colon, number_sign}
use Rattle.htmd_lexical.specs.Characters.{is_one_of}
use Rattle.htmd_lexical.specs.CharacterClasses.{first_is}
use Rattle.htmd_text.specs.EscapedPlaces.{with_backslashes, is_place}
use Rattle.htmd_text.specs.ListMarkers.{number_signs}
use Rattle.htmd_text.specs.Trims.{trimmed_start, trimmed_end, is_line_feed}
use Rattle.htmd_commonmark.specs.declared.text_escape.Place.{Place}
use Rattle.htmd_commonmark.specs.CharacterKinds.{first_character, last_character}
use Rattle.htmd_commonmark.specs.LineMarks.{ends_marker, is_bullet, is_dashes, is_heading_marker, begins_block}
use Rattle.htmd_commonmark.specs.LineMarks.{number_mark, line_mark}
use Rattle.htmd_commonmark.specs.References.{is_reference}
use Rattle.htmd_commonmark.specs.TextEscapes.{next_byte, is_underscore, character_before, character_after, is_of_word}
use Rattle.htmd_commonmark.specs.TextEscapes.{is_in_word, may_be_escaped, may_be_in_tag, is_bracket}
use Rattle.htmd_commonmark.specs.TextEscapes.{is_marked, escaped}
use Rattle.htmd_chunks.proofs.CleanTextsLemmas.{IsClean, chars-behind, in-append, clean-front, escaped-clean}
use Rattle.htmd_chunks.proofs.ReferencesBeforeLemmas.{mono-and, reference-before}
use Rattle.htmd_chunks.proofs.RunsLemmas.{IsSomething, something}
use Rattle.htmd_chunks.proofs.ShiftsLemmas.{last-behind, suffix-behind-any, prefix-behind, reverse-some, space-before}
use Rattle.htmd_chunks.proofs.SparserLemmas.{Sparser, at_end, alike, fewer}

-- ---- a byte of a text, between what stands before it and behind it

pub index-at : (h : List ℕ) (b : ℕ) (z : List ℕ) → slice_index (h ++ b ∷ z) (length h) ≡ b
index-at [] b z = refl
index-at (c ∷ h) b z = index-at h b z

take-at : (h z : List ℕ) → take (length h) (h ++ z) ≡ h
take-at [] z = refl
take-at (c ∷ h) z = ap (λ l. c ∷ l) (take-at h z)

drop-at : (h z : List ℕ) → drop (length h) (h ++ z) ≡ z
drop-at [] z = refl
drop-at (c ∷ h) z = drop-at h z

drop-next : (h : List ℕ) (b : ℕ) (z : List ℕ) → drop (length h + 1) (h ++ b ∷ z) ≡ z
drop-next [] b z = refl
drop-next (c ∷ h) b z =
    ap (λ n. drop n (c ∷ (h ++ b ∷ z))) (let n : suc (length h) + 1 ≡ suc (length h + 1) = omega arith in n)
    ∙ drop-next h b z

get-next : (h : List ℕ) (b : ℕ) (z : List ℕ) → slice_get (h ++ b ∷ z) (length h + 1) ≡ slice_get z 0
get-next [] b z = refl
get-next (c ∷ h) b z =
    ap (slice_get (c ∷ (h ++ b ∷ z))) (let n : suc (length h) + 1 ≡ suc (length h + 1) = omega arith in n)
    ∙ get-next h b z

abbrev ends : List ℕ → Bool
ends [] = true
ends (b ∷ s) = false

last-at : (h : List ℕ) (b : ℕ) (z : List ℕ) → (length h + 1 == length (h ++ b ∷ z)) ≡ ends z
last-at h b [] =
    let same : length h + 1 ≡ length (h ++ b ∷ []) = omega (arith, length-append h (b ∷ [])) in
    grind (arith, nat_tests, same)
last-at h b (c ∷ z) =
    let more : length h + 1 < length (h ++ b ∷ c ∷ z) = omega (arith, length-append h (b ∷ c ∷ z)) in
    grind (arith, nat_tests, more)

first-at : (h : List ℕ) → (length h == 0) ≡ ends h
first-at [] = refl
first-at (b ∷ h) = grind (arith, nat_tests)

-- whether a byte with this beside it gets a backslash
abbrev inline_with : ℕ → (p q r t u v w x y : Bool) → Bool
inline_with b p q r t u v w x y =
    is_one_of (codes "`*[~") b
    || ((b == right_square_bracket) && p)
    || ((b == backslash) && q)
    || ((b == underscore) && r)
    || ((b == less_than_sign) && t)
    || ((b == ampersand) && u)
    || ((b == exclamation_mark) && v && w)
    || (is_one_of (codes "^") b && x && y)

abbrev beside : Place → List ℕ → Option ℕ
beside place z = option_or (slice_get z 0) place.after

abbrev in_word : Place → List ℕ → List ℕ → Bool
in_word place h y = is_of_word (character_before place h) && is_of_word (character_after place y)

abbrev pub inline_at : Place → List ℕ → ℕ → List ℕ → Bool
inline_at place h b z =
    inline_with b place.in_brackets (may_be_escaped (beside place z)) (not (in_word place h (b ∷ z)))
    (may_be_in_tag (beside place z)) (is_reference z) (ends z) (is_bracket place.after) (ends h)
    (is_bracket place.before)

abbrev pub line_at : Place → List ℕ → ℕ → List ℕ → Bool
line_at place h b z = place.begins_line && is_place (line_mark (h ++ b ∷ z) place.after) (length h)

abbrev pub marked_at : Place → List ℕ → ℕ → List ℕ → Bool
marked_at place h b z = inline_at place h b z || line_at place h b z

pub marked-is : (place : Place) (h : List ℕ) (b : ℕ) (z : List ℕ)
    → is_marked place (h ++ b ∷ z) (length h) ≡ marked_at place h b z
marked-is place h b z =
    let s = h ++ b ∷ z in
    let k = length h in
    ap (λ c. inline_with c place.in_brackets (may_be_escaped (next_byte place s k)) (not (is_in_word place s k))
    (may_be_in_tag (next_byte place s k)) (is_reference (drop (k + 1) s)) (k + 1 == length s) (is_bracket place.after)
    (k == 0) (is_bracket place.before) || line_at place h b z) (index-at h b z)
    ∙ ap (λ o. inline_with b place.in_brackets (may_be_escaped (option_or o place.after))
    (not (is_in_word place s k))
    (may_be_in_tag (option_or o place.after)) (is_reference (drop (k + 1) s)) (k + 1 == length s)
    (is_bracket place.after) (k == 0) (is_bracket place.before) || line_at place h b z) (get-next h b z)
    ∙ ap (λ l. inline_with b place.in_brackets (may_be_escaped (beside place z))
    (not (is_of_word (character_before place l) && is_of_word (character_after place (drop k s))))
    (may_be_in_tag (beside place z)) (is_reference (drop (k + 1) s)) (k + 1 == length s)
    (is_bracket place.after) (k == 0) (is_bracket place.before) || line_at place h b z) (take-at h (b ∷ z))
    ∙ ap (λ l. inline_with b place.in_brackets (may_be_escaped (beside place z)) (not (in_word place h l))
    (may_be_in_tag (beside place z)) (is_reference (drop (k + 1) s)) (k + 1 == length s)
    (is_bracket place.after) (k == 0) (is_bracket place.before) || line_at place h b z) (drop-at h (b ∷ z))
    ∙ ap (λ l. inline_with b place.in_brackets (may_be_escaped (beside place z)) (not (in_word place h (b ∷ z)))
    (may_be_in_tag (beside place z)) (is_reference l) (k + 1 == length s)
    (is_bracket place.after) (k == 0) (is_bracket place.before) || line_at place h b z) (drop-next h b z)
    ∙ ap (λ e. inline_with b place.in_brackets (may_be_escaped (beside place z)) (not (in_word place h (b ∷ z)))
    (may_be_in_tag (beside place z)) (is_reference z) e
    (is_bracket place.after) (k == 0) (is_bracket place.before) || line_at place h b z) (last-at h b z)
    ∙ ap (λ e. inline_with b place.in_brackets (may_be_escaped (beside place z)) (not (in_word place h (b ∷ z)))
    (may_be_in_tag (beside place z)) (is_reference z) (ends z)
    (is_bracket place.after) e (is_bracket place.before) || line_at place h b z) (first-at h)

-- a text with backslashes, read from left to right
abbrev Marks : Type 0
Marks = List ℕ → ℕ → List ℕ → Bool

abbrev pub put_marks : Marks → List ℕ → List ℕ → List ℕ
put_marks m h [] = []
put_marks m h (b ∷ z) =
    cond (m h b z) (backslash ∷ b ∷ put_marks m (h ++ b ∷ []) z) (b ∷ put_marks m (h ++ b ∷ []) z)

marks-are : (place : Place) (h z : List ℕ)
    → with_backslashes (is_marked place (h ++ z)) (length h) z ≡ put_marks (marked_at place) h z
marks-are place h [] = refl
marks-are place h (b ∷ z) =
    let next : length (h ++ b ∷ []) ≡ suc (length h) = omega (arith, length-append h (b ∷ [])) in
    let rest : with_backslashes (is_marked place (h ++ b ∷ z)) (suc (length h)) z
    ≡ put_marks (marked_at place) (h ++ b ∷ []) z =
    ap (λ n. with_backslashes (is_marked place (h ++ b ∷ z)) n z) (sym next)
    ∙ ap (λ s. with_backslashes (is_marked place s) (length (h ++ b ∷ [])) z) (sym (append_assoc h (b ∷ []) z))
    ∙ marks-are place (h ++ b ∷ []) z in
    ap (λ l. cond (is_marked place (h ++ b ∷ z) (length h)) (backslash ∷ b ∷ l) (b ∷ l)) rest
    ∙ ap (λ e. cond e (backslash ∷ b ∷ put_marks (marked_at place) (h ++ b ∷ []) z)
    (b ∷ put_marks (marked_at place) (h ++ b ∷ []) z)) (marked-is place h b z)

pub escaped-is : (place : Place) (s : List ℕ) → escaped place s ≡ put_marks (marked_at place) [] s
escaped-is place s = marks-are place [] s

-- ---- fewer marks

pub fewer-marks : (m n : Marks) (h g z : List ℕ) → list_any is_line_feed z ≡ false
    → ((x : List ℕ) (b : ℕ) (y : List ℕ) → x ++ b ∷ y ≡ z → m (h ++ x) b y ≡ true
    → n (g ++ x) b y ≡ true)
    → Sparser (put_marks m h z) (put_marks n g z)
fewer-marks m n h g [] plain less = at_end
fewer-marks m n h g (b ∷ z) plain less =
    let p = or_none (is_line_feed b) (list_any is_line_feed z) plain in
    let rest = fewer-marks m n (h ++ b ∷ []) (g ++ b ∷ []) z p.1
    (λ x c y is here. subst (λ l. n l c y ≡ true) (sym (append_assoc g (b ∷ []) x))
    (less (b ∷ x) c y (ap (λ l. b ∷ l) is)
    (subst (λ l. m l c y ≡ true) (append_assoc h (b ∷ []) x) here))) in
    let u = put_marks m (h ++ b ∷ []) z in
    let v = put_marks n (g ++ b ∷ []) z in
    let here : m h b z ≡ true → n g b z ≡ true =
    (λ is. subst (λ l. n l b z ≡ true) (append-nil g)
    (less [] b z refl (subst (λ l. m l b z ≡ true) (sym (append-nil h)) is))) in
    both (m h b z) (n g b z) b u v p.0 here rest
  where
    or_none : (a c : Bool) → (a || c) ≡ false → (a ≡ false) × (c ≡ false)
    or_none false c e = (refl, e)
    or_none true c e = absurd (cc)

    both : (e f : Bool) (b : ℕ) (u v : List ℕ) → (b == line_feed) ≡ false → (e ≡ true → f ≡ true)
        → Sparser u v
        → Sparser (cond e (backslash ∷ b ∷ u) (b ∷ u)) (cond f (backslash ∷ b ∷ v) (b ∷ v))
    both true true b u v other imply rest = alike backslash (b ∷ u) (b ∷ v) (alike b u v rest)
    both true false b u v other imply rest = absurd (let x : false ≡ true = imply refl in cc)
    both false true b u v other imply rest = fewer b u v other rest
    both false false b u v other imply rest = alike b u v rest

pub same-marks : (m n : Marks) (h g z : List ℕ)
    → ((x : List ℕ) (b : ℕ) (y : List ℕ) → x ++ b ∷ y ≡ z → m (h ++ x) b y ≡ n (g ++ x) b y)
    → put_marks m h z ≡ put_marks n g z
same-marks m n h g [] same = refl
same-marks m n h g (b ∷ z) same =
    let rest = same-marks m n (h ++ b ∷ []) (g ++ b ∷ []) z
    (λ x c y is. ap (λ l. m l c y) (append_assoc h (b ∷ []) x) ∙ same (b ∷ x) c y (ap (λ l. b ∷ l) is)
    ∙ ap (λ l. n l c y) (sym (append_assoc g (b ∷ []) x))) in
    let here : m h b z ≡ n g b z =
    ap (λ l. m l b z) (sym (append-nil h)) ∙ same [] b z refl ∙ ap (λ l. n l b z) (append-nil g) in
    ap (λ l. cond (m h b z) (backslash ∷ b ∷ l) (b ∷ l)) rest
    ∙ ap (λ e. cond e (backslash ∷ b ∷ put_marks n (g ++ b ∷ []) z) (b ∷ put_marks n (g ++ b ∷ []) z)) here

pub marks-append : (m : Marks) (h y z : List ℕ)
    → put_marks m h (y ++ z) ≡ put_marks (λ x b r. m x b (r ++ z)) h y ++ put_marks m (h ++ y) z
marks-append m h [] z = ap (λ l. put_marks m l z) (sym (append-nil h))
marks-append m h (b ∷ y) z =
    let first = put_marks (λ x c r. m x c (r ++ z)) (h ++ b ∷ []) y in
    let rest : put_marks m (h ++ b ∷ []) (y ++ z) ≡ first ++ put_marks m (h ++ b ∷ y) z =
    marks-append m (h ++ b ∷ []) y z
    ∙ ap (λ l. first ++ put_marks m l z) (append_assoc h (b ∷ []) y) in
    ap (λ l. cond (m h b (y ++ z)) (backslash ∷ b ∷ l) (b ∷ l)) rest
    ∙ elim (m h b (y ++ z))
    as (λ e. cond e (backslash ∷ b ∷ (first ++ put_marks m (h ++ b ∷ y) z))
    (b ∷ (first ++ put_marks m (h ++ b ∷ y) z))
    ≡ cond e (backslash ∷ b ∷ first) (b ∷ first) ++ put_marks m (h ++ b ∷ y) z) [
      | true ↦ refl
      | false ↦ refl
    ]

-- ---- tests

pub mono-or : (a b c d : Bool) → (a ≡ true → c ≡ true) → (b ≡ true → d ≡ true) → (a || b) ≡ true
    → (c || d) ≡ true
mono-or true b c d f g e = ap (λ x. x || d) (f refl)
mono-or false b true d f g e = refl
mono-or false b false d f g e = g e

mono-not : (a b : Bool) → (b ≡ true → a ≡ true) → not a ≡ true → not b ≡ true
mono-not true b g e = absurd (cc)
mono-not false true g e = absurd (let x : false ≡ true = g refl in cc)
mono-not false false g e = refl

pub keep : (a : Bool) → a ≡ true → a ≡ true
keep a e = e

-- what is marked with less beside it
inline-mono : (b : ℕ) (p q r t u v w x y q' r' t' u' v' w' : Bool) → (q ≡ true → q' ≡ true)
    → (r ≡ true → r' ≡ true) → (t ≡ true → t' ≡ true) → (u ≡ true → u' ≡ true)
    → (((b == exclamation_mark) && v && w) ≡ true → ((b == exclamation_mark) && v' && w') ≡ true)
    → inline_with b p q r t u v w x y ≡ true → inline_with b p q' r' t' u' v' w' x y ≡ true
inline-mono b p q r t u v w x y q' r' t' u' v' w' fq fr ft fu fv e =
    let one = is_one_of (codes "`*[~") b in
    let two = (b == right_square_bracket) && p in
    let last = is_one_of (codes "^") b && x && y in
    mono-or _ last _ last
    (mono-or _ ((b == exclamation_mark) && v && w) _ ((b == exclamation_mark) && v' && w')
    (mono-or _ ((b == ampersand) && u) _ ((b == ampersand) && u')
    (mono-or _ ((b == less_than_sign) && t) _ ((b == less_than_sign) && t')
    (mono-or _ ((b == underscore) && r) _ ((b == underscore) && r')
    (mono-or (one || two) ((b == backslash) && q) (one || two) ((b == backslash) && q') (keep (one || two))
    (mono-and (b == backslash) q q' fq))
    (mono-and (b == underscore) r r' fr))
    (mono-and (b == less_than_sign) t t' ft))
    (mono-and (b == ampersand) u u' fu))
    fv) (keep last) e

-- ---- words

none-first : (c : Option ℕ) → first_character [] ≡ c → c ≡ None
none-first c is = sym is ∙ ap (λ cs. slice_get cs 0) chars-nil

-- the first character stays
first-after : (n v : ℕ) (s t : List ℕ) (c : ℕ) → slice_get (chars_after n v s) 0 ≡ Some c
    → slice_get (chars_after n v (s ++ t)) 0 ≡ Some c
first-after zero v [] [] c is = is
first-after zero v [] (b ∷ t) c is = is
first-after zero v (b ∷ s) t c is = is
first-after (suc n) v [] t c is = absurd (cc)
first-after (suc n) v (b ∷ s) t c is = first-after n (v * 64 + (b - 128)) s t c is

pub first-kept : (b : ℕ) (s t : List ℕ) (c : ℕ) → first_character (b ∷ s) ≡ Some c
    → first_character ((b ∷ s) ++ t) ≡ Some c
unfolding chars
first-kept b s t c is = first-after (continuation_len b) (lead_bits b) s t c is

trimmed-more : (p : ℕ → Bool) (b : ℕ) (s : List ℕ) → p b ≡ true
    → trimmed_start p (b ∷ s) ≡ trimmed_start p s
trimmed-more p b s is =
    ap (λ e. drop (cond e (1 + prefix_len p s) 0) (b ∷ s)) is
    ∙ ap (λ n. drop n (b ∷ s)) (let n : 1 + prefix_len p s ≡ suc (prefix_len p s) = omega arith in n)

trimmed-here : (p : ℕ → Bool) (b : ℕ) (s : List ℕ) → p b ≡ false → trimmed_start p (b ∷ s) ≡ b ∷ s
trimmed-here p b s is = ap (λ e. drop (cond e (1 + prefix_len p s) 0) (b ∷ s)) is

-- a character of a word is told from a text's rest
word-after : (y x : List ℕ) (after : Option ℕ)
    → is_of_word (option_or (first_character (trimmed_start is_underscore y)) None) ≡ true
    → is_of_word (option_or (first_character (trimmed_start is_underscore (y ++ x))) after) ≡ true
word-after [] x after h =
    absurd (let none : first_character [] ≡ None = ap (λ cs. slice_get cs 0) chars-nil in
    let bad : false ≡ true = ap (λ o. is_of_word (option_or o None)) (sym none) ∙ h in cc)
word-after (b ∷ y) x after h =
    elim (is_underscore b) as (λ e. is_underscore b ≡ e
    → is_of_word (option_or (first_character (trimmed_start is_underscore ((b ∷ y) ++ x))) after) ≡ true) [
      | true ↦ λ is.
          ap (λ s. is_of_word (option_or (first_character s) after)) (trimmed-more is_underscore b (y ++ x) is)
          ∙ word-after y x after
          (ap (λ s. is_of_word (option_or (first_character s) None)) (sym (trimmed-more is_underscore b y is)) ∙ h)
      | false ↦ λ is.
          ap (λ s. is_of_word (option_or (first_character s) after)) (trimmed-here is_underscore b (y ++ x) is)
          ∙ told (first_character (b ∷ y)) refl
          (ap (λ s. is_of_word (option_or (first_character s) None)) (sym (trimmed-here is_underscore b y is)) ∙ h)
    ] refl
  where
    told : (c : Option ℕ) → first_character (b ∷ y) ≡ c
        → is_of_word (option_or (first_character (b ∷ y)) None) ≡ true
        → is_of_word (option_or (first_character ((b ∷ y) ++ x)) after) ≡ true
    told None is k = absurd (let bad : false ≡ true = ap (λ o. is_of_word (option_or o None)) (sym is) ∙ k in cc)
    told (Some c) is k =
        ap (λ o. is_of_word (option_or o after)) (first-kept b y x c is)
        ∙ ap (λ o. is_of_word (option_or o None)) (sym is) ∙ k

take-over : (x y : List ℕ) (n : ℕ) → take (length x + n) (x ++ y) ≡ x ++ take n y
take-over [] y n = ap (λ k. take k y) (let k : 0 + n ≡ n = omega arith in k)
take-over (c ∷ x) y n =
    ap (λ k. take k (c ∷ (x ++ y))) (let k : suc (length x) + n ≡ suc (length x + n) = omega arith in k)
    ∙ ap (λ l. c ∷ l) (take-over x y n)

trimmed-behind : (t h : List ℕ)
    → trimmed_end is_underscore ((t ++ space ∷ []) ++ h) ≡ (t ++ space ∷ []) ++ trimmed_end is_underscore h
trimmed-behind t h =
    let x = t ++ space ∷ [] in
    let n = suffix_len is_underscore h in
    let count : length (x ++ h) - n ≡ length x + (length h - n) =
    omega (arith, length-append x h, suffix_len-le-length is_underscore h) in
    ap (λ k. take (length (x ++ h) - k) (x ++ h)) (suffix-behind-any is_underscore t h refl)
    ∙ ap (λ k. take k (x ++ h)) count ∙ take-over x h (length h - n)

last-some : (l : List ℕ) → IsSomething l → (c : ℕ) × (slice_get l 0 ≡ Some c)
last-some l (something c rest) = (c, refl)

word-before : (t h : List ℕ) (before : Option ℕ) → IsClean t
    → is_of_word (option_or (last_character (trimmed_end is_underscore ((t ++ space ∷ []) ++ h))) before)
    ≡ is_of_word (option_or (last_character (trimmed_end is_underscore h)) None)
word-before t h before clean =
    let y = trimmed_end is_underscore h in
    ap (λ s. is_of_word (option_or (last_character s) before)) (trimmed-behind t h)
    ∙ told (chars y) refl
  where
    both : IsClean (t ++ space ∷ [])
    both = in-append t (space ∷ []) clean refl

    told : (cs : List ℕ) → chars (trimmed_end is_underscore h) ≡ cs
        → is_of_word (option_or (last_character ((t ++ space ∷ []) ++ trimmed_end is_underscore h)) before)
        ≡ is_of_word (option_or (last_character (trimmed_end is_underscore h)) None)
    told [] is =
        let y = trimmed_end is_underscore h in
        let here : last_character y ≡ None = ap (λ cs. slice_get (reverse cs) 0) is in
        let there : last_character ((t ++ space ∷ []) ++ y) ≡ Some space =
        ap (λ cs. slice_get (reverse cs) 0) (chars-behind (t ++ space ∷ []) y both
        ∙ ap (λ cs. chars (t ++ space ∷ []) ++ cs) is ∙ append-nil (chars (t ++ space ∷ [])))
        ∙ space-before t clean in
        ap (λ o. is_of_word (option_or o before)) there ∙ ap (λ o. is_of_word (option_or o None)) (sym here)
    told (c ∷ cs) is =
        let y = trimmed_end is_underscore h in
        let some : IsSomething (chars y) = subst (λ (l : List ℕ). IsSomething l) (sym is) (something c cs) in
        let first = last-some (reverse (c ∷ cs)) (reverse-some (c ∷ cs) (something c cs)) in
        let told_last : last_character y ≡ Some first.0 = ap (λ l. slice_get (reverse l) 0) is ∙ first.1 in
        ap (λ o. is_of_word (option_or o before)) (last-behind (t ++ space ∷ []) y both some ∙ told_last)
        ∙ ap (λ o. is_of_word (option_or o None)) (sym told_last)

-- ---- lines

marker-mono : (z f : List ℕ) (after : Option ℕ) → ends_marker (z ++ space ∷ f) after ≡ true
    → ends_marker z None ≡ true
marker-mono [] f after h = refl
marker-mono (c ∷ z) f after h = h

all-front : (p : ℕ → Bool) (z y : List ℕ) → list_all p (z ++ y) ≡ true → list_all p z ≡ true
all-front p [] y h = refl
all-front p (c ∷ z) y h = mono-and (p c) (list_all p (z ++ y)) (list_all p z) (all-front p z y) h

prefix-within : (p : ℕ → Bool) (s : List ℕ) → prefix_len p s ≤ length s
prefix-within p [] = omega arith
prefix-within p (c ∷ s) =
    elim (p c) as (λ e. cond e (1 + prefix_len p s) 0 ≤ suc (length s)) [
      | true ↦ omega (arith, prefix-within p s)
      | false ↦ omega arith
    ]

drop-within : (n : ℕ) (s y : List ℕ) → n ≤ length s → drop n (s ++ y) ≡ drop n s ++ y
drop-within zero s y le = refl
drop-within (suc n) [] y le = absurd (omega arith)
drop-within (suc n) (c ∷ s) y le = drop-within n s y (omega (arith, le))

hyphen-mono : (z f : List ℕ) → first_is hyphen (z ++ space ∷ f) ≡ true → first_is hyphen z ≡ true
hyphen-mono [] f h = absurd (cc)
hyphen-mono (c ∷ z) f h = h

heading-mono : (s f : List ℕ) (after : Option ℕ) → is_heading_marker (s ++ space ∷ f) after ≡ true
    → is_heading_marker s None ≡ true
heading-mono s f after h =
    let n = number_signs s in
    let same : number_signs (s ++ space ∷ f) ≡ n = prefix-behind (λ b. b == number_sign) space s f refl in
    let all : (nat_le 1 n && nat_le n 6 && ends_marker (drop n (s ++ space ∷ f)) after) ≡ true =
    ap (λ k. nat_le 1 k && nat_le k 6 && ends_marker (drop k (s ++ space ∷ f)) after) (sym same) ∙ h in
    mono-and (nat_le 1 n && nat_le n 6) (ends_marker (drop n (s ++ space ∷ f)) after) (ends_marker (drop n s) None)
    (λ k. marker-mono (drop n s) f after
    (ap (λ l. ends_marker l after) (sym (drop-within n s (space ∷ f) (prefix-within (λ b. b == number_sign) s)))
    ∙ k))
    all

block-mono : (b : ℕ) (z f : List ℕ) (after : Option ℕ) → begins_block b (z ++ space ∷ f) after ≡ true
    → begins_block b z None ≡ true
block-mono b z f after h =
    let y = z ++ space ∷ f in
    mono-or _ (is_heading_marker (b ∷ y) after) _ (is_heading_marker (b ∷ z) None)
    (mono-or _ ((b == colon) && first_is hyphen y) _ ((b == colon) && first_is hyphen z)
    (mono-or _ (is_dashes b y) _ (is_dashes b z)
    (mono-or (is_one_of (codes "=>|") b) (is_bullet b y after) (is_one_of (codes "=>|") b) (is_bullet b z None)
    (keep (is_one_of (codes "=>|") b))
    (mono-and (is_one_of (codes "-+") b) (ends_marker y after) (ends_marker z None) (marker-mono z f after)))
    (mono-and (b == hyphen) (list_all (is_one_of (codes "-:| ")) y) (list_all (is_one_of (codes "-:| ")) z)
    (all-front (is_one_of (codes "-:| ")) z (space ∷ f))))
    (mono-and (b == colon) (first_is hyphen y) (first_is hyphen z) (hyphen-mono z f)))
    (heading-mono (b ∷ z) f after) h

-- the mark of an ordered list, by how many digits stand first
abbrev number_with : ℕ → List ℕ → Option ℕ → Option ℕ
number_with d s after =
    cond (nat_le 1 d && nat_le d 9 && is_one_of (codes ".)") (slice_index s d) && ends_marker (drop (d + 1) s) after)
    (Some d) None

-- what is known where that mark stands
pub record Numbered (d k : ℕ) (s : List ℕ) (after : Option ℕ) : Type 0 where
  pub place : k ≡ d
  pub least : nat_le 1 d ≡ true
  pub most : nat_le d 9 ≡ true
  pub sign : is_one_of (codes ".)") (slice_index s d) ≡ true
  pub ends : ends_marker (drop (d + 1) s) after ≡ true

pub numbered : (d k : ℕ) (s : List ℕ) (after : Option ℕ) → is_place (number_with d s after) k ≡ true
    → Numbered d k s after
numbered d k s after h =
    told (nat_le 1 d && nat_le d 9 && is_one_of (codes ".)") (slice_index s d) && ends_marker (drop (d + 1) s) after)
    refl h
  where
    told : (e : Bool) → (nat_le 1 d && nat_le d 9 && is_one_of (codes ".)") (slice_index s d)
        && ends_marker (drop (d + 1) s) after) ≡ e → is_place (cond e (Some d) None) k ≡ true
        → Numbered d k s after
    told true is at =
        let a = and_parts (nat_le 1 d && nat_le d 9 && is_one_of (codes ".)") (slice_index s d))
        (ends_marker (drop (d + 1) s) after) is in
        let b = and_parts (nat_le 1 d && nat_le d 9) (is_one_of (codes ".)") (slice_index s d)) a.0 in
        let c = and_parts (nat_le 1 d) (nat_le d 9) b.0 in
        record { place = eqb-true k d at; least = c.0; most = c.1; sign = b.1; ends = a.1 }
    told false is at = absurd (cc)

pub later-place : (n : ℕ) → is_place (Some 0) (suc n) ≡ false
later-place n = grind (arith, nat_tests)

-- digits that stand before a byte that is none
digits-stay : (p : ℕ → Bool) (h : List ℕ) (b : ℕ) (x y : List ℕ) → prefix_len p (h ++ b ∷ x) ≡ length h
    → prefix_len p (h ++ b ∷ y) ≡ length h
digits-stay p [] b x y is =
    elim (p b) as (λ e. cond e (1 + prefix_len p x) 0 ≡ 0 → cond e (1 + prefix_len p y) 0 ≡ 0) [
      | true ↦ λ k. absurd (omega (arith, k))
      | false ↦ λ k. refl
    ] is
digits-stay p (c ∷ h) b x y is =
    elim (p c) as (λ e. cond e (1 + prefix_len p (h ++ b ∷ x)) 0 ≡ suc (length h)
    → cond e (1 + prefix_len p (h ++ b ∷ y)) 0 ≡ suc (length h)) [
      | true ↦ λ k. omega (arith, digits-stay p h b x y (omega (arith, k)))
      | false ↦ λ k. absurd (omega (arith, k))
    ] is

first-digit : (p : ℕ → Bool) (c : ℕ) (s : List ℕ) (n : ℕ) → prefix_len p (c ∷ s) ≡ suc n
    → p c ≡ true
first-digit p c s n is =
    elim (p c) as (λ e. cond e (1 + prefix_len p s) 0 ≡ suc n → e ≡ true) [
      | true ↦ λ k. refl
      | false ↦ λ k. absurd (omega (arith, k))
    ] is

digit-other : (c : ℕ) (x y z : Bool) → is_ascii_digit c ≡ true
    → (is_one_of (codes "=>|") c || (is_one_of (codes "-+") c && x) || ((c == hyphen) && y) || ((c == colon) && z))
    ≡ false
digit-other c x y z h = grind (arith, nat_tests, h)

digit-sign : (c : ℕ) → is_ascii_digit c ≡ true → (c == number_sign) ≡ false
digit-sign c h = grind (arith, nat_tests, h)

-- a digit begins no block
digit-block : (c : ℕ) (s : List ℕ) (after : Option ℕ) → is_ascii_digit c ≡ true
    → begins_block c s after ≡ false
digit-block c s after h =
    let none : number_signs (c ∷ s) ≡ 0 =
    ap (λ e. cond e (1 + prefix_len (λ b. b == number_sign) s) 0) (digit-sign c h) in
    ap (λ e. e || is_heading_marker (c ∷ s) after)
    (digit-other c (ends_marker s after) (list_all (is_one_of (codes "-:| ")) s) (first_is hyphen s) h)
    ∙ ap (λ n. nat_le 1 n && nat_le n 6 && ends_marker (drop n (c ∷ s)) after) none

-- a mark of the line in what stands before a space is one there alone
line-front : (h : List ℕ) (b : ℕ) (z f : List ℕ) (after : Option ℕ)
    → is_place (line_mark (h ++ b ∷ (z ++ space ∷ f)) after) (length h) ≡ true
    → is_place (line_mark (h ++ b ∷ z) None) (length h) ≡ true
line-front [] b z f after h =
    elim (begins_block b (z ++ space ∷ f) after)
    as (λ e. begins_block b (z ++ space ∷ f) after ≡ e
    → is_place (cond e (Some 0) (number_mark (b ∷ (z ++ space ∷ f)) after)) 0 ≡ true
    → is_place (line_mark (b ∷ z) None) 0 ≡ true) [
      | true ↦ λ is k.
          ap (λ e. is_place (cond e (Some 0) (number_mark (b ∷ z) None)) 0) (block-mono b z f after is)
      | false ↦ λ is k.
          (let n = numbered (prefix_len is_ascii_digit (b ∷ (z ++ space ∷ f))) 0 (b ∷ (z ++ space ∷ f)) after
          k in
          let bad : false ≡ true = ap (nat_le 1) n.place ∙ n.least in absurd (cc))
    ] refl h
line-front (c ∷ h) b z f after is_there =
    let s = h ++ b ∷ (z ++ space ∷ f) in
    elim (begins_block c s after)
    as (λ e. is_place (cond e (Some 0) (number_mark (c ∷ s) after)) (suc (length h)) ≡ true
    → is_place (line_mark (c ∷ (h ++ b ∷ z)) None) (suc (length h)) ≡ true) [
      | true ↦ λ k. absurd (let bad : false ≡ true = sym (later-place (length h)) ∙ k in cc)
      | false ↦ λ k. from (numbered (prefix_len is_ascii_digit (c ∷ s)) (suc (length h)) (c ∷ s) after k)
    ] is_there
  where
    self : (n : ℕ) → (n == n) ≡ true
    self n = grind (arith, nat_tests)

    from : Numbered (prefix_len is_ascii_digit (c ∷ (h ++ b ∷ (z ++ space ∷ f)))) (suc (length h))
        (c ∷ (h ++ b ∷ (z ++ space ∷ f))) after
        → is_place (line_mark (c ∷ (h ++ b ∷ z)) None) (suc (length h)) ≡ true
    from n =
        let whole = c ∷ (h ++ b ∷ (z ++ space ∷ f)) in
        let k = suc (length h) in
        let stays = digits-stay is_ascii_digit (c ∷ h) b (z ++ space ∷ f) z (sym n.place) in
        let digit = first-digit is_ascii_digit c (h ++ b ∷ (z ++ space ∷ f)) (length h) (sym n.place) in
        let least : nat_le 1 k ≡ true = ap (nat_le 1) n.place ∙ n.least in
        let most : nat_le k 9 ≡ true = ap (λ d. nat_le d 9) n.place ∙ n.most in
        let sign : is_one_of (codes ".)") b ≡ true =
        ap (is_one_of (codes ".)")) (sym (index-at (c ∷ h) b (z ++ space ∷ f)) ∙ ap (slice_index whole) n.place)
        ∙ n.sign in
        let rest : ends_marker z None ≡ true =
        marker-mono z f after (ap (λ l. ends_marker l after) (sym (drop-next (c ∷ h) b (z ++ space ∷ f)))
        ∙ ap (λ d. ends_marker (drop (d + 1) whole) after) n.place ∙ n.ends) in
        let mark : number_with k (c ∷ (h ++ b ∷ z)) None ≡ Some k =
        ap (λ e. cond e (Some k) None)
        (and_from (nat_le 1 k && nat_le k 9 && is_one_of (codes ".)") (slice_index (c ∷ (h ++ b ∷ z)) k))
        (ends_marker (drop (k + 1) (c ∷ (h ++ b ∷ z))) None)
        (and_from (nat_le 1 k && nat_le k 9) (is_one_of (codes ".)") (slice_index (c ∷ (h ++ b ∷ z)) k))
        (and_from (nat_le 1 k) (nat_le k 9) least most)
        (ap (is_one_of (codes ".)")) (index-at (c ∷ h) b z) ∙ sign))
        (ap (λ l. ends_marker l None) (drop-next (c ∷ h) b z) ∙ rest)) in
        ap (λ e. is_place (cond e (Some 0) (number_mark (c ∷ (h ++ b ∷ z)) None)) k)
        (digit-block c (h ++ b ∷ z) None digit)
        ∙ ap (λ d. is_place (number_with d (c ∷ (h ++ b ∷ z)) None) k) stays
        ∙ ap (λ o. is_place o k) mark ∙ self k

not-true-is : (e : Bool) → (e ≡ true → ⊥) → e ≡ false
not-true-is true none = absurd (none refl)
not-true-is false none = refl

-- none stands at the space
line-space : (h f : List ℕ) (after : Option ℕ)
    → is_place (line_mark (h ++ space ∷ f) after) (length h) ≡ false
line-space [] f after = refl
line-space (c ∷ h) f after =
    let s = h ++ space ∷ f in
    elim (begins_block c s after)
    as (λ e. is_place (cond e (Some 0) (number_mark (c ∷ s) after)) (suc (length h)) ≡ false) [
      | true ↦ later-place (length h)
      | false ↦
          not-true-is (is_place (number_mark (c ∷ s) after) (suc (length h)))
          (λ k. none (numbered (prefix_len is_ascii_digit (c ∷ s)) (suc (length h)) (c ∷ s) after k))
    ]
  where
    none : Numbered (prefix_len is_ascii_digit (c ∷ (h ++ space ∷ f))) (suc (length h)) (c ∷ (h ++ space ∷ f))
        after → ⊥
    none n =
        let bad : false ≡ true =
        ap (is_one_of (codes ".)")) (sym (index-at (c ∷ h) space f)
        ∙ ap (slice_index (c ∷ (h ++ space ∷ f))) n.place)
        ∙ n.sign in
        cc

-- nor behind it
line-behind : (t h : List ℕ) (b : ℕ) (z : List ℕ) (after : Option ℕ)
    → is_place (line_mark ((t ++ space ∷ h) ++ b ∷ z) after) (length (t ++ space ∷ h)) ≡ false
line-behind [] h b z after = refl
line-behind (c ∷ t) h b z after =
    let x = t ++ space ∷ h in
    elim (begins_block c (x ++ b ∷ z) after)
    as (λ e. is_place (cond e (Some 0) (number_mark (c ∷ (x ++ b ∷ z)) after)) (suc (length x)) ≡ false) [
      | true ↦ later-place (length x)
      | false ↦
          not-true-is (is_place (number_mark (c ∷ (x ++ b ∷ z)) after) (suc (length x)))
          (λ k. none (numbered (prefix_len is_ascii_digit (c ∷ (x ++ b ∷ z))) (suc (length x))
          (c ∷ (x ++ b ∷ z))
          after k))
    ]
  where
    none : Numbered (prefix_len is_ascii_digit (c ∷ ((t ++ space ∷ h) ++ b ∷ z)))
        (suc (length (t ++ space ∷ h)))
        (c ∷ ((t ++ space ∷ h) ++ b ∷ z)) after → ⊥
    none n =
        let same : prefix_len is_ascii_digit (c ∷ ((t ++ space ∷ h) ++ b ∷ z))
        ≡ prefix_len is_ascii_digit (c ∷ t) =
        ap (λ l. prefix_len is_ascii_digit (c ∷ l)) (append_assoc t (space ∷ h) (b ∷ z))
        ∙ prefix-behind is_ascii_digit space (c ∷ t) (h ++ b ∷ z) refl in
        let within : prefix_len is_ascii_digit (c ∷ t) ≤ suc (length t) = prefix-within is_ascii_digit (c ∷ t) in
        omega (arith, n.place, same, within, length-append t (space ∷ h))

-- ---- marks before a space, at it and behind it

abbrev pub standing : Bool → Option ℕ → Option ℕ → Place
standing begins before after =
    record { begins_line = begins; in_brackets = false; before = before; after = after }

escaped-mono : (z f : List ℕ) (after : Option ℕ)
    → may_be_escaped (option_or (slice_get (z ++ space ∷ f) 0) after) ≡ true
    → may_be_escaped (option_or (slice_get z 0) None) ≡ true
escaped-mono [] f after h = refl
escaped-mono (c ∷ z) f after h = h

tag-mono : (z f : List ℕ) (after : Option ℕ)
    → may_be_in_tag (option_or (slice_get (z ++ space ∷ f) 0) after) ≡ true
    → may_be_in_tag (option_or (slice_get z 0) None) ≡ true
tag-mono [] f after h = absurd (cc)
tag-mono (c ∷ z) f after h = h

no-end : (z f : List ℕ) → ends (z ++ space ∷ f) ≡ false
no-end [] f = refl
no-end (c ∷ z) f = refl

never : (x y : Bool) → ((x && false) && y) ≡ false
never true y = refl
never false y = refl

front-mono : (begins : Bool) (before after : Option ℕ) (f h : List ℕ) (b : ℕ) (z : List ℕ)
    → marked_at (standing begins before after) h b (z ++ space ∷ f) ≡ true
    → marked_at (standing begins before None) h b z ≡ true
front-mono begins before after f h b z is =
    let a = standing begins before after in
    let t = standing begins before None in
    let y = z ++ space ∷ f in
    mono-or (inline_at a h b y) (line_at a h b y) (inline_at t h b z) (line_at t h b z)
    (inline-mono b false (may_be_escaped (beside a y)) (not (in_word a h (b ∷ y))) (may_be_in_tag (beside a y))
    (is_reference y) (ends y) (is_bracket after) (ends h) (is_bracket before)
    (may_be_escaped (beside t z)) (not (in_word t h (b ∷ z))) (may_be_in_tag (beside t z)) (is_reference z) (ends z)
    false
    (escaped-mono z f after)
    (mono-not (in_word a h (b ∷ y)) (in_word t h (b ∷ z))
    (mono-and (is_of_word (character_before a h)) (is_of_word (character_after t (b ∷ z)))
    (is_of_word (character_after a (b ∷ y))) (word-after (b ∷ z) (space ∷ f) after)))
    (tag-mono z f after) (reference-before z f)
    (λ k. absurd (let bad : true ≡ false =
    sym k ∙ ap (λ e. (b == exclamation_mark) && e && is_bracket after) (no-end z f)
    ∙ never (b == exclamation_mark) (is_bracket after) in cc)))
    (mono-and begins (is_place (line_mark (h ++ b ∷ y) after) (length h))
    (is_place (line_mark (h ++ b ∷ z) None) (length h))
    (line-front h b z f after)) is

space-unmarked : (begins : Bool) (before after : Option ℕ) (h f : List ℕ)
    → marked_at (standing begins before after) h space f ≡ false
space-unmarked begins before after h f =
    ap (λ e. begins && e) (line-space h f after) ∙ last begins
  where
    last : (e : Bool) → (e && false) ≡ false
    last true = refl
    last false = refl

-- what is marked of a text that stands alone, but for the marks of a line
abbrev pub inline_alone : Option ℕ → Marks
inline_alone after h b z = inline_at (standing false None after) h b z

behind-ends : (t h : List ℕ) → ends ((t ++ space ∷ []) ++ h) ≡ false
behind-ends [] h = refl
behind-ends (c ∷ t) h = refl

back-same : (begins : Bool) (before after : Option ℕ) (t h : List ℕ) (b : ℕ) (z : List ℕ) → IsClean t
    → marked_at (standing begins before after) ((t ++ space ∷ []) ++ h) b z ≡ inline_alone after h b z
back-same begins before after t h b z clean =
    let a = standing begins before after in
    let x = (t ++ space ∷ []) ++ h in
    let line : line_at a x b z ≡ false =
    ap (λ l. begins && is_place (line_mark (l ++ b ∷ z) after) (length l)) (append_assoc t (space ∷ []) h)
    ∙ ap (λ e. begins && e) (line-behind t h b z after) ∙ last begins in
    ap (λ e. inline_at a x b z || e) line ∙ right (inline_at a x b z)
    ∙ ap (λ e. inline_with b false (may_be_escaped (beside a z))
    (not (e && is_of_word (character_after a (b ∷ z)))) (may_be_in_tag (beside a z)) (is_reference z) (ends z)
    (is_bracket after) (ends x) (is_bracket before)) (word-before t h before clean)
    ∙ ap (λ e. front || e) (caret (is_one_of (codes "^") b) (ends h) (is_bracket before)
    (behind-ends t h))
  where
    last : (e : Bool) → (e && false) ≡ false
    last true = refl
    last false = refl

    right : (e : Bool) → (e || false) ≡ e
    right true = refl
    right false = refl

    -- all but the last test
    front : Bool
    front =
        is_one_of (codes "`*[~") b
        || ((b == right_square_bracket) && false)
        || ((b == backslash) && may_be_escaped (option_or (slice_get z 0) after))
        || ((b == underscore) && not (is_of_word (option_or (last_character (trimmed_end is_underscore h)) None)
        && is_of_word (option_or (first_character (trimmed_start is_underscore (b ∷ z))) after)))
        || ((b == less_than_sign) && may_be_in_tag (option_or (slice_get z 0) after))
        || ((b == ampersand) && is_reference z)
        || ((b == exclamation_mark) && ends z && is_bracket after)

    both : (c e : Bool) → (c && e && false) ≡ false
    both true true = refl
    both true false = refl
    both false e = refl

    caret : (c e g : Bool) → ends ((t ++ space ∷ []) ++ h) ≡ false
        → (c && ends ((t ++ space ∷ []) ++ h) && g) ≡ (c && e && false)
    caret c e g none = ap (λ x. c && x && g) none ∙ never c g ∙ sym (both c e)

-- ---- a text with a space in it

-- what is written of it: something for what stands before the space, which has no more backslashes than that alone, the
-- space, and what is written of what stands behind it, marks of lines aside
pub record Merged (begins : Bool) (before after : Option ℕ) (t f : List ℕ) : Type 0 where
  pub front : List ℕ
  pub is : escaped (standing begins before after) (t ++ space ∷ f)
      ≡ front ++ space ∷ put_marks (inline_alone after) [] f
  pub sparse : Sparser front (escaped (standing begins before None) t)
  pub whole : IsClean f → IsClean front

pub merged : (begins : Bool) (before after : Option ℕ) (t f : List ℕ) → IsClean t
    → list_any is_line_feed t ≡ false → Merged begins before after t f
merged begins before after t f clean plain =
    let a = standing begins before after in
    let m = marked_at a in
    let front = put_marks (λ x b r. m x b (r ++ space ∷ f)) [] t in
    let back = put_marks m (t ++ space ∷ []) f in
    let all : escaped a (t ++ space ∷ f) ≡ front ++ space ∷ put_marks (inline_alone after) [] f =
    escaped-is a (t ++ space ∷ f) ∙ marks-append m [] t (space ∷ f)
    ∙ ap (λ e. front ++ cond e (backslash ∷ space ∷ back) (space ∷ back))
    (space-unmarked begins before after t f)
    ∙ ap (λ l. front ++ space ∷ l)
    (same-marks m (inline_alone after) (t ++ space ∷ []) [] f
    (λ x b y is. back-same begins before after t x b y clean)) in
    record {
      front = front;
      is = all;
      sparse =
          subst (Sparser front) (sym (escaped-is (standing begins before None) t))
          (fewer-marks (λ x b r. m x b (r ++ space ∷ f)) (marked_at (standing begins before None)) [] [] t plain
          (λ x b y is. front-mono begins before after f x b y));
      whole =
          λ back_clean.
          clean-front 0 front space (put_marks (inline_alone after) [] f) refl
          (subst IsClean all (escaped-clean a (t ++ space ∷ f) (in-append t (space ∷ f) clean back_clean)));
    }
