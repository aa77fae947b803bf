-- Texts of which nothing shows.
use Rattle.std.proofs.Common.{◌≡◌, ℕ, Bool, true, false, cond, not, ◌&&◌, ◌||◌, List, [], ◌∷◌, filter, refl, sym, ap}
use Rattle.std.proofs.Common.{◌∙◌, ◌≤◌, drop, nat_le, arith}
use Rattle.std.proofs.Math.Utf8.{scalars, scalar}
use Rattle.std.specs.List.{list_all}
use Rattle.std.specs.Str.{chars, IsUtf8}
use Rattle.std.proofs.lemmas.Bool.{and_parts, false≢true}
use Rattle.std.proofs.lemmas.Bool.Decides.{nat_tests}
use Rattle.std.proofs.lemmas.Str.{chars-encodes, scalars-chars}
use Rattle.htmd_lexical.proofs.Cases.{test}
use Rattle.htmd_shown.specs.Spaces.{is_blank_text}
use Rattle.htmd_shown.specs.ShownTexts.{is_shown, shown_text, is_blank_character}
use Rattle.htmd_shown.specs.Belows.{is_nothing, sign_of}
use Rattle.htmd_shown.specs.declared.sign.Sign.TheVariants.{More}
use Rattle.htmd_shown.specs.Marks.{is_seen, letters}
use Rattle.htmd_shown.specs.Spaces.{is_white}
use Rattle.htmd_shown.specs.TextViews.{begins_visibly}
use Rattle.htmd_text.proofs.PlainTextLemmas.{chars_ascii}

-- some of a text's characters are characters
pub scalars-filter : (p : ℕ → Bool) (cs : List ℕ) → scalars cs ≡ true → scalars (filter p cs) ≡ true
scalars-filter p [] e = e
scalars-filter p (c ∷ cs) e =
    let parts = both (scalar c) (scalars cs) e in
    test (p c)
    (λ h. ap (λ b. scalars (cond b (c ∷ filter p cs) (filter p cs))) h
    ∙ ap (λ b. b && scalars (filter p cs)) parts.0 ∙ scalars-filter p cs parts.1)
    (λ h. ap (λ b. scalars (cond b (c ∷ filter p cs) (filter p cs))) h ∙ scalars-filter p cs parts.1)
  where
    both : (a b : Bool) → (a && b) ≡ true → (a ≡ true) × (b ≡ true)
    both true b f = (refl, f)
    both false b f = absurd (clash f)
      where
        clash : false ≡ true → ⊥
        clash g = (cc)

white_shown : (cs : List ℕ) → list_all is_white (filter is_shown cs) ≡ list_all is_blank_character cs
white_shown [] = refl
white_shown (c ∷ cs) = test (is_shown c)
    (λ h. ap (λ b. list_all is_white (cond b (c ∷ filter is_shown cs) (filter is_shown cs))) h
    ∙ ap (λ b. is_white c && b) (white_shown cs)
    ∙ by_white (is_white c) (is_shown c) (list_all is_blank_character cs) h)
    (λ h. ap (λ b. list_all is_white (cond b (c ∷ filter is_shown cs) (filter is_shown cs))) h
    ∙ white_shown cs ∙ by_hidden (is_white c) (is_shown c) (list_all is_blank_character cs) h)
  where
    by_white : (x y z : Bool) → y ≡ true → (x && z) ≡ ((x || not y) && z)
    by_white true y z h = refl
    by_white false y z h = sym (ap (λ b. not b && z) h)

    by_hidden : (x y z : Bool) → y ≡ false → z ≡ ((x || not y) && z)
    by_hidden true y z h = refl
    by_hidden false y z h = sym (ap (λ b. not b && z) h)

pub blank_shown : (s : List ℕ) → IsUtf8 s → is_blank_text (shown_text s) ≡ list_all is_blank_character (chars s)
blank_shown s u =
    ap (list_all is_white) (chars-encodes (filter is_shown (chars s))
    (scalars-filter is_shown (chars s) (scalars-chars s u)))
    ∙ white_shown (chars s)

-- a text that begins with a visible ASCII character shows
pub visible_shows : (s : List ℕ) → begins_visibly s ≡ true → list_all is_blank_character (chars s) ≡ false
visible_shows [] visible = cc
visible_shows (b ∷ s) visible =
    let parts = and_parts (nat_le 33 b) (nat_le b 126) visible in
    let from : 33 ≤ b = grind (arith, nat_tests, parts.0) in
    let until : b ≤ 126 = grind (arith, nat_tests, parts.1) in
    ap (list_all is_blank_character) (chars_ascii b s (omega (arith, until)))
    ∙ ap (λ t. t && list_all is_blank_character (chars s)) (not_blank b from until)
  where
    not_blank : (c : ℕ) → 33 ≤ c → c ≤ 126 → is_blank_character c ≡ false
    not_blank c from until = grind (arith, nat_tests, from, until)

-- a text that begins with two visible ASCII characters shows more than one
pub two_visible : (s : List ℕ) → (begins_visibly s && begins_visibly (drop 1 s)) ≡ true
    → sign_of (letters s) ≡ More
two_visible [] visible = cc
two_visible (b ∷ []) visible = absurd (false≢true (and_parts (begins_visibly (b ∷ [])) false visible).1)
two_visible (b ∷ c ∷ s) visible =
    let both = and_parts (begins_visibly (b ∷ c ∷ s)) (begins_visibly (c ∷ s)) visible in
    ap sign_of (one_seen b (c ∷ s) both.0 ∙ ap (λ cs. b ∷ cs) (one_seen c s both.1))
  where
    seen : (b : ℕ) → 33 ≤ b → b ≤ 126 → is_seen b ≡ true
    seen b from until = grind (arith, nat_tests, from, until)

    one_seen : (b : ℕ) (s : List ℕ) → begins_visibly (b ∷ s) ≡ true → letters (b ∷ s) ≡ b ∷ letters s
    one_seen b s visible =
        let parts = and_parts (nat_le 33 b) (nat_le b 126) visible in
        let from : 33 ≤ b = grind (arith, nat_tests, parts.0) in
        let until : b ≤ 126 = grind (arith, nat_tests, parts.1) in
        ap (filter is_seen) (chars_ascii b s (omega (arith, until)))
        ∙ ap (λ t. cond t (b ∷ letters s) (letters s)) (seen b from until)

pub chars_shown : (s : List ℕ) → IsUtf8 s → chars (shown_text s) ≡ filter is_shown (chars s)
chars_shown s u = chars-encodes (filter is_shown (chars s)) (scalars-filter is_shown (chars s) (scalars-chars s u))

-- ---- what is seen

seen_shown : (cs : List ℕ) → filter is_seen (filter is_shown cs) ≡ filter is_seen cs
seen_shown [] = refl
seen_shown (c ∷ cs) = test (is_shown c)
    (λ h. ap (λ b. filter is_seen (cond b (c ∷ filter is_shown cs) (filter is_shown cs))) h
    ∙ ap (λ xs. cond (is_seen c) (c ∷ xs) xs) (seen_shown cs))
    (λ h. ap (λ b. filter is_seen (cond b (c ∷ filter is_shown cs) (filter is_shown cs))) h
    ∙ seen_shown cs
    ∙ ap (λ b. cond (b && not (is_white c)) (c ∷ filter is_seen cs) (filter is_seen cs)) (sym h))

pub letters_shown : (s : List ℕ) → IsUtf8 s → letters (shown_text s) ≡ letters s
letters_shown s u = ap (filter is_seen) (chars_shown s u) ∙ seen_shown (chars s)

some_sign : (c : ℕ) (cs : List ℕ) → is_nothing (sign_of (c ∷ cs)) ≡ false
some_sign c [] = refl
some_sign c (d ∷ cs) = refl

nothing_seen : (cs : List ℕ) → is_nothing (sign_of (filter is_seen cs)) ≡ list_all is_blank_character cs
nothing_seen [] = refl
nothing_seen (c ∷ cs) = by_kind (is_shown c) (is_white c) (nothing_seen cs)
  where
    by_kind : (s w : Bool) → is_nothing (sign_of (filter is_seen cs)) ≡ list_all is_blank_character cs
        → is_nothing (sign_of (cond (s && not w) (c ∷ filter is_seen cs) (filter is_seen cs)))
        ≡ ((w || not s) && list_all is_blank_character cs)
    by_kind true true e = e
    by_kind true false e = some_sign c (filter is_seen cs)
    by_kind false true e = e
    by_kind false false e = e

-- nothing of a text shows where no letter does
pub blank_letters : (s : List ℕ) → IsUtf8 s → is_blank_text (shown_text s) ≡ is_nothing (sign_of (letters s))
blank_letters s u = blank_shown s u ∙ sym (nothing_seen (chars s))
