-- The markers that are written of lists begin items.
use Rattle.std.proofs.Common.{◌≡◌, refl, subst, ℕ, suc, ◌≤◌, ◌<◌, ◌^◌, ◌/◌, ◌%◌, ◌*◌, Bool, true, false, List, [], ◌∷◌}
use Rattle.std.proofs.Common.{◌+◌, ◌++◌, length, arith}
use Rattle.std.proofs.lemmas.Bool.Decides.{nat_tests}
use Rattle.std.proofs.lemmas.Fmt.{decimal_by_steps, length-decimal-le}
use Rattle.std.specs.Prelude.{◌==◌, ◌||◌, if◌then◌else◌, codes, Option, Some, None}
use Rattle.std.specs.List.{list_all}
use Rattle.std.specs.Fmt.{decimal}
use Rattle.std.specs.Char.{is_ascii_digit}
use Rattle.htmd_lexical.specs.Characters.{is_one_of}
use Rattle.htmd_lexical.specs.Numbers.{number, digit_value}
use Rattle.htmd_markdown.specs.declared.list.BulletListMarker.{BulletListMarker}
use Rattle.htmd_markdown.specs.declared.list.BulletListMarker.TheVariants.{Asterisk, Dash}
use Rattle.htmd_commonmark.specs.declared.markers.Sign.{Sign}
use Rattle.htmd_commonmark.specs.declared.markers.Markers.{Markers}
use Rattle.htmd_commonmark.specs.declared.markers.Markers.TheVariants.{Bullets, Numbers}
use Rattle.htmd_commonmark.specs.declared.options.DocumentOptions.{DocumentOptions}
use Rattle.htmd_commonmark.specs.BlockMarkdown.{marker, markers_of, bullet_of, delimiter_of, is_beside, usual_bullet}
use Rattle.htmd_commonmark.specs.BlockMarkdown.{other_bullet, sign_text}
use Rattle.htmd_commonmark_reading.specs.Characters.{is_space_or_tab}
use Rattle.htmd_law_blocks.specs.LineTexts.{IsNotOf}
use Rattle.htmd_law_blocks.specs.NormalBlocks.{are_short_numbers}
use Rattle.htmd_law_blocks.proofs.PiecesLemmas.{IsMarker}
use Rattle.htmd_law_blocks.proofs.MarkersLemmas.{IsNumber, number_is_marker, asterisk_is_marker, hyphen_is_marker}
use Rattle.htmd_law_blocks.proofs.TextsLemmas.{IsClean, clean_append}
use Rattle.htmd_law_blocks.proofs.FlatLemmas.{not_of}
use Rattle.htmd_law_blocks.proofs.DocumentPieces.{marker_at}

-- ---- decimal numbers

all_append : (p : ℕ → Bool) (s t : List ℕ) → list_all p s ≡ true → list_all p t ≡ true → list_all p
    (s ++ t) ≡ true
all_append p [] t a b = b
all_append p (c ∷ s) t a b = go (p c) refl (all_append p s t)
  where
    go : (x : Bool) → p c ≡ x → (list_all p s ≡ true → list_all p t ≡ true → list_all p (s ++ t) ≡ true)
        → list_all p (c ∷ (s ++ t)) ≡ true
    go true e i = rw e (i (let w = rw e at a in w) b)
    go false e i = absurd (let w = rw e at a in cc)

decimal_digits : (n : ℕ) → n < 2 ^ 64 → list_all is_ascii_digit (decimal n) ≡ true
decimal_digits n lt = decimal_by_steps (λ _ ds. list_all is_ascii_digit ds ≡ true) one more n lt
  where
    one : (n : ℕ) → n < 10 → list_all is_ascii_digit ((48 + n) ∷ []) ≡ true
    one n lt =
        let e : is_ascii_digit (48 + n) ≡ true = grind (arith, nat_tests) in
        rw e refl

    more : (n : ℕ) (ds : List ℕ) → 10 ≤ n → list_all is_ascii_digit ds ≡ true
        → list_all is_ascii_digit (ds ++ (48 + n % 10) ∷ []) ≡ true
    more n ds le h =
        let e : is_ascii_digit (48 + n % 10) ≡ true = grind (arith, nat_tests) in
        all_append is_ascii_digit ds ((48 + n % 10) ∷ []) h (rw e refl)

number_snoc : (sum : ℕ) (ds : List ℕ) (d : ℕ)
    → number 10 sum (ds ++ (d ∷ [])) ≡ 10 * number 10 sum ds + digit_value d
number_snoc sum [] d = refl
number_snoc sum (c ∷ ds) d = number_snoc (10 * sum + digit_value c) ds d

digit_is : (n : ℕ) → n < 10 → digit_value (48 + n) ≡ n
digit_is n lt = grind (arith, nat_tests)

decimal_number : (n : ℕ) → n < 2 ^ 64 → number 10 0 (decimal n) ≡ n
decimal_number n lt = decimal_by_steps (λ m ds. number 10 0 ds ≡ m) one more n lt
  where
    one : (n : ℕ) → n < 10 → number 10 0 ((48 + n) ∷ []) ≡ n
    one n lt = let e = digit_is n lt in omega (arith, e)

    more : (n : ℕ) (ds : List ℕ) → 10 ≤ n → number 10 0 ds ≡ n / 10 → number 10 0
        (ds ++ (48 + n % 10) ∷ []) ≡ n
    more n ds le h =
        let d : digit_value (48 + n % 10) ≡ n % 10 = digit_is (n % 10) (omega arith) in
        let e : number 10 0 (ds ++ (48 + n % 10) ∷ []) ≡ 10 * number 10 0 ds + digit_value (48 + n % 10) =
        number_snoc 0 ds (48 + n % 10) in
        omega (arith, e, d, h)

decimal_some : (n : ℕ) → n < 2 ^ 64 → decimal n ≡ [] → ⊥
decimal_some n lt =
    decimal_by_steps (λ _ ds. ds ≡ [] → ⊥) (λ m l e. absurd (cc)) (λ m ds l h e. some ds (48 + m % 10) e) n lt
  where
    some : (ds : List ℕ) (d : ℕ) → ds ++ (d ∷ []) ≡ [] → ⊥
    some [] d e = absurd (cc)
    some (c ∷ ds) d e = absurd (cc)

pub decimal_is_number : (n d : ℕ) → n < 1000000000 → is_one_of (codes ".)") d ≡ true → IsNumber (decimal n) d
decimal_is_number n d lt h =
    let small : n < 2 ^ 64 = omega arith in
    let le : length (decimal n) ≤ 9 = length-decimal-le 9 n (omega arith) (omega arith) small in
    record {
      filled = decimal_some n small;
      digits = decimal_digits n small;
      short = grind (arith, nat_tests);
      delimiter = h;
    }

digits_clean : (ds : List ℕ) → list_all is_ascii_digit ds ≡ true → IsClean ds
digits_clean [] h = tt
digits_clean (c ∷ ds) h = go (is_ascii_digit c) refl (digits_clean ds)
  where
    go : (b : Bool) → is_ascii_digit c ≡ b → (list_all is_ascii_digit ds ≡ true → IsClean ds) → IsClean
        (c ∷ ds)
    go true e i =
        (grind (arith, nat_tests), grind (arith, nat_tests), grind (arith, nat_tests), i (let w = rw e at h in w))
    go false e i = absurd (let w = rw e at h in cc)

-- a number's marker is no bullet
number_apart : (ds : List ℕ) (d : ℕ) (t : List ℕ) → IsNumber ds d
    → IsNotOf 42 ((ds ++ (d ∷ [])) ++ t) × IsNotOf 45 ((ds ++ (d ∷ [])) ++ t)
number_apart [] d t h = absurd (h.filled refl)
number_apart (c ∷ ds) d t h = go (is_ascii_digit c) refl
  where
    go : (b : Bool) → is_ascii_digit c ≡ b
        → IsNotOf 42 (c ∷ ((ds ++ (d ∷ [])) ++ t)) × IsNotOf 45 (c ∷ ((ds ++ (d ∷ [])) ++ t))
    go true e =
        let x : is_space_or_tab c ≡ false =
        (let a : (c == 32) ≡ false = grind (arith, nat_tests) in
        let b : (c == 9) ≡ false = grind (arith, nat_tests) in
        rw (a, b) refl) in (
          not_of 42 c ((ds ++ (d ∷ [])) ++ t) x (grind (arith, nat_tests)),
          not_of 45 c ((ds ++ (d ∷ [])) ++ t) x (grind (arith, nat_tests)),
        )
    go false e = absurd (let w = rw e at h.digits in cc)

-- ---- the markers of lists

abbrev pub IsBullet : Sign → Type 0
IsBullet Sign.Asterisk = Unit {0}
IsBullet Sign.Hyphen = Unit {0}
IsBullet Sign.FullStop = ⊥
IsBullet Sign.Parenthesis = ⊥

abbrev pub IsEnd : Sign → Type 0
IsEnd Sign.Asterisk = ⊥
IsEnd Sign.Hyphen = ⊥
IsEnd Sign.FullStop = Unit {0}
IsEnd Sign.Parenthesis = Unit {0}

-- the markers of so many items from this place on
abbrev pub AreMarkers : Markers → ℕ → ℕ → Type 0
AreMarkers (Bullets bullet spacing) k count = IsBullet bullet
AreMarkers (Numbers start highest delimiter spacing) k count = IsEnd delimiter × (start + k + count ≤ 1000000000)

pub next_markers : (m : Markers) (k n : ℕ) → AreMarkers m k (suc n) → AreMarkers m (suc k) n
next_markers (Bullets bullet spacing) k n h = h
next_markers (Numbers start highest delimiter spacing) k n h = (h.0, let w = h.1 in omega (arith, w))

bullet_is : (style : BulletListMarker) → IsBullet (usual_bullet style) × IsBullet (other_bullet style)
bullet_is Asterisk = (tt, tt)
bullet_is Dash = (tt, tt)

bullets_are : (style : BulletListMarker) (before outer : Option Sign) → IsBullet (bullet_of style before outer)
bullets_are style before outer =
    go (is_beside (usual_bullet style) before || is_beside (usual_bullet style) outer)
  where
    go : (b : Bool) → IsBullet (if b then other_bullet style else usual_bullet style)
    go true = (bullet_is style).1
    go false = (bullet_is style).0

delimiter_is : (before : Option Sign) → IsEnd (delimiter_of before)
delimiter_is before = go (is_beside Sign.FullStop before)
  where
    go : (b : Bool) → IsEnd (if b then Sign.Parenthesis else Sign.FullStop)
    go true = tt
    go false = tt

pub markers_are : (o : DocumentOptions) (before outer : Option Sign) (start : Option ℕ) (n : ℕ)
    → are_short_numbers start n ≡ true → AreMarkers (markers_of o before outer start n) 0 n
markers_are o before outer None n h = bullets_are o.bullet_list_marker before outer
markers_are o before outer (Some start) n h = (delimiter_is before, short)
  where
    short : start + 0 + n ≤ 1000000000
    short = grind (arith, nat_tests)

number_at : (n d : ℕ) → n < 1000000000 → is_one_of (codes ".)") d ≡ true
    → IsMarker (record { text = decimal n ++ (d ∷ []); sign = d; number = Some n })
number_at n d lt h =
    let small : n < 2 ^ 64 = omega arith in
    subst (λ (i : ℕ). IsMarker (record { text = decimal n ++ (d ∷ []); sign = d; number = Some i }))
    (decimal_number n small)
    (number_is_marker (decimal n) d (decimal_is_number n d lt h))

within_bound : (start k n : ℕ) → start + k + suc n ≤ 1000000000 → start + k < 1000000000
within_bound start k n h = omega arith

pub marker_is : (m : Markers) (k n : ℕ) → AreMarkers m k (suc n) → IsMarker (marker_at m k)
marker_is (Bullets Sign.Asterisk spacing) k n h = asterisk_is_marker
marker_is (Bullets Sign.Hyphen spacing) k n h = hyphen_is_marker
marker_is (Bullets Sign.FullStop spacing) k n h = absurd h
marker_is (Bullets Sign.Parenthesis spacing) k n h = absurd h
marker_is (Numbers start highest Sign.Asterisk spacing) k n h = absurd h.0
marker_is (Numbers start highest Sign.Hyphen spacing) k n h = absurd h.0
marker_is (Numbers start highest Sign.FullStop spacing) k n h =
    number_at (start + k) 46 (within_bound start k n h.1) refl
marker_is (Numbers start highest Sign.Parenthesis spacing) k n h =
    number_at (start + k) 41 (within_bound start k n h.1) refl

number_clean : (n d : ℕ) → n < 1000000000 → IsClean (d ∷ []) → IsClean (decimal n ++ (d ∷ []))
number_clean n d lt h =
    clean_append (decimal n) (d ∷ []) (digits_clean (decimal n) (decimal_digits n (omega arith))) h

pub marker_clean : (m : Markers) (k n : ℕ) → AreMarkers m k (suc n) → IsClean (marker m k)
marker_clean (Bullets Sign.Asterisk spacing) k n h = (refl, refl, refl, tt)
marker_clean (Bullets Sign.Hyphen spacing) k n h = (refl, refl, refl, tt)
marker_clean (Bullets Sign.FullStop spacing) k n h = absurd h
marker_clean (Bullets Sign.Parenthesis spacing) k n h = absurd h
marker_clean (Numbers start highest Sign.Asterisk spacing) k n h = absurd h.0
marker_clean (Numbers start highest Sign.Hyphen spacing) k n h = absurd h.0
marker_clean (Numbers start highest Sign.FullStop spacing) k n h =
    number_clean (start + k) 46 (within_bound start k n h.1) (refl, refl, refl, tt)
marker_clean (Numbers start highest Sign.Parenthesis spacing) k n h =
    number_clean (start + k) 41 (within_bound start k n h.1) (refl, refl, refl, tt)

-- ---- a list that begins an item of bullets

abbrev pub IsOther : Sign → List ℕ → Type 0
IsOther Sign.Asterisk s = IsNotOf 42 s
IsOther Sign.Hyphen s = IsNotOf 45 s
IsOther Sign.FullStop s = Unit {0}
IsOther Sign.Parenthesis s = Unit {0}

other_bullets : (style : BulletListMarker) (outer : Sign) (t : List ℕ) → IsBullet outer
    → IsOther outer (sign_text (bullet_of style None (Some outer)) ++ t)
other_bullets Asterisk Sign.Asterisk t h = refl
other_bullets Asterisk Sign.Hyphen t h = refl
other_bullets Dash Sign.Asterisk t h = refl
other_bullets Dash Sign.Hyphen t h = refl
other_bullets style Sign.FullStop t h = absurd h
other_bullets style Sign.Parenthesis t h = absurd h

other_numbers : (outer : Sign) (n d : ℕ) (t : List ℕ) → IsBullet outer → n < 1000000000
    → is_one_of (codes ".)") d ≡ true → IsOther outer ((decimal n ++ (d ∷ [])) ++ t)
other_numbers Sign.Asterisk n d t b lt h = (number_apart (decimal n) d t (decimal_is_number n d lt h)).0
other_numbers Sign.Hyphen n d t b lt h = (number_apart (decimal n) d t (decimal_is_number n d lt h)).1
other_numbers Sign.FullStop n d t b lt h = absurd b
other_numbers Sign.Parenthesis n d t b lt h = absurd b

-- the text of the first marker of a list at the beginning of an item isn't of the item's bullet
pub other_marker : (o : DocumentOptions) (outer : Sign) (start : Option ℕ) (n : ℕ) (t : List ℕ) → IsBullet outer
    → are_short_numbers start (suc n) ≡ true
    → IsOther outer (marker (markers_of o None (Some outer) start (suc n)) 0 ++ t)
other_marker o outer None n t b h = other_bullets o.bullet_list_marker outer t b
other_marker o outer (Some start) n t b h =
    other_numbers outer (start + 0) 46 t b (grind (arith, nat_tests)) refl
