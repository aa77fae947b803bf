-- A piece of a page's text is put as one text: what its characters give one after another.
use Rattle.std.proofs.Common.{◌≡◌, ℕ, zero, suc, ◌+◌, ◌-◌, ◌<◌, ◌≤◌, Bool, true, false, not, ◌&&◌, ◌||◌, ◌==◌, cond}
use Rattle.std.proofs.Common.{List, [], ◌∷◌, ◌++◌}
use Rattle.std.proofs.Common.{map, length, take, get_or, fold, refl, sym, ap, subst, ◌∙◌, arith, append_assoc}
use Rattle.std.proofs.Common.{if◌then◌else◌, ◌⊎◌, inl, inr, ⊎_elim}
use Rattle.std.specs.Prelude.{encode_utf8, encode_utf8_all, reverse, nat_lt}
use Rattle.std.specs.List.{list_all, prefix_len, suffix_len}
use Rattle.std.specs.Str.{chars}
use Rattle.std.proofs.lemmas.Bool.Decides.{nat_tests}
use Rattle.std.proofs.lemmas.List.{append-nil, length-map, length-append, take_all, reverse-append}
use Rattle.std.proofs.lemmas.List.Folds.{prefix_len-append}
use Rattle.std.proofs.lemmas.List.Sums.{suffix_len-le-length, fold-append}
use Rattle.std.proofs.lemmas.Str.{inside_one, encode_ascii, length-encode, len_utf8_bounds}
use Rattle.htmd_lexical.specs.Characters.{space}
use Rattle.htmd_lexical.specs.WhiteSpace.{is_ascii_white_space}
use Rattle.htmd_lexical.proofs.Cases.{test}
use Rattle.htmd_lexical.proofs.CharacterClassesLemmas.{white_is_ascii}
use Rattle.htmd_text.specs.SqueezedTexts.{squeezed_text}
use Rattle.htmd_text.specs.Trims.{trimmed_end}
use Rattle.htmd_text.proofs.WhiteSpaceLemmas.{other_stays}
use Rattle.htmd_document.specs.Documents.{Inlines}
use Rattle.htmd_flow.specs.Nesting.{wrapper_of, shared, behind, text_or_code}
use Rattle.htmd_flow.specs.declared.paragraphs.Met.TheVariants as met
use Rattle.htmd_flow.specs.Paragraphs.{Writing, parted, ended, shown, after_leaf, after_character}
use Rattle.htmd_flow.specs.Paragraphs.{gap_behind, put_before, shared_wrappers}
use Rattle.htmd_flow.specs.Paragraphs.{latest_of, spaced_out, white_behind, is_code_gap}
use Rattle.htmd_flow.specs.Parts.{Around}
use Rattle.htmd_shown.specs.Spaces.{no_gap, shown_white, is_white, is_wide_space, ends_with_space}
use Rattle.htmd_flow.proofs.NestingLemmas.{behind-texts}
use Rattle.htmd_flow.proofs.ParagraphsLemmas.{shared-self, wrappers-le}
use Rattle.htmd_flow.proofs.PiecesLemmas.{trimmed-passing, trimmed-failing}
use Rattle.htmd_shown.proofs.SpacesLemmas.{front-some}

-- ---- tests

and-false : (b : Bool) → (b && false) ≡ false
and-false true = refl
and-false false = refl

both-true : (a b : Bool) → (a && b) ≡ true → (a ≡ true) × (b ≡ true)
both-true true b h = (refl, h)
both-true false b h = cc

and-true : (a b : Bool) → a ≡ true → b ≡ true → (a && b) ≡ true
and-true true b e h = h
and-true false b e h = cc

neither : (a b : Bool) → (a || b) ≡ false → (a ≡ false) × (b ≡ false)
neither true b h = cc
neither false b h = (refl, h)

not-true : (b : Bool) → not b ≡ true → b ≡ false
not-true true h = cc
not-true false h = refl

not-false : (b : Bool) → b ≡ false → not b ≡ true
not-false true h = cc
not-false false h = refl

-- ---- bytes that are no ASCII white space

abbrev is_other : ℕ → Bool
is_other b = not (is_ascii_white_space b)

all-from : (p : ℕ → Bool) (s : List ℕ) → ((k : ℕ) → k < length s → p (get_or s k 0) ≡ true)
    → list_all p s ≡ true
all-from p [] h = refl
all-from p (b ∷ s) h =
    and-true (p b) (list_all p s) (h 0 (omega arith)) (all-from p s (λ k l. h (suc k) (omega arith)))

wide-other : (b : ℕ) → 128 ≤ b → is_other b ≡ true
wide-other b h = test (is_ascii_white_space b)
    (λ e. absurd (omega (arith, white_is_ascii b e)))
    (λ e. not-false (is_ascii_white_space b) e)

-- the bytes of a character that is none
other-bytes : (c : ℕ) → is_ascii_white_space c ≡ false → list_all is_other (encode_utf8 c) ≡ true
other-bytes c h = all-from is_other (encode_utf8 c) at
  where
    at : (k : ℕ) → k < length (encode_utf8 c) → is_other (get_or (encode_utf8 c) k 0) ≡ true
    at k l = test (nat_lt (get_or (encode_utf8 c) k 0) 128)
        (λ e. subst (λ (x : ℕ). is_other x ≡ true)
        (inside_one c [] (encode_utf8 c) k (sym (append-nil (encode_utf8 c))) l (grind (arith, nat_tests)))
        (not-false (is_ascii_white_space c) h))
        (λ e. wide-other (get_or (encode_utf8 c) k 0) (grind (arith, nat_tests)))

some-bytes : (c : ℕ) → 0 < length (encode_utf8 c)
some-bytes c = omega (arith, length-encode c, (len_utf8_bounds c).0)

-- ---- squeezed bytes

others-stay : (xs t : List ℕ) → list_all is_other xs ≡ true → squeezed_text (xs ++ t) ≡ xs ++ squeezed_text t
others-stay [] t h = refl
others-stay (b ∷ xs) t h =
    let parts = both-true (is_other b) (list_all is_other xs) h in
    other_stays b (xs ++ t) (not-true (is_ascii_white_space b) parts.0)
    ∙ ap (λ l. b ∷ l) (others-stay xs t parts.1)

squeezed-character : (c : ℕ) (t : List ℕ) → is_ascii_white_space c ≡ false
    → squeezed_text (encode_utf8 c ++ t) ≡ encode_utf8 c ++ squeezed_text t
squeezed-character c t h = others-stay (encode_utf8 c) t (other-bytes c h)

-- without the ASCII white space at the beginning
abbrev skipped : List ℕ → List ℕ
skipped [] = []
skipped (b ∷ s) = cond (is_ascii_white_space b) (skipped s) (b ∷ s)

others-kept : (xs t : List ℕ) → 0 < length xs → list_all is_other xs ≡ true → skipped (xs ++ t) ≡ xs ++ t
others-kept [] t l h = absurd (omega arith)
others-kept (b ∷ xs) t l h =
    ap (λ w. cond w (skipped (xs ++ t)) (b ∷ xs ++ t))
    (not-true (is_ascii_white_space b) (both-true (is_other b) (list_all is_other xs) h).0)

skipped-character : (c : ℕ) (t : List ℕ) → is_ascii_white_space c ≡ false
    → skipped (encode_utf8 c ++ t) ≡ encode_utf8 c ++ t
skipped-character c t h = others-kept (encode_utf8 c) t (some-bytes c) (other-bytes c h)

white-byte : (c : ℕ) → is_ascii_white_space c ≡ true → encode_utf8 c ≡ c ∷ []
white-byte c h = encode_ascii c (white_is_ascii c h)

-- white space and what follows it, where that is not white space alone
white-squeezed : (u : ℕ) (t : List ℕ) → is_ascii_white_space u ≡ true → 0 < length (skipped t)
    → squeezed_text (u ∷ t) ≡ space ∷ squeezed_text (skipped t)
white-squeezed u [] w h = absurd (omega arith)
white-squeezed u (x ∷ t) w h =
    let first : squeezed_text (u ∷ x ∷ t)
    ≡ cond (is_ascii_white_space x) (squeezed_text (x ∷ t)) (space ∷ squeezed_text (x ∷ t)) =
    ap (λ b. cond b (cond (is_ascii_white_space x) (squeezed_text (x ∷ t)) (space ∷ squeezed_text (x ∷ t)))
    (u ∷ squeezed_text (x ∷ t))) w in
    test (is_ascii_white_space x)
    (λ e.
    let same : skipped (x ∷ t) ≡ skipped t = ap (λ b. cond b (skipped t) (x ∷ t)) e in
    first ∙ (ap (λ b. cond b (squeezed_text (x ∷ t)) (space ∷ squeezed_text (x ∷ t))) e
    ∙ (white-squeezed x t e (subst (λ (l : List ℕ). 0 < length l) same h)
    ∙ ap (λ l. space ∷ squeezed_text l) (sym same))))
    (λ e.
    let same : skipped (x ∷ t) ≡ x ∷ t = ap (λ b. cond b (skipped t) (x ∷ t)) e in
    first ∙ (ap (λ b. cond b (squeezed_text (x ∷ t)) (space ∷ squeezed_text (x ∷ t))) e
    ∙ ap (λ l. space ∷ squeezed_text l) (sym same)))

-- ---- a gap that ends with a space, or doesn't

ends-space : (g : List ℕ) → ends_with_space (g ++ space ∷ []) ≡ true
ends-space [] = refl
ends-space (b ∷ []) = refl
ends-space (b ∷ c ∷ g) = ends-space (c ∷ g)

ends-other : (xs : List ℕ) → list_all is_other xs ≡ true → ends_with_space xs ≡ false
ends-other [] h = refl
ends-other (b ∷ []) h = test (b == space)
    (λ e.
    let same : b ≡ space = grind (arith, nat_tests, e) in
    let no : false ≡ true = subst (λ (x : ℕ). list_all is_other (x ∷ []) ≡ true) same h in
    cc)
    (λ e. e)
ends-other (b ∷ c ∷ s) h = ends-other (c ∷ s) (both-true (is_other b) (list_all is_other (c ∷ s)) h).1

ends-append : (g xs : List ℕ) → 0 < length xs → ends_with_space (g ++ xs) ≡ ends_with_space xs
ends-append [] xs h = refl
ends-append (b ∷ g) [] h = absurd (omega arith)
ends-append (b ∷ []) (x ∷ xs) h = refl
ends-append (b ∷ c ∷ g) (x ∷ xs) h = ends-append (c ∷ g) (x ∷ xs) h

-- ---- the states of a piece that is fed

-- a text was shown, and white space came after it
abbrev waiting : Writing → List Around → Bool → List ℕ → List ℕ → Bool → Writing
waiting v around is_code s g b = record (shown v around is_code (text_or_code is_code s)) {
  gap = record { white = g; has_break = false; is_code = b };
}

number-same : (n : ℕ) → (n == n) ≡ true
number-same n = grind (arith, nat_tests)

same-gap : (v : Writing) (around : List Around) (is_code : Bool) (s g : List ℕ) (b : Bool)
    → (is_code ≡ true → b ≡ true)
    → (is_code && is_code_gap (waiting v around is_code s g b) (map wrapper_of around)) ≡ is_code
same-gap v around false s g b code = refl
same-gap v around true s g b code =
    let all : b ≡ true = code refl in
    let size : (shared (map wrapper_of around) (map wrapper_of around) == length (map wrapper_of around)) ≡ true =
    ap (λ n. n == length (map wrapper_of around)) (shared-self (map wrapper_of around))
    ∙ number-same (length (map wrapper_of around)) in
    rw (all, size) refl

gap-put : (xs : Inlines) (n : ℕ) (around : List Around) (is_code w : Bool) (x : ℕ) (g : List ℕ)
    → n ≡ length around
    → w ≡ is_code
    → white_behind n xs around w (x ∷ g) ≡ behind (length around) xs around (text_or_code is_code (x ∷ g))
gap-put xs n around is_code w x g e same =
    ap (λ m. behind m xs (take m around) (text_or_code w (x ∷ g))) e
    ∙ (ap (λ l. behind (length around) xs l (text_or_code w (x ∷ g)))
    (take_all (length around) around (omega arith))
    ∙ ap (λ b. behind (length around) xs around (text_or_code b (x ∷ g))) same)

all-shared : (around : List Around) → shared (map wrapper_of around) (map wrapper_of around) ≡ length around
all-shared around = shared-self (map wrapper_of around) ∙ length-map around wrapper_of

twice : (v : Writing) (around : List Around) (is_code : Bool) (s t : List ℕ)
    → behind (length around) (shown v around is_code (text_or_code is_code s)).content around (text_or_code is_code t)
    ≡ (shown v around is_code (text_or_code is_code (s ++ t))).content
twice v around is_code s t =
    behind-texts (shared_wrappers v (map wrapper_of around)) (put_before v around is_code) around is_code s t
    (rw (length-map around wrapper_of) at (wrappers-le v (map wrapper_of around)))

gap-content : (v : Writing) (around : List Around) (is_code : Bool) (s g : List ℕ) (b : Bool)
    → (is_code ≡ true → b ≡ true)
    → gap_behind (latest_of is_code) (waiting v around is_code s g b) around is_code
    ≡ (shown v around is_code (text_or_code is_code (s ++ g))).content
gap-content v around true s [] b code =
    ap (λ t. (shown v around true (text_or_code true t)).content) (sym (append-nil s))
gap-content v around false s [] b code =
    ap (λ t. (shown v around false (text_or_code false t)).content) (sym (append-nil s))
gap-content v around true s (x ∷ g) b code =
    gap-put (shown v around true (text_or_code true s)).content (shared (map wrapper_of around) (map wrapper_of around))
    around true _ x g (all-shared around) (same-gap v around true s (x ∷ g) b code)
    ∙ twice v around true s (x ∷ g)
gap-content v around false s (x ∷ g) b code =
    gap-put (shown v around false (text_or_code false s)).content
    (shared (map wrapper_of around) (map wrapper_of around))
    around false _ x g (all-shared around) (same-gap v around false s (x ∷ g) b code)
    ∙ twice v around false s (x ∷ g)

place-again : (v : Writing) (around : List Around) (is_code : Bool) (s g : List ℕ) (b : Bool)
    → shared_wrappers (waiting v around is_code s g b) (map wrapper_of around) ≡ length around
place-again v around true s g b = all-shared around
place-again v around false s g b = all-shared around

content-again : (v : Writing) (around : List Around) (is_code : Bool) (s g t : List ℕ) (b : Bool)
    → (is_code ≡ true → b ≡ true)
    → (shown (waiting v around is_code s g b) around is_code (text_or_code is_code t)).content
    ≡ (shown v around is_code (text_or_code is_code (s ++ (g ++ t)))).content
content-again v around is_code s g t b code =
    let w : Writing = waiting v around is_code s g b in
    ap (λ xs. behind (shared_wrappers w (map wrapper_of around)) xs around (text_or_code is_code t))
    (gap-content v around is_code s g b code)
    ∙ (ap (λ k. behind k (shown v around is_code (text_or_code is_code (s ++ g))).content around
    (text_or_code is_code t)) (place-again v around is_code s g b)
    ∙ (twice v around is_code (s ++ g) t
    ∙ ap (λ l. (shown v around is_code (text_or_code is_code l)).content) (append_assoc s g t)))

unparted : (v : Writing) (around : List Around) (is_code : Bool) (s g : List ℕ) (b : Bool)
    → parted (waiting v around is_code s g b) ≡ waiting v around is_code s g b
unparted v around is_code s g b =
    ap (λ c. if c then ended (waiting v around is_code s g b) else waiting v around is_code s g b)
    (and-false (not v.is_flat))

-- one more character that is no white space
plain-step : (v : Writing) (around : List Around) (is_code : Bool) (s g : List ℕ) (b : Bool) (c : ℕ)
    → is_white c ≡ false → (is_code ≡ true → b ≡ true)
    → after_character (waiting v around is_code s g b) around is_code c
    ≡ shown v around is_code (text_or_code is_code (s ++ (g ++ encode_utf8 c)))
plain-step v around is_code s g b c plain code =
    let w : Writing = waiting v around is_code s g b in
    ap (λ x. if x then spaced_out w c is_code
    else after_leaf w around is_code (text_or_code is_code (encode_utf8 c))) plain
    ∙ (ap (λ u. shown u around is_code (text_or_code is_code (encode_utf8 c)))
    (unparted v around is_code s g b)
    ∙ ap (λ xs. record v {
      content = xs;
      latest = latest_of is_code;
      around = map wrapper_of around;
      gap = no_gap;
      is_blank = false;
      breaks = 0;
      met = met.More;
      anchors = [];
    }) (content-again v around is_code s g (encode_utf8 c) b code))

-- one more white space: it goes, or it waits
white-step : (v : Writing) (around : List Around) (is_code : Bool) (s g : List ℕ) (b : Bool) (c : ℕ)
    → is_white c ≡ true
    → after_character (waiting v around is_code s g b) around is_code c
    ≡ (if is_ascii_white_space c && ends_with_space g then waiting v around is_code s g b
    else waiting v around is_code s (g ++ encode_utf8 (shown_white c)) (b && is_code))
white-step v around is_code s g b c white =
    let w : Writing = waiting v around is_code s g b in
    ap (λ x. if x then spaced_out w c is_code
    else after_leaf w around is_code (text_or_code is_code (encode_utf8 c))) white
    ∙ by-test (is_ascii_white_space c && ends_with_space g)
  where
    by-test : (x : Bool) → record (waiting v around is_code s g b) {
      gap = if x then record { white = g; has_break = false; is_code = b }
          else record { white = g ++ encode_utf8 (shown_white c); has_break = false; is_code = b && is_code };
      is_blank = false;
    }
        ≡ (if x then waiting v around is_code s g b
        else waiting v around is_code s (g ++ encode_utf8 (shown_white c)) (b && is_code))
    by-test true = refl
    by-test false = refl

code-kept : (is_code b : Bool) → (is_code ≡ true → b ≡ true) → is_code ≡ true → (b && is_code) ≡ true
code-kept is_code b code e = and-true b is_code (code e) e

-- ---- a piece

-- the last characters of a piece show something
end-shows : (us : List ℕ) (c : ℕ) → is_white c ≡ false
    → 0 < length (skipped (encode_utf8_all (us ++ c ∷ [])))
end-shows [] c plain =
    let other = (neither (is_ascii_white_space c) (is_wide_space c) plain).0 in
    rw (skipped-character c [] other) (omega (arith, length-append (encode_utf8 c) [], some-bytes c))
end-shows (u ∷ us) c plain =
    let t : List ℕ = encode_utf8_all (us ++ c ∷ []) in
    test (is_ascii_white_space u)
    (λ e.
    let same : skipped (encode_utf8 u ++ t) ≡ skipped t =
    ap (λ l. skipped (l ++ t)) (white-byte u e) ∙ ap (λ b. cond b (skipped t) (u ∷ t)) e in
    subst (λ (l : List ℕ). 0 < length l) (sym same) (end-shows us c plain))
    (λ e. rw (skipped-character u t e) (omega (arith, length-append (encode_utf8 u) t, some-bytes u)))

-- what follows a gap, squeezed
abbrev after_gap : List ℕ → List ℕ → List ℕ
after_gap g t = squeezed_text (cond (ends_with_space g) (skipped t) t)

after-plain : (g : List ℕ) (c : ℕ) (t : List ℕ) → is_ascii_white_space c ≡ false
    → after_gap g (encode_utf8 c ++ t) ≡ encode_utf8 c ++ squeezed_text t
after-plain g c t other = by-test (ends_with_space g)
  where
    by-test : (x : Bool) → squeezed_text (cond x (skipped (encode_utf8 c ++ t)) (encode_utf8 c ++ t))
        ≡ encode_utf8 c ++ squeezed_text t
    by-test true = ap squeezed_text (skipped-character c t other) ∙ squeezed-character c t other
    by-test false = squeezed-character c t other

abbrev step : List Around → Bool → Writing → ℕ → Writing
step around is_code w c = after_character w around is_code c

pub piece-more : (us : List ℕ) (c : ℕ) (v : Writing) (around : List Around) (is_code : Bool) (s g : List ℕ)
    (b : Bool)
    → is_white c ≡ false → (is_code ≡ true → b ≡ true)
    → fold (step around is_code) (waiting v around is_code s g b) (us ++ c ∷ [])
    ≡ shown v around is_code (text_or_code is_code (s ++ (g ++ after_gap g (encode_utf8_all (us ++ c ∷ [])))))
piece-more [] c v around is_code s g b plain code =
    plain-step v around is_code s g b c plain code
    ∙ ap (λ l. shown v around is_code (text_or_code is_code (s ++ (g ++ l))))
    (sym (after-plain g c [] (neither (is_ascii_white_space c) (is_wide_space c) plain).0
    ∙ append-nil (encode_utf8 c)))
piece-more (u ∷ us) c v around is_code s g b plain code =
    let t : List ℕ = encode_utf8_all (us ++ c ∷ []) in
    let put : List ℕ → Writing = λ l. shown v around is_code (text_or_code is_code l) in
    let all : Writing → Writing = λ w. fold (step around is_code) w (us ++ c ∷ []) in
    test (is_white u)
    (λ white. test (is_ascii_white_space u)
    (λ ascii.
    let whole : encode_utf8 u ++ t ≡ u ∷ t = ap (λ l. l ++ t) (white-byte u ascii) in
    test (ends_with_space g)
    (λ ends.
    let same : after_character (waiting v around is_code s g b) around is_code u ≡ waiting v around is_code s g b =
    white-step v around is_code s g b u white
    ∙ ap (λ x. if x then waiting v around is_code s g b
    else waiting v around is_code s (g ++ encode_utf8 (shown_white u)) (b && is_code))
    (and-true (is_ascii_white_space u) (ends_with_space g) ascii ends) in
    let rest : after_gap g t ≡ after_gap g (encode_utf8 u ++ t) =
    ap (λ x. squeezed_text (cond x (skipped t) t)) ends
    ∙ (ap squeezed_text (sym (ap (λ x. cond x (skipped t) (u ∷ t)) ascii))
    ∙ (ap (λ x. squeezed_text (cond x (skipped (u ∷ t)) (u ∷ t))) (sym ends)
    ∙ ap (after_gap g) (sym whole))) in
    ap all same ∙ (piece-more us c v around is_code s g b plain code ∙ ap (λ l. put (s ++ (g ++ l))) rest))
    (λ apart.
    let no : (is_ascii_white_space u && ends_with_space g) ≡ false =
    ap (λ x. is_ascii_white_space u && x) apart ∙ and-false (is_ascii_white_space u) in
    let shown-as : encode_utf8 (shown_white u) ≡ space ∷ [] =
    ap (λ x. encode_utf8 (if x then space else u)) ascii ∙ white-byte space refl in
    let more : after_character (waiting v around is_code s g b) around is_code u
    ≡ waiting v around is_code s (g ++ space ∷ []) (b && is_code) =
    white-step v around is_code s g b u white
    ∙ (ap (λ x. if x then waiting v around is_code s g b
    else waiting v around is_code s (g ++ encode_utf8 (shown_white u)) (b && is_code)) no
    ∙ ap (λ l. waiting v around is_code s (g ++ l) (b && is_code)) shown-as) in
    let rest : (g ++ space ∷ []) ++ after_gap (g ++ space ∷ []) t ≡ g ++ after_gap g (encode_utf8 u ++ t) =
    append_assoc g (space ∷ []) (after_gap (g ++ space ∷ []) t)
    ∙ (ap (λ x. g ++ space ∷ squeezed_text (cond x (skipped t) t)) (ends-space g)
    ∙ (ap (λ l. g ++ l) (sym (white-squeezed u t ascii (end-shows us c plain)))
    ∙ (ap (λ x. g ++ squeezed_text (cond x (skipped (u ∷ t)) (u ∷ t))) (sym apart)
    ∙ ap (λ l. g ++ after_gap g l) (sym whole)))) in
    ap all more
    ∙ (piece-more us c v around is_code s (g ++ space ∷ []) (b && is_code) plain (code-kept is_code b code)
    ∙ ap (λ l. put (s ++ l)) rest)))
    (λ other.
    let no : (is_ascii_white_space u && ends_with_space g) ≡ false = ap (λ x. x && ends_with_space g) other in
    let shown-as : encode_utf8 (shown_white u) ≡ encode_utf8 u =
    ap (λ x. encode_utf8 (if x then space else u)) other in
    let more : after_character (waiting v around is_code s g b) around is_code u
    ≡ waiting v around is_code s (g ++ encode_utf8 u) (b && is_code) =
    white-step v around is_code s g b u white
    ∙ (ap (λ x. if x then waiting v around is_code s g b
    else waiting v around is_code s (g ++ encode_utf8 (shown_white u)) (b && is_code)) no
    ∙ ap (λ l. waiting v around is_code s (g ++ l) (b && is_code)) shown-as) in
    let closed : ends_with_space (g ++ encode_utf8 u) ≡ false =
    ends-append g (encode_utf8 u) (some-bytes u) ∙ ends-other (encode_utf8 u) (other-bytes u other) in
    let rest : (g ++ encode_utf8 u) ++ after_gap (g ++ encode_utf8 u) t ≡ g ++ after_gap g (encode_utf8 u ++ t) =
    append_assoc g (encode_utf8 u) (after_gap (g ++ encode_utf8 u) t)
    ∙ (ap (λ x. g ++ (encode_utf8 u ++ squeezed_text (cond x (skipped t) t))) closed
    ∙ ap (λ l. g ++ l) (sym (after-plain g u t other))) in
    ap all more
    ∙ (piece-more us c v around is_code s (g ++ encode_utf8 u) (b && is_code) plain (code-kept is_code b code)
    ∙ ap (λ l. put (s ++ l)) rest)))
    (λ shows.
    let other = (neither (is_ascii_white_space u) (is_wide_space u) shows).0 in
    let rest : (s ++ (g ++ encode_utf8 u)) ++ squeezed_text t ≡ s ++ (g ++ after_gap g (encode_utf8 u ++ t)) =
    append_assoc s (g ++ encode_utf8 u) (squeezed_text t)
    ∙ (ap (λ l. s ++ l) (append_assoc g (encode_utf8 u) (squeezed_text t))
    ∙ ap (λ l. s ++ (g ++ l)) (sym (after-plain g u t other))) in
    ap all (plain-step v around is_code s g b u shows code)
    ∙ (piece-more us c v around is_code (s ++ (g ++ encode_utf8 u)) [] true plain (λ _. refl)
    ∙ ap put rest))

-- ---- a text without the white space at its end

abbrev EndsPlain : List ℕ → Type 0
EndsPlain xs = (xs ≡ []) ⊎ ((us : List ℕ) × (c : ℕ) × (xs ≡ us ++ c ∷ []) × (is_white c ≡ false))

snoc-of : (x : ℕ) (xs : List ℕ) → (us : List ℕ) × (c : ℕ) × (x ∷ xs ≡ us ++ c ∷ [])
snoc-of x [] = ([], x, refl)
snoc-of x (y ∷ xs) = let r = snoc-of y xs in (x ∷ r.0, r.1, ap (λ l. x ∷ l) r.2)

trimmed-shape : (n : ℕ) (xs : List ℕ) → length xs ≤ n → EndsPlain (trimmed_end is_white xs)
trimmed-shape n [] h = inl refl
trimmed-shape zero (x ∷ xs) h = absurd (omega arith)
trimmed-shape (suc n) (x ∷ xs) h =
    let r = snoc-of x xs in
    let size : length (x ∷ xs) ≡ length r.0 + 1 = ap length r.2 ∙ length-append r.0 (r.1 ∷ []) in
    test (is_white r.1)
    (λ e. subst EndsPlain (sym (ap (trimmed_end is_white) r.2 ∙ trimmed-passing is_white r.0 r.1 e))
    (trimmed-shape n r.0 (omega (arith, size))))
    (λ e. inr (r.0, r.1, ap (trimmed_end is_white) r.2 ∙ trimmed-failing is_white r.0 r.1 e, e))

failing-suffix : (p : ℕ → Bool) (c : ℕ) (xs : List ℕ) → p c ≡ false
    → suffix_len p (c ∷ xs) ≡ suffix_len p xs
failing-suffix p c xs h =
    let none : prefix_len p (c ∷ []) ≡ 0 = ap (λ b. cond b 1 0) h in
    ap (prefix_len p) (reverse-append (c ∷ []) xs)
    ∙ (prefix_len-append p (reverse xs) (c ∷ [])
    ∙ by-test (prefix_len p (reverse xs) == length (reverse xs)) refl none)
  where
    by-test : (b : Bool) → (prefix_len p (reverse xs) == length (reverse xs)) ≡ b → prefix_len p (c ∷ []) ≡ 0
        → cond b (length (reverse xs) + prefix_len p (c ∷ [])) (prefix_len p (reverse xs))
        ≡ prefix_len p (reverse xs)
    by-test true e none = grind (arith, nat_tests, e, none)
    by-test false e none = refl

trimmed-cons : (p : ℕ → Bool) (c : ℕ) (xs : List ℕ) → p c ≡ false
    → trimmed_end p (c ∷ xs) ≡ c ∷ trimmed_end p xs
trimmed-cons p c xs h =
    let within = suffix_len-le-length p xs in
    let size : length (c ∷ xs) - suffix_len p (c ∷ xs) ≡ suc (length xs - suffix_len p xs) =
    omega (arith, failing-suffix p c xs h) in
    ap (λ n. take n (c ∷ xs)) size

-- a piece is fed: its first character shows, and its last one
pub piece-fed : (c : ℕ) (more : List ℕ) (w : Writing) (around : List Around) (is_code : Bool)
    → is_white c ≡ false
    → EndsPlain more
    → fold (step around is_code) w (c ∷ more)
    ≡ after_leaf w around is_code (text_or_code is_code (squeezed_text (encode_utf8_all (c ∷ more))))
piece-fed c more w around is_code plain shape =
    let other = (neither (is_ascii_white_space c) (is_wide_space c) plain).0 in
    let v : Writing = parted w in
    let put : List ℕ → Writing = λ l. shown v around is_code (text_or_code is_code l) in
    let first : after_character w around is_code c ≡ put (encode_utf8 c) =
    ap (λ b. if b then spaced_out w c is_code
    else after_leaf w around is_code (text_or_code is_code (encode_utf8 c))) plain in
    let last : put (encode_utf8 c ++ squeezed_text (encode_utf8_all more))
    ≡ put (squeezed_text (encode_utf8_all (c ∷ more))) =
    ap put (sym (squeezed-character c (encode_utf8_all more) other)) in
    let middle : fold (step around is_code) (put (encode_utf8 c)) more
    ≡ put (encode_utf8 c ++ squeezed_text (encode_utf8_all more)) =
    ⊎_elim
    (λ (none : more ≡ []). ap (λ xs. fold (step around is_code) (put (encode_utf8 c)) xs) none
    ∙ (ap put (sym (append-nil (encode_utf8 c)))
    ∙ ap (λ xs. put (encode_utf8 c ++ squeezed_text (encode_utf8_all xs))) (sym none)))
    (λ (r : (us : List ℕ) × (d : ℕ) × (more ≡ us ++ d ∷ []) × (is_white d ≡ false)).
    ap (λ xs. fold (step around is_code) (put (encode_utf8 c)) xs) r.2
    ∙ (piece-more r.0 r.1 v around is_code (encode_utf8 c) [] true r.3 (λ _. refl)
    ∙ ap (λ xs. put (encode_utf8 c ++ squeezed_text (encode_utf8_all xs))) (sym r.2)))
    shape in
    ap (λ u. fold (step around is_code) u more) first ∙ (middle ∙ last)

-- a piece is read, and what follows it
pub piece-read : (w w' : Writing) (around : List Around) (is_code : Bool) (s piece after : List ℕ) (c : ℕ)
    (more : List ℕ) → chars s ≡ c ∷ more → is_white c ≡ false
    → piece ≡ encode_utf8_all (trimmed_end is_white (chars s))
    → chars s ≡ trimmed_end is_white (chars s) ++ chars after
    → w' ≡ after_leaf w around is_code (text_or_code is_code (squeezed_text piece))
    → fold (step around is_code) w' (chars after) ≡ fold (step around is_code) w (chars s)
piece-read w w' around is_code s piece after c more begins plain p cut e =
    let shape : EndsPlain (trimmed_end is_white more) = trimmed-shape (length more) more (omega arith) in
    let whole : trimmed_end is_white (chars s) ≡ c ∷ trimmed_end is_white more =
    ap (trimmed_end is_white) begins ∙ trimmed-cons is_white c more plain in
    let read : w' ≡ fold (step around is_code) w (trimmed_end is_white (chars s)) =
    e ∙ (ap (λ l. after_leaf w around is_code (text_or_code is_code (squeezed_text l)))
    (p ∙ ap encode_utf8_all whole)
    ∙ (sym (piece-fed c (trimmed_end is_white more) w around is_code plain shape)
    ∙ ap (fold (step around is_code) w) (sym whole))) in
    ap (λ u. fold (step around is_code) u (chars after)) read
    ∙ (sym (fold-append (step around is_code) w (trimmed_end is_white (chars s)) (chars after))
    ∙ ap (fold (step around is_code) w) (sym cut))

-- a piece takes some bytes
pub piece-some : (s : List ℕ) (c : ℕ) (more : List ℕ) → chars s ≡ c ∷ more → is_white c ≡ false
    → 0 < length (encode_utf8_all (trimmed_end is_white (chars s)))
piece-some s c more begins plain =
    subst (λ (l : List ℕ). 0 < length (encode_utf8_all l))
    (sym (ap (trimmed_end is_white) begins ∙ trimmed-cons is_white c more plain))
    (front-some c (trimmed_end is_white more))
