-- Texts as they are shown, and what is written of them.
use Rattle.std.proofs.Common.{◌≡◌, ℕ, zero, suc, ◌+◌, ◌-◌, ◌<◌, ◌≤◌, Bool, true, false, cond, List, [], ◌∷◌, ◌++◌}
use Rattle.std.proofs.Common.{length, get_or, drop, refl, sym, ap, ◌∙◌, subst, arith, All, ⊎_elim, nat_lt}
use Rattle.std.specs.Prelude.{◌==◌}
use Rattle.std.specs.Char.{is_ascii_punctuation}
use Rattle.std.specs.List.{prefix_len, suffix_len}
use Rattle.std.proofs.lemmas.Bool.{cases_lt, false≢true, false_from_ne_true}
use Rattle.std.proofs.lemmas.Bool.Decides.{nat_tests}
use Rattle.std.proofs.lemmas.List.{get_or_append_left, get_or-append_right}
use Rattle.std.proofs.lemmas.List.Elements.{All-nil, All-cons, All-head, All-tail, All-take, All-drop, All-weaker}
use Rattle.htmd_lexical.specs.Characters.{space, backslash}
use Rattle.htmd_text.specs.Trims.{trimmed_end, is_space, is_line_feed}
use Rattle.htmd_lexical.specs.WhiteSpace.{is_ascii_white_space, is_document_white_space, begins_with_white_space}
use Rattle.htmd_text.specs.SqueezedTexts.{squeezed_text}
use Rattle.htmd_text.specs.EscapedPlaces.{with_backslashes, is_escaped, escaped_markdown}
use Rattle.htmd_text.specs.Unescape.{unescape}
use Rattle.htmd_text.proofs.EscapeKindsLemmas.{marked_is_punctuation, unmarked_is_no_backslash}
use Rattle.htmd_text.proofs.UnescapeLemmas.{reads_back}
use Rattle.htmd_text.proofs.WhiteSpaceLemmas.{other_stays}
use Rattle.htmd_walk.specs.ParagraphLaws.{text_shown}
use Rattle.htmd_walk.specs.Seams.{begins_with_space}
use Rattle.htmd_walk.proofs.TextEnds.{EndsBare, Passes, end_is_bare, end_passes, end_parts, ends_behind, start_is_bare}

-- ---- squeezed texts

-- no white space but a space
abbrev pub IsPlain : ℕ → Type 0
IsPlain b = is_ascii_white_space b ≡ true → b ≡ space

plain_by : (white more : Bool) (b : ℕ) (rest : List ℕ) → is_ascii_white_space b ≡ white → All IsPlain rest
    → All IsPlain (cond white (cond more rest (space ∷ rest)) (b ∷ rest))
plain_by true true b rest e h = h
plain_by true false b rest e h = All-cons IsPlain space rest (λ _. refl) h
plain_by false more b rest e h = All-cons IsPlain b rest (λ white. absurd (false≢true (sym e ∙ white))) h

pub squeezed_is_plain : (s : List ℕ) → All IsPlain (squeezed_text s)
squeezed_is_plain [] = All-nil IsPlain
squeezed_is_plain (b ∷ s) =
    plain_by (is_ascii_white_space b) (begins_with_white_space s) b (squeezed_text s) refl (squeezed_is_plain s)

no_space : (b : ℕ) → is_ascii_white_space b ≡ false → is_space b ≡ false
no_space b e = grind (arith, nat_tests)

no_space_first : (b : ℕ) (s : List ℕ) → is_ascii_white_space b ≡ false → prefix_len is_space (b ∷ s) ≡ 0
no_space_first b s e = ap (λ c. cond c (1 + prefix_len is_space s) 0) (no_space b e)

none_first : (s : List ℕ) → begins_with_white_space s ≡ false → prefix_len is_space (squeezed_text s) ≡ 0
none_first [] e = refl
none_first (b ∷ s) e = ap (prefix_len is_space) (other_stays b s e) ∙ no_space_first b (squeezed_text s) e

few_by : (white more : Bool) (b : ℕ) (s : List ℕ) → is_ascii_white_space b ≡ white
    → begins_with_white_space s ≡ more → prefix_len is_space (squeezed_text s) ≤ 1
    → prefix_len is_space (cond white (cond more (squeezed_text s) (space ∷ squeezed_text s))
    (b ∷ squeezed_text s))
    ≤ 1
few_by true true b s e f h = h
few_by true false b s e f h = let none = none_first s f in omega arith
few_by false more b s e f h = let none = no_space_first b (squeezed_text s) e in omega arith

-- a squeezed text begins with one space at most
few_first : (s : List ℕ) → prefix_len is_space (squeezed_text s) ≤ 1
few_first [] = omega arith
few_first (b ∷ s) = few_by (is_ascii_white_space b) (begins_with_white_space s) b s refl refl (few_first s)

first_goes : (n : ℕ) (s : List ℕ) → n ≤ 1 → cond (nat_lt 0 n) (drop 1 s) s ≡ drop n s
first_goes zero s few = refl
first_goes (suc zero) s few = refl
first_goes (suc (suc n)) s few = absurd (omega arith)

pub shown_is : (s : List ℕ)
    → cond (begins_with_space (squeezed_text s)) (drop 1 (squeezed_text s)) (squeezed_text s) ≡ text_shown s
shown_is s = first_goes (prefix_len is_space (squeezed_text s)) (squeezed_text s) (few_first s)

-- ---- shown texts

-- a text as it is shown, not an empty one
pub record IsShown (s : List ℕ) : Type 0 where
  pub plain : All IsPlain s
  pub first : prefix_len is_space s ≡ 0
  pub some : 0 < length s

pub shown : (s : List ℕ) → 0 < length (text_shown s) → IsShown (text_shown s)
shown s some = record {
  plain = All-drop IsPlain (prefix_len is_space (squeezed_text s)) (squeezed_text s) (squeezed_is_plain s);
  first = start_is_bare is_space (squeezed_text s);
  some = some;
}

-- without its final space, it holds something
first_is_space : (b : ℕ) (s : List ℕ) → Passes is_space (b ∷ s) → prefix_len is_space (b ∷ s) ≡ 0 → ⊥
first_is_space b s all none =
    let here = All-head (λ b. is_space b ≡ true) b s all in
    let more : prefix_len is_space (b ∷ s) ≡ 1 + prefix_len is_space s =
    ap (λ c. cond c (1 + prefix_len is_space s) 0) here in
    omega arith

not_all_spaces : (s : List ℕ) → 0 < length s → Passes is_space s → prefix_len is_space s ≡ 0 → ⊥
not_all_spaces [] some all none = omega arith
not_all_spaces (b ∷ s) some all none = first_is_space b s all none

left_of : (kept behind s : List ℕ) → kept ++ behind ≡ s → 0 < length s → Passes is_space behind
    → prefix_len is_space s ≡ 0 → 0 < length kept
left_of [] behind s e some all none =
    absurd (not_all_spaces s some (subst (λ (l : List ℕ). Passes is_space l) e all) none)
left_of (b ∷ kept) behind s e some all none = omega arith

shown_is_left : (s : List ℕ) → IsShown s → 0 < length (trimmed_end is_space s)
shown_is_left s is =
    left_of (trimmed_end is_space s) (drop (length s - suffix_len is_space s) s) s (end_parts is_space s) is.some
    (end_passes is_space s) is.first

pub white_too : (b : ℕ) → is_document_white_space b ≡ true → is_ascii_white_space b ≡ true
white_too b e = grind (arith, nat_tests)

no_white_space : (b : ℕ) → IsPlain b → is_space b ≡ false → is_document_white_space b ≡ false
no_white_space b plain other =
    false_from_ne_true _ (λ white.
    let same : is_space b ≡ true = ap is_space (plain (white_too b white)) in
    false≢true (sym other ∙ same))

pub left_ends_bare : (s : List ℕ) → IsShown s → EndsBare is_document_white_space (trimmed_end is_space s)
left_ends_bare s is some =
    let left = trimmed_end is_space s in
    no_white_space (get_or left (length left - 1) 0)
    (All-take IsPlain (length s - suffix_len is_space s) s is.plain (length left - 1) 0 (omega arith))
    (end_is_bare is_space s some)

-- ---- with backslashes

backslashes_behind : (marked : ℕ → Bool) (k : ℕ) (s t : List ℕ)
    → with_backslashes marked k (s ++ t) ≡ with_backslashes marked k s ++ with_backslashes marked (k + length s) t
backslashes_behind marked k [] t = ap (λ n. with_backslashes marked n t) (omega arith)
backslashes_behind marked k (b ∷ s) t =
    let place : suc k + length s ≡ k + suc (length s) = omega arith in
    let rest : with_backslashes marked (suc k) (s ++ t)
    ≡ with_backslashes marked (suc k) s ++ with_backslashes marked (k + suc (length s)) t =
    backslashes_behind marked (suc k) s t
    ∙ ap (λ n. with_backslashes marked (suc k) s ++ with_backslashes marked n t) place in
    put_by (marked k) b (with_backslashes marked (suc k) (s ++ t)) (with_backslashes marked (suc k) s)
    (with_backslashes marked (k + suc (length s)) t) rest
  where
    put_by : (m : Bool) (b : ℕ) (whole front behind : List ℕ) → whole ≡ front ++ behind
        → cond m (backslash ∷ b ∷ whole) (b ∷ whole)
        ≡ cond m (backslash ∷ b ∷ front) (b ∷ front) ++ behind
    put_by true b whole front behind e = ap (λ l. backslash ∷ b ∷ l) e
    put_by false b whole front behind e = ap (λ l. b ∷ l) e

backslashes_none : (marked : ℕ → Bool) (k : ℕ) (s : List ℕ)
    → ((i : ℕ) → i < length s → marked (k + i) ≡ false) → with_backslashes marked k s ≡ s
backslashes_none marked k [] none = refl
backslashes_none marked k (b ∷ s) none =
    let here : marked k ≡ false = ap marked (omega arith) ∙ none 0 (omega arith) in
    ap (λ c. cond c (backslash ∷ b ∷ with_backslashes marked (suc k) s)
    (b ∷ with_backslashes marked (suc k) s)) here
    ∙ ap (λ l. b ∷ l) (backslashes_none marked (suc k) s (λ i below.
    ap marked (omega arith) ∙ none (suc i) (omega arith)))

-- what holds for a backslash and for each byte of the text holds for each byte that is written
pub each_written : (P : ℕ → Type 0) (marked : ℕ → Bool) (k : ℕ) (s : List ℕ) → P backslash → All P s
    → All P (with_backslashes marked k s)
each_written P marked k [] here all = All-nil P
each_written P marked k (b ∷ s) here all =
    by (marked k) (each_written P marked (suc k) s here (All-tail P b s all))
  where
    by : (m : Bool) → All P (with_backslashes marked (suc k) s)
        → All P (cond m (backslash ∷ b ∷ with_backslashes marked (suc k) s)
        (b ∷ with_backslashes marked (suc k) s))
    by true rest = All-cons P backslash (b ∷ with_backslashes marked (suc k) s) here
        (All-cons P b (with_backslashes marked (suc k) s) (All-head P b s all) rest)
    by false rest = All-cons P b (with_backslashes marked (suc k) s) (All-head P b s all) rest

ends_by : (passes : ℕ → Bool) (m : Bool) (b : ℕ) (rest : List ℕ) → EndsBare passes (b ∷ rest)
    → EndsBare passes (cond m (backslash ∷ b ∷ rest) (b ∷ rest))
ends_by passes true b rest bare = ends_behind passes (backslash ∷ []) (b ∷ rest) (omega arith) bare
ends_by passes false b rest bare = bare

grows_not : (marked : ℕ → Bool) (k b : ℕ) (s : List ℕ) → 0 < length (with_backslashes marked k (b ∷ s))
grows_not marked k b s = by (marked k)
  where
    by : (m : Bool) → 0 < length (cond m (backslash ∷ b ∷ with_backslashes marked (suc k) s)
        (b ∷ with_backslashes marked (suc k) s))
    by true = omega arith
    by false = omega arith

ends_rest : (passes : ℕ → Bool) (b c : ℕ) (s : List ℕ) → EndsBare passes (b ∷ c ∷ s)
    → EndsBare passes (c ∷ s)
ends_rest passes b c s bare some =
    let here : length (c ∷ s) - 1 ≡ length s = omega arith in
    let there : suc (length s) ≡ length (b ∷ c ∷ s) - 1 = omega arith in
    ap (λ n. passes (get_or (c ∷ s) n 0)) here ∙ ap (λ n. passes (get_or (b ∷ c ∷ s) n 0)) there
    ∙ bare (omega arith)

-- the last byte stays the last
pub written_ends_bare : (passes : ℕ → Bool) (marked : ℕ → Bool) (k : ℕ) (s : List ℕ) → EndsBare passes s
    → EndsBare passes (with_backslashes marked k s)
written_ends_bare passes marked k [] bare = bare
written_ends_bare passes marked k (b ∷ []) bare = ends_by passes (marked k) b [] bare
written_ends_bare passes marked k (b ∷ c ∷ s) bare =
    let rest = with_backslashes marked (suc k) (c ∷ s) in
    ends_by passes (marked k) b rest
    (ends_behind passes (b ∷ []) rest (grows_not marked (suc k) c s)
    (written_ends_bare passes marked (suc k) (c ∷ s) (ends_rest passes b c s bare)))

-- ---- escaped texts

-- what is written of a text but its final space
abbrev pub front_of : List ℕ → List ℕ
front_of s = with_backslashes (is_escaped s) 0 (trimmed_end is_space s)

-- its final space
abbrev pub cut_of : List ℕ → List ℕ
cut_of s = drop (length s - suffix_len is_space s) s

pub end_cut_of : (s : List ℕ) → Passes is_space (cut_of s)
end_cut_of s = end_passes is_space s

space_is_no_punctuation : (b : ℕ) → is_space b ≡ true → is_ascii_punctuation b ≡ false
space_is_no_punctuation b e = grind (arith, nat_tests)

no_punctuation : (s : List ℕ) (i : ℕ) → Passes is_space s → is_ascii_punctuation (get_or s i 0) ≡ false
no_punctuation [] i all = refl
no_punctuation (b ∷ s) zero all = space_is_no_punctuation b (All-head (λ b. is_space b ≡ true) b s all)
no_punctuation (b ∷ s) (suc i) all = no_punctuation s i (All-tail (λ b. is_space b ≡ true) b s all)

-- there is no punctuation after what is left
behind_left : (s : List ℕ) (i : ℕ) → length (trimmed_end is_space s) ≤ i
    → is_ascii_punctuation (get_or s i 0) ≡ false
behind_left s i past =
    let left = trimmed_end is_space s in
    ap (λ l. is_ascii_punctuation (get_or l i 0)) (sym (end_parts is_space s))
    ∙ ap is_ascii_punctuation (get_or-append_right left (cut_of s) (length left) i 0 refl past)
    ∙ no_punctuation (cut_of s) (i - length left) (end_passes is_space s)

within_left : (s : List ℕ) (i : ℕ) → i < length (trimmed_end is_space s)
    → get_or s i 0 ≡ get_or (trimmed_end is_space s) i 0
within_left s i below =
    ap (λ l. get_or l i 0) (sym (end_parts is_space s))
    ∙ get_or_append_left (trimmed_end is_space s) (cut_of s) 0 i below

pub escaped_parts : (s : List ℕ) → escaped_markdown s ≡ front_of s ++ cut_of s
escaped_parts s =
    let left = trimmed_end is_space s in
    let unmarked : (i : ℕ) → i < length (cut_of s) → is_escaped s (0 + length left + i) ≡ false =
    λ i below. false_from_ne_true _ (λ m.
    false≢true (sym (behind_left s (0 + length left + i) (omega arith))
    ∙ marked_is_punctuation s (0 + length left + i) m)) in
    ap (with_backslashes (is_escaped s) 0) (sym (end_parts is_space s))
    ∙ backslashes_behind (is_escaped s) 0 left (cut_of s)
    ∙ ap (λ l. front_of s ++ l) (backslashes_none (is_escaped s) (0 + length left) (cut_of s) unmarked)

punctuation_left : (s : List ℕ) (i : ℕ) → is_escaped s i ≡ true
    → is_ascii_punctuation (get_or (trimmed_end is_space s) i 0) ≡ true
punctuation_left s i m =
    ⊎_elim
    (λ below. ap is_ascii_punctuation (sym (within_left s i below)) ∙ marked_is_punctuation s i m)
    (λ past. absurd (false≢true (sym (behind_left s i past) ∙ marked_is_punctuation s i m)))
    (cases_lt i (length (trimmed_end is_space s)))

pub front_reads_back : (s : List ℕ) → unescape (front_of s) ≡ trimmed_end is_space s
front_reads_back s =
    let from_start : (i : ℕ) → is_escaped s i ≡ is_escaped s (0 + i) = λ i. ap (is_escaped s) (omega arith) in
    reads_back (is_escaped s) 0 (trimmed_end is_space s)
    (λ i m. punctuation_left s i (from_start i ∙ m))
    (λ i below m. ap (λ b. b == backslash) (sym (within_left s i below))
    ∙ unmarked_is_no_backslash s i (from_start i ∙ m))

-- ---- no line feeds

abbrev pub IsNoLineFeed : ℕ → Type 0
IsNoLineFeed b = is_line_feed b ≡ false

line_feed_is_white : (b : ℕ) → is_line_feed b ≡ true → is_ascii_white_space b ≡ true
line_feed_is_white b e = grind (arith, nat_tests)

plain_is_no_line_feed : (b : ℕ) → IsPlain b → IsNoLineFeed b
plain_is_no_line_feed b plain =
    false_from_ne_true _ (λ e.
    let same : is_line_feed b ≡ false = ap is_line_feed (plain (line_feed_is_white b e)) in
    false≢true (sym same ∙ e))

pub plain_without : (s : List ℕ) → All IsPlain s → All IsNoLineFeed s
plain_without s all = All-weaker IsPlain IsNoLineFeed plain_is_no_line_feed s all

pub escaped_without : (s : List ℕ) → All IsPlain s → All IsNoLineFeed (escaped_markdown s)
escaped_without s all = each_written IsNoLineFeed (is_escaped s) 0 s refl (plain_without s all)

pub front_without : (s : List ℕ) → All IsPlain s → All IsNoLineFeed (front_of s)
front_without s all =
    each_written IsNoLineFeed (is_escaped s) 0 (trimmed_end is_space s) refl
    (All-take IsNoLineFeed (length s - suffix_len is_space s) s (plain_without s all))

some_written : (marked : ℕ → Bool) (s : List ℕ) → 0 < length s → 0 < length (with_backslashes marked 0 s)
some_written marked [] some = some
some_written marked (b ∷ s) some = grows_not marked 0 b s

pub some_escaped : (s : List ℕ) → 0 < length s → 0 < length (escaped_markdown s)
some_escaped s some = some_written (is_escaped s) s some

pub some_front : (s : List ℕ) → IsShown s → 0 < length (front_of s)
some_front s is = some_written (is_escaped s) (trimmed_end is_space s) (shown_is_left s is)
