-- A code span reads back.
use Rattle.std.proofs.Common.{◌≡◌, ◌≢◌, ◌⊎◌, inl, inr, ℕ, zero, suc, ◌+◌, ◌-◌, ◌<◌, ◌≤◌, Bool, true, false, cond, List}
use Rattle.std.proofs.Common.{[], ◌∷◌, ◌++◌, length, get_or, take, drop, refl, sym, ap, ◌∙◌, arith, append_assoc}
use Rattle.std.specs.Prelude.{not, ◌&&◌, ◌||◌, ◌==◌, replicate, slice_index, Some}
use Rattle.std.specs.List.{list_any, position_or_len, prefix_len, suffix_len, range_with_len}
use Rattle.std.proofs.lemmas.Bool.{cases_lt, not-true, or_parts}
use Rattle.std.proofs.lemmas.Bool.Decides.{nat_tests}
use Rattle.std.proofs.lemmas.List.{append-nil}
use Rattle.std.proofs.lemmas.List.Sums.{passes_at_first, position_or_len_is}
use Rattle.htmd_lexical.specs.Characters.{carriage_return, grave_accent, line_feed, space}
use Rattle.htmd_text.specs.Trims.{trimmed_text}
use Rattle.htmd_lexical.specs.WhiteSpace.{is_document_white_space}
use Rattle.htmd_markdown.specs.Runs.{runs, longest_run, has_run}
use Rattle.htmd_markdown.specs.CodeSpans.{begins_with, ends_with, meets_delimiter, smallest_unused_len, delimiter_len}
use Rattle.htmd_markdown.specs.CodeSpans.{delimited_text, code_span}
use Rattle.htmd_markdown.specs.CodeSpanReading.{is_backquote, line_ends_as_spaces, without_padding, read_span}
use Rattle.htmd_markdown.proofs.RunsLemmas.{first_run, other_runs, runs-cons_no, other_runs-cons_yes}
use Rattle.htmd_markdown.proofs.RunsLemmas.{first_run-prefix_len, no_run_so_long}
use Rattle.htmd_markdown.proofs.CodeSpanReadingLemmas.{lacks_run, ends_behind, read_span-between, line_ends-push_space}
use Rattle.htmd_markdown.proofs.CodeSpanReadingLemmas.{line_ends-cons, without_padding-none, without_padding-both}

-- ---- runs as the reader sees them

none_of_runs : (n : ℕ) (rs : List (List ℕ)) → 0 < n → list_any (λ run. length run == n) rs ≡ false
    → ((length (first_run rs) == n) ≡ false) × (list_any (λ run. length run == n) (other_runs rs) ≡ false)
none_of_runs n [] some none = (grind (arith, nat_tests), refl)
none_of_runs n (run ∷ others) some none =
    or_parts (length run == n) (list_any (λ run. length run == n) others) none

-- the runs lack a length, except for the first one after a backquote
abbrev Lacks : ℕ → Bool → List ℕ → Type 0
Lacks n behind s =
    (behind ≡ false → (prefix_len is_backquote s == n) ≡ false)
    × (list_any (λ run. length run == n) (other_runs (runs grave_accent s)) ≡ false)

lacks_here : (behind same rest : Bool) → (behind ≡ false → same ≡ false) → rest ≡ true
    → ((behind || not same) && rest) ≡ true
lacks_here true same rest e r = r
lacks_here false same rest e r = rw (e refl) r

lacks_next : (n b : ℕ) (s : List ℕ) (t : Bool) → (b == grave_accent) ≡ t → 0 < n
    → (list_any (λ run. length run == n) (other_runs (runs grave_accent (b ∷ s))) ≡ false) → Lacks n t s
lacks_next n b s true same some none = (
  λ e. cc,
  ap (λ rs. list_any (λ run. length run == n) rs) (sym (other_runs-cons_yes grave_accent b s same))
      ∙ none,
)
lacks_next n b s false other some none =
    let all : list_any (λ run. length run == n) (runs grave_accent s) ≡ false =
    ap (λ rs. list_any (λ run. length run == n) (other_runs rs)) (sym (runs-cons_no grave_accent b s other))
    ∙ none in
    let both = none_of_runs n (runs grave_accent s) some all in
    (λ e. ap (λ m. m == n) (sym (first_run-prefix_len grave_accent s)) ∙ both.0, both.1)

lacking : (n : ℕ) (behind : Bool) (s : List ℕ) → 0 < n → Lacks n behind s → lacks_run n behind s ≡ true
lacking n behind [] some none = refl
lacking n behind (b ∷ s) some none =
    lacks_here behind (prefix_len is_backquote (b ∷ s) == n) (lacks_run n (is_backquote b) s) none.0
    (lacking n (is_backquote b) s some (lacks_next n b s (b == grave_accent) refl some none.1))

pub lacks_run-from_has_run : (n : ℕ) (s : List ℕ) → 0 < n → has_run grave_accent n s ≡ false
    → lacks_run n false s ≡ true
lacks_run-from_has_run n s some none =
    let both = none_of_runs n (runs grave_accent s) some none in
    lacking n false s some (λ e. ap (λ m. m == n) (sym (first_run-prefix_len grave_accent s)) ∙ both.0, both.1)

-- a space after the text changes nothing
pub run_push : (s : List ℕ) → prefix_len is_backquote (s ++ space ∷ []) ≡ prefix_len is_backquote s
run_push [] = refl
run_push (b ∷ s) = ap (λ n. cond (is_backquote b) (1 + n) 0) (run_push s)

lacks_push : (n : ℕ) (behind : Bool) (s : List ℕ) → 0 < n → lacks_run n behind s ≡ true
    → lacks_run n behind (s ++ space ∷ []) ≡ true
lacks_push zero behind s some e = absurd (omega arith)
lacks_push (suc n) true [] some e = refl
lacks_push (suc n) false [] some e =
    let none : (0 == suc n) ≡ false = grind (arith, nat_tests) in
    rw none refl
lacks_push (suc n) behind (b ∷ s) some e =
    let parts =
    split_and (behind || not (prefix_len is_backquote (b ∷ s) == suc n)) (lacks_run (suc n) (is_backquote b) s) e in
    rw (ap (λ m. behind || not (m == suc n)) (run_push (b ∷ s)), parts.0)
    (lacks_push (suc n) (is_backquote b) s some parts.1)
  where
    split_and : (x y : Bool) → (x && y) ≡ true → (x ≡ true) × (y ≡ true)
    split_and true y e = (refl, e)
    split_and false y e = (cc, cc)

ends_push : (behind : Bool) (s : List ℕ) → ends_behind behind (s ++ space ∷ []) ≡ false
ends_push behind [] = refl
ends_push behind (b ∷ s) = ends_push (is_backquote b) s

ends_last : (behind : Bool) (b : ℕ) (s : List ℕ) → ends_with grave_accent (b ∷ s) ≡ false
    → ends_behind behind (b ∷ s) ≡ false
ends_last behind b [] e = e
ends_last behind b (c ∷ s) e =
    let place : suc (length (c ∷ s) - 1) ≡ length (b ∷ c ∷ s) - 1 = omega arith in
    ends_last (is_backquote b) c s (ap (λ k. slice_index (b ∷ c ∷ s) k == grave_accent) place ∙ e)

-- ---- no run has the delimiter's length

pub delimiter-some : (s : List ℕ) → 0 < delimiter_len s
delimiter-some s = positive (meets_delimiter s)
  where
    positive : (t : Bool) → 0 < cond t (longest_run grave_accent s + 1) (smallest_unused_len s)
    positive true = omega arith
    positive false = omega arith

range_at : (a n k : ℕ) → k < n → get_or (range_with_len a n) k 0 ≡ a + k
range_at a zero k lt = absurd (omega arith)
range_at a (suc n) zero lt = omega arith
range_at a (suc n) (suc k) lt = range_at (a + 1) n k (omega arith) ∙ omega arith

range_length : (a n : ℕ) → length (range_with_len a n) ≡ n
range_length a zero = refl
range_length a (suc n) = ap (λ k. suc k) (range_length (a + 1) n)

unused : (s : List ℕ) (n k : ℕ) → n ≡ longest_run grave_accent s
    → k ≡ position_or_len (λ m. not (has_run grave_accent m s)) (range_with_len 1 n) → ((k < n) ⊎ (n ≤ k))
    → has_run grave_accent (1 + k) s ≡ false
unused s n k most first (inl lt) =
    let size = range_length 1 n in
    let free = passes_at_first (λ m. not (has_run grave_accent m s)) (range_with_len 1 n) 0 (omega (arith, size)) in
    let here : get_or (range_with_len 1 n)
    (position_or_len (λ m. not (has_run grave_accent m s)) (range_with_len 1 n)) 0 ≡ 1 + k =
    ap (λ i. get_or (range_with_len 1 n) i 0) (sym first) ∙ range_at 1 n k lt in
    not-true (has_run grave_accent (1 + k) s) (ap (λ m. not (has_run grave_accent m s)) (sym here) ∙ free)
unused s n k most first (inr le) = no_run_so_long grave_accent (1 + k) s (omega arith)

pub delimiter-unused : (s : List ℕ) → has_run grave_accent (delimiter_len s) s ≡ false
delimiter-unused s = free (meets_delimiter s)
  where
    taken : ℕ
    taken = position_or_len (λ m. not (has_run grave_accent m s)) (range_with_len 1 (longest_run grave_accent s))

    free : (t : Bool) → has_run grave_accent (cond t (longest_run grave_accent s + 1) (smallest_unused_len s)) s
        ≡ false
    free true = no_run_so_long grave_accent (longest_run grave_accent s + 1) s (omega arith)
    free false = unused s (longest_run grave_accent s) taken refl refl (cases_lt taken (longest_run grave_accent s))

-- ---- what was trimmed begins with no document white space

first_stops : (passes : ℕ → Bool) (s : List ℕ) (b : ℕ) (t : List ℕ)
    → drop (prefix_len passes s) s ≡ b ∷ t
    → passes b ≡ false
first_stops passes [] b t e = cc
first_stops passes (c ∷ s) b t e = at_first (passes c) refl e (λ f. first_stops passes s b t f)
  where
    at_first : (x : Bool) → passes c ≡ x → drop (cond x (1 + prefix_len passes s) 0) (c ∷ s) ≡ b ∷ t
        → (drop (prefix_len passes s) s ≡ b ∷ t → passes b ≡ false) → passes b ≡ false
    at_first true here f rest =
        let more : suc (prefix_len passes s) ≡ 1 + prefix_len passes s = omega arith in
        rest (ap (λ n. drop n (c ∷ s)) more ∙ f)
    at_first false here f rest = let same : c ≡ b = cc in ap passes (sym same) ∙ here

first_taken : (n : ℕ) (s : List ℕ) (b : ℕ) (t : List ℕ) → take n s ≡ b ∷ t
    → (v : List ℕ) × (s ≡ b ∷ v)
first_taken zero s b t e = cc
first_taken (suc n) [] b t e = cc
first_taken (suc n) (c ∷ s) b t e = (s, cc)

trimmed_stops : (passes : ℕ → Bool) (s : List ℕ) (b : ℕ) (t : List ℕ) → trimmed_text passes s ≡ b ∷ t
    → passes b ≡ false
trimmed_stops passes s b t e =
    let rest =
    first_taken (length (drop (prefix_len passes s) s) - suffix_len passes (drop (prefix_len passes s) s))
    (drop (prefix_len passes s) s) b t e in
    first_stops passes s b rest.0 rest.1

-- ---- the whole span

padded_regrouped : (d : List ℕ) (t : List ℕ)
    → (((d ++ space ∷ []) ++ t) ++ space ∷ []) ++ d ≡ d ++ ((space ∷ (t ++ space ∷ [])) ++ d)
padded_regrouped d t = simp append_assoc

bare_regrouped : (d : List ℕ) (t : List ℕ) → (((d ++ []) ++ t) ++ []) ++ d ≡ d ++ (t ++ d)
bare_regrouped d t = simp (append-nil, append_assoc)

delimited_back : (m : Bool) (b : ℕ) (s : List ℕ) → meets_delimiter (b ∷ s) ≡ m
    → is_document_white_space b ≡ false
    → read_span (delimited_text (m || false) (delimiter_len (b ∷ s)) (b ∷ s))
    ≡ Some (line_ends_as_spaces (b ∷ s))
delimited_back true b s meets inside =
    let t : List ℕ = b ∷ s in
    let n : ℕ = delimiter_len t in
    let some : 0 < n = delimiter-some t in
    let no_space : (b == space) ≡ false = grind (arith, nat_tests) in
    let no_return : (b == carriage_return) ≡ false = grind (arith, nat_tests) in
    let no_feed : (b == line_feed) ≡ false = grind (arith, nat_tests) in
    let lacks : lacks_run n false (space ∷ (t ++ space ∷ [])) ≡ true =
    lacks_behind_space n (t ++ space ∷ []) some
    (lacks_push n false t some (lacks_run-from_has_run n t some (delimiter-unused t))) in
    ap read_span (padded_regrouped (replicate n grave_accent) t)
    ∙ read_span-between n space (t ++ space ∷ []) some refl lacks (ends_push false t)
    ∙ ap (λ l. Some (without_padding (space ∷ l))) (line_ends-push_space t)
    ∙ ap (λ l. Some (without_padding (space ∷ (l ++ space ∷ [])))) (line_ends-cons b s no_return no_feed)
    ∙ ap (λ l. Some l) (without_padding-both b (line_ends_as_spaces s) no_space)
    ∙ ap (λ l. Some l) (sym (line_ends-cons b s no_return no_feed))
  where
    lacks_behind_space : (n : ℕ) (u : List ℕ) → 0 < n → lacks_run n false u ≡ true
        → lacks_run n false (space ∷ u) ≡ true
    lacks_behind_space n u some e = let none : (0 == n) ≡ false = grind (arith, nat_tests) in rw none e
delimited_back false b s meets inside =
    let t : List ℕ = b ∷ s in
    let n : ℕ = delimiter_len t in
    let some : 0 < n = delimiter-some t in
    let no_space : (b == space) ≡ false = grind (arith, nat_tests) in
    let no_return : (b == carriage_return) ≡ false = grind (arith, nat_tests) in
    let no_feed : (b == line_feed) ≡ false = grind (arith, nat_tests) in
    let ends = or_parts (begins_with grave_accent t) (ends_with grave_accent t) meets in
    ap read_span (bare_regrouped (replicate n grave_accent) t)
    ∙ read_span-between n b s some ends.0 (lacks_run-from_has_run n t some (delimiter-unused t))
    (ends_last false b s ends.1)
    ∙ ap (λ l. Some (without_padding l)) (line_ends-cons b s no_return no_feed)
    ∙ ap (λ l. Some l) (without_padding-none b (line_ends_as_spaces s) no_space)
    ∙ ap (λ l. Some l) (sym (line_ends-cons b s no_return no_feed))

trimmed_back : (s t : List ℕ) → trimmed_text is_document_white_space s ≡ t → t ≢ []
    → read_span (delimited_text (meets_delimiter t || false) (delimiter_len t) t) ≡ Some (line_ends_as_spaces t)
trimmed_back s [] e some = absurd (some refl)
trimmed_back s (b ∷ t) e some =
    delimited_back (meets_delimiter (b ∷ t)) b t refl (trimmed_stops is_document_white_space s b t e)

pub code_span-reads_back : (s : List ℕ) → trimmed_text is_document_white_space s ≢ []
    → read_span (code_span false s) ≡ Some (line_ends_as_spaces (trimmed_text is_document_white_space s))
code_span-reads_back s some = trimmed_back s (trimmed_text is_document_white_space s) refl some

-- ---- the first unused length

pub first_unused : (s : List ℕ) (k : ℕ) → k ≤ longest_run grave_accent s
    → ((i : ℕ) → 1 ≤ i → i < 1 + k → has_run grave_accent i s ≡ true)
    → (k < longest_run grave_accent s → has_run grave_accent (1 + k) s ≡ false) → 1 + k
    ≡ smallest_unused_len s
first_unused s k le taken free =
    let size = range_length 1 (longest_run grave_accent s) in
    let first : position_or_len (λ m. not (has_run grave_accent m s))
    (range_with_len 1 (longest_run grave_accent s)) ≡ k =
    position_or_len_is (λ m. not (has_run grave_accent m s)) (range_with_len 1 (longest_run grave_accent s)) k 0
    (omega (arith, size))
    (λ i lt. ap (λ m. not (has_run grave_accent m s)) (range_at 1 (longest_run grave_accent s) i (omega arith))
    ∙ ap not (taken (1 + i) (omega arith) (omega arith)))
    (λ lt. ap (λ m. not (has_run grave_accent m s)) (range_at 1 (longest_run grave_accent s) k (omega (arith, size)))
    ∙ ap not (free (omega (arith, size)))) in
    ap (λ m. 1 + m) (sym first)
