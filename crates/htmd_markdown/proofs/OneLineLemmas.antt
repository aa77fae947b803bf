-- A text in one line has the backquotes of the text.
use Rattle.std.proofs.Common.{◌≡◌, ℕ, zero, suc, ◌+◌, ◌-◌, ◌<◌, ◌≤◌, Bool, true, false, cond, List, [], ◌∷◌, ◌++◌}
use Rattle.std.proofs.Common.{length, map, max, refl, sym, ap, ◌∙◌, arith}
use Rattle.std.specs.Prelude.{not, ◌&&◌, ◌||◌, ◌==◌, slice_index}
use Rattle.std.specs.List.{fold, list_all, list_any, onto_first, position_or_len, range_with_len, slice_split}
use Rattle.std.proofs.lemmas.Bool.Decides.{nat_tests}
use Rattle.std.proofs.lemmas.List.{append-nil, get_or-append-add, get_or-map, length-append, length-map, map_push}
use Rattle.std.proofs.lemmas.List.Folds.{list_any-append}
use Rattle.std.proofs.lemmas.List.Splits.{length-slice_split}
use Rattle.std.proofs.lemmas.List.Sums.{fold_push}
use Rattle.htmd_lexical.specs.Characters.{grave_accent, line_feed, space}
use Rattle.htmd_text.specs.Joins.{joined_texts}
use Rattle.htmd_text.specs.Trims.{is_line_feed}
use Rattle.htmd_markdown.specs.Runs.{runs, longest_run, has_run}
use Rattle.htmd_markdown.specs.CodeSpans.{begins_with, ends_with, space_if, in_one_line, meets_delimiter}
use Rattle.htmd_markdown.specs.CodeSpans.{is_between_spaces, smallest_unused_len, delimiter_len, delimited_text}
use Rattle.htmd_markdown.specs.CodeSpans.{code_span}
use Rattle.htmd_markdown.proofs.RunsLemmas.{runs-cons_yes, runs-cons_no}

-- a character, where it is a line feed a space
abbrev pub spaced_character : ℕ → ℕ
spaced_character b = cond (is_line_feed b) space b

-- ---- the lines with a space between each two

joined_behind : (ls : List (List ℕ)) → 0 < length ls
    → joined_texts (space ∷ []) ([] ∷ ls) ≡ space ∷ joined_texts (space ∷ []) ls
joined_behind [] some = absurd (omega arith)
joined_behind (y ∷ ys) some = refl

joined_onto : (b : ℕ) (ls : List (List ℕ))
    → joined_texts (space ∷ []) (onto_first b ls) ≡ b ∷ joined_texts (space ∷ []) ls
joined_onto b [] = refl
joined_onto b (y ∷ ys) = refl

pub joined_lines : (s : List ℕ)
    → joined_texts (space ∷ []) (slice_split (λ b. b == line_feed) s)
    ≡ map (λ b. cond (is_line_feed b) space b) s
joined_lines [] = refl
joined_lines (b ∷ s) = one_more (is_line_feed b) refl (joined_lines s)
  where
    one_more : (t : Bool) → is_line_feed b ≡ t
        → joined_texts (space ∷ []) (slice_split (λ b. b == line_feed) s)
        ≡ map (λ b. cond (is_line_feed b) space b) s
        → joined_texts (space ∷ []) (slice_split (λ b. b == line_feed) (b ∷ s)) ≡ map
        (λ b. cond (is_line_feed b) space b) (b ∷ s)
    one_more true here rest =
        let size = length-slice_split (λ b. b == line_feed) s in
        rw here (joined_behind (slice_split (λ b. b == line_feed) s) (omega (arith, size))
        ∙ ap (λ l. space ∷ l) rest)
    one_more false here rest =
        rw here (joined_onto b (slice_split (λ b. b == line_feed) s) ∙ ap (λ l. b ∷ l) rest)

-- ---- its backquotes

spaced_backquote : (b : ℕ) → (spaced_character b == grave_accent) ≡ (b == grave_accent)
spaced_backquote b = by_case (is_line_feed b) refl
  where
    by_case : (t : Bool) → is_line_feed b ≡ t → (cond t space b == grave_accent) ≡ (b == grave_accent)
    by_case true here = grind (arith, nat_tests)
    by_case false here = refl

spaced_other : (b : ℕ) → (b == grave_accent) ≡ true → spaced_character b ≡ b
spaced_other b same =
    let other : is_line_feed b ≡ false = grind (arith, nat_tests) in
    rw other refl

runs_spaced : (s : List ℕ) → runs grave_accent (map spaced_character s) ≡ runs grave_accent s
runs_spaced [] = refl
runs_spaced (b ∷ s) = by_case (b == grave_accent) refl (runs_spaced s)
  where
    by_case : (t : Bool) → (b == grave_accent) ≡ t
        → runs grave_accent (map spaced_character s) ≡ runs grave_accent s
        → runs grave_accent (spaced_character b ∷ map spaced_character s) ≡ runs grave_accent (b ∷ s)
    by_case true same rest =
        runs-cons_yes grave_accent (spaced_character b) (map spaced_character s) (spaced_backquote b ∙ same)
        ∙ ap (λ x. onto_first x (runs grave_accent (map spaced_character s))) (spaced_other b same)
        ∙ ap (λ rs. onto_first b rs) rest
        ∙ sym (runs-cons_yes grave_accent b s same)
    by_case false other rest =
        runs-cons_no grave_accent (spaced_character b) (map spaced_character s) (spaced_backquote b ∙ other)
        ∙ ap (λ rs. [] ∷ rs) rest
        ∙ sym (runs-cons_no grave_accent b s other)

onto_first_push : (b : ℕ) (rs : List (List ℕ)) (x : List ℕ) → 0 < length rs
    → onto_first b (rs ++ x ∷ []) ≡ onto_first b rs ++ x ∷ []
onto_first_push b [] x some = absurd (omega arith)
onto_first_push b (run ∷ others) x some = refl

runs_push : (s : List ℕ) → runs grave_accent (s ++ space ∷ []) ≡ runs grave_accent s ++ [] ∷ []
runs_push [] = refl
runs_push (b ∷ s) = by_case (b == grave_accent) refl (runs_push s)
  where
    by_case : (t : Bool) → (b == grave_accent) ≡ t
        → runs grave_accent (s ++ space ∷ []) ≡ runs grave_accent s ++ [] ∷ []
        → runs grave_accent (b ∷ (s ++ space ∷ [])) ≡ runs grave_accent (b ∷ s) ++ [] ∷ []
    by_case true same rest =
        let size = length-slice_split (λ b. not (b == grave_accent)) s in
        runs-cons_yes grave_accent b (s ++ space ∷ []) same
        ∙ ap (λ rs. onto_first b rs) rest
        ∙ onto_first_push b (runs grave_accent s) [] (omega (arith, size))
        ∙ ap (λ rs. rs ++ [] ∷ []) (sym (runs-cons_yes grave_accent b s same))
    by_case false other rest =
        runs-cons_no grave_accent b (s ++ space ∷ []) other
        ∙ ap (λ rs. [] ∷ rs) rest
        ∙ ap (λ rs. rs ++ [] ∷ []) (sym (runs-cons_no grave_accent b s other))

-- an empty run changes nothing
longest_push : (rs : List (List ℕ))
    → fold max 0 (map (λ run. length run) (rs ++ [] ∷ [])) ≡ fold max 0 (map (λ run. length run) rs)
longest_push rs =
    ap (λ ns. fold max 0 ns) (map_push (λ (run : List ℕ). length run) rs [])
    ∙ fold_push max 0 (map (λ run. length run) rs) 0 ∙ omega arith

any_push : (n : ℕ) (rs : List (List ℕ)) → 0 < n
    → list_any (λ run. length run == n) (rs ++ [] ∷ []) ≡ list_any (λ run. length run == n) rs
any_push n rs some =
    let none : (0 == n) ≡ false = grind (arith, nat_tests) in
    list_any-append (λ (run : List ℕ). length run == n) rs ([] ∷ [])
    ∙ rw none (or_false (list_any (λ run. length run == n) rs))
  where
    or_false : (t : Bool) → (t || false) ≡ t
    or_false true = refl
    or_false false = refl

-- two texts have the same runs, except for the empty ones
abbrev SameRuns : List ℕ → List ℕ → Type 0
SameRuns s t =
    (longest_run grave_accent s ≡ longest_run grave_accent t)
    × ((n : ℕ) → 0 < n → has_run grave_accent n s ≡ has_run grave_accent n t)

in_front : (due : Bool) (s : List ℕ) → SameRuns (space_if due ++ s) s
in_front true s = (refl, λ n some. let none : (0 == n) ≡ false = grind (arith, nat_tests) in rw none refl)
in_front false s = (refl, λ n some. refl)

behind : (due : Bool) (s : List ℕ) → SameRuns (s ++ space_if due) s
behind true s = (
  ap (λ rs. fold max 0 (map (λ run. length run) rs)) (runs_push s)
      ∙ longest_push (runs grave_accent s),
  λ n some. ap (λ rs. list_any (λ run. length run == n) rs) (runs_push s)
      ∙ any_push n (runs grave_accent s) some,
)
behind false s = (ap (longest_run grave_accent) (append-nil s), λ n some. ap (has_run grave_accent n) (append-nil s))

same_runs : (s : List ℕ) → SameRuns (in_one_line s) s
same_runs s =
    let front = space_if (begins_with line_feed s && not (list_all is_line_feed s)) in
    let back = behind (ends_with line_feed s) (front ++ map spaced_character s) in
    let start = in_front (begins_with line_feed s && not (list_all is_line_feed s)) (map spaced_character s) in
    let whole = runs_spaced s in (
      back.0 ∙ start.0 ∙ ap (λ rs. fold max 0 (map (λ run. length run) rs)) whole,
      λ n some. back.1 n some
          ∙ start.1 n some ∙ ap (λ rs. list_any (λ run. length run == n) rs) whole,
    )

-- its ends
begins_behind : (lead : Bool) (b : ℕ) (s after : List ℕ) → (lead ≡ true → (b == grave_accent) ≡ false)
    → begins_with grave_accent ((space_if lead ++ (spaced_character b ∷ s)) ++ after) ≡ (b == grave_accent)
begins_behind true b s after other = sym (other refl)
begins_behind false b s after other = spaced_backquote b

line_feed_first : (b : ℕ) (all : Bool) → ((b == line_feed) && not all) ≡ true → (b == grave_accent) ≡ false
line_feed_first b true e = by_case (b == line_feed) e
  where
    by_case : (t : Bool) → (t && false) ≡ true → (b == grave_accent) ≡ false
    by_case true e = cc
    by_case false e = cc
line_feed_first b false e = by_case (b == line_feed) refl e
  where
    by_case : (t : Bool) → (b == line_feed) ≡ t → (t && true) ≡ true → (b == grave_accent) ≡ false
    by_case true same e = grind (arith, nat_tests)
    by_case false same e = cc

begins_same : (s : List ℕ) → begins_with grave_accent (in_one_line s) ≡ begins_with grave_accent s
begins_same [] = refl
begins_same (b ∷ s) =
    begins_behind ((b == line_feed) && not (list_all is_line_feed (b ∷ s))) b (map spaced_character s)
    (space_if (ends_with line_feed (b ∷ s)))
    (line_feed_first b (list_all is_line_feed (b ∷ s)))

last_behind : (front s : List ℕ) → 0 < length s
    → slice_index (front ++ s) (length (front ++ s) - 1) ≡ slice_index s (length s - 1)
last_behind front s some =
    let size : length (front ++ s) - 1 ≡ length front + (length s - 1) = omega (arith, length-append front s) in
    ap (λ k. slice_index (front ++ s) k) size ∙ get_or-append-add front s (length s - 1) 0

last_spaced : (front s : List ℕ) → 0 < length s
    → (slice_index (front ++ map spaced_character s)
    (length (front ++ map spaced_character s) - 1) == grave_accent) ≡ ends_with grave_accent s
last_spaced front s some =
    let size : length (map spaced_character s) ≡ length s = length-map s spaced_character in
    let last : slice_index (map spaced_character s) (length (map spaced_character s) - 1) ≡ spaced_character
    (slice_index s (length s - 1)) =
    ap (λ n. slice_index (map spaced_character s) (n - 1)) size
    ∙ get_or-map spaced_character s (length s - 1) 0 0 (omega arith) in
    ap (λ x. x == grave_accent) (last_behind front (map spaced_character s) (omega (arith, size)) ∙ last)
    ∙ spaced_backquote (slice_index s (length s - 1))

ends_behind_all : (due : Bool) (s : List ℕ) (lead : Bool) → ends_with line_feed s ≡ due
    → ends_with grave_accent ((space_if lead ++ map spaced_character s) ++ space_if due) ≡ ends_with grave_accent s
ends_behind_all true s lead e =
    let other : ends_with grave_accent s ≡ false = grind (arith, nat_tests) in
    let last = last_behind (space_if lead ++ map spaced_character s) (space ∷ []) (omega arith) in
    ap (λ x. x == grave_accent) last ∙ sym other
ends_behind_all false [] true e = refl
ends_behind_all false [] false e = refl
ends_behind_all false (b ∷ s) lead e =
    ap (ends_with grave_accent) (append-nil (space_if lead ++ map spaced_character (b ∷ s)))
    ∙ last_spaced (space_if lead) (b ∷ s) (omega arith)

pub meets_delimiter-in_one_line : (s : List ℕ) → meets_delimiter (in_one_line s) ≡ meets_delimiter s
meets_delimiter-in_one_line s =
    ap (λ t. t || ends_with grave_accent (in_one_line s)) (begins_same s)
    ∙ ap (λ t. begins_with grave_accent s || t)
    (ends_behind_all (ends_with line_feed s) s (begins_with line_feed s && not (list_all is_line_feed s)) refl)

-- the smallest unused length depends only on the runs
first_same : (p q : ℕ → Bool) (a n : ℕ) → ((k : ℕ) → a ≤ k → p k ≡ q k)
    → position_or_len p (range_with_len a n) ≡ position_or_len q (range_with_len a n)
first_same p q a zero same = refl
first_same p q a (suc n) same =
    ap (λ t. cond (not t) (1 + position_or_len p (range_with_len (a + 1) n)) 0) (same a (omega arith))
    ∙ ap (λ m. cond (not (q a)) (1 + m) 0) (first_same p q (a + 1) n (λ k le. same k (omega arith)))

unused_same : (s t : List ℕ) → SameRuns s t → smallest_unused_len s ≡ smallest_unused_len t
unused_same s t same =
    ap (λ n. 1 + position_or_len (λ m. not (has_run grave_accent m s)) (range_with_len 1 n)) same.0
    ∙ ap (λ m. 1 + m)
    (first_same (λ m. not (has_run grave_accent m s)) (λ m. not (has_run grave_accent m t)) 1
    (longest_run grave_accent t) (λ k le. ap not (same.1 k (omega arith))))

pub delimiter_len-in_one_line : (s : List ℕ) → delimiter_len (in_one_line s) ≡ delimiter_len s
delimiter_len-in_one_line s =
    let same = same_runs s in
    ap (λ t. cond t (longest_run grave_accent (in_one_line s) + 1) (smallest_unused_len (in_one_line s)))
    (meets_delimiter-in_one_line s)
    ∙ ap (λ n. cond (meets_delimiter s) (n + 1) (smallest_unused_len (in_one_line s))) same.0
    ∙ ap (λ n. cond (meets_delimiter s) (longest_run grave_accent s + 1) n) (unused_same (in_one_line s) s same)

-- so the delimiters may be found in the text as it is
pub code_span-in_one_line : (s : List ℕ)
    → delimited_text (meets_delimiter s || is_between_spaces s) (delimiter_len s) (in_one_line s) ≡ code_span true s
code_span-in_one_line s =
    ap (λ t. delimited_text (t || is_between_spaces s) (delimiter_len s) (in_one_line s))
    (sym (meets_delimiter-in_one_line s))
    ∙ ap (λ n. delimited_text (meets_delimiter (in_one_line s) || is_between_spaces s) n (in_one_line s))
    (sym (delimiter_len-in_one_line s))
