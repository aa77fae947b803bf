-- How a code span is read that was put together in a certain way.
use Rattle.std.proofs.Common.{◌≡◌, ℕ, zero, suc, ◌+◌, ◌-◌, ◌<◌, Bool, true, false, cond, List, [], ◌∷◌, ◌++◌, length}
use Rattle.std.proofs.Common.{take, drop, refl, ap, ◌∙◌, arith}
use Rattle.std.specs.Prelude.{not, ◌&&◌, ◌||◌, ◌==◌, replicate, slice_index, Some}
use Rattle.std.specs.List.{prefix_len}
use Rattle.std.specs.Option.{option_map}
use Rattle.std.proofs.lemmas.Bool.Decides.{nat_tests}
use Rattle.std.proofs.lemmas.List.{length_push, take-append-le, take_all}
use Rattle.std.proofs.lemmas.List.Folds.{prefix_len-replicate}
use Rattle.htmd_lexical.specs.Characters.{carriage_return, grave_accent, line_feed, space}
use Rattle.htmd_markdown.specs.CodeSpanReading.{is_backquote, before_run, line_ends_as_spaces, without_padding}
use Rattle.htmd_markdown.specs.CodeSpanReading.{opening_len, read_span}

-- ---- the closing delimiter

-- no run of exactly n backquotes begins in the text; one that begins before it is passed over
abbrev pub lacks_run : ℕ → Bool → List ℕ → Bool
lacks_run n behind_backquote [] = true
lacks_run n behind_backquote (b ∷ s) =
    (behind_backquote || not (prefix_len is_backquote (b ∷ s) == n)) && lacks_run n (is_backquote b) s

-- the text ends with a backquote, or is empty and stands after one
abbrev pub ends_behind : Bool → List ℕ → Bool
ends_behind behind_backquote [] = behind_backquote
ends_behind behind_backquote (b ∷ s) = ends_behind (is_backquote b) s

run_over : (behind : Bool) (b : ℕ) (s after : List ℕ) → ends_behind behind (b ∷ s) ≡ false
    → prefix_len is_backquote ((b ∷ s) ++ after) ≡ prefix_len is_backquote (b ∷ s)
run_over behind b [] after other = rw other refl
run_over behind b (c ∷ s) after e = ap (λ n. cond (is_backquote b) (1 + n) 0) (run_over (is_backquote b) c s after e)

passed_over : (behind same rest : Bool) → ((behind || not same) && rest) ≡ true → ((not behind && same) ≡ false)
    × (rest ≡ true)
passed_over true same rest e = (refl, e)
passed_over false true rest e = (cc, cc)
passed_over false false rest e = (refl, e)

pub before_run-found : (n : ℕ) (behind : Bool) (s : List ℕ) → 0 < n → lacks_run n behind s ≡ true
    → ends_behind behind s ≡ false → before_run n behind (s ++ replicate n grave_accent) ≡ Some s
before_run-found zero behind s some lacks e = absurd (omega arith)
before_run-found (suc n) behind [] some lacks e =
    let run : prefix_len is_backquote (replicate (suc n) grave_accent) ≡ suc n =
    prefix_len-replicate is_backquote (suc n) grave_accent refl in
    let here : (prefix_len is_backquote (replicate (suc n) grave_accent) == suc n) ≡ true =
    grind (arith, nat_tests) in
    rw (e, here) refl
before_run-found (suc n) behind (b ∷ s) some lacks e =
    let over = run_over behind b s (replicate (suc n) grave_accent) e in
    let both =
    passed_over behind (prefix_len is_backquote (b ∷ s) == suc n) (lacks_run (suc n) (is_backquote b) s) lacks in
    let here : (not behind && (prefix_len is_backquote (b ∷ (s ++ replicate (suc n) grave_accent)) == suc n))
    ≡ false =
    ap (λ m. not behind && (m == suc n)) over ∙ both.0 in
    rw here (ap (λ found. option_map (λ front. b ∷ front) found)
    (before_run-found (suc n) (is_backquote b) s some both.1 e))

-- ---- the opening delimiter

run_before : (n b : ℕ) (s : List ℕ) → is_backquote b ≡ false
    → prefix_len is_backquote (replicate n grave_accent ++ b ∷ s) ≡ n
run_before zero b s other = rw other refl
run_before (suc n) b s other = omega (arith, run_before n b s other)

behind_run : (n : ℕ) (s : List ℕ) → drop n (replicate n grave_accent ++ s) ≡ s
behind_run zero s = refl
behind_run (suc n) s = behind_run n s

-- a text between two runs of n backquotes, in which there is no such run, is what the span holds
pub read_span-between : (n b : ℕ) (s : List ℕ) → 0 < n → is_backquote b ≡ false
    → lacks_run n false (b ∷ s) ≡ true
    → ends_behind false (b ∷ s) ≡ false
    → read_span (replicate n grave_accent ++ ((b ∷ s) ++ replicate n grave_accent)) ≡ Some
    (without_padding (line_ends_as_spaces (b ∷ s)))
read_span-between zero b s some other lacks e = absurd (omega arith)
read_span-between (suc n) b s some other lacks e =
    let after : List ℕ = s ++ replicate (suc n) grave_accent in
    let opening : opening_len (replicate (suc n) grave_accent ++ b ∷ after) ≡ suc n =
    run_before (suc n) b after other in
    ap (λ k. option_map (λ inside. without_padding (line_ends_as_spaces inside))
    (before_run k false (drop k (replicate (suc n) grave_accent ++ b ∷ after)))) opening
    ∙ ap (λ l. option_map (λ inside. without_padding (line_ends_as_spaces inside)) (before_run (suc n) false l))
    (behind_run (suc n) (b ∷ after))
    ∙ ap (λ found. option_map (λ inside. without_padding (line_ends_as_spaces inside)) found)
    (before_run-found (suc n) false (b ∷ s) some lacks e)

-- ---- a space at each end

one_more : (t : Bool) (x : ℕ) (long short : List ℕ) → long ≡ short ++ space ∷ []
    → cond t long (x ∷ long) ≡ cond t short (x ∷ short) ++ space ∷ []
one_more true x long short e = e
one_more false x long short e = ap (λ l. x ∷ l) e

-- a space after a text is not a part of a line end
pub line_ends-push_space : (s : List ℕ)
    → line_ends_as_spaces (s ++ space ∷ []) ≡ line_ends_as_spaces s ++ space ∷ []
line_ends-push_space [] = refl
line_ends-push_space (b ∷ []) =
    one_more ((b == carriage_return) && false) (cond ((b == carriage_return) || (b == line_feed)) space b)
    (space ∷ []) [] refl
line_ends-push_space (b ∷ c ∷ s) =
    one_more ((b == carriage_return) && (c == line_feed)) (cond ((b == carriage_return) || (b == line_feed)) space b)
    (line_ends_as_spaces (c ∷ (s ++ space ∷ []))) (line_ends_as_spaces (c ∷ s)) (line_ends-push_space (c ∷ s))

pub line_ends-cons : (b : ℕ) (s : List ℕ) → (b == carriage_return) ≡ false → (b == line_feed) ≡ false
    → line_ends_as_spaces (b ∷ s) ≡ b ∷ line_ends_as_spaces s
line_ends-cons b s no_return no_feed = rw (no_return, no_feed) refl

pub without_padding-none : (b : ℕ) (s : List ℕ) → (b == space) ≡ false → without_padding (b ∷ s) ≡ b ∷ s
without_padding-none b s other = rw other refl

last_space : (s : List ℕ) → slice_index (s ++ space ∷ []) (length s) ≡ space
last_space [] = refl
last_space (b ∷ s) = last_space s

pub without_padding-both : (b : ℕ) (s : List ℕ) → (b == space) ≡ false
    → without_padding (space ∷ ((b ∷ s) ++ space ∷ [])) ≡ b ∷ s
without_padding-both b s other =
    let size : length ((b ∷ s) ++ space ∷ []) ≡ length (b ∷ s) + 1 = length_push (b ∷ s) space in
    let place : length (space ∷ ((b ∷ s) ++ space ∷ [])) - 1 ≡ suc (length (b ∷ s)) = omega (arith, size) in
    let last : slice_index (space ∷ ((b ∷ s) ++ space ∷ [])) (length (space ∷ ((b ∷ s) ++ space ∷ [])) - 1)
    ≡ space =
    ap (λ k. slice_index (space ∷ ((b ∷ s) ++ space ∷ [])) k) place ∙ last_space (b ∷ s) in
    let kept : length (space ∷ ((b ∷ s) ++ space ∷ [])) - 2 ≡ length (b ∷ s) = omega (arith, size) in
    rw (ap (λ x. x == space) last, other)
    (ap (λ k. take k ((b ∷ s) ++ space ∷ [])) kept
    ∙ take-append-le (length (b ∷ s)) (b ∷ s) (space ∷ []) (omega arith)
    ∙ take_all (length (b ∷ s)) (b ∷ s) (omega arith))
