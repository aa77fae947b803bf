-- Line feeds at a seam.
use Rattle.std.proofs.Common.{◌≡◌, ◌<◌, ◌≤◌, ◌-◌, ◌+◌, min, max, ℕ, Bool, true, false, ltb, ◌&&◌, List, ◌++◌, length}
use Rattle.std.proofs.Common.{get_or, sym, ap, ◌∙◌, arith, take, drop, reverse}
use Rattle.std.specs.Prelude.{replicate}
use Rattle.std.specs.List.{prefix_len, suffix_len}
use Rattle.std.proofs.lemmas.Bool.Decides.{nat_tests}
use Rattle.std.proofs.lemmas.List.{same_lists, get_or-take, get_or-drop, get_or-replicate, length-take-le}
use Rattle.std.proofs.lemmas.List.{length-replicate, length-drop, get_or-reverse, take-append-drop, drop-append-le}
use Rattle.std.proofs.lemmas.List.{drop-replicate, replicate-append-replicate, append_assoc}
use Rattle.std.proofs.lemmas.List.Sums.{prefix_len_passes, prefix_len-le-length, suffix_len-le-length}
use Rattle.htmd_lexical.specs.Characters.{line_feed}
use Rattle.htmd_text.specs.Trims.{trimmed_start, trimmed_end, is_line_feed}
use Rattle.htmd_walk.specs.Seams.{joined_by_line_feeds}

is_line_feed-true : (b : ℕ) → is_line_feed b ≡ true → b ≡ line_feed
is_line_feed-true b e = grind (arith, nat_tests)

-- what comes before the first other byte is line feeds
take_leading : (bs : List ℕ)
    → take (prefix_len is_line_feed bs) bs ≡ replicate (prefix_len is_line_feed bs) line_feed
take_leading bs =
    let within = prefix_len-le-length is_line_feed bs in
    let long : length (take (prefix_len is_line_feed bs) bs) ≡ prefix_len is_line_feed bs =
    length-take-le _ bs within in
    same_lists _ _ (long ∙ sym (length-replicate _ line_feed))
    (λ k d l.
    let below : k < prefix_len is_line_feed bs = omega arith in
    get_or-take _ bs k d below ∙ is_line_feed-true _ (prefix_len_passes is_line_feed bs k d below)
    ∙ sym (get_or-replicate _ k line_feed d below))

-- the rest of a text from some of its leading line feeds on
drop_leading : (bs : List ℕ) (k : ℕ) → k ≤ prefix_len is_line_feed bs
    → drop (prefix_len is_line_feed bs - k) bs
    ≡ replicate k line_feed ++ drop (prefix_len is_line_feed bs) bs
drop_leading bs k l =
    let n = prefix_len is_line_feed bs in
    let parts : replicate n line_feed ++ drop n bs ≡ bs = ap (λ xs. xs ++ drop n bs) (sym (take_leading bs))
    ∙ take-append-drop n bs in
    let left : n - (n - k) ≡ k = omega arith in
    let short : n - k ≤ length (replicate n line_feed) = omega (arith, length-replicate n line_feed) in
    ap (λ xs. drop (n - k) xs) (sym parts) ∙ drop-append-le (n - k) (replicate n line_feed) (drop n bs) short
    ∙ ap (λ xs. xs ++ drop n bs) (drop-replicate (n - k) n line_feed ∙ ap (λ m. replicate m line_feed) left)

-- what follows the last other byte is line feeds
drop_final : (bs : List ℕ)
    → drop (length bs - suffix_len is_line_feed bs) bs ≡ replicate (suffix_len is_line_feed bs)
    line_feed
drop_final bs =
    let n = suffix_len is_line_feed bs in
    let within = suffix_len-le-length is_line_feed bs in
    let long : length (drop (length bs - n) bs) ≡ n = length-drop (length bs - n) bs ∙ omega arith in
    same_lists _ _ (long ∙ sym (length-replicate n line_feed))
    (λ k d l.
    let below : k < n = omega arith in
    let turned : get_or (reverse bs) (n - 1 - k) d ≡ get_or bs (length bs - 1 - (n - 1 - k)) d =
    get_or-reverse bs (n - 1 - k) d (omega arith) in
    let place : length bs - 1 - (n - 1 - k) ≡ length bs - n + k = omega arith in
    let passes : is_line_feed (get_or (reverse bs) (n - 1 - k) d) ≡ true = prefix_len_passes is_line_feed (reverse bs)
    (n - 1 - k) d (omega arith) in
    get_or-drop (length bs - n) bs k d ∙ ap (λ i. get_or bs i d) (sym place) ∙ sym turned
    ∙ is_line_feed-true _ passes
    ∙ sym (get_or-replicate n k line_feed d below))

final_parts : (out : List ℕ)
    → out ≡ trimmed_end is_line_feed out ++ replicate (suffix_len is_line_feed out) line_feed
final_parts out =
    sym (take-append-drop (length out - suffix_len is_line_feed out) out)
    ∙ ap (λ xs. trimmed_end is_line_feed out ++ xs) (drop_final out)

-- content loses the line feeds that are too many
pub joined_by_drop : (out content : List ℕ) (a b kept : ℕ) → a ≡ suffix_len is_line_feed out
    → b ≡ prefix_len is_line_feed content → kept ≡ min b (2 - min a 2)
    → out ++ drop (b - kept) content ≡ joined_by_line_feeds a b out content
joined_by_drop out content a b kept ending beginning keeps =
    let few : kept ≤ prefix_len is_line_feed content = omega arith in
    let stands : suffix_len is_line_feed out + kept ≡ min (a + b) (max 2 a) = omega arith in
    ap (λ n. out ++ drop (n - kept) content) beginning
    ∙ ap (λ xs. out ++ xs) (drop_leading content kept few)
    ∙ ap (λ xs. xs ++ (replicate kept line_feed ++ trimmed_start is_line_feed content)) (final_parts out)
    ∙ sym (append_assoc (trimmed_end is_line_feed out ++ replicate (suffix_len is_line_feed out) line_feed)
    (replicate kept line_feed) (trimmed_start is_line_feed content))
    ∙ ap (λ xs. xs ++ trimmed_start is_line_feed content)
    (append_assoc (trimmed_end is_line_feed out) (replicate (suffix_len is_line_feed out) line_feed)
    (replicate kept line_feed)
    ∙ ap (λ xs. trimmed_end is_line_feed out ++ xs)
    (replicate-append-replicate (suffix_len is_line_feed out) kept line_feed
    ∙ ap (λ n. replicate n line_feed) stands))

both : (p q r s : Bool) → ((p && q) && (r && s)) ≡ true → s ≡ true
both true true true s e = e
both true true false s e = cc
both true false r s e = cc
both false q r s e = cc

-- a content that loses a space begins with one
pub space_in_front : (p q r : Bool) (n : ℕ) → ((p && q) && (r && ltb 0 n)) ≡ true → 0 < n
space_in_front p q r n e = let h : ltb 0 n ≡ true = both p q r (ltb 0 n) e in grind (arith, nat_tests)
