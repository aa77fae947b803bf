-- The line feeds at the ends of a list.
use Rattle.std.proofs.Common.{◌≡◌, ℕ, zero, suc, ◌+◌, ◌-◌, ◌<◌, ◌≤◌, Bool, true, false, List, [], ◌∷◌, ◌++◌, length, get_or, take, drop}
use Rattle.std.proofs.Common.{refl, sym, ap, ◌∙◌, arith, append_assoc, length-append, add-one, Option, Some, None}
use Rattle.std.specs.Prelude.{replicate, if◌then◌else◌}
use Rattle.std.specs.List.{prefix_len, suffix_len}
use Rattle.std.specs.Option.{option_map}
use Rattle.std.proofs.lemmas.Bool.Decides.{nat_tests}
use Rattle.std.proofs.lemmas.List.{same_lists, get_or-take, get_or-replicate, length-take-le, length-replicate}
use Rattle.std.proofs.lemmas.List.{take-append-drop, get_or-drop, length-drop, append-nil, reverse-append, replicate_more}
use Rattle.std.proofs.lemmas.List.Sums.{prefix_len_passes, prefix_len-le-length, prefix_len_stops}
use Rattle.htmd_lexical.specs.Characters.{line_feed}
use Rattle.htmd_text.specs.Trims.{trimmed_start, trimmed_end, trimmed_text, some_text, is_line_feed}
use Rattle.htmd_markdown.specs.Lists.{between_line_feeds, list_block}
use Rattle.htmd_markdown.proofs.ListColumnsLemmas.{trimmed_end-append, suffix_len-push}

is_line_feed-true : (b : ℕ) → is_line_feed b ≡ true → b ≡ line_feed
is_line_feed-true b e = grind (arith, nat_tests)

take_leading : (s : List ℕ)
    → take (prefix_len is_line_feed s) s ≡ replicate (prefix_len is_line_feed s) line_feed
take_leading s =
    let within = prefix_len-le-length is_line_feed s in
    let long : length (take (prefix_len is_line_feed s) s) ≡ prefix_len is_line_feed s = length-take-le _ s within in
    same_lists _ _ (long ∙ sym (length-replicate _ line_feed))
    (λ k d l.
    let below : k < prefix_len is_line_feed s = omega arith in
    get_or-take _ s k d below ∙ is_line_feed-true _ (prefix_len_passes is_line_feed s k d below)
    ∙ sym (get_or-replicate _ k line_feed d below))

-- a text that begins with this many line feeds
pub begins_with : (s : List ℕ) (count : ℕ) → count ≡ prefix_len is_line_feed s
    → s ≡ replicate count line_feed ++ trimmed_start is_line_feed s
begins_with s count e =
    sym (take-append-drop (prefix_len is_line_feed s) s)
    ∙ ap (λ l. l ++ trimmed_start is_line_feed s) (take_leading s ∙ ap (λ n. replicate n line_feed) (sym e))

-- what is at the end of a text that doesn't begin with a line feed
ends_alone : (front : List ℕ) (y : ℕ) (ys : List ℕ) → is_line_feed y ≡ false
    → trimmed_end is_line_feed (front ++ y ∷ ys) ≡ front ++ trimmed_end is_line_feed (y ∷ ys)
ends_alone front y ys other =
    let joined : (l : List ℕ) → front ++ y ∷ l ≡ (front ++ y ∷ []) ++ l =
    λ l. sym (append_assoc front (y ∷ []) l) in
    ap (trimmed_end is_line_feed) (joined ys)
    ∙ trimmed_end-append is_line_feed (front ++ y ∷ []) ys (suffix_len-push is_line_feed front y other)
    ∙ sym (joined (trimmed_end is_line_feed ys))
    ∙ ap (λ l. front ++ l)
    (sym (trimmed_end-append is_line_feed (y ∷ []) ys (suffix_len-push is_line_feed [] y other)))

first_other : (s : List ℕ) → 0 < length (trimmed_start is_line_feed s)
    → is_line_feed (get_or (trimmed_start is_line_feed s) 0 0) ≡ false
first_other s some =
    let n = prefix_len is_line_feed s in
    let size : length (drop n s) ≡ length s - n = length-drop n s in
    ap is_line_feed (get_or-drop n s 0 0 ∙ ap (λ i. get_or s i 0) (omega arith))
    ∙ prefix_len_stops is_line_feed s 0 (omega arith)

all_pass : (n : ℕ) → suffix_len is_line_feed (replicate n line_feed) ≡ n
all_pass zero = refl
all_pass (suc n) =
    let last : replicate (suc n) line_feed ≡ replicate n line_feed ++ line_feed ∷ [] =
    sym (replicate_more n line_feed ∙ ap (λ k. replicate k line_feed) (add-one n)) in
    ap (suffix_len is_line_feed) last
    ∙ ap (prefix_len is_line_feed) (reverse-append (replicate n line_feed) (line_feed ∷ []))
    ∙ omega (arith, all_pass n)

-- line feeds alone are cut
all_cut : (n : ℕ) → trimmed_end is_line_feed (replicate n line_feed ++ []) ≡ []
all_cut n =
    let nothing : length (replicate n line_feed) - suffix_len is_line_feed (replicate n line_feed) ≡ 0 =
    omega (arith, length-replicate n line_feed, all_pass n) in
    ap (trimmed_end is_line_feed) (append-nil (replicate n line_feed))
    ∙ ap (λ k. take k (replicate n line_feed)) nothing

-- a text after line feeds, with the line feeds at the end cut
abbrev pub cut : ℕ → List ℕ → List ℕ
cut n t = trimmed_end is_line_feed (replicate n line_feed ++ t)

cut_some : (n : ℕ) (y : ℕ) (ys : List ℕ) → is_line_feed y ≡ false
    → cut n (y ∷ ys) ≡ replicate n line_feed ++ y ∷ trimmed_end is_line_feed ys
cut_some n y ys other = ends_alone (replicate n line_feed) y ys other
    ∙ ap (λ l. replicate n line_feed ++ l)
    (trimmed_end-append is_line_feed (y ∷ []) ys (suffix_len-push is_line_feed [] y other))

none_of : (n : ℕ) (t : List ℕ) → (0 < length t → is_line_feed (get_or t 0 0) ≡ false)
    → length (cut n t) ≡ 0
    → None ≡ option_map (between_line_feeds n) (some_text (trimmed_end is_line_feed t))
none_of n [] other none = refl
none_of n (y ∷ ys) other none =
    let is = cut_some n y ys (other (omega arith)) in
    let size : length (cut n (y ∷ ys))
    ≡ length (replicate n line_feed) + length (y ∷ trimmed_end is_line_feed ys) =
    ap length is ∙ length-append (replicate n line_feed) (y ∷ trimmed_end is_line_feed ys) in
    absurd (omega arith)

some_of : (n : ℕ) (t : List ℕ) → (0 < length t → is_line_feed (get_or t 0 0) ≡ false) → 0 < length (cut n t)
    → Some (cut n t ++ replicate n line_feed)
    ≡ option_map (between_line_feeds n) (some_text (trimmed_end is_line_feed t))
some_of n [] other some =
    let none : length (cut n []) ≡ 0 = ap length (all_cut n) in
    absurd (omega arith)
some_of n (y ∷ ys) other some =
    let first = other (omega arith) in
    let whole = trimmed_end-append is_line_feed (y ∷ []) ys (suffix_len-push is_line_feed [] y first) in
    rw (cut_some n y ys first) (rw whole (simp append_assoc))

-- a list of line feeds alone is none
no_block : (n : ℕ) (s : List ℕ) → length (cut n (trimmed_start is_line_feed s)) ≡ 0
    → None ≡ option_map (between_line_feeds n) (some_text (trimmed_text is_line_feed s))
no_block n s none = none_of n (trimmed_start is_line_feed s) (first_other s) none

-- any other list is a block
block : (n : ℕ) (s : List ℕ) → 0 < length (cut n (trimmed_start is_line_feed s))
    → Some (cut n (trimmed_start is_line_feed s) ++ replicate n line_feed)
    ≡ option_map (between_line_feeds n) (some_text (trimmed_text is_line_feed s))
block n s some = some_of n (trimmed_start is_line_feed s) (first_other s) some

-- by the line feeds that stand around it
pub no_list : (inside : Bool) (n : ℕ) (s : List ℕ) → n ≡ (if inside then 1 else 2)
    → length (cut n (trimmed_start is_line_feed s)) ≡ 0 → None ≡ list_block inside s
no_list inside n s is none =
    no_block n s none ∙ ap (λ k. option_map (between_line_feeds k) (some_text (trimmed_text is_line_feed s))) is

pub some_list : (inside : Bool) (n : ℕ) (s : List ℕ) → n ≡ (if inside then 1 else 2)
    → 0 < length (cut n (trimmed_start is_line_feed s))
    → Some (cut n (trimmed_start is_line_feed s) ++ replicate n line_feed) ≡ list_block inside s
some_list inside n s is some =
    block n s some ∙ ap (λ k. option_map (between_line_feeds k) (some_text (trimmed_text is_line_feed s))) is
