-- How a fenced code block is read that was put together in a certain way.
use Rattle.std.proofs.Common.{◌≡◌, ℕ, zero, suc, ◌+◌, ◌-◌, ◌<◌, ◌≤◌, Bool, true, false, cond, List, [], ◌∷◌, ◌++◌}
use Rattle.std.proofs.Common.{length, take, drop, refl, sym, ap, ◌∙◌, arith, append_assoc}
use Rattle.std.specs.Prelude.{not, ◌&&◌, ◌||◌, ◌==◌, nat_le, replicate, None, Some}
use Rattle.std.specs.List.{list_all, list_any, position_or_len}
use Rattle.std.specs.Option.{option_map}
use Rattle.std.proofs.lemmas.Bool.Decides.{nat_tests}
use Rattle.std.proofs.lemmas.List.{length_push}
use Rattle.std.proofs.lemmas.List.Folds.{list_any-append}
use Rattle.std.proofs.Math.Seq.{drop-append_seam, take-append_seam}
use Rattle.htmd_lexical.specs.Characters.{grave_accent, line_feed, space, tab, tilde}
use Rattle.htmd_markdown.specs.FenceReading.{is_line_end, first_line, behind_line_end, behind_first_line}
use Rattle.htmd_markdown.specs.FenceReading.{symbols_at_start, behind_symbols, is_opening, unindented_line, is_closing}
use Rattle.htmd_markdown.specs.FenceReading.{before_closing, read_fence}

-- ---- runs of the symbol

pub symbols_before : (c n : ℕ) (s : List ℕ) → (c == c) ≡ true
    → symbols_at_start c (replicate n c ++ s) ≡ n + symbols_at_start c s
symbols_before c zero s same = omega arith
symbols_before c (suc n) s same = rw same (omega (arith, symbols_before c n s same))

none_at_start : (c : ℕ) (s : List ℕ) (x : ℕ) (after : List ℕ) → list_any (λ b. b == c) s ≡ false
    → (x == c) ≡ false
    → symbols_at_start c (s ++ x ∷ after) ≡ 0
none_at_start c [] x after none other = rw other refl
none_at_start c (b ∷ s) x after none other =
    let first = neither (b == c) (list_any (λ b. b == c) s) none in
    rw first.0 refl
  where
    neither : (x y : Bool) → (x || y) ≡ false → (x ≡ false) × (y ≡ false)
    neither true y e = (cc, cc)
    neither false y e = (refl, e)

drop_front : (n c : ℕ) (s : List ℕ) → drop n (replicate n c ++ s) ≡ s
drop_front zero c s = refl
drop_front (suc n) c s = drop_front n c s

-- fewer than n symbols stand in a row, wherever one looks
abbrev pub Below : ℕ → ℕ → List ℕ → Type 0
Below c n s = (k : ℕ) → symbols_at_start c (drop k s) < n

-- ---- lines

line_before : (s after : List ℕ) → list_any is_line_end s ≡ false
    → position_or_len is_line_end (s ++ line_feed ∷ after) ≡ length s
line_before [] after none = refl
line_before (b ∷ s) after none = at_first (is_line_end b) (list_any is_line_end s) none (line_before s after)
  where
    at_first : (x y : Bool) → (x || y) ≡ false
        → (y ≡ false → position_or_len is_line_end (s ++ line_feed ∷ after) ≡ length s)
        → cond (not x) (1 + position_or_len is_line_end (s ++ line_feed ∷ after)) 0 ≡ suc (length s)
    at_first true y e rest = cc
    at_first false y e rest = omega (arith, rest e)

-- a line of a text is no longer where a line feed stands after the text
line_within : (s after : List ℕ) → first_line (s ++ line_feed ∷ after) ≡ take (position_or_len is_line_end s) s
line_within [] after = refl
line_within (b ∷ s) after = at_first (is_line_end b) (line_within s after)
  where
    at_first : (x : Bool) → first_line (s ++ line_feed ∷ after) ≡ take (position_or_len is_line_end s) s
        → take (cond (not x) (1 + position_or_len is_line_end (s ++ line_feed ∷ after)) 0)
        (b ∷ (s ++ line_feed ∷ after)) ≡ take (cond (not x) (1 + position_or_len is_line_end s) 0) (b ∷ s)
    at_first true rest = refl
    at_first false rest =
        let one : (n : ℕ) → 1 + n ≡ suc n = λ n. omega arith in
        ap (λ n. take n (b ∷ (s ++ line_feed ∷ after)))
        (one (position_or_len is_line_end (s ++ line_feed ∷ after)))
        ∙ ap (λ l. b ∷ l) rest
        ∙ ap (λ n. take n (b ∷ s)) (sym (one (position_or_len is_line_end s)))

-- ---- the closing line

symbols_of_part : (c k n : ℕ) (s : List ℕ)
    → symbols_at_start c (drop k (take n s)) ≤ symbols_at_start c (drop k s)
symbols_of_part c zero zero s = omega arith
symbols_of_part c (suc k) zero s = omega arith
symbols_of_part c zero (suc n) [] = omega arith
symbols_of_part c (suc k) (suc n) [] = omega arith
symbols_of_part c zero (suc n) (b ∷ s) = at_first (b == c) (symbols_of_part c zero n s)
  where
    at_first : (x : Bool) → symbols_at_start c (take n s) ≤ symbols_at_start c s
        → cond x (1 + symbols_at_start c (take n s)) 0 ≤ cond x (1 + symbols_at_start c s) 0
    at_first true le = omega arith
    at_first false le = omega arith
symbols_of_part c (suc k) (suc n) (b ∷ s) = symbols_of_part c k n s

no_closing : (c n m : ℕ) (s : List ℕ) → Below c n s → is_closing c n (take m s) ≡ false
no_closing c n m s below =
    let indent : ℕ = symbols_at_start space (take m s) in
    let part = symbols_of_part c indent m s in
    let short : nat_le n (symbols_at_start c (drop indent (take m s))) ≡ false =
    grind (arith, nat_tests, part, below indent) in
    fails (nat_le indent 3) (nat_le n (symbols_at_start c (drop indent (take m s))))
    (list_all (λ b. (b == space) || (b == tab)) (behind_symbols c (unindented_line (take m s)))) short
  where
    fails : (x y z : Bool) → y ≡ false → ((x && y) && z) ≡ false
    fails true false z e = refl
    fails false y z e = refl
    fails true true z e = cc

-- a line of symbols alone
symbols_line : (c n : ℕ) → is_line_end c ≡ false → first_line (replicate n c) ≡ replicate n c
symbols_line c zero other = refl
symbols_line c (suc n) other =
    let one : 1 + position_or_len is_line_end (replicate n c) ≡ suc (position_or_len is_line_end (replicate n c)) =
    omega arith in
    rw other (ap (λ k. take k (c ∷ replicate n c)) one ∙ ap (λ l. c ∷ l) (symbols_line c n other))

-- The character of a fence: no space, and no end of a line.
pub record MakesFences (c : ℕ) : Type 0 where
  pub itself : (c == c) ≡ true
  pub no_space : (c == space) ≡ false
  pub no_line_end : is_line_end c ≡ false
  pub no_line_feed : (line_feed == c) ≡ false

symbols_in : (c n : ℕ) → (c == c) ≡ true → symbols_at_start c (replicate n c) ≡ n
symbols_in c zero same = refl
symbols_in c (suc n) same = rw same (omega (arith, symbols_in c n same))

all_symbols : (c n : ℕ) → drop n (replicate n c) ≡ []
all_symbols c zero = refl
all_symbols c (suc n) = all_symbols c n

closing : (c n : ℕ) → MakesFences c → 0 < n → is_closing c n (replicate n c) ≡ true
closing c zero makes some = absurd (omega arith)
closing c (suc n) makes some =
    let enough : nat_le (suc n) (symbols_at_start c (replicate (suc n) c)) ≡ true =
    grind (arith, nat_tests, symbols_in c (suc n) makes.itself) in
    let all : behind_symbols c (replicate (suc n) c) ≡ [] =
    ap (λ k. drop k (replicate (suc n) c)) (symbols_in c (suc n) makes.itself) ∙ all_symbols c (suc n) in
    let flush : symbols_at_start space (replicate (suc n) c) ≡ 0 = rw makes.no_space refl in
    indented_by_none (symbols_at_start space (replicate (suc n) c)) flush enough all
  where
    indented_by_none : (k : ℕ) → k ≡ 0 → nat_le (suc n) (symbols_at_start c (replicate (suc n) c)) ≡ true
        → behind_symbols c (replicate (suc n) c) ≡ []
        → ((nat_le k 3 && nat_le (suc n) (symbols_at_start c (drop k (replicate (suc n) c)))) && list_all
        (λ b. (b == space) || (b == tab)) (behind_symbols c (drop k (replicate (suc n) c)))) ≡ true
    indented_by_none zero e enough all = rw (enough, all) refl
    indented_by_none (suc k) e enough all = cc

and_false : (x y : Bool) → y ≡ false → (x && y) ≡ false
and_false true y e = e
and_false false y e = refl

-- the code up to a line of n symbols, in which that many never stand in a row
before_closing-found : (c n : ℕ) (begins : Bool) (s : List ℕ) → MakesFences c → 0 < n → Below c n s
    → before_closing c n begins (s ++ line_feed ∷ replicate n c) ≡ Some (s ++ line_feed ∷ [])
before_closing-found c zero begins s makes some below = absurd (omega arith)
before_closing-found c (suc n) begins [] makes some below =
    let none : is_closing c (suc n) [] ≡ false = no_closing c (suc n) 0 [] below in
    let here : (begins && is_closing c (suc n) []) ≡ false = and_false begins (is_closing c (suc n) []) none in
    let line : is_closing c (suc n) (first_line (replicate (suc n) c)) ≡ true =
    ap (is_closing c (suc n)) (symbols_line c (suc n) makes.no_line_end) ∙ closing c (suc n) makes some in
    rw (here, line) refl
before_closing-found c (suc n) begins (b ∷ s) makes some below =
    let line : is_closing c (suc n) (first_line ((b ∷ s) ++ line_feed ∷ replicate (suc n) c)) ≡ false =
    ap (is_closing c (suc n)) (line_within (b ∷ s) (replicate (suc n) c))
    ∙ no_closing c (suc n) (position_or_len is_line_end (b ∷ s)) (b ∷ s) below in
    let here : (begins && is_closing c (suc n) (first_line ((b ∷ s) ++ line_feed ∷ replicate (suc n) c)))
    ≡ false =
    and_false begins (is_closing c (suc n) (first_line ((b ∷ s) ++ line_feed ∷ replicate (suc n) c))) line in
    rw here (ap (λ found. option_map (λ front. b ∷ front) found)
    (before_closing-found c (suc n) (is_line_end b) s makes some (λ k. below (suc k))))

-- ---- the whole block

no_symbols : (p : ℕ → Bool) (c n : ℕ) → p c ≡ false → list_any p (replicate n c) ≡ false
no_symbols p c zero other = refl
no_symbols p c (suc n) other = rw other (no_symbols p c n other)

abbrev pub block : ℕ → ℕ → List ℕ → List ℕ → List ℕ
block c n info code = (replicate n c ++ info) ++ line_feed ∷ (code ++ line_feed ∷ replicate n c)

opening_line : (c n : ℕ) (info code : List ℕ) → MakesFences c → list_any is_line_end info ≡ false
    → position_or_len is_line_end (block c n info code) ≡ length (replicate n c ++ info)
opening_line c n info code makes none =
    let whole : list_any is_line_end (replicate n c ++ info) ≡ false =
    list_any-append is_line_end (replicate n c) info ∙ rw (no_symbols is_line_end c n makes.no_line_end) none in
    line_before (replicate n c ++ info) (code ++ line_feed ∷ replicate n c) whole

symbols_of_block : (c n : ℕ) (info code : List ℕ) → MakesFences c → list_any (λ b. b == c) info ≡ false
    → symbols_at_start c (block c n info code) ≡ n
symbols_of_block c n info code makes none =
    ap (symbols_at_start c) (append_assoc (replicate n c) info (line_feed ∷ (code ++ line_feed ∷ replicate n c)))
    ∙ symbols_before c n (info ++ line_feed ∷ (code ++ line_feed ∷ replicate n c)) makes.itself
    ∙ ap (λ k. n + k) (none_at_start c info line_feed (code ++ line_feed ∷ replicate n c) none makes.no_line_feed)
    ∙ omega arith

-- what is between the first line and a line of n symbols, in which that many never stand in a row
pub read_fence-between : (c n : ℕ) (info code : List ℕ) → MakesFences c → 0 < n
    → is_opening (replicate n c ++ info) ≡ true → list_any is_line_end info ≡ false
    → list_any (λ b. b == c) info ≡ false → Below c n code → read_fence (block c n info code) ≡ Some code
read_fence-between c zero info code makes some opens no_end no_symbol below = absurd (omega arith)
read_fence-between c (suc n) info code makes some opens no_end no_symbol below =
    let text : List ℕ = block c (suc n) info code in
    let front : List ℕ = replicate (suc n) c ++ info in
    let rest : List ℕ = code ++ line_feed ∷ replicate (suc n) c in
    let place = opening_line c (suc n) info code makes no_end in
    let line : first_line text ≡ front =
    ap (λ k. take k text) place ∙ take-append_seam front (line_feed ∷ rest) in
    let behind : behind_first_line text ≡ rest =
    ap (λ k. behind_line_end (drop k text)) place
    ∙ ap behind_line_end (drop-append_seam front (line_feed ∷ rest)) in
    let found = before_closing-found c (suc n) true code makes some below in
    let size : length (code ++ line_feed ∷ []) - 1 ≡ length code = omega (arith, length_push code line_feed) in
    ap (λ l. cond (is_opening l)
    (option_map (λ front. take (length front - 1) front)
    (before_closing c (symbols_at_start c text) true (behind_first_line text))) None) line
    ∙ rw opens refl
    ∙ ap (λ k. option_map (λ front. take (length front - 1) front)
    (before_closing c k true (behind_first_line text)))
    (symbols_of_block c (suc n) info code makes no_symbol)
    ∙ ap (λ l. option_map (λ front. take (length front - 1) front) (before_closing c (suc n) true l)) behind
    ∙ ap (λ o. option_map (λ front. take (length front - 1) front) o) found
    ∙ ap (λ k. Some (take k (code ++ line_feed ∷ []))) size
    ∙ ap (λ l. Some l) (take-append_seam code (line_feed ∷ []))

-- three symbols or more open a fence
pub opens_with_tildes : (n : ℕ) (info : List ℕ) → 3 ≤ n → is_opening (replicate n tilde ++ info) ≡ true
opens_with_tildes n info le =
    let enough : nat_le 3 (symbols_at_start tilde (replicate n tilde ++ info)) ≡ true =
    grind (arith, nat_tests, symbols_before tilde n info refl) in
    rw enough refl

none_alone : (c : ℕ) (s : List ℕ) → list_any (λ b. b == c) s ≡ false → symbols_at_start c s ≡ 0
none_alone c [] none = refl
none_alone c (b ∷ s) none = at_first (b == c) (list_any (λ b. b == c) s) none
  where
    at_first : (x y : Bool) → (x || y) ≡ false → cond x (1 + symbols_at_start c s) 0 ≡ 0
    at_first true y e = cc
    at_first false y e = refl

pub opens_with_backquotes : (n : ℕ) (info : List ℕ) → 3 ≤ n
    → list_any (λ b. b == grave_accent) info ≡ false
    → is_opening (replicate n grave_accent ++ info) ≡ true
opens_with_backquotes n info le none =
    let line : List ℕ = replicate n grave_accent ++ info in
    let size : symbols_at_start grave_accent line ≡ n =
    symbols_before grave_accent n info refl ∙ ap (λ k. n + k) (none_alone grave_accent info none) ∙ omega arith in
    let enough : nat_le 3 (symbols_at_start grave_accent line) ≡ true = grind (arith, nat_tests, size) in
    let behind : behind_symbols grave_accent line ≡ info =
    ap (λ k. drop k line) size ∙ drop_front n grave_accent info in
    let bare : not (list_any (λ b. b == grave_accent) (behind_symbols grave_accent line)) ≡ true =
    ap (λ l. not (list_any (λ b. b == grave_accent) l)) behind ∙ ap not none in
    rw (enough, bare) (or_true (nat_le 3 (symbols_at_start tilde line)))
  where
    or_true : (x : Bool) → (x || true) ≡ true
    or_true true = refl
    or_true false = refl
