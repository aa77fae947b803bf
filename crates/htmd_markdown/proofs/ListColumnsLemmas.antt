-- The items of an ordered list keep their place in the list's text.
use Rattle.std.proofs.Common.{◌≡◌, ℕ, zero, suc, ◌+◌, ◌-◌, ◌/◌, ◌^◌, ◌<◌, ◌≤◌, Bool, true, false, cond, List, [], ◌∷◌}
use Rattle.std.proofs.Common.{◌++◌, length, get_or, take, drop, min, max, fold, refl, sym, ap, ◌∙◌, arith, subst}
use Rattle.std.proofs.Common.{append_assoc, length-append, add-one, ⊎_elim}
use Rattle.std.specs.Prelude.{replicate, reverse}
use Rattle.std.specs.List.{prefix_len, suffix_len}
use Rattle.std.specs.Fmt.{decimal}
use Rattle.std.specs.Int.Digits.{digits_of}
use Rattle.std.proofs.Math.Seq.{take-append-add}
use Rattle.std.proofs.lemmas.Bool.{cases_lt}
use Rattle.std.proofs.lemmas.Bool.Decides.{nat_tests}
use Rattle.std.proofs.lemmas.Fmt.{decimal_digit, decimal-digits_of, decimal_is_IsNumeral}
use Rattle.std.proofs.lemmas.Str.Parse.{digit_at}
use Rattle.std.proofs.lemmas.List.{length-map, length-replicate, reverse-append, replicate_more, take-append-drop}
use Rattle.std.proofs.lemmas.List.{get_or_append_left, get_or-reverse, length-reverse}
use Rattle.std.proofs.lemmas.List.Sums.{fold-append, suffix_len-le-length, suffix_len-take_no, prefix_len_stops}
use Rattle.htmd_lexical.specs.Characters.{line_feed, space, full_stop}
use Rattle.htmd_text.specs.Digits.{digits}
use Rattle.htmd_text.specs.Trims.{trimmed_start, trimmed_end, cut_end, is_line_feed}
use Rattle.htmd_text.specs.Indents.{indented_text}
use Rattle.htmd_text.specs.Joins.{block_separator, join_block, joined_blocks}
use Rattle.htmd_text.proofs.DigitsLemmas.{digits_more, digits_one}
use Rattle.htmd_markdown.specs.ListItems.{number_marker, numbered_item}
use Rattle.htmd_markdown.specs.Lists.{Block, item, item_count, numbered_blocks, highest_number, ordered_list}
use Rattle.htmd_markdown.specs.ListColumns.{item_content, StandsInColumn, HasEqualColumns}
use Rattle.htmd_markdown.proofs.ListsLemmas.{numbered-append, item_count-append}

-- ---- what is at the end of two texts

prefix_stops : (p : ℕ → Bool) (xs ys : List ℕ) → prefix_len p ys ≡ 0
    → prefix_len p (xs ++ ys) ≡ prefix_len p xs
prefix_stops p [] ys none = none
prefix_stops p (x ∷ xs) ys none = ap (λ n. cond (p x) (1 + n) 0) (prefix_stops p xs ys none)

none_first : (test : Bool) (n k : ℕ) → cond test (1 + n) 0 ≡ 0 → cond test (1 + k) 0 ≡ 0
none_first true n k e = absurd (omega arith)
none_first false n k e = refl

prefix_none : (p : ℕ → Bool) (xs ys : List ℕ) → 0 < length xs → prefix_len p xs ≡ 0
    → prefix_len p (xs ++ ys) ≡ 0
prefix_none p [] ys some none = absurd (omega arith)
prefix_none p (x ∷ xs) ys some none = none_first (p x) (prefix_len p xs) (prefix_len p (xs ++ ys)) none

suffix_len-append : (p : ℕ → Bool) (xs ys : List ℕ) → suffix_len p xs ≡ 0
    → suffix_len p (xs ++ ys) ≡ suffix_len p ys
suffix_len-append p xs ys none = ap (prefix_len p) (reverse-append xs ys)
    ∙ prefix_stops p (reverse ys) (reverse xs) none

suffix_none : (p : ℕ → Bool) (xs ys : List ℕ) → 0 < length ys → suffix_len p ys ≡ 0
    → suffix_len p (xs ++ ys) ≡ 0
suffix_none p xs ys some none =
    ap (prefix_len p) (reverse-append xs ys)
    ∙ prefix_none p (reverse ys) (reverse xs) (omega (arith, length-reverse ys)) none

pub suffix_len-push : (p : ℕ → Bool) (xs : List ℕ) (y : ℕ) → p y ≡ false
    → suffix_len p (xs ++ y ∷ []) ≡ 0
suffix_len-push p xs y other = ap (prefix_len p) (reverse-append xs (y ∷ []))
    ∙ ap (λ t. cond t (1 + prefix_len p (reverse xs)) 0) other

pub trimmed_end-append : (p : ℕ → Bool) (xs ys : List ℕ) → suffix_len p xs ≡ 0
    → trimmed_end p (xs ++ ys) ≡ xs ++ trimmed_end p ys
trimmed_end-append p xs ys none =
    let size : length (xs ++ ys) - suffix_len p (xs ++ ys) ≡ length xs + (length ys - suffix_len p ys) =
    omega (arith, length-append xs ys, suffix_len-append p xs ys none, suffix_len-le-length p ys) in
    ap (λ n. take n (xs ++ ys)) size ∙ take-append-add xs ys (length ys - suffix_len p ys)

-- ---- a text without line feeds at its end stays in front

pub record BeginsWith (start text : List ℕ) : Type 0 where
  pub rest : List ℕ
  pub is : text ≡ start ++ rest

block_behind : (start rest block : List ℕ) (separator : List ℕ) → suffix_len is_line_feed start ≡ 0
    → (trimmed_end is_line_feed (start ++ rest) ++ separator) ++ block ≡ start
    ++ ((trimmed_end is_line_feed rest ++ separator) ++ block)
block_behind start rest block separator none = rw (trimmed_end-append is_line_feed start rest none) (simp append_assoc)

kept : (start rest : List ℕ) (blocks : List (List ℕ)) → suffix_len is_line_feed start ≡ 0
    → BeginsWith start (fold join_block (start ++ rest) blocks)
kept start rest [] none = record { rest = rest; is = refl }
kept start rest ([] ∷ blocks) none = kept start rest blocks none
kept start rest ((b ∷ block) ∷ blocks) none =
    let separator = block_separator (start ++ rest) (b ∷ block) in
    let front = trimmed_start is_line_feed (b ∷ block) in
    subst (λ (out : List ℕ). BeginsWith start (fold join_block out blocks))
    (sym (block_behind start rest front separator none))
    (kept start ((trimmed_end is_line_feed rest ++ separator) ++ front) blocks none)

-- ---- an item begins a line

last_of : (k : ℕ) → 0 < k → replicate k line_feed ≡ replicate (k - 1) line_feed ++ line_feed ∷ []
last_of k some = ap (λ n. replicate n line_feed) (omega arith) ∙ sym (replicate_more (k - 1) line_feed)

pub record BeginsLine (line text : List ℕ) : Type 0 where
  pub before : List ℕ
  pub is : text ≡ (before ++ line_feed ∷ []) ++ line

one_line_feed : (m : ℕ) (line : List ℕ) → is_line_feed m ≡ false
    → prefix_len is_line_feed (line_feed ∷ m ∷ line) ≡ 1
one_line_feed m line other = ap (λ t. 1 + cond t (1 + prefix_len is_line_feed line) 0) other

line_joined : (out line : List ℕ) → 0 < length line → is_line_feed (get_or line 0 0) ≡ false
    → BeginsLine line (join_block out (line_feed ∷ line))
line_joined out [] some other = absurd (omega arith)
line_joined out (m ∷ line) some other =
    let front = one_line_feed m line other in
    let count = min (max (suffix_len is_line_feed out) (prefix_len is_line_feed (line_feed ∷ m ∷ line))) 2 in
    let separator : replicate count line_feed ≡ replicate (count - 1) line_feed ++ line_feed ∷ [] =
    last_of count (omega (arith, front)) in
    record {
      before = trimmed_end is_line_feed out ++ replicate (count - 1) line_feed;
      is =
          ap (λ n. (trimmed_end is_line_feed out ++ replicate count line_feed) ++ drop n (line_feed ∷ m ∷ line))
          front
          ∙ ap (λ l. (trimmed_end is_line_feed out ++ l) ++ m ∷ line) separator
          ∙ ap (λ l. l ++ m ∷ line)
          (sym (append_assoc (trimmed_end is_line_feed out) (replicate (count - 1) line_feed) (line_feed ∷ [])));
    }

-- ---- the marker and the content after it

trimmed_at : (p : ℕ → Bool) (s : List ℕ) (n : ℕ) → n ≡ length s - suffix_len p s
    → suffix_len p (take n s) ≡ 0
trimmed_at p s zero e = refl
trimmed_at p s (suc n) e =
    let stops = prefix_len_stops p (reverse s) 0 (omega (arith, length-reverse s)) in
    let same : get_or (reverse s) (suffix_len p s) 0 ≡ get_or s (suc n - 1) 0 =
    get_or-reverse s (suffix_len p s) 0 (omega arith)
    ∙ ap (λ k. get_or s k 0) (omega (arith, suffix_len-le-length p s)) in
    suffix_len-take_no p s (suc n) 0 (omega arith) (omega arith) (ap p (sym same) ∙ stops)

trimmed_none : (p : ℕ → Bool) (s : List ℕ) → suffix_len p (trimmed_end p s) ≡ 0
trimmed_none p s = trimmed_at p s (length s - suffix_len p s) refl

regrouped : (a b c d : List ℕ) → a ++ (b ++ (c ++ d)) ≡ (a ++ b ++ c) ++ d
regrouped a b c d = simp append_assoc

item_stands : (column : ℕ) (marker content out : List ℕ) (later : List (List ℕ)) → 0 < length marker
    → is_line_feed (get_or marker 0 0) ≡ false → suffix_len is_line_feed marker ≡ 0 → length marker ≡ column
    → StandsInColumn column marker (trimmed_end is_line_feed content)
    (fold join_block (join_block out (line_feed ∷ marker ++ content)) later)
item_stands column marker content out later some first end width =
    let line = marker ++ content in
    let begun = line_joined out line (omega (arith, length-append marker content))
    (ap is_line_feed (get_or_append_left marker content 0 0 some) ∙ first) in
    let front = begun.before ++ line_feed ∷ [] in
    let start = front ++ marker ++ trimmed_end is_line_feed content in
    let parts : trimmed_end is_line_feed content ++ cut_end is_line_feed content ≡ content =
    take-append-drop (length content - suffix_len is_line_feed content) content in
    let whole : join_block out (line_feed ∷ line) ≡ start ++ cut_end is_line_feed content =
    begun.is ∙ ap (λ l. front ++ (marker ++ l)) (sym parts)
    ∙ regrouped front marker (trimmed_end is_line_feed content)
    (cut_end is_line_feed content) in
    let none = suffix_len-append is_line_feed (front ++ marker) (trimmed_end is_line_feed content)
    (suffix_none is_line_feed front marker some end) ∙ trimmed_none is_line_feed content in
    let keeps = kept start (cut_end is_line_feed content) later none in
    record {
      before = begun.before;
      behind = keeps.rest;
      whole = ap (λ l. fold join_block l later) whole ∙ keeps.is;
      width = width;
    }

-- ---- how wide a marker is

length-decimal : (n : ℕ) → n < 2 ^ 64 → length (decimal n) ≡ digits n
length-decimal zero small = ap length (decimal_digit 0 (omega arith))
length-decimal (suc n) small =
    let some : digits (suc n) ≡ length (digits_of 10 (suc n)) = grind (arith, nat_tests) in
    ap length (decimal-digits_of (suc n) (omega arith) small) ∙ length-map (digits_of 10 (suc n)) (λ d. 48 + d)
    ∙ sym some

digits_some : (n : ℕ) → 1 ≤ digits n
digits_some zero = omega arith
digits_some (suc n) = ⊎_elim (λ small. omega (arith, digits_one (suc n) small))
    (λ large. omega (arith, digits_more (suc n) large)) (cases_lt (suc n) 10)

digits_grow : (most m n : ℕ) → n ≤ most → m ≤ n → digits m ≤ digits n
digits_grow zero m n bound le =
    let same : m ≡ n = omega arith in
    omega (arith, ap digits same)
digits_grow (suc most) m n bound le =
    ⊎_elim (λ small. omega (arith, digits_one m small, digits_some n))
    (λ large. omega (
      arith,
      digits_more m large,
      digits_more n (omega arith),
      digits_grow most (m / 10) (n / 10)
          (omega arith) (omega arith),
    ))
    (cases_lt m 10)

length-number_marker : (spacing highest number : ℕ) → number < 2 ^ 64 → number ≤ highest
    → length (number_marker spacing highest number) ≡ spacing + digits highest + 1
length-number_marker spacing highest number small le =
    let spaces = spacing + (digits highest - digits number) in
    omega (
      arith,
      length-append (decimal number) (full_stop ∷ replicate spaces space),
      length-decimal number small,
      length-replicate spaces space,
      digits_grow highest number highest (omega arith) le,
    )

spaces_none : (k : ℕ) → suffix_len is_line_feed (replicate k space) ≡ 0
spaces_none zero = refl
spaces_none (suc k) =
    let last : replicate (suc k) space ≡ replicate k space ++ space ∷ [] =
    sym (replicate_more k space ∙ ap (λ n. replicate n space) (add-one k)) in
    ap (suffix_len is_line_feed) last ∙ suffix_len-push is_line_feed (replicate k space) space refl

number_marker-end : (spacing highest number : ℕ)
    → suffix_len is_line_feed (number_marker spacing highest number) ≡ 0
number_marker-end spacing highest number =
    let spaces = replicate (spacing + (digits highest - digits number)) space in
    ap (suffix_len is_line_feed) (sym (append_assoc (decimal number) (full_stop ∷ []) spaces))
    ∙ suffix_len-append is_line_feed (decimal number ++ full_stop ∷ []) spaces
    (suffix_len-push is_line_feed (decimal number) full_stop refl)
    ∙ spaces_none (spacing + (digits highest - digits number))

digit_first : (b : ℕ) → 48 ≤ b → is_line_feed b ≡ false
digit_first b le = grind (arith, nat_tests)

-- ---- each item

pub columns_equal : (first spacing : ℕ) (blocks : List Block) → first + item_count blocks < 2 ^ 64
    → HasEqualColumns first spacing blocks (ordered_list first spacing blocks)
columns_equal first spacing blocks small = λ earlier later content split.
    let highest = highest_number first blocks in
    let number = first + item_count earlier in
    let marker = number_marker spacing highest number in
    let count = ap item_count split ∙ item_count-append earlier (item content ∷ later) in
    let width = length-number_marker spacing highest number (omega (arith, count)) (omega (arith, count)) in
    let numeral = (decimal_is_IsNumeral number (omega (arith, count))).0 in
    let digit = digit_at (decimal number) 0 numeral.1 numeral.0 in
    let behind = full_stop ∷ replicate (spacing + (digits highest - digits number)) space in
    let first_byte = ap is_line_feed (get_or_append_left (decimal number) behind 0 0 numeral.0)
    ∙ digit_first (get_or (decimal number) 0 0) digit.0 in
    let out = joined_blocks (numbered_blocks spacing highest first earlier) in
    let rest = numbered_blocks spacing highest (suc number) later in
    let text : ordered_list first spacing blocks ≡ fold join_block
    (join_block out (numbered_item spacing highest number content)) rest =
    ap (λ (l : List Block). joined_blocks (numbered_blocks spacing highest first l)) split
    ∙ ap joined_blocks (numbered-append spacing highest first earlier (item content ∷ later))
    ∙ fold-append join_block [] (numbered_blocks spacing highest first earlier)
    (numbered_item spacing highest number content
    ∷ rest) in
    let stands = item_stands (spacing + digits highest + 1) marker (indented_text (trimmed_start is_line_feed content)
    (length marker) true) out rest (omega (arith, width)) first_byte (number_marker-end spacing highest number)
    width in
    subst (λ (l : List ℕ). StandsInColumn (spacing + digits highest + 1) marker
    (item_content (spacing + digits highest + 1) content) l) (sym text)
    (subst (λ (n : ℕ). StandsInColumn (spacing + digits highest + 1) marker
    (trimmed_end is_line_feed (indented_text (trimmed_start is_line_feed content) n true))
    (fold join_block (join_block out (numbered_item spacing highest number content)) rest)) width stands)
