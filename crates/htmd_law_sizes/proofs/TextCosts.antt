-- How long the texts are that a document takes from attributes and from the texts below an element.
use Rattle.std.proofs.Common.{◌≡◌, ◌∙◌, refl, sym, ap, ℕ, zero, suc, ◌+◌, ◌*◌, ◌-◌, ◌≤◌, Bool, true, false, List, []}
use Rattle.std.proofs.Common.{◌∷◌, ◌++◌, length, append_assoc, cond, encode_utf8_all, arith}
use Rattle.std.proofs.lemmas.Bool.Decides.{nat_tests}
use Rattle.std.proofs.lemmas.List.{length-append}
use Rattle.std.proofs.lemmas.Str.{encode_ascii, len_utf8_bounds, length-encode}
use Rattle.std.specs.Prelude.{◌==◌, ◌&&◌, nat_lt, filter, fold, if◌then◌else◌, codes, Option, Some, None}
use Rattle.std.specs.Option.{unwrap_or}
use Rattle.std.specs.Char.{encode_utf8}
use Rattle.std.specs.Str.{bytes_eq, chars, chars_after, continuation_len, lead_bits}
use Rattle.htmd_lexical.specs.Characters.{line_feed, carriage_return}
use Rattle.htmd_lexical.specs.AttributePairs.{AttributePair}
use Rattle.htmd_text.specs.Trims.{trimmed_text, is_line_feed}
use Rattle.htmd_shown.specs.declared.role.Role.{Role}
use Rattle.htmd_shown.specs.AllTexts.{dollar_sign, formula_text, image_text, ends_line, with_line_end, text_in}
use Rattle.htmd_shown.specs.AllTexts.{all_text}
use Rattle.htmd_shown.specs.AllTexts.{all_text_among, Lines, written_for, with_character, no_lines, with_line_feeds}
use Rattle.htmd_shown.specs.AllTexts.{is_line, lines_of, without_last_line_feed}
use Rattle.htmd_shown.specs.Attributes.{value_of, text_of, is_filled, in_line, title_of_value}
use Rattle.htmd_shown.specs.Attributes.{title_of, description_of, address}
use Rattle.htmd_shown.specs.Roles.{is_line_break}
use Rattle.htmd_shown.specs.SimpleTrees.{Simple, text, image, formula, embedded, anchor, element, Simples, none, more}
use Rattle.htmd_law_sizes.specs.DocumentSizes.{size_of_option}
use Rattle.htmd_law_sizes.specs.SimpleSizes.{size_of_simple, size_of_simples}
use Rattle.htmd_law_sizes.specs.TreeSizes.{size_of_values}
use Rattle.htmd_document_of_tree.proofs.TextBytesLemmas.{encoded_le}
use Rattle.htmd_document_of_tree.proofs.TextLengths.{pieces_le, shown_le, line_le, trimmed_le, total}

-- ---- values

pub value_le : (name : List ℕ) (attributes : List AttributePair)
    → size_of_option (value_of name attributes) ≤ size_of_values attributes
value_le name [] = omega arith
value_le name (a ∷ attributes) = go (bytes_eq a.name name) (value_le name attributes)
  where
    go : (t : Bool) → size_of_option (value_of name attributes) ≤ size_of_values attributes
        → size_of_option (if t then Some a.value else value_of name attributes)
        ≤ length a.value + size_of_values attributes
    go true i = omega arith
    go false i = omega (arith, i)

pub option_le : (o : Option (List ℕ)) → length (unwrap_or o []) ≤ size_of_option o
option_le None = omega arith
option_le (Some s) = omega arith

pub text_le : (name : List ℕ) (attributes : List AttributePair)
    → length (text_of name attributes) ≤ size_of_values attributes
text_le name attributes = omega (arith, option_le (value_of name attributes), value_le name attributes)

-- ---- characters of a text

pub passing_le : (p : ℕ → Bool) (cs : List ℕ) → length (filter p cs) ≤ length cs
passing_le p [] = omega arith
passing_le p (c ∷ cs) = go (p c) (passing_le p cs)
  where
    go : (t : Bool) → length (filter p cs) ≤ length cs
        → length (if t then c ∷ filter p cs else filter p cs) ≤ suc (length cs)
    go true i = omega (arith, i)
    go false i = omega (arith, i)

title_value_le : (o : Option (List ℕ)) → size_of_option (title_of_value o) ≤ suc (2 * size_of_option o)
title_value_le None = omega arith
title_value_le (Some s) = go (is_filled (in_line s))
  where
    go : (t : Bool) → size_of_option (if t then Some (in_line s) else None) ≤ suc (2 * length s)
    go true = omega (arith, line_le s)
    go false = omega arith

pub title_le : (attributes : List AttributePair)
    → size_of_option (title_of attributes) ≤ suc (2 * size_of_values attributes)
title_le attributes =
    omega (arith, title_value_le (value_of (codes "title") attributes), value_le (codes "title") attributes)

pub description_le : (attributes : List AttributePair)
    → length (description_of attributes) ≤ suc (2 * size_of_values attributes)
description_le attributes = omega (arith, line_le (text_of (codes "alt") attributes), text_le (codes "alt") attributes)

-- ---- addresses

-- ---- texts below an element

formula_le : (tex : List ℕ) → length (formula_text tex) ≤ 3 + 2 * length tex
formula_le tex = omega (arith, line_le tex, length-append (in_line tex) (dollar_sign ∷ []))

image_le : (attributes : List AttributePair) → length (image_text attributes) ≤ 2 * size_of_values attributes
image_le attributes = omega (arith, shown_le (text_of (codes "alt") attributes), text_le (codes "alt") attributes)

line_end_le : (s : List ℕ) → length (with_line_end s) ≤ suc (length s)
line_end_le s = go (ends_line s)
  where
    go : (t : Bool) → length (if t then s else s ++ line_feed ∷ []) ≤ suc (length s)
    go true = omega arith
    go false = omega (arith, length-append s (line_feed ∷ []))

by_role_le : (r : Role) (inner : List ℕ) (k : ℕ) → length inner ≤ 3 * k
    → length (text_in r inner) ≤ 3 * suc k
by_role_le r inner k h = go (is_line_break r) (is_line r inner)
  where
    go : (x y : Bool)
        → length (if x then line_feed ∷ [] else (if y then with_line_end inner else inner)) ≤ 3 * suc k
    go true y = omega arith
    go false true = omega (arith, line_end_le inner, h)
    go false false = omega (arith, h)

mutual
  all_text_le : (t : Simple) → length (all_text t) ≤ 3 * size_of_simple t
  all_text_le (text s) = omega arith
  all_text_le (image address attributes) = omega (arith, image_le attributes)
  all_text_le (formula tex is_alone attributes) = omega (arith, formula_le tex)
  all_text_le (embedded id address title attributes anchors) = omega arith
  all_text_le (anchor id) = omega arith
  all_text_le (element id r facts attributes content) =
      omega (
        arith,
        by_role_le r (all_text_among content) (size_of_simples content) (all_among_le content),
      )

  all_among_le : (ts : Simples) → length (all_text_among ts) ≤ 3 * size_of_simples ts
  all_among_le none = omega arith
  all_among_le (more t ts) =
      omega (arith, all_text_le t, all_among_le ts, length-append (all_text t) (all_text_among ts))

feed_le : (c : ℕ) → length (encode_utf8 line_feed) ≤ length (encode_utf8 c)
feed_le c =
    omega (arith, ap length (encode_ascii line_feed (omega arith)), length-encode c, (len_utf8_bounds c).0)

written_le : (t : Bool) (c : ℕ) → length (encode_utf8_all (written_for t c)) ≤ length (encode_utf8 c)
written_le t c = go (c == carriage_return) ((c == line_feed) && t)
  where
    go : (x y : Bool)
        → length (encode_utf8_all (if x then line_feed ∷ [] else (if y then [] else c ∷ [])))
        ≤ length (encode_utf8 c)
    go true y = omega (arith, length-append (encode_utf8 line_feed) (encode_utf8_all []), feed_le c)
    go false true = omega arith
    go false false = omega (arith, length-append (encode_utf8 c) (encode_utf8_all []))

encode_append : (a b : List ℕ) → encode_utf8_all (a ++ b) ≡ encode_utf8_all a ++ encode_utf8_all b
encode_append [] b = refl
encode_append (c ∷ a) b =
    ap (λ (x : List ℕ). encode_utf8 c ++ x) (encode_append a b)
    ∙ sym (append_assoc (encode_utf8 c) (encode_utf8_all a) (encode_utf8_all b))

lines_written : (cs : List ℕ) (l : Lines)
    → length (encode_utf8_all (fold with_character l cs).written)
    ≤ length (encode_utf8_all l.written) + length (encode_utf8_all cs)
lines_written [] l = omega arith
lines_written (c ∷ cs) l =
    omega (
      arith,
      lines_written cs (with_character l c),
      ap length (encode_append l.written (written_for l.after_return c)),
      length-append (encode_utf8_all l.written) (encode_utf8_all (written_for l.after_return c)),
      length-append (encode_utf8 c) (encode_utf8_all cs),
      written_le l.after_return c,
    )

-- what a character takes whose bytes are read, and at most what those take that began one
abbrev begun : ℕ → ℕ → ℕ
begun zero c = length (encode_utf8 c)
begun (suc n) c = 2

begins_le : (b : ℕ) → begun (continuation_len b) (lead_bits b) ≤ 2
begins_le b = go (nat_lt b 128) refl (nat_lt b 224) (nat_lt b 240)
  where
    go : (x : Bool) → nat_lt b 128 ≡ x → (y z : Bool)
        → begun (cond x 0 (cond y 1 (cond z 2 3))) (cond x b (cond y (b - 192) (cond z (b - 224) (b - 240)))) ≤ 2
    go true e y z = omega (arith, ap length (encode_ascii b (grind (arith, nat_tests, e))))
    go false e true z = omega arith
    go false e false true = omega arith
    go false e false false = omega arith

read_after : (n c : ℕ) (s : List ℕ)
    → length (encode_utf8_all (chars_after n c s)) ≤ begun n c + 2 * length s
read_after zero c [] = omega (arith, length-append (encode_utf8 c) (encode_utf8_all []))
read_after zero c (b ∷ s) =
    omega (
      arith,
      length-append (encode_utf8 c) (encode_utf8_all (chars_after (continuation_len b) (lead_bits b) s)),
      read_after (continuation_len b) (lead_bits b) s,
      begins_le b,
    )
read_after (suc n) c [] = omega arith
read_after (suc zero) c (b ∷ s) =
    omega (arith, read_after zero (c * 64 + (b - 128)) s, encoded_le (c * 64 + (b - 128)))
read_after (suc (suc n)) c (b ∷ s) = omega (arith, read_after (suc n) (c * 64 + (b - 128)) s)

-- the characters of a text, written again
read_le : (s : List ℕ) → length (encode_utf8_all (chars s)) ≤ 2 * length s
unfolding chars
read_le [] = omega arith
read_le (b ∷ s) = omega (arith, read_after (continuation_len b) (lead_bits b) s, begins_le b)

-- with each line end as one line feed
pub with_feeds_le : (s : List ℕ) → length (with_line_feeds s) ≤ 2 * length s
with_feeds_le s = omega (arith, lines_written (chars s) no_lines, read_le s)

-- the text of a code block, or of lines of code
pub code_text_le : (content : Simples) → length (with_line_feeds (all_text_among content))
    ≤ 6 * size_of_simples content
code_text_le content = omega (arith, with_feeds_le (all_text_among content), all_among_le content)

pub without_last_le : (s : List ℕ) → length (without_last_line_feed s) ≤ length s
without_last_le [] = omega arith
without_last_le (b ∷ []) = go (b == line_feed)
  where
    go : (t : Bool) → length (if t then [] else b ∷ []) ≤ 1
    go true = omega arith
    go false = omega arith
without_last_le (b ∷ c ∷ s) = omega (arith, without_last_le (c ∷ s))

pub lines_le : (s : List ℕ) → total (lines_of s) + length (lines_of s) ≤ suc (length s)
lines_le s = omega (arith, pieces_le is_line_feed (trimmed_text is_line_feed s), trimmed_le is_line_feed s)
