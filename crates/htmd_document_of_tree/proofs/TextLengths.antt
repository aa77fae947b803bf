-- How long texts are that are made of others.
use Rattle.std.proofs.Common.{◌≡◌, refl, ap, ℕ, zero, suc, ◌+◌, ◌*◌, ◌-◌, ◌≤◌, Bool, true, false, List, [], ◌∷◌, ◌++◌}
use Rattle.std.proofs.Common.{length, arith}
use Rattle.std.proofs.lemmas.List.{length-append, length-take, length-drop}
use Rattle.std.specs.Prelude.{nat_lt, cond, filter, if◌then◌else◌, codes, Option, Some, None}
use Rattle.std.specs.List.{slice_split, onto_first, flat_map, suffix_len, prefix_len}
use Rattle.std.specs.Option.{unwrap_or}
use Rattle.std.specs.Char.{encode_utf8}
use Rattle.std.specs.Str.{chars, chars_after, continuation_len, lead_bits, encode_utf8_all}
use Rattle.std.proofs.lemmas.Bool.Decides.{nat_tests}
use Rattle.std.proofs.lemmas.Str.{encode_ascii}
use Rattle.htmd_lexical.specs.AttributePairs.{AttributePair}
use Rattle.htmd_lexical.specs.Characters.{space}
use Rattle.htmd_lexical.specs.WhiteSpace.{is_ascii_white_space}
use Rattle.htmd_text.specs.Joins.{joined_texts}
use Rattle.htmd_text.specs.Trims.{trimmed_start, trimmed_text}
use Rattle.htmd_shown.specs.Attributes.{is_filled, words, in_line, title_of_value, text_of, value_of}
use Rattle.htmd_shown.specs.Attributes.{is_space_or_control, is_in_address, address}
use Rattle.htmd_shown.specs.ShownTexts.{is_shown, shown_text}
use Rattle.htmd_shown.specs.Roles.{is_link}
use Rattle.htmd_shown.specs.declared.role.Role.{Role}
use Rattle.htmd_document_of_tree.specs.Limits.{address_in, address_of, characters, size, title_text}
use Rattle.htmd_document_of_tree.proofs.TextBytesLemmas.{encoded_le}

-- ---- characters of a text

-- a text has at most as many characters as bytes
after_le : (k c : ℕ) (s : List ℕ) → length (chars_after k c s) ≤ suc (length s)
after_le zero c [] = omega arith
after_le (suc k) c [] = omega arith
after_le zero c (b ∷ s) = omega (arith, after_le (continuation_len b) (lead_bits b) s)
after_le (suc k) c (b ∷ s) = omega (arith, after_le k (c * 64 + (b - 128)) s)

pub characters_le : (s : List ℕ) → length (chars s) ≤ length s
unfolding chars
characters_le [] = omega arith
characters_le (b ∷ s) = after_le (continuation_len b) (lead_bits b) s

-- what a character takes whose bytes are read, and at most what those take that began one
abbrev begun : ℕ → ℕ → ℕ
begun zero c = length (encode_utf8 c)
begun (suc n) c = 2

begins_le : (b : ℕ) → begun (continuation_len b) (lead_bits b) ≤ 2
begins_le b = go (nat_lt b 128) refl (nat_lt b 224) (nat_lt b 240)
  where
    go : (x : Bool) → nat_lt b 128 ≡ x → (y z : Bool)
        → begun (cond x 0 (cond y 1 (cond z 2 3))) (cond x b (cond y (b - 192) (cond z (b - 224) (b - 240)))) ≤ 2
    go true e y z = omega (arith, ap length (encode_ascii b (grind (arith, nat_tests, e))))
    go false e true z = omega arith
    go false e false true = omega arith
    go false e false false = omega arith

first_kept : (p : ℕ → Bool) (c : ℕ) (cs : List ℕ)
    → length (encode_utf8_all (filter p (c ∷ cs)))
    ≤ length (encode_utf8 c) + length (encode_utf8_all (filter p cs))
first_kept p c cs = go (p c)
  where
    go : (t : Bool) → length (encode_utf8_all (if t then c ∷ filter p cs else filter p cs))
        ≤ length (encode_utf8 c) + length (encode_utf8_all (filter p cs))
    go true = omega (arith, length-append (encode_utf8 c) (encode_utf8_all (filter p cs)))
    go false = omega arith

kept_after : (p : ℕ → Bool) (n c : ℕ) (bs : List ℕ)
    → length (encode_utf8_all (filter p (chars_after n c bs))) ≤ begun n c + 2 * length bs
kept_after p zero c [] = omega (arith, first_kept p c [])
kept_after p zero c (b ∷ bs) =
    omega (
      arith,
      first_kept p c (chars_after (continuation_len b) (lead_bits b) bs),
      kept_after p (continuation_len b) (lead_bits b) bs,
      begins_le b,
    )
kept_after p (suc n) c [] = omega arith
kept_after p (suc zero) c (b ∷ bs) =
    omega (arith, kept_after p zero (c * 64 + (b - 128)) bs, encoded_le (c * 64 + (b - 128)))
kept_after p (suc (suc n)) c (b ∷ bs) = omega (arith, kept_after p (suc n) (c * 64 + (b - 128)) bs)

-- those of the characters of a text that are kept
kept_le : (p : ℕ → Bool) (s : List ℕ) → length (encode_utf8_all (filter p (chars s))) ≤ 2 * length s
unfolding chars
kept_le p [] = omega arith
kept_le p (b ∷ bs) = omega (arith, kept_after p (continuation_len b) (lead_bits b) bs, begins_le b)

pub shown_le : (s : List ℕ) → length (shown_text s) ≤ 2 * length s
shown_le s = kept_le is_shown s

-- ---- pieces between bytes

abbrev pub total : List (List ℕ) → ℕ
total [] = 0
total (s ∷ texts) = length s + total texts

split_total : (p : ℕ → Bool) (s : List ℕ)
    → total (slice_split p s) + length (slice_split p s) ≡ suc (length s)
split_total p [] = refl
split_total p (b ∷ s) = go (p b) refl (slice_split p s) (split_total p s)
  where
    go : (t : Bool) → p b ≡ t → (ls : List (List ℕ)) → total ls + length ls ≡ suc (length s)
        → total (if t then [] ∷ ls else onto_first b ls) + length (if t then [] ∷ ls else onto_first b ls)
        ≡ suc (suc (length s))
    go true e ls is = omega (arith, is)
    go false e [] is = absurd (omega (arith, is))
    go false e (l ∷ ls) is = omega (arith, is)

pub pieces_le : (p : ℕ → Bool) (s : List ℕ)
    → total (slice_split p s) + length (slice_split p s) ≤ suc (length s)
pieces_le p s = omega (arith, split_total p s)

filtered_le : (p : List ℕ → Bool) (ls : List (List ℕ))
    → total (filter p ls) + length (filter p ls) ≤ total ls + length ls
filtered_le p [] = omega arith
filtered_le p (l ∷ ls) = go (p l) (filtered_le p ls)
  where
    go : (t : Bool) → total (filter p ls) + length (filter p ls) ≤ total ls + length ls
        → total (if t then l ∷ filter p ls else filter p ls) + length (if t then l ∷ filter p ls else filter p ls)
        ≤ length l + total ls + suc (length ls)
    go true i = omega (arith, i)
    go false i = omega (arith, i)

pub words_le : (s : List ℕ) → total (words s) + length (words s) ≤ suc (length s)
words_le s =
    omega (
      arith,
      filtered_le is_filled (slice_split is_ascii_white_space s),
      pieces_le is_ascii_white_space s,
    )

after_spaces : (ls : List (List ℕ))
    → length (flat_map (λ next. (space ∷ []) ++ next) ls) ≤ total ls + length ls
after_spaces [] = omega arith
after_spaces (l ∷ ls) =
    omega (arith, after_spaces ls, length-append l (flat_map (λ next. (space ∷ []) ++ next) ls))

joined_le : (ls : List (List ℕ)) → length (joined_texts (space ∷ []) ls) ≤ total ls + length ls
joined_le [] = omega arith
joined_le (l ∷ ls) =
    omega (arith, after_spaces ls, length-append l (flat_map (λ next. (space ∷ []) ++ next) ls))

pub line_le : (s : List ℕ) → length (in_line s) ≤ suc (2 * length s)
line_le s = omega (arith, joined_le (words (shown_text s)), words_le (shown_text s), shown_le s)

-- ---- addresses and titles of links

pub trimmed_le : (p : ℕ → Bool) (s : List ℕ) → length (trimmed_text p s) ≤ length s
trimmed_le p s =
    let t = trimmed_start p s in
    omega (arith, length-take (length t - suffix_len p t) t, length-drop (prefix_len p s) s)

pub address_le : (s : List ℕ) → length (address s) ≤ 2 * length s
address_le s =
    let t = trimmed_text is_space_or_control s in
    omega (arith, kept_le is_in_address t, trimmed_le is_space_or_control s)

in_le : (role : Role) (attributes : List AttributePair)
    → characters (address_in role attributes) ≤ 2 * length (text_of (codes "href") attributes)
in_le role attributes = go (is_link role)
  where
    go : (t : Bool) → characters (if t then address_of attributes else [])
        ≤ 2 * length (text_of (codes "href") attributes)
    go true =
        let href = text_of (codes "href") attributes in
        omega (arith, characters_le (address href), address_le href)
    go false = omega (arith, characters_le [])

pub size_le : (role : Role) (attributes : List AttributePair)
    → size role attributes ≤ 2 * (length (text_of (codes "href") attributes) + length
    (text_of (codes "title") attributes)) + 1
size_le role attributes = omega (
  arith,
  in_le role attributes,
  characters_le (title_text attributes),
  by (value_of (codes "title") attributes),
)
  where
    by : (o : Option (List ℕ)) → length (unwrap_or (title_of_value o) []) ≤ suc (2 * length (unwrap_or o []))
    by None = omega arith
    by (Some s) = go (is_filled (in_line s))
      where
        go : (t : Bool) → length (unwrap_or (if t then Some (in_line s) else None) []) ≤ suc (2 * length s)
        go true = omega (arith, line_le s)
        go false = omega arith
