-- Words between white space, and where a text may be cut.
use Rattle.std.proofs.Common.{◌≡◌, ℕ, suc, ◌+◌, ◌<◌, Bool, true, false, cond, List, [], ◌∷◌, ◌++◌, length, get_or, take}
use Rattle.std.proofs.Common.{drop, refl, sym, ap, ◌∙◌, arith, subst, All, not, filter}
use Rattle.std.specs.Char.{is_ascii_digit, is_ascii_whitespace}
use Rattle.std.specs.List.{prefix_len, slice_split, onto_first}
use Rattle.std.specs.Prelude.{◌==◌}
use Rattle.std.specs.Str.{IsCharBoundary}
use Rattle.std.proofs.lemmas.List.{get_or-take, length-take, length-drop}
use Rattle.std.proofs.lemmas.List.Sums.{prefix_len_passes, prefix_len_stops, prefix_len-le-length}
use Rattle.std.proofs.lemmas.Bool.Decides.{nat_tests}
use Rattle.htmd_lexical.proofs.Cases.{test}
use Rattle.htmd_text.proofs.TrimsLemmas.{OfAscii}
use Rattle.std.proofs.Common.{encode_utf8_all, Option, Some, None}
use Rattle.std.specs.Prelude.{encode_utf8}
use Rattle.std.specs.Option.{option_or}
use Rattle.std.proofs.lemmas.List.{append-nil, take_more}
use Rattle.std.proofs.lemmas.List.Elements.{filter-append}
use Rattle.std.proofs.lemmas.Str.{encodes-append}
use Rattle.htmd_document.specs.declared.document.Alignment.{Alignment}
use Rattle.htmd_shown.specs.Attributes.{words, is_filled, is_space_or_control, alignment_of_declaration}
use Rattle.htmd_shown.specs.Attributes.{alignment_of_declarations}
use Rattle.htmd_shown.specs.Images.{is_comma}

-- the digits that begin a text
pub digits-front : (s : List ℕ) (n : ℕ) → n ≡ prefix_len is_ascii_digit s
    → All (λ b. is_ascii_digit b ≡ true) (take n s)
digits-front s n e k d l =
    let below : k < n = omega (arith, length-take n s) in
    ap is_ascii_digit (get_or-take n s k d below)
    ∙ prefix_len_passes is_ascii_digit s k d (subst (λ j. k < j) e below)

pub control_of_ascii : OfAscii is_space_or_control
control_of_ascii b e = grind (arith, nat_tests)

pub comma_of_ascii : OfAscii is_comma
comma_of_ascii b e = grind (arith, nat_tests)

pub white_of_ascii : OfAscii is_ascii_whitespace
white_of_ascii b e = grind (arith, nat_tests)

-- white space before words counts for nothing
white-words : (b : ℕ) (s : List ℕ) → is_ascii_whitespace b ≡ true → words (b ∷ s) ≡ words s
white-words b s e =
    ap (λ c. filter is_filled (cond c ([] ∷ slice_split is_ascii_whitespace s)
    (onto_first b (slice_split is_ascii_whitespace s)))) e

pub words_after : (s : List ℕ) → words (drop (prefix_len is_ascii_whitespace s) s) ≡ words s
words_after [] = refl
words_after (b ∷ s) = test (is_ascii_whitespace b)
    (λ e. ap (λ c. words (drop (cond c (1 + prefix_len is_ascii_whitespace s) 0) (b ∷ s))) e
    ∙ ap (λ n. words (drop n (b ∷ s))) (one_more (prefix_len is_ascii_whitespace s))
    ∙ words_after s ∙ sym (white-words b s e))
    (λ e. ap (λ c. words (drop (cond c (1 + prefix_len is_ascii_whitespace s) 0) (b ∷ s))) e)
  where
    one_more : (n : ℕ) → 1 + n ≡ suc n
    one_more n = omega arith

-- what does not pass, up to the first byte that does
abbrev pub before : (ℕ → Bool) → List ℕ → ℕ
before p s = prefix_len (λ b. not (p b)) s

-- the parts after the first one
abbrev others : (ℕ → Bool) → List ℕ → List (List ℕ)
others p [] = []
others p (b ∷ s) = slice_split p s

split_first : (p : ℕ → Bool) (s : List ℕ)
    → slice_split p s ≡ take (before p s) s ∷ others p (drop (before p s) s)
split_first p [] = refl
split_first p (b ∷ s) = test (p b)
    (λ e. ap (λ c. cond c ([] ∷ slice_split p s) (onto_first b (slice_split p s))) e
    ∙ sym (ap (λ c. take (cond (not c) (1 + before p s) 0) (b ∷ s)
    ∷ others p (drop (cond (not c) (1 + before p s) 0) (b ∷ s))) e))
    (λ e. ap (λ c. cond c ([] ∷ slice_split p s) (onto_first b (slice_split p s))) e
    ∙ ap (onto_first b) (split_first p s)
    ∙ sym (ap (λ c. take (cond (not c) (1 + before p s) 0) (b ∷ s)
    ∷ others p (drop (cond (not c) (1 + before p s) 0) (b ∷ s))) e
    ∙ ap (λ n. take n (b ∷ s) ∷ others p (drop n (b ∷ s))) (one_more (before p s))))
  where
    one_more : (n : ℕ) → 1 + n ≡ suc n
    one_more n = omega arith

-- after a word white space follows, or nothing
others-words : (s : List ℕ)
    → filter is_filled (others is_ascii_whitespace (drop (before is_ascii_whitespace s) s))
    ≡ words (drop (before is_ascii_whitespace s) s)
others-words [] = refl
others-words (b ∷ s) = test (is_ascii_whitespace b)
    (λ e. ap (λ c. filter is_filled (others is_ascii_whitespace
    (drop (cond (not c) (1 + before is_ascii_whitespace s) 0) (b ∷ s)))) e
    ∙ sym (white-words b s e)
    ∙ sym (ap (λ c. words (drop (cond (not c) (1 + before is_ascii_whitespace s) 0) (b ∷ s))) e))
    (λ e. ap (λ c. filter is_filled (others is_ascii_whitespace
    (drop (cond (not c) (1 + before is_ascii_whitespace s) 0) (b ∷ s)))) e
    ∙ ap (λ n. filter is_filled (others is_ascii_whitespace (drop n (b ∷ s))))
    (one_more (before is_ascii_whitespace s))
    ∙ others-words s
    ∙ sym (ap (λ c. words (drop (cond (not c) (1 + before is_ascii_whitespace s) 0) (b ∷ s))) e
    ∙ ap (λ n. words (drop n (b ∷ s))) (one_more (before is_ascii_whitespace s))))
  where
    one_more : (n : ℕ) → 1 + n ≡ suc n
    one_more n = omega arith

-- a text that begins with a word
pub words_first : (s : List ℕ) → is_filled (take (before is_ascii_whitespace s) s) ≡ true
    → words s ≡ take (before is_ascii_whitespace s) s ∷ words (drop (before is_ascii_whitespace s) s)
words_first s e =
    ap (filter is_filled) (split_first is_ascii_whitespace s)
    ∙ ap (λ c. cond c (take (before is_ascii_whitespace s) s
    ∷ filter is_filled (others is_ascii_whitespace (drop (before is_ascii_whitespace s) s)))
    (filter is_filled (others is_ascii_whitespace (drop (before is_ascii_whitespace s) s)))) e
    ∙ ap (λ ws. take (before is_ascii_whitespace s) s ∷ ws) (others-words s)

-- ---- a word

not_false : (b : Bool) → not b ≡ false → b ≡ true
not_false true e = refl
not_false false e = (cc)

-- a text may be cut after a word
pub word_boundary : (s : List ℕ) → IsCharBoundary s (before is_ascii_whitespace s)
word_boundary s =
    let p : ℕ → Bool = λ b. not (is_ascii_whitespace b) in (
      prefix_len-le-length p s,
      λ l h.
          let white : is_ascii_whitespace (get_or s (before is_ascii_whitespace s) 0) ≡ true =
          not_false (is_ascii_whitespace (get_or s (before is_ascii_whitespace s) 0)) (prefix_len_stops p s 0 l) in
          absurd (omega (arith, white_of_ascii (get_or s (before is_ascii_whitespace s) 0) white, h)),
    )

drop_stops : (s : List ℕ) → prefix_len is_ascii_whitespace (drop (prefix_len is_ascii_whitespace s) s) ≡ 0
drop_stops [] = refl
drop_stops (b ∷ s) =
    let n : ℕ = prefix_len is_ascii_whitespace s in
    test (is_ascii_whitespace b)
    (λ e. ap (λ c. prefix_len is_ascii_whitespace (drop (cond c (1 + n) 0) (b ∷ s))) e
    ∙ ap (λ k. prefix_len is_ascii_whitespace (drop k (b ∷ s))) (plus_one n) ∙ drop_stops s)
    (λ e. ap (λ c. prefix_len is_ascii_whitespace (drop (cond c (1 + n) 0) (b ∷ s))) e
    ∙ ap (λ c. cond c (1 + n) 0) e)
  where
    plus_one : (n : ℕ) → 1 + n ≡ suc n
    plus_one n = omega arith

-- white space alone has no words
pub no_words : (s rest : List ℕ) → rest ≡ drop (prefix_len is_ascii_whitespace s) s
    → (length rest == 0) ≡ true
    → words s ≡ []
no_words s [] e h = sym (words_after s) ∙ ap words (sym e)
no_words s (b ∷ rest) e h = absurd (grind (arith, nat_tests))

one_filled : (b : ℕ) (s : List ℕ) → is_filled (b ∷ s) ≡ true
one_filled b s = grind (arith, nat_tests)

filled_first : (rest : List ℕ) → prefix_len is_ascii_whitespace rest ≡ 0 → (length rest == 0) ≡ false
    → is_filled (take (before is_ascii_whitespace rest) rest) ≡ true
filled_first [] e h = absurd (grind (arith, nat_tests))
filled_first (b ∷ rest) e h =
    let n : ℕ = prefix_len is_ascii_whitespace rest in
    test (is_ascii_whitespace b)
    (λ y. absurd (one_past n (sym (ap (λ c. cond c (1 + n) 0) y) ∙ e)))
    (λ y. ap (λ c. is_filled (take (cond (not c) (1 + before is_ascii_whitespace rest) 0) (b ∷ rest))) y
    ∙ ap (λ k. is_filled (take k (b ∷ rest))) (plus_one (before is_ascii_whitespace rest))
    ∙ one_filled b (take (before is_ascii_whitespace rest) rest))
  where
    plus_one : (n : ℕ) → 1 + n ≡ suc n
    plus_one n = omega arith

    one_past : (n : ℕ) → 1 + n ≡ 0 → ⊥
    one_past n e = omega arith

-- what follows white space begins with a word
pub word_filled : (s rest : List ℕ) → rest ≡ drop (prefix_len is_ascii_whitespace s) s
    → (length rest == 0) ≡ false
    → is_filled (take (before is_ascii_whitespace rest) rest) ≡ true
word_filled s rest e h = filled_first rest (ap (prefix_len is_ascii_whitespace) e ∙ drop_stops s) h

-- what follows a word is shorter
pub shorter : (s rest after : List ℕ) (n : ℕ) → rest ≡ drop n s
    → after ≡ drop (before is_ascii_whitespace rest) rest
    → is_filled (take (before is_ascii_whitespace rest) rest) ≡ true → length after < length s
shorter s rest after n e f h =
    let k : ℕ = before is_ascii_whitespace rest in
    let some : 0 < length (take k rest) = grind (arith, nat_tests) in
    omega (arith, some, length-take k rest, ap length e, ap length f, length-drop n s, length-drop k rest)

-- ---- characters that are kept

pub kept-push : (p : ℕ → Bool) (cs : List ℕ) (c : ℕ) (before after : List ℕ) → true ≡ p c
    → after ≡ before ++ encode_utf8 c
    → before ≡ encode_utf8_all (filter p cs) → after ≡ encode_utf8_all (filter p (cs ++ c ∷ []))
kept-push p cs c before after h e q =
    let one : filter p (c ∷ []) ≡ c ∷ [] = ap (λ b. cond b (c ∷ []) []) (sym h) in
    let more : encode_utf8_all (filter p (cs ++ c ∷ [])) ≡ encode_utf8_all (filter p cs) ++ encode_utf8 c =
    ap encode_utf8_all (filter-append p cs (c ∷ []) ∙ ap (λ xs. filter p cs ++ xs) one)
    ∙ (encodes-append (filter p cs) (c ∷ [])
    ∙ ap (λ xs. encode_utf8_all (filter p cs) ++ xs) (append-nil (encode_utf8 c))) in
    e ∙ (ap (λ xs. xs ++ encode_utf8 c) q ∙ sym more)

-- ---- the declarations of a style

pub declarations-push : (xs : List (List ℕ)) (x : List ℕ)
    → alignment_of_declarations (xs ++ x ∷ [])
    ≡ option_or (alignment_of_declaration x) (alignment_of_declarations xs)
declarations-push [] x = none_first (alignment_of_declaration x)
  where
    none_first : (a : Option Alignment) → option_or None a ≡ option_or a None
    none_first None = refl
    none_first (Some b) = refl
declarations-push (y ∷ xs) x =
    ap (λ a. option_or a (alignment_of_declaration y)) (declarations-push xs x)
    ∙ grouped (alignment_of_declaration x) (alignment_of_declarations xs) (alignment_of_declaration y)
  where
    grouped : (a b c : Option Alignment) → option_or (option_or a b) c ≡ option_or a (option_or b c)
    grouped None b c = refl
    grouped (Some a) b c = refl

-- one more declaration
pub style_more : (parts : List (List ℕ)) (n : ℕ) (x : List ℕ) (last : Option Alignment)
    → (n < length parts) × (x ≡ get_or parts n x)
    → last ≡ alignment_of_declarations (take n parts)
    → option_or (alignment_of_declaration x) last ≡ alignment_of_declarations (take (n + 1) parts)
style_more parts n x last h e =
    ap (λ a. option_or (alignment_of_declaration x) a) e
    ∙ sym (declarations-push (take n parts) x)
    ∙ ap (λ y. alignment_of_declarations (take n parts ++ y ∷ [])) h.1
    ∙ ap alignment_of_declarations (sym (take_more parts n x h.0))
