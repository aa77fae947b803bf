-- Labels as they are compared.
use Rattle.std.proofs.Common.{◌≡◌, ℕ, ◌*◌, ◌<◌, ◌≤◌, Bool, true, false, List, [], ◌∷◌, ◌++◌, length}
use Rattle.std.proofs.Common.{refl, ap, sym, ◌∙◌, arith, append_assoc}
use Rattle.std.proofs.lemmas.Bool.{lt-ltb}
use Rattle.std.proofs.lemmas.Bool.Decides.{nat_tests}
use Rattle.std.proofs.lemmas.List.{length-append}
use Rattle.std.proofs.lemmas.Str.{encodes-chars, length-encode, len_utf8_bounds}
use Rattle.std.specs.Char.{encode_utf8}
use Rattle.std.specs.List.{flat_map}
use Rattle.std.specs.Prelude.{◌==◌, encode_utf8_all, nat_lt}
use Rattle.std.specs.Str.{IsUtf8, chars}
use Rattle.unicode.specs.Caseless.Caseless.{default_case_fold}
use Rattle.ucd_case.proofs.CaseFoldingLemmas.{full_fold-ascii}
use Rattle.unicode.specs.CaseFolding.{full_fold}
use Rattle.htmd_lexical.proofs.Cases.{test}
use Rattle.htmd_lexical.proofs.RunsLemmas.{behind_within}
use Rattle.htmd_lexical.specs.CharacterClasses.{leading_run, behind_run}
use Rattle.htmd_commonmark_reading.specs.Characters.{is_white}
use Rattle.htmd_commonmark_reading.specs.LinkDefinitions.{past_white, folded, single_spaced, label_text, label_key}
use Rattle.htmd_commonmark_reader.specs.Words.{is_of_word, space_before}

-- ---- case folding

folds_same : (c : ℕ) → folded c ≡ full_fold c
folds_same c =
    test (nat_lt c 128)
    (λ e. let l : c < 128 = grind (arith, nat_tests) in rw e (sym (full_fold-ascii c l)))
    (λ e. rw e refl)

pub folds_all : (s : List ℕ) → flat_map folded s ≡ flat_map full_fold s
folds_all [] = refl
folds_all (c ∷ s) = rw (folds_same c, folds_all s) refl

-- ---- white space within a text

-- one space for a run of white space
white_run : (c : ℕ) (s : List ℕ) → is_white c ≡ true
    → single_spaced (c ∷ s) ≡ 32 ∷ single_spaced (past_white s)
white_run c [] e = rw e refl
white_run c (d ∷ t) e =
    test (is_white d)
    (λ f. let here : single_spaced (c ∷ d ∷ t) ≡ single_spaced (d ∷ t) = rw (e, f) refl in
    let past : past_white (d ∷ t) ≡ past_white t = rw f refl in
    here ∙ white_run d t f ∙ ap (λ (u : List ℕ). 32 ∷ single_spaced u) (sym past))
    (λ f. let here : single_spaced (c ∷ d ∷ t) ≡ 32 ∷ single_spaced (d ∷ t) = rw (e, f) refl in
    let past : past_white (d ∷ t) ≡ d ∷ t = rw f refl in
    here ∙ ap (λ (u : List ℕ). 32 ∷ single_spaced u) (sym past))

word_run : (s : List ℕ) → single_spaced s ≡ leading_run is_of_word s ++ single_spaced (behind_run is_of_word s)
word_run [] = refl
word_run (c ∷ s) =
    test (is_white c)
    (λ e. let front : leading_run is_of_word (c ∷ s) ≡ [] = rw e refl in
    let back : behind_run is_of_word (c ∷ s) ≡ c ∷ s = rw e refl in
    sym (ap (λ t. t ++ single_spaced (behind_run is_of_word (c ∷ s))) front ∙ ap single_spaced back))
    (λ e. rw e (ap (λ (t : List ℕ). c ∷ t) (word_run s)))

behind_word : (s : List ℕ)
    → single_spaced (behind_run is_of_word s)
    ≡ space_before (behind_run is_of_word s) ++ single_spaced (past_white (behind_run is_of_word s))
behind_word [] = refl
behind_word (c ∷ s) =
    test (is_white c)
    (λ e. let back : behind_run is_of_word (c ∷ s) ≡ c ∷ s = rw e refl in
    let past : past_white (c ∷ s) ≡ past_white s = rw e refl in
    ap single_spaced back ∙ white_run c s e
    ∙ sym (ap (λ t. space_before t ++ single_spaced (past_white t)) back
    ∙ ap (λ (u : List ℕ). 32 ∷ single_spaced u) past))
    (λ e. rw e (behind_word s))

-- one more word
pub word_more : (held more ended s text : List ℕ) → held ++ single_spaced s ≡ single_spaced text
    → more ≡ held ++ leading_run is_of_word s
    → ended ≡ more ++ space_before (behind_run is_of_word s)
    → ended ++ single_spaced (past_white (behind_run is_of_word s)) ≡ single_spaced text
word_more held more ended s text i m e =
    let word = leading_run is_of_word s in
    let after = behind_run is_of_word s in
    let all : single_spaced s ≡ word ++ (space_before after ++ single_spaced (past_white after)) =
    word_run s ∙ ap (λ t. word ++ t) (behind_word s) in
    ap (λ t. t ++ single_spaced (past_white after)) (e ∙ ap (λ t. t ++ space_before after) m)
    ∙ append_assoc (held ++ word) (space_before after) (single_spaced (past_white after))
    ∙ append_assoc held word (space_before after ++ single_spaced (past_white after))
    ∙ ap (λ t. held ++ t) (sym all) ∙ i

pub word_shorter : (s : List ℕ) → 0 < length s → length (past_white (behind_run is_of_word s)) < length s
word_shorter [] l = absurd (omega arith)
word_shorter (c ∷ s) l =
    test (is_white c)
    (λ e. let k = behind_within is_white s in rw (e, e) (omega arith))
    (λ e. let k = behind_within is_of_word s in let m = behind_within is_white (behind_run is_of_word s) in
    rw e (omega arith))

pub filled_length : (s : List ℕ) (b : Bool) → b ≡ (length s == 0) → b ≡ false → 0 < length s
filled_length [] b e f = absurd (let g : true ≡ false = sym e ∙ f in cc)
filled_length (c ∷ s) b e f = omega arith

-- ---- keys

pub long_key : (s : List ℕ) → nat_lt 999 (length (chars s)) ≡ true → label_key s ≡ []
long_key s l = rw l refl

few_bytes : (cs : List ℕ) → length (encode_utf8_all cs) ≤ 4 * length cs
few_bytes [] = omega arith
few_bytes (c ∷ cs) =
    let rest = few_bytes cs in
    let one = (len_utf8_bounds c).1 in
    omega (arith, length-append (encode_utf8 c) (encode_utf8_all cs), length-encode c)

-- a text with so many bytes has many characters
pub many_bytes : (s : List ℕ) → IsUtf8 s → 3996 < length s → nat_lt 999 (length (chars s)) ≡ true
many_bytes s u l =
    let k = few_bytes (chars s) in
    let size : length s ≡ length (encode_utf8_all (chars s)) = ap length (sym (encodes-chars s u)) in
    lt-ltb 999 (length (chars s)) (omega (arith, size))

pub folded_key : (s text : List ℕ) → nat_lt 999 (length (chars s)) ≡ false → text ≡ label_text s
    → default_case_fold (chars text) ≡ label_key s
unfolding default_case_fold
folded_key s text short f =
    rw (short, f) (sym (folds_all (chars (label_text s))))
