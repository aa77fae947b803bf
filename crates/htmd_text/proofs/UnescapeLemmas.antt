-- Backslashes that are read are those that were written.
use Rattle.std.proofs.Common.{◌≡◌, ℕ, suc, ◌+◌, ◌<◌, Bool, true, false, cond, List, [], ◌∷◌, length, get_or, refl, ap}
use Rattle.std.proofs.Common.{◌∙◌, arith}
use Rattle.std.specs.Prelude.{◌==◌}
use Rattle.std.specs.Char.{is_ascii_punctuation}
use Rattle.htmd_lexical.specs.Characters.{backslash}
use Rattle.htmd_text.specs.EscapedPlaces.{with_backslashes, is_escaped, escaped_markdown}
use Rattle.htmd_text.specs.Unescape.{unescape}
use Rattle.htmd_text.proofs.EscapeKindsLemmas.{marked_is_punctuation, unmarked_is_no_backslash}

pub unescape_other : (b : ℕ) (t : List ℕ) → (b == backslash) ≡ false → unescape (b ∷ t) ≡ b ∷ unescape t
unescape_other b [] other = refl
unescape_other b (c ∷ t) other = rw other refl

pub unescape_escaped : (b : ℕ) (t : List ℕ) → is_ascii_punctuation b ≡ true
    → unescape (backslash ∷ b ∷ t) ≡ b ∷ unescape t
unescape_escaped b t here = rw here refl

one_more : (m : Bool) (b : ℕ) (s t : List ℕ) → (m ≡ true → is_ascii_punctuation b ≡ true)
    → (m ≡ false → (b == backslash) ≡ false) → unescape t ≡ s
    → unescape (cond m (backslash ∷ b ∷ t) (b ∷ t)) ≡ b ∷ s
one_more true b s t marked plain rest = unescape_escaped b t (marked refl) ∙ ap (λ l. b ∷ l) rest
one_more false b s t marked plain rest = unescape_other b t (plain refl) ∙ ap (λ l. b ∷ l) rest

-- where backslashes stand before punctuation, and before each backslash, the text reads back
pub reads_back : (marked : ℕ → Bool) (k : ℕ) (s : List ℕ)
    → ((i : ℕ) → marked (k + i) ≡ true → is_ascii_punctuation (get_or s i 0) ≡ true)
    → ((i : ℕ) → i < length s → marked (k + i) ≡ false → (get_or s i 0 == backslash) ≡ false)
    → unescape (with_backslashes marked k s) ≡ s
reads_back marked k [] punctuation plain = refl
reads_back marked k (b ∷ s) punctuation plain =
    let here : marked (k + 0) ≡ marked k = ap marked (omega arith) in
    let next : (i : ℕ) → marked (k + suc i) ≡ marked (suc k + i) = λ i. ap marked (omega arith) in
    let rest = reads_back marked (suc k) s (λ i m. punctuation (suc i) (next i ∙ m))
    (λ i lt m. plain (suc i) (omega arith) (next i ∙ m)) in
    one_more (marked k) b s (with_backslashes marked (suc k) s) (λ m. punctuation 0 (here ∙ m))
    (λ m. plain 0 (omega arith) (here ∙ m)) rest

pub unescape-escaped : (s : List ℕ) → unescape (escaped_markdown s) ≡ s
unescape-escaped s =
    let from_start : (i : ℕ) → is_escaped s i ≡ is_escaped s (0 + i) = λ i. ap (is_escaped s) (omega arith) in
    reads_back (is_escaped s) 0 s (λ i m. marked_is_punctuation s i (from_start i ∙ m))
    (λ i _ m. unmarked_is_no_backslash s i (from_start i ∙ m))
