-- A text without carriage returns, and one without its last line feed.
use Rattle.std.proofs.Common.{◌≡◌, ℕ, suc, ◌≤◌, ◌-◌, get_or, Bool, true, false, cond, ◌&&◌, ◌==◌, if◌then◌else◌, List, [], ◌∷◌, ◌++◌, length}
use Rattle.std.proofs.Common.{refl, sym, ap, subst, ◌∙◌, fold, encode_utf8_all, append_assoc, arith}
use Rattle.std.specs.Prelude.{◌≢◌}
use Rattle.std.specs.Char.{encode_utf8}
use Rattle.std.specs.List.{list_any}
use Rattle.std.specs.Str.{chars, IsUtf8}
use Rattle.std.proofs.lemmas.Bool.Decides.{nat_tests}
use Rattle.std.proofs.lemmas.List.{append-nil}
use Rattle.std.proofs.lemmas.Str.{encodes-chars}
use Rattle.htmd_lexical.specs.Characters.{line_feed, carriage_return}
use Rattle.htmd_lexical.proofs.Cases.{test}
use Rattle.htmd_shown.specs.AllTexts.{Lines, ends_line, with_character, with_line_feeds, without_last_line_feed}
use Rattle.htmd_shown.specs.TextViews.{is_return}
use Rattle.htmd_shown.proofs.ShownTextsLemmas.{none-of-both}

-- ---- a text without carriage returns

abbrev written : List ℕ → Lines
written w = record { written = w; after_return = false }

abbrev made : List ℕ → ℕ → Bool → Bool → Lines
made w c b d = record {
  written = w ++ (if b then line_feed ∷ [] else (if d && false then [] else c ∷ []));
  after_return = b;
}

made-plain : (w : List ℕ) (c : ℕ) (b d : Bool) → b ≡ false → made w c b d ≡ written (w ++ c ∷ [])
made-plain w c true d e = cc
made-plain w c false true e = refl
made-plain w c false false e = refl

return-told : list_any is_return (encode_utf8 carriage_return) ≡ true
unfolding encode_utf8
return-told = refl

no-return : (c : ℕ) → list_any is_return (encode_utf8 c) ≡ false → (c == carriage_return) ≡ false
no-return c h = test (c == carriage_return)
    (λ e.
    let same : c ≡ carriage_return = grind (arith, nat_tests, e) in
    let no : true ≡ false =
    sym return-told ∙ subst (λ (x : ℕ). list_any is_return (encode_utf8 x) ≡ false) same h in
    cc)
    (λ e. e)

lines-stay : (cs w : List ℕ) → list_any is_return (encode_utf8_all cs) ≡ false
    → (fold with_character (written w) cs).written ≡ w ++ cs
lines-stay [] w h = sym (append-nil w)
lines-stay (c ∷ cs) w h =
    let parts = none-of-both is_return (encode_utf8 c) (encode_utf8_all cs) h in
    ap (λ l. (fold with_character l cs).written)
    (made-plain w c (c == carriage_return) (c == line_feed) (no-return c parts.0))
    ∙ (lines-stay cs (w ++ c ∷ []) parts.1 ∙ append_assoc w (c ∷ []) cs)

-- such a text has its line feeds already
pub no-returns : (s : List ℕ) → IsUtf8 s → list_any is_return s ≡ false → with_line_feeds s ≡ s
no-returns s text h =
    ap encode_utf8_all (lines-stay (chars s) [] (ap (list_any is_return) (encodes-chars s text) ∙ h))
    ∙ encodes-chars s text

-- ---- the last line feed

pub feed_cut : (s : List ℕ) → without_last_line_feed (s ++ line_feed ∷ []) ≡ s
feed_cut [] = refl
feed_cut (b ∷ []) = refl
feed_cut (b ∷ c ∷ s) = ap (λ xs. b ∷ xs) (feed_cut (c ∷ s))

pub no_feed : (s : List ℕ) → ((front : List ℕ) → s ≢ front ++ line_feed ∷ [])
    → s ≡ without_last_line_feed s
no_feed [] n = refl
no_feed (b ∷ []) n = test (b == line_feed)
    (λ h. absurd (n [] (ap (λ x. x ∷ []) (same b h))))
    (λ h. sym (ap (λ c. cond c [] (b ∷ [])) h))
  where
    same : (b : ℕ) → (b == line_feed) ≡ true → b ≡ line_feed
    same b h = grind (arith, nat_tests)
no_feed (b ∷ c ∷ s) n = ap (λ xs. b ∷ xs)
    (no_feed (c ∷ s) (λ front e. n (b ∷ front) (ap (λ xs. b ∷ xs) e)))

-- ---- whether a line feed ends a text

pub last-feed : (s : List ℕ) → 1 ≤ length s → (get_or s (length s - 1) 0 == line_feed) ≡ ends_line s
last-feed [] h = absurd (omega arith)
last-feed (b ∷ []) h = refl
last-feed (b ∷ c ∷ s) h =
    let less : (length (b ∷ c ∷ s)) - 1 ≡ suc (length (c ∷ s) - 1) = omega arith in
    ap (λ n. get_or (b ∷ c ∷ s) n 0 == line_feed) less ∙ last-feed (c ∷ s) (omega arith)
