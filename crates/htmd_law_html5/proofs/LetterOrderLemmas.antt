-- The letters of a page stand in order in the tree.
use Rattle.std.proofs.Common.{◌≡◌, ◌∙◌, ℕ, zero, suc, Bool, true, false, List, [], ◌∷◌, ◌++◌, length, drop, refl, sym}
use Rattle.std.proofs.Common.{ap, arith}
use Rattle.std.specs.Prelude.{◌&&◌, not, if◌then◌else◌, filter, IsUtf8}
use Rattle.std.specs.List.{list_all}
use Rattle.std.specs.Char.{encode_utf8}
use Rattle.std.proofs.lemmas.Bool.{true≢false, and_parts, cond_both, eqb-true}
use Rattle.std.proofs.lemmas.Str.{chars_past_char, encode_ascii}
use Rattle.htmd_lexical.specs.Characters.{line_feed}
use Rattle.htmd_lexical.specs.WhiteSpace.{is_ascii_white_space}
use Rattle.htmd_lexical.specs.CharacterClasses.{first_is, behind_run}
use Rattle.htmd_html5_tokens.specs.Preprocessing.{preprocessed}
use Rattle.htmd_html5_tokens.specs.Tokens.{TokenValue, text}
use Rattle.htmd_html5_state.specs.State.{StateValue, initial_state}
use Rattle.htmd_html5_state.specs.Foreign.{current_is_html}
use Rattle.htmd_html5.specs.Runs.{first_kind, first_run, after_first_run, is_of_kind}
use Rattle.htmd_html5.specs.Feeding.{without_line_feed, feed}
use Rattle.htmd_html5.specs.Html5Documents.{next_read, is_end, html5_document}
use Rattle.htmd_law_html5.specs.PageLetters.{is_letter, with_text_of, texts_within, texts_of, token_texts}
use Rattle.htmd_law_html5.specs.LetterOrder.{letters_of, letters_in, LettersStandInOrder}
use Rattle.htmd_law_html5.specs.TextKept.{without_white, drops_white, kept_text, with_kept_text, kept_within}
use Rattle.htmd_law_html5.specs.TextKept.{kept_texts}
use Rattle.htmd_law_html5.proofs.Utf8Tokens.{TokenUtf8, next_token_utf8, preprocessed_utf8}
use Rattle.htmd_law_html5.proofs.FedTokens.{shortened}
use Rattle.htmd_law_html5.proofs.TakingRuns.{by_first_kind}
use Rattle.htmd_law_html5.proofs.Counted.{letter_choice, counted_of, counted_in}
use Rattle.htmd_law_html5.proofs.WhiteRuns.{behind_white, dark_nulls, dark_characters}
use Rattle.htmd_law_html5.proofs.OrderedRuns.{white_letters}
use Rattle.htmd_law_html5.proofs.PuttingTexts.{first_all}
use Rattle.htmd_law_html5.proofs.OrderedTokens.{letters_split}
use Rattle.htmd_law_html5.proofs.CountedOrder.{counted_in_order}

-- ---- what is kept of a text has all of its letters

letters_dropped : (s : List ℕ) → first_is line_feed s ≡ true → IsUtf8 s → letters_of (drop 1 s)
    ≡ letters_of s
unfolding letters_of
letters_dropped [] e u = absurd (true≢false (sym e))
letters_dropped (b ∷ s) e u = sym (ap (filter is_letter) (chars_past_char (b ∷ s) s line_feed u whole))
  where
    whole : b ∷ s ≡ encode_utf8 line_feed ++ s
    whole = ap (λ x. x ∷ s) (eqb-true b line_feed e)
        ∙ ap (λ (x : List ℕ). x ++ s) (sym (encode_ascii line_feed (omega arith)))

letters_shortened : (skips : Bool) (s : List ℕ) → IsUtf8 s → letters_of (without_line_feed skips s)
    ≡ letters_of s
letters_shortened skips s u =
    cond_both (skips && first_is line_feed s) _ _ (λ (x : List ℕ). letters_of x ≡ letters_of s)
    (λ e. letters_dropped s (and_parts skips (first_is line_feed s) e).1 u) (λ e. refl)

letters_whitened : (drops : Bool) (s : List ℕ) → IsUtf8 s → letters_of (without_white drops s) ≡ letters_of s
unfolding letters_of counted_of
letters_whitened false s u = refl
letters_whitened true s u =
    by_first_kind (λ kind. first_kind s ≡ kind → list_all (is_of_kind kind) (first_run s) ≡ true
    → letters_of (behind_run is_ascii_white_space s) ≡ letters_of s)
    (λ e all. ap letters_of (sym (behind_white s e)) ∙ (ap (λ (x : List ℕ). x ++ letters_of (after_first_run s))
    (sym (white_letters letter_choice (first_run s) refl all)) ∙ letters_split letter_choice s u))
    (λ e all. ap letters_of (dark_nulls s e)) (λ e all. ap letters_of (dark_characters s e)) s refl (first_all s)

letters_of_kept : (t : List ℕ) (s : StateValue) → IsUtf8 t → letters_of (kept_text t s) ≡ letters_of t
letters_of_kept t s u =
    letters_whitened (drops_white s) (without_line_feed s.skips_line_feed t) (shortened 0 s.skips_line_feed t u).utf8
    ∙ letters_shortened s.skips_line_feed t u

letters_with : (token : TokenValue) (s : StateValue) (kept more : List (List ℕ)) → TokenUtf8 token
    → letters_in kept ≡ letters_in more
    → letters_in (with_kept_text token s kept) ≡ letters_in (with_text_of token more)
letters_with (text t) s kept more u e =
    ap (λ (x : List ℕ). x ++ letters_in kept) (letters_of_kept t s u) ∙ ap (λ (x : List ℕ). letters_of t ++ x) e
letters_with _ s kept more u e = e

within_same : (k : ℕ) (page : List ℕ) (s : StateValue) → IsUtf8 page
    → letters_in (kept_within k page s) ≡ letters_in (texts_within k page s)
within_same zero page s u = refl
within_same (suc k) page s u =
    let r = next_token_utf8 s.content (not (current_is_html s.stack)) page u in
    let read = next_read page s in
    either (is_end read.token) (with_kept_text read.token s (kept_within k read.rest (feed read.token s)))
    (with_text_of read.token (texts_within k read.rest (feed read.token s)))
    (letters_with read.token s (kept_within k read.rest (feed read.token s))
    (texts_within k read.rest (feed read.token s)) r.token (within_same k read.rest (feed read.token s) r.rest))
  where
    either : (b : Bool) (kept more : List (List ℕ)) → letters_in kept ≡ letters_in more
        → letters_in (if b then [] else kept) ≡ letters_in (if b then [] else more)
    either true kept more e = refl
    either false kept more e = e

kept_letters_same : (scripting : Bool) (page : List ℕ) → IsUtf8 page
    → letters_in (kept_texts scripting page) ≡ letters_in (token_texts scripting page)
kept_letters_same scripting page u =
    within_same (length (preprocessed page)) (preprocessed page) (initial_state scripting) (preprocessed_utf8 page u)

-- ---- the law

same_letters : (texts : List (List ℕ)) → counted_in letter_choice texts ≡ letters_in texts
unfolding letters_of counted_of
same_letters [] = refl
same_letters (s ∷ texts) = ap (λ (x : List ℕ). letters_of s ++ x) (same_letters texts)

pub letters_in_order : LettersStandInOrder
letters_in_order scripting page u e =
    sym (same_letters (texts_of (html5_document scripting page)))
    ∙ (counted_in_order letter_choice scripting page u e (λ z. absurd (true≢false z))
    (λ z. absurd (true≢false z))
    ∙ (same_letters (kept_texts scripting page) ∙ kept_letters_same scripting page u))
