-- The tokens of a page, one after another, where their texts are taken: the texts of the nodes hold their letters.
use Rattle.std.proofs.Common.{◌≡◌, ℕ, zero, suc, Bool, true, false, List, [], length, refl, sym, ap, arith}
use Rattle.std.specs.Prelude.{IsUtf8, ◌&&◌, not, if◌then◌else◌}
use Rattle.std.proofs.lemmas.Bool.{true≢false, and_parts, not-true, cond_both}
use Rattle.htmd_lexical.proofs.Cases.{test}
use Rattle.htmd_lexical.specs.CharacterClasses.{is_empty}
use Rattle.htmd_html5_tokens.specs.Preprocessing.{preprocessed}
use Rattle.htmd_html5_tokens.specs.Tokens.{Read}
use Rattle.htmd_html5_state.specs.State.{StateValue, initial_state}
use Rattle.htmd_html5_state.specs.Foreign.{current_is_html}
use Rattle.htmd_html5.specs.Feeding.{is_text_mode, put_raw_text, feed_text, without_line_feed, with_nothing_skipped}
use Rattle.htmd_html5.specs.Feeding.{feed_at, feed}
use Rattle.htmd_html5.specs.Html5Documents.{next_read, is_end, after_token, read_within, state_after}
use Rattle.htmd_law_html5.specs.PageLetters.{occurrences, occurrences_in, with_text_of, texts_after, texts_within}
use Rattle.htmd_law_html5.specs.PageLetters.{token_texts}
use Rattle.htmd_law_html5.specs.DocumentLetters.{drops_text, takes_text, is_taken, taken_after}
use Rattle.htmd_law_html5.specs.DocumentLetters.{taken_within, all_texts_are_taken, LettersAreTaken}
use Rattle.htmd_law_html5.proofs.Utf8Tokens.{TokenUtf8, ReadUtf8, next_token_utf8, preprocessed_utf8}
use Rattle.htmd_law_html5.proofs.LetterLemmas.{LetterTests, letter_tests}
use Rattle.htmd_law_html5.proofs.NodeTexts.{texts_same}
use Rattle.htmd_law_html5.proofs.Keeping.{Sound, kept_same}
use Rattle.htmd_law_html5.proofs.Taking.{Grew, kept_grew, grew_as, grew_then, insert_text_puts}
use Rattle.htmd_law_html5.proofs.FedTokens.{shortened, with_nothing_skipped_keeps, others_kept, count, count_with}
use Rattle.htmd_law_html5.proofs.FedTokens.{end_counts_none, initial_sound}
use Rattle.htmd_law_html5.proofs.PuttingTexts.{empty_none, put_text_grew}
use Rattle.htmd_html5_tokens.specs.Tokens as tokens

pub raw_grew : (exact : Bool) (c : ℕ) (text : List ℕ) (s : StateValue) → IsUtf8 text → Sound s
    → Grew exact c (occurrences c text) s (put_raw_text text s)
raw_grew exact c text s u h =
    let inserted = (insert_text_puts c text u).puts s h in
    test (is_empty text)
    (λ e. rw e (grew_as (occurrences c text) (sym (empty_none c text e)) (kept_grew (kept_same h))))
    (λ e. rw e inserted)

module _ (exact : Bool) (c : ℕ) (letter : LetterTests c) where
  feed_text_grew : (text : List ℕ) (s : StateValue) → IsUtf8 text → (exact ≡ true → takes_text s ≡ true)
      → Sound s → Grew exact c (occurrences c text) s (feed_text text s)
  feed_text_grew text s u takes h =
      cond_both (is_text_mode s.content) _ _ (Grew exact c (occurrences c text) s) (λ e. raw_grew exact c text s u h)
      (λ e. put_text_grew exact c letter text s u (λ x. not-true (drops_text s) (rw e at takes x)) h)

  fed_grew : (token : tokens.TokenValue) (skips : Bool) (s : StateValue) → TokenUtf8 token
      → (exact ≡ true → is_taken token s ≡ true) → Sound s
      → Grew exact c (count c token) s (feed_at token skips s)
  fed_grew (tokens.text text) skips s u takes h =
      let short = shortened c skips text u in
      grew_as (occurrences c text) (short.same letter.white)
      (feed_text_grew (without_line_feed skips text) s short.utf8 takes h)
  fed_grew token skips s u takes h = kept_grew (others_kept token skips s h)

  feed_grew : (token : tokens.TokenValue) (s : StateValue) → TokenUtf8 token
      → (exact ≡ true → is_taken token s ≡ true) → Sound s → Grew exact c (count c token) s (feed token s)
  feed_grew token s u takes h =
      let a : Grew exact c 0 s (with_nothing_skipped s) = kept_grew (with_nothing_skipped_keeps.keeps s h) in
      grew_then (count c token) (omega arith) a
      (fed_grew token s.skips_line_feed (with_nothing_skipped s) u (λ x. same token (takes x)) a.sound)
    where
      same : (token : tokens.TokenValue) → is_taken token s ≡ true → is_taken token (with_nothing_skipped s)
          ≡ true
      same (tokens.text text) e = e
      same _ e = refl

  end_is_taken : (token : tokens.TokenValue) (s : StateValue) → is_end token ≡ true → is_taken token s ≡ true
  end_is_taken (tokens.text text) s e = absurd (true≢false (sym e))
  end_is_taken _ s e = refl

  -- ---- all tokens

  after_grew : (k : ℕ) (read : Read) (s : StateValue) → Sound s → ReadUtf8 read
      → (exact ≡ true → taken_after (taken_within k) read s ≡ true)
      → ((t : StateValue) → (exact ≡ true → taken_within k read.rest t ≡ true) → Sound t
      → Grew exact c (occurrences_in c (texts_within k read.rest t)) t (read_within k read.rest t))
      → Grew exact c (occurrences_in c (texts_after (texts_within k) read s)) s (after_token (read_within k) read s)
  after_grew k read s h u takes more = either (is_end read.token) refl takes
    where
      either : (b : Bool) → is_end read.token ≡ b → (exact ≡ true
          → (if b then true else is_taken read.token s && taken_within k read.rest (feed read.token s)) ≡ true)
          → Grew exact c (occurrences_in c (if b then [] else with_text_of read.token (texts_within k read.rest
          (feed read.token s)))) s (if b then feed read.token s else read_within k read.rest (feed read.token s))
      either true e t =
          grew_as 0 (end_counts_none c read.token e)
          (feed_grew read.token s u.token (λ x. end_is_taken read.token s e) h)
      either false e t =
          let sum = count_with c read.token (texts_within k read.rest (feed read.token s)) in
          let first = feed_grew read.token s u.token (λ x. (and_parts (is_taken read.token s) _ (t x)).0) h in
          grew_then
          (occurrences_in c (with_text_of read.token (texts_within k read.rest (feed read.token s)))) (omega arith)
          first (more (feed read.token s) (λ x. (and_parts (is_taken read.token s) _ (t x)).1) first.sound)

  read_grew : (k : ℕ) (page : List ℕ) (s : StateValue) → IsUtf8 page
      → (exact ≡ true → taken_within k page s ≡ true) → Sound s
      → Grew exact c (occurrences_in c (texts_within k page s)) s (read_within k page s)
  read_grew zero page s u takes h = feed_grew tokens.end_of_file s tt (λ x. refl) h
  read_grew (suc k) page s u takes h =
      let r = next_token_utf8 s.content (not (current_is_html s.stack)) page u in
      after_grew k (next_read page s) s h r takes
      (λ (t : StateValue) (e : exact ≡ true → taken_within k (next_read page s).rest t ≡ true) (sound : Sound t).
      read_grew k (next_read page s).rest t r.rest e sound)

  -- the texts of the nodes hold a letter at most as often as those of the tokens, and as often if all are taken
  pub state_grew : (scripting : Bool) (page : List ℕ) → IsUtf8 page
      → (exact ≡ true → all_texts_are_taken scripting page ≡ true)
      → Grew exact c (occurrences_in c (token_texts scripting page)) (initial_state scripting)
      (state_after scripting page)
  state_grew scripting page u takes =
      read_grew (length (preprocessed page)) (preprocessed page) (initial_state scripting)
      (preprocessed_utf8 page u) takes (initial_sound scripting)

-- ---- the law

pub letters_taken : LettersAreTaken
letters_taken scripting page c u takes letter =
    let a = state_grew true c (letter_tests c letter) scripting page u (λ x. takes) in
    let b = a.at_most in
    let e = a.at_least refl in
    let d = ap (occurrences_in c) (texts_same (state_after scripting page).nodes) in
    omega arith
