-- The tokens of a page, one after another: the texts of the nodes hold what is kept of the tokens' texts.
use Rattle.std.proofs.Common.{◌≡◌, ℕ, zero, suc, ◌+◌, Bool, true, false, List, [], ◌∷◌, ◌++◌, length, refl, sym, ap}
use Rattle.std.proofs.Common.{arith}
use Rattle.std.specs.Prelude.{IsUtf8, ◌||◌, ◌==◌, not, codes, if◌then◌else◌}
use Rattle.std.specs.List.{list_all}
use Rattle.std.proofs.lemmas.Bool.{true≢false, and_parts, or_parts, not-true}
use Rattle.htmd_lexical.specs.Characters.{null}
use Rattle.htmd_lexical.proofs.Cases.{test}
use Rattle.htmd_nodes.specs.Items.{greatest_depth}
use Rattle.htmd_html5_tokens.specs.Preprocessing.{preprocessed}
use Rattle.htmd_html5_tokens.specs.References.{replacement_character}
use Rattle.htmd_html5_tokens.specs.Tokens.{Read}
use Rattle.htmd_html5_state.specs.State.{StateValue, initial_state}
use Rattle.htmd_html5_state.specs.Foreign.{current_is_html}
use Rattle.htmd_html5.specs.Feeding.{is_text_mode, feed_text, without_line_feed, with_nothing_skipped, feed}
use Rattle.htmd_html5.specs.Html5Documents.{next_read, is_end, after_token, read_within, state_after, html5_document}
use Rattle.htmd_law_html5.specs.PageLetters.{occurrences, occurrences_in, texts_of}
use Rattle.htmd_law_html5.specs.TextKept.{has_no_null, no_null_comes, drops_white, without_white}
use Rattle.htmd_law_html5.specs.TextKept.{kept_text, with_kept_text, kept_after, kept_within, kept_texts, is_kept}
use Rattle.htmd_law_html5.specs.TextKept.{CharactersAreKept}
use Rattle.htmd_law_html5.proofs.WhiteRuns.{Clean, clean_shortened}
use Rattle.htmd_law_html5.specs.DroppedTexts.{tokens_after, tokens_within, page_tokens, drops_text_in, drops_no_text}
use Rattle.std.specs.Str.{bytes_eq}
use Rattle.htmd_law_html5.specs.LetterOrder.{moves_no_text, no_tag_moves_text, moves_text_in}
use Rattle.htmd_law_html5.proofs.Utf8Tokens.{TokenUtf8, ReadUtf8, next_token_utf8, preprocessed_utf8}
use Rattle.htmd_law_html5.proofs.LetterLemmas.{CharacterTests}
use Rattle.htmd_law_html5.proofs.Keeping.{Sound}
use Rattle.htmd_law_html5.proofs.TextsPut.{occurs_cons}
use Rattle.htmd_law_html5.proofs.Taking.{Grew, kept_grew, grew_as, grew_then}
use Rattle.htmd_law_html5.proofs.FedTokens.{shortened, with_nothing_skipped_keeps, others_kept, initial_sound}
use Rattle.htmd_law_html5.proofs.PuttingTokens.{raw_grew}
use Rattle.htmd_law_html5.proofs.KeptTexts.{put_text_kept}
use Rattle.htmd_law_html5.proofs.NodeWeights.{nodes_utf8}
use Rattle.htmd_law_html5.proofs.LaidTexts.{laid_texts}
use Rattle.htmd_law_html5.proofs.WholeTrees.{ranked_hang, whole_texts}
use Rattle.htmd_law_html5.proofs.UndroppedTokens.{harmless_hung}
use Rattle.htmd_law_html5.proofs.OrderedEarly.{Staged}
use Rattle.htmd_law_html5.proofs.OrderedTokens.{feed_stage, stage_skipped, begins_staged, kept_letters}
use Rattle.htmd_law_html5.proofs.Counted.{letter_choice}
use Rattle.htmd_html5_tokens.specs.Tokens as tokens

character_tests : (c : ℕ) → is_kept c ≡ true → CharacterTests c
character_tests c e =
    let tests = apart (c == null) (c == replacement_character) e in
    record { null_is_none = tests.0; other = tests.1 }
  where
    apart : (none other : Bool) → not (none || other) ≡ true → (none ≡ false) × (other ≡ false)
    apart false false e = (refl, refl)
    apart false true e = absurd (true≢false (sym e))
    apart true other e = absurd (true≢false (sym e))

module _ (c : ℕ) (nulls : Bool) (tests : nulls ≡ true → CharacterTests c) where
  -- none holds U+0000, if none may come
  abbrev NoNull : tokens.TokenValue → Type 0
  NoNull token = nulls ≡ false → has_no_null token ≡ true

  feed_text_kept : (text letters : List ℕ) (s : StateValue) → IsUtf8 text → Clean nulls text
      → Staged letter_choice letters s → Sound s
      → Grew true c (occurrences c (without_white (drops_white s) text)) s (feed_text text s)
  feed_text_kept text letters s u clean h sound =
      test (is_text_mode s.content) (λ e. rw e (raw_grew true c text s u sound))
      (λ e. rw e (put_text_kept c nulls tests text letters s u clean e h sound))

  -- how often the character stands in what is kept of a token
  abbrev kept_count : tokens.TokenValue → StateValue → ℕ
  kept_count (tokens.text text) s = occurrences c (kept_text text s)
  kept_count _ s = 0

  fed_kept : (token : tokens.TokenValue) (letters : List ℕ) (s : StateValue) → TokenUtf8 token → NoNull token
      → Staged letter_choice letters s → Sound s → Grew true c (kept_count token s) s (feed token s)
  fed_kept token letters s u clean h sound = by_token token u clean
      (kept_grew (with_nothing_skipped_keeps.keeps s sound))
    where
      skipped : StateValue
      skipped = with_nothing_skipped s

      by_token : (token : tokens.TokenValue) → TokenUtf8 token → NoNull token → Grew true c 0 s skipped
          → Grew true c (kept_count token s) s (feed token s)
      by_token (tokens.text text) u clean a =
          grew_then (occurrences c (kept_text text s)) (omega arith) a
          (feed_text_kept (without_line_feed s.skips_line_feed text) letters skipped
          (shortened c s.skips_line_feed text u).utf8 (clean_shortened nulls s.skips_line_feed text clean)
          (stage_skipped letter_choice letters s h) a.sound)
      by_token token u clean a =
          grew_then 0 (omega arith) a (kept_grew (others_kept token s.skips_line_feed skipped a.sound))

  count_kept : (token : tokens.TokenValue) (s : StateValue) (more : List (List ℕ))
      → occurrences_in c (with_kept_text token s more) ≡ kept_count token s + occurrences_in c more
  count_kept (tokens.text text) s more = occurs_cons c (kept_text text s) more
  count_kept _ s more = omega arith

  end_keeps_none : (token : tokens.TokenValue) (s : StateValue) → is_end token ≡ true → kept_count token s ≡ 0
  end_keeps_none (tokens.text text) s e = absurd (true≢false (sym e))
  end_keeps_none _ s e = refl

  end_is_clean : (token : tokens.TokenValue) → is_end token ≡ true → has_no_null token ≡ true
  end_is_clean (tokens.text text) e = absurd (true≢false (sym e))
  end_is_clean _ e = refl

  -- ---- all tokens

  -- the tokens that are read from a state on
  record Allowed (k : ℕ) (page : List ℕ) (s : StateValue) : Type 0 where
    moving_none : list_all moves_no_text (tokens_within k page s) ≡ true
    clean : nulls ≡ false → list_all has_no_null (tokens_within k page s) ≡ true

  after_kept_all : (k : ℕ) (read : Read) (letters : List ℕ) (s : StateValue) → Sound s → ReadUtf8 read
      → list_all moves_no_text (tokens_after (tokens_within k) read s) ≡ true
      → (nulls ≡ false → list_all has_no_null (tokens_after (tokens_within k) read s) ≡ true)
      → Staged letter_choice letters s
      → ((more : List ℕ) (t : StateValue) → Allowed k read.rest t → Staged letter_choice more t → Sound t
      → Grew true c (occurrences_in c (kept_within k read.rest t)) t (read_within k read.rest t))
      → Grew true c (occurrences_in c (kept_after (kept_within k) read s)) s (after_token (read_within k) read s)
  after_kept_all k read letters s sound u e n h more = either (is_end read.token) refl e n
    where
      either : (b : Bool) → is_end read.token ≡ b → list_all moves_no_text
          (if b then [] else read.token ∷ tokens_within k read.rest (feed read.token s)) ≡ true
          → (nulls ≡ false → list_all has_no_null
          (if b then [] else read.token ∷ tokens_within k read.rest (feed read.token s)) ≡ true) → Grew true c
          (occurrences_in c (if b then [] else with_kept_text read.token s (kept_within k read.rest
          (feed read.token s)))) s (if b then feed read.token s else read_within k read.rest (feed read.token s))
      either true g f n =
          grew_as 0 (end_keeps_none read.token s g)
          (fed_kept read.token letters s u.token (λ z. end_is_clean read.token g) h sound)
      either false g f n =
          let sum = count_kept read.token s (kept_within k read.rest (feed read.token s)) in
          let both = and_parts (moves_no_text read.token)
          (list_all moves_no_text (tokens_within k read.rest (feed read.token s))) f in
          let none = λ (z : nulls ≡ false). and_parts (has_no_null read.token)
          (list_all has_no_null (tokens_within k read.rest (feed read.token s))) (n z) in
          let first = fed_kept read.token letters s u.token (λ z. (none z).0) h sound in
          grew_then (occurrences_in c (with_kept_text read.token s (kept_within k read.rest (feed read.token s))))
          (omega arith) first (more (letters ++ kept_letters letter_choice read.token s) (feed read.token s)
          (record { moving_none = both.1; clean = λ z. (none z).1 })
          (feed_stage letter_choice letters read.token s u.token both.0 (λ z. absurd (true≢false z))
          (λ z. absurd (true≢false z)) h) first.sound)

  read_kept : (k : ℕ) (page : List ℕ) (letters : List ℕ) (s : StateValue) → IsUtf8 page → Allowed k page s
      → Staged letter_choice letters s → Sound s
      → Grew true c (occurrences_in c (kept_within k page s)) s (read_within k page s)
  read_kept zero page letters s u a h sound = fed_kept tokens.end_of_file letters s tt (λ z. refl) h sound
  read_kept (suc k) page letters s u a h sound =
      let r = next_token_utf8 s.content (not (current_is_html s.stack)) page u in
      after_kept_all k (next_read page s) letters s sound r a.moving_none a.clean h
      (λ more t f g x. read_kept k (next_read page s).rest more t r.rest f g x)

  state_kept : (scripting : Bool) (page : List ℕ) → IsUtf8 page → no_tag_moves_text scripting page ≡ true
      → (nulls ≡ false → no_null_comes scripting page ≡ true)
      → Grew true c (occurrences_in c (kept_texts scripting page)) (initial_state scripting)
      (state_after scripting page)
  state_kept scripting page u e n =
      read_kept (length (preprocessed page)) (preprocessed page) [] (initial_state scripting)
      (preprocessed_utf8 page u) (record { moving_none = e; clean = n }) (begins_staged letter_choice scripting)
      (initial_sound scripting)

-- ---- such a page drops no text

one_drops_no_text : (token : tokens.TokenValue) → moves_no_text token ≡ true → drops_no_text token ≡ true
one_drops_no_text (tokens.start_tag tag) e =
    ap not (or_parts (drops_text_in tag.name) (bytes_eq tag.name (codes "table"))
    (not-true (moves_text_in tag.name) e)).0
one_drops_no_text _ e = refl

pub none_drops_text : (ts : List tokens.TokenValue) → list_all moves_no_text ts ≡ true → list_all drops_no_text ts
    ≡ true
none_drops_text [] e = refl
none_drops_text (t ∷ ts) e =
    let parts = and_parts (moves_no_text t) (list_all moves_no_text ts) e in
    rw (one_drops_no_text t parts.0) (none_drops_text ts parts.1)

-- ---- the law

module _ (c : ℕ) (nulls : Bool) (tests : nulls ≡ true → CharacterTests c) where
  pub counts_kept : (scripting : Bool) (page : List ℕ) → IsUtf8 page → no_tag_moves_text scripting page ≡ true
      → (nulls ≡ false → no_null_comes scripting page ≡ true)
      → occurrences_in c (texts_of (html5_document scripting page)) ≡ occurrences_in c (kept_texts scripting page)
  unfolding html5_document
  counts_kept scripting page u moving_none clean =
      let a = state_kept c nulls tests scripting page u moving_none clean in
      let hung = harmless_hung scripting page (none_drops_text (page_tokens scripting page) moving_none) in
      let b = laid_texts c greatest_depth (state_after scripting page).nodes a.sound in
      let d = whole_texts c (state_after scripting page).nodes a.sound.root a.sound.forest
      (ranked_hang hung.rank (state_after scripting page).nodes a.sound.root hung.root hung.hangs) greatest_depth
      (nodes_utf8 (state_after scripting page).nodes a.sound.utf8) in
      let e = a.at_most in
      let f = a.at_least refl in
      omega arith

pub characters_kept : CharactersAreKept
characters_kept scripting page c u moving_none is =
    counts_kept c true (λ n. character_tests c is) scripting page u moving_none (λ z. absurd (true≢false z))
