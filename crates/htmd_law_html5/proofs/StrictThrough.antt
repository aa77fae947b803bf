-- Tokens that are fed one after another, each with the content that the tokenizer was told.
use Rattle.std.proofs.Common.{◌≡◌, ℕ, Bool, true, false, List, [], ◌∷◌, ◌++◌, refl, sym, ap, ◌∙◌, subst}
use Rattle.std.specs.Prelude.{◌==◌}
use Rattle.htmd_lexical.proofs.Cases.{test}
use Rattle.htmd_html5_tokens.specs.Tokens.{TagValue, TokenValue, end_tag, text}
use Rattle.htmd_lexical.specs.declared.content_model.ContentModel.TheVariants.{Normal}
use Rattle.htmd_html5_state.specs.Foreign.{current_is_html}
use Rattle.htmd_html5_state.specs.State.{StateValue}
use Rattle.htmd_html5.specs.Feeding.{feed, feed_text, is_text_mode, with_nothing_skipped, without_line_feed}
use Rattle.htmd_law_html5.specs.StrictTokens.{content_after, after_feed}
use Rattle.htmd_law_html5.proofs.StrictOpen.{stands_html}
use Rattle.htmd_law_html5.proofs.StrictRules.{InContext}

module _ (z : Bool) where
  -- from one state to another these tokens are fed, each outside foreign content, and after each the state tells the
  -- tokenizer what the token says
  pub data Through : StateValue → List TokenValue → StateValue → Type 0 where
    nothing : {s : StateValue} → Through s [] s
    one : {s new : StateValue} {xs : List TokenValue} (x : TokenValue) → current_is_html s.stack ≡ true
        → (feed x s).content ≡ content_after z s.content x → Through (feed x s) xs new
        → Through s (x ∷ xs) new

  pub followed : {a b c : StateValue} {xs ys : List TokenValue} → Through a xs b → Through b ys c
      → Through a (xs ++ ys) c
  followed nothing q = q
  followed (one x i e r) q = one x i e (followed r q)

  pub from_state : {s t new : StateValue} {xs : List TokenValue} → t ≡ s → Through s xs new → Through t xs new
  from_state e r = rw e r

  -- one that does this
  pub with_fed : (x : TokenValue) (s new : StateValue) (xs : List TokenValue) (last : StateValue)
      → current_is_html s.stack ≡ true → new.content ≡ content_after z s.content x → feed x s ≡ new
      → Through new xs last → Through s (x ∷ xs) last
  with_fed x s new xs last i e f r =
      one x i (ap (λ (y : StateValue). y.content) f ∙ e) (subst (λ y. Through y xs last) (sym f) r)

  pub one_fed : (p : List ℕ) (c : List (List ℕ)) (x : TokenValue) (s new : StateValue) (xs : List TokenValue)
      (last : StateValue) → InContext (p ∷ c) s → new.content ≡ content_after z Normal x → feed x s ≡ new
      → Through new xs last → Through s (x ∷ xs) last
  one_fed p c x s new xs last h e f r =
      with_fed x s new xs last (stands_html s.nodes (p ∷ c) s.stack h.stands)
      (e ∙ ap (λ now. content_after z now x) (sym h.content)) f r

  -- how it begins
  abbrev pub Parts : StateValue → List TokenValue → StateValue → Type 0
  Parts s [] new = s ≡ new
  Parts s (x ∷ xs) new =
      (current_is_html s.stack ≡ true) × ((feed x s).content ≡ content_after z s.content x)
      × Through (feed x s) xs new

  pub parts : {s new : StateValue} {xs : List TokenValue} → Through s xs new → Parts s xs new
  parts nothing = refl
  parts (one x i e r) = (i, e, r)

  -- ---- where a line feed that comes next is dropped

  abbrev skips : StateValue → StateValue
  skips s = record s { skips_line_feed = true }

  module _ (p : List ℕ) (c : List (List ℕ)) (s : StateValue) (h : InContext (p ∷ c) s) where
    html_there : current_is_html s.stack ≡ true
    html_there = stands_html s.nodes (p ∷ c) s.stack h.stands

    same_state : with_nothing_skipped s ≡ s
    same_state = ap (λ (b : Bool). record s { skips_line_feed = b }) (sym h.no_skip)

    -- a token that does the same
    as_before : (x : TokenValue) (xs : List TokenValue) (new : StateValue) → feed x (skips s) ≡ feed x s
        → Through s (x ∷ xs) new → Through (skips s) (x ∷ xs) new
    as_before x xs new e r =
        let k = parts r in
        with_fed x (skips s) (feed x s) xs new html_there k.1 e k.2

    text_same : (u v : List ℕ) → without_line_feed true u ≡ v → feed (text u) (skips s) ≡ feed (text v) s
    text_same u v e =
        ap (λ t. feed_text t (with_nothing_skipped s)) e
        ∙ sym (ap (λ (b : Bool). feed_text (without_line_feed b v) (with_nothing_skipped s)) h.no_skip)

    -- a text that is a line feed does nothing
    line_feed_fed : (b : ℕ) → (b == 10) ≡ true → feed (text (b ∷ [])) (skips s) ≡ s
    line_feed_fed b e =
        let n : is_text_mode s.content ≡ false = rw h.content refl in
        rw e (rw n same_state)

    after_text : (u : List ℕ) (ys : List TokenValue) (last : TokenValue) (new : StateValue)
        → Through s (after_feed (text u ∷ ys) ++ (last ∷ [])) new
        → Through (skips s) (text u ∷ (ys ++ (last ∷ []))) new
    after_text [] ys last new r = as_before (text []) (ys ++ (last ∷ [])) new (text_same [] [] refl) r
    after_text (b ∷ []) ys last new r =
        test (b == 10)
        (λ t. let w : Through s (ys ++ (last ∷ [])) new = rw t at r in
        with_fed (text (b ∷ [])) (skips s) s (ys ++ (last ∷ [])) new html_there refl (line_feed_fed b t) w)
        (λ t. let w : Through s (text (b ∷ []) ∷ (ys ++ (last ∷ []))) new = rw t at r in
        as_before (text (b ∷ [])) (ys ++ (last ∷ [])) new (text_same (b ∷ []) (b ∷ []) (rw t refl)) w)
    after_text (b ∷ d ∷ v) ys last new r =
        test (b == 10)
        (λ t. let w : Through s (text (d ∷ v) ∷ (ys ++ (last ∷ []))) new = rw t at r in
        let k = parts w in
        with_fed (text (b ∷ d ∷ v)) (skips s) (feed (text (d ∷ v)) s) (ys ++ (last ∷ [])) new html_there k.1
        (text_same (b ∷ d ∷ v) (d ∷ v) (rw t refl)) k.2)
        (λ t. let w : Through s (text (b ∷ d ∷ v) ∷ (ys ++ (last ∷ []))) new = rw t at r in
        as_before (text (b ∷ d ∷ v)) (ys ++ (last ∷ [])) new
        (text_same (b ∷ d ∷ v) (b ∷ d ∷ v) (rw t refl)) w)

    pub skip_run : (xs : List TokenValue) (tag : TagValue) (new : StateValue)
        → Through s (after_feed xs ++ (end_tag tag ∷ [])) new → Through (skips s) (xs ++ (end_tag tag ∷ [])) new
    skip_run [] tag new r = as_before (end_tag tag) [] new refl r
    skip_run (text u ∷ ys) tag new r = after_text u ys (end_tag tag) new r
    skip_run (x ∷ ys) tag new r = as_before x (ys ++ (end_tag tag ∷ [])) new refl r
