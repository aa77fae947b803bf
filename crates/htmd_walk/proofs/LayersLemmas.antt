-- A handler in place of another: what comes after a conversion stays, and more handlers may follow.
use Rattle.std.proofs.Common.{◌≡◌, ℕ, zero, suc, ◌<◌, List, [], ◌∷◌, ◌++◌, length, set}
use Rattle.std.proofs.Common.{sym, ap, ◌∙◌, refl, None, Option}
use Rattle.std.proofs.lemmas.List.{set-append_left, get_or_append_left, length-set}
use Rattle.std.proofs.Math.Seq.{set-append_seam, get_or-append_seam}
use Rattle.htmd_walk.specs.Handling.{ElementView, ResultView, PlanView, HandlerMeaning, of_functions}
use Rattle.htmd_walk.specs.Choice.{Config, handler_at, no_handler, tags_at, with_handler}
use Rattle.htmd_walk.specs.Layers.{with_functions, put_at}
use Rattle.htmd_walk.specs.Markdown.{append_text, append_texts}

module _ (plan : ElementView → PlanView) (finish : ElementView → ResultView → Option ResultView) where
  -- what is put after a conversion stays
  pub append_texts-put : (hs : List HandlerMeaning) (i : ℕ) (definitions : List (List ℕ))
      → append_texts (set hs i (with_functions (handler_at hs i) plan finish)) definitions
      ≡ append_texts hs definitions
  append_texts-put [] i definitions = refl
  append_texts-put (h ∷ hs) zero definitions = refl
  append_texts-put (h ∷ hs) (suc i) definitions =
      ap (λ s. append_text (h.append definitions) ++ s) (append_texts-put hs i definitions)

  -- a handler that is registered later
  pub put-with_handler : (c : Config) (i : ℕ) (tags : List (List ℕ)) (h : HandlerMeaning) → i < length c.handlers
      → put_at (with_handler c tags h) i plan finish ≡ with_handler (put_at c i plan finish) tags h
  put-with_handler c i tags h within =
      let m : HandlerMeaning → HandlerMeaning = λ x. with_functions x plan finish in
      ap (λ (hs : List HandlerMeaning). record {
        options = c.options;
        handlers = hs;
        registered = c.registered ++ tags_at (length c.handlers) tags;
      })
      (ap (λ x. set (c.handlers ++ h ∷ []) i (m x)) (get_or_append_left c.handlers (h ∷ []) no_handler i within)
      ∙ set-append_left c.handlers (h ∷ []) i (m (handler_at c.handlers i)) within)
      ∙ ap (λ n. record {
        options = c.options;
        handlers = set c.handlers i (m (handler_at c.handlers i)) ++ h ∷ [];
        registered = c.registered ++ tags_at n tags;
      }) (sym (length-set c.handlers i (m (handler_at c.handlers i))))

  -- put in place of the newest handler, which gives nothing
  pub put-newest : (c : Config) (tags : List (List ℕ))
      → put_at (with_handler c tags no_handler) (length c.handlers) plan finish
      ≡ with_handler c tags (of_functions plan finish None)
  put-newest c tags =
      ap (λ (hs : List HandlerMeaning). record {
        options = c.options;
        handlers = hs;
        registered = c.registered ++ tags_at (length c.handlers) tags;
      })
      (ap (λ x. set (c.handlers ++ no_handler ∷ []) (length c.handlers) (with_functions x plan finish))
      (get_or-append_seam c.handlers no_handler [] no_handler)
      ∙ set-append_seam c.handlers no_handler [] (of_functions plan finish None))

-- A layer over a registry that was given a handler that gives nothing.
pub put-made : {R H : Type 0} (config : R → Config) (plan : H → ElementView → PlanView)
    (finish : H → ElementView → ResultView → Option ResultView) (rest : R) (n : ℕ) (handler : H)
    (tags : List (List ℕ)) (old : Config) → config rest ≡ with_handler old tags no_handler
    → n ≡ length old.handlers
    → put_at (config rest) n (plan handler) (finish handler)
    ≡ with_handler old tags (of_functions (plan handler) (finish handler) None)
put-made config plan finish rest n handler tags old given newest =
    ap (λ (x : Config). put_at x n (plan handler) (finish handler)) given
    ∙ ap (λ (x : ℕ). put_at (with_handler old tags no_handler) x (plan handler) (finish handler)) newest
    ∙ put-newest (plan handler) (finish handler) old tags
