-- What the handlers of an element answer, one handler at a time.
use Rattle.std.proofs.Common.{◌≡◌, ℕ, zero, suc, ◌+◌, List, [], ◌∷◌, drop, Some, None, slice_get, refl, sym, ap}
use Rattle.std.proofs.Common.{◌∙◌, Bool, true, false, cond, add-one}
use Rattle.htmd_walk.specs.Handling.{PlanView, OutcomeView, HandlerMeaning}
use Rattle.htmd_walk.specs.Choice.{indexes, handler_at, handlers_at}
use Rattle.htmd_walk.specs.Outputs.{is_markdown_alone}
use Rattle.htmd_walk.specs.Elements.{Occurrence, Answer, plan_answer, first_answer, answer_after, without_handler}
use Rattle.htmd_walk.specs.Elements.{raw_answer, content_of, answer_of, Contents, contents_alone, outcome_answer}
use Rattle.htmd_walk.specs.Elements.{each_answer}

pub drop_at_some : (xs : List ℕ) (k x : ℕ) → Some x ≡ slice_get xs k → drop k xs ≡ x ∷ drop (k + 1) xs
drop_at_some [] zero x e = cc
drop_at_some [] (suc k) x e = cc
drop_at_some (y ∷ ys) zero x e = let s : x ≡ y = cc in ap (λ z. z ∷ ys) (sym s)
drop_at_some (y ∷ ys) (suc k) x e = drop_at_some ys k x e ∙ rw (add-one, add-one) refl

pub drop_at_none : (xs : List ℕ) (k : ℕ) → None ≡ slice_get xs k → drop k xs ≡ []
drop_at_none [] zero e = refl
drop_at_none [] (suc k) e = refl
drop_at_none (y ∷ ys) zero e = cc
drop_at_none (y ∷ ys) (suc k) e = drop_at_none ys k e

module _ (tag : List ℕ) (at : Occurrence) (skipped : ℕ) (definitions : List (List ℕ)) where
  abbrev registered : List ℕ
  registered = indexes tag at.conversion.config.registered

  abbrev left : List ℕ → Answer
  left is = first_answer (handlers_at at.conversion.config.handlers is) at definitions

  -- with no handler left
  pub answer-none : None ≡ slice_get registered skipped
      → answer_after skipped tag at definitions ≡ without_handler at definitions
  answer-none e = ap left (drop_at_none registered skipped e)

  -- with a handler at an index, by what it asks for
  pub answer-some : (index : ℕ) (p : PlanView) → Some index ≡ slice_get registered skipped
      → p ≡ (handler_at at.conversion.config.handlers index).plan at.view
      → answer_after skipped tag at definitions ≡ plan_answer (handler_at at.conversion.config.handlers index)
      at definitions p (answer_after (skipped + 1) tag at definitions)
  answer-some index p e h =
      ap left (drop_at_some registered skipped index e)
      ∙ ap (λ q. plan_answer (handler_at at.conversion.config.handlers index) at definitions q
      (answer_after (skipped + 1) tag at definitions)) (sym h)

module _ (at : Occurrence) (definitions : List (List ℕ)) where
  abbrev by_mode : Bool → Answer
  by_mode b = cond b (answer_of (content_of at definitions)) (raw_answer at definitions)

  pub answer-pure : is_markdown_alone at.conversion.config.options ≡ true
      → answer_of (content_of at definitions) ≡ without_handler at definitions
  answer-pure p = sym (ap by_mode p)

  pub answer-faithful : is_markdown_alone at.conversion.config.options ≡ false
      → raw_answer at definitions ≡ without_handler at definitions
  answer-faithful p = sym (ap by_mode p)

-- what a handler makes of the contents of nodes
pub each-outcome : (handler : HandlerMeaning) (at : Occurrence) (contents : Contents) (nodes : List ℕ)
    (definitions : List (List ℕ)) (outcome : OutcomeView) → contents ≡ contents_alone at nodes definitions
    → outcome ≡ handler.finish_each at.view contents.results
    → outcome_answer handler at contents.definitions outcome
    ≡ each_answer handler at (contents_alone at nodes definitions)
each-outcome handler at contents nodes definitions outcome is made =
    ap (outcome_answer handler at contents.definitions) made ∙ ap (each_answer handler at) is
