-- What stands around nodes.
use Rattle.std.proofs.Common.{◌≡◌, ℕ, suc, ◌+◌, ◌<◌, cond, not, List, [], ◌∷◌, ◌++◌}
use Rattle.std.proofs.Common.{length, take, drop, map, refl, sym, ap, ◌∙◌, arith}
use Rattle.std.specs.List.{prefix_len}
use Rattle.std.proofs.lemmas.List.{map_push}
use Rattle.htmd_lexical.proofs.Cases.{test}
use Rattle.htmd_flow.specs.declared.around.Around as declared
use Rattle.htmd_flow.specs.declared.place.Place as places
use Rattle.htmd_flow.specs.Contexts.{deeper, with_around, without_link, is_link}
use Rattle.htmd_flow.specs.FlowViews.{context_in, is_no_link}
use Rattle.htmd_flow.specs.PartViews.{around_of}
use Rattle.htmd_flow.proofs.LoopsLemmas.{passed, stopped}

pub around_pushed : (place : places.Place) (xs : List declared.Around) (a : declared.Around)
    → context_in place (xs ++ a ∷ []) ≡ with_around (context_in place xs) (around_of a)
around_pushed place xs a = ap (λ (ys : List _). record (context_in place xs) { around = ys }) (map_push around_of xs a)

-- one list or quote deeper
pub context_deeper : (place : places.Place) (xs : List declared.Around)
    → context_in (record place { nested = place.nested + 1 }) xs ≡ deeper (context_in place xs)
context_deeper place xs = ap (λ k. record (context_in place xs) { nested = k }) (next place.nested)
  where
    next : (n : ℕ) → n + 1 ≡ suc n
    next n = omega arith

-- ---- without the link

no_link : (xs : List declared.Around) → prefix_len is_no_link xs ≡ length xs
    → without_link (map around_of xs) ≡ map around_of xs
no_link [] h = refl
no_link (a ∷ xs) h = test (is_link (around_of a))
    (λ e. let none : 0 ≡ suc (length xs) = sym (stopped is_no_link a xs (ap not e))
    ∙ h in absurd (omega (arith, none)))
    (λ e. let rest : suc (prefix_len is_no_link xs) ≡ suc (length xs) = sym (passed is_no_link a xs (ap not e))
    ∙ h in
    ap (λ b. cond b (map around_of xs) (around_of a ∷ without_link (map around_of xs))) e
    ∙ ap (λ ys. around_of a ∷ ys) (no_link xs (omega (arith, rest))))

pub link_kept : (xs : List declared.Around) (len : ℕ) → len ≡ prefix_len is_no_link xs → len ≡ length xs
    → map around_of xs ≡ without_link (map around_of xs)
link_kept xs len e f = sym (no_link xs (sym e ∙ f))

pub link_out : (xs : List declared.Around) → prefix_len is_no_link xs < length xs
    → map around_of (take (prefix_len is_no_link xs) xs ++ drop (suc (prefix_len is_no_link xs)) xs)
    ≡ without_link (map around_of xs)
link_out [] h = absurd (omega arith)
link_out (a ∷ xs) h = test (is_link (around_of a))
    (λ e. ap (λ k. map around_of (take k (a ∷ xs) ++ drop (suc k) (a ∷ xs))) (stopped is_no_link a xs (ap not e))
    ∙ sym (ap (λ b. cond b (map around_of xs) (around_of a ∷ without_link (map around_of xs))) e))
    (λ e.
    let more : prefix_len is_no_link (a ∷ xs) ≡ suc (prefix_len is_no_link xs) =
    passed is_no_link a xs (ap not e) in
    ap (λ k. map around_of (take k (a ∷ xs) ++ drop (suc k) (a ∷ xs))) more
    ∙ ap (λ ys. around_of a ∷ ys) (link_out xs (omega (arith, more, h)))
    ∙ sym (ap (λ b. cond b (map around_of xs) (around_of a ∷ without_link (map around_of xs))) e))
