-- A fenced code block reads back.
use Rattle.std.proofs.Common.{◌≡◌, ◌⊎◌, inl, inr, ℕ, zero, suc, ◌+◌, ◌<◌, ◌≤◌, Bool, true, false, cond, List, [], ◌∷◌}
use Rattle.std.proofs.Common.{◌++◌, drop, refl, ap, ◌∙◌, arith, append_assoc}
use Rattle.std.specs.Prelude.{not, ◌||◌, ◌==◌, replicate, Option, None, Some}
use Rattle.std.specs.Option.{option_copied, unwrap_or}
use Rattle.std.specs.List.{list_any}
use Rattle.htmd_lexical.specs.Characters.{carriage_return, line_feed}
use Rattle.htmd_markdown.specs.declared.fence.CodeBlockFence.{CodeBlockFence}
use Rattle.htmd_markdown.specs.declared.fence.CodeBlockFence.TheVariants.{Tildes, Backticks}
use Rattle.htmd_markdown.specs.CodeBlocks.{code_of}
use Rattle.htmd_markdown.specs.Fences.{symbol_of, info_string, fence_len, fits_fence, between_fences, fenced_code_block}
use Rattle.htmd_markdown.specs.FenceReading.{is_line_end, symbols_at_start, is_opening, read_fence}
use Rattle.htmd_markdown.proofs.RunsLemmas.{run_at-le-longest}
use Rattle.htmd_markdown.proofs.CodeBlocksLemmas.{code_of-behind}
use Rattle.htmd_markdown.proofs.FenceReadingLemmas.{Below, MakesFences, read_fence-between, opens_with_tildes}
use Rattle.htmd_markdown.proofs.FenceReadingLemmas.{opens_with_backquotes}
use denote.Ref.{Bor}

makes_fences : (fence : CodeBlockFence) → MakesFences (symbol_of fence)
makes_fences Tildes = record { itself = refl; no_space = refl; no_line_end = refl; no_line_feed = refl }
makes_fences Backticks = record { itself = refl; no_space = refl; no_line_end = refl; no_line_feed = refl }

-- what follows a fence, character by character
fits_parts : (c : ℕ) (info : List ℕ) → fits_fence c info ≡ true → (list_any is_line_end info ≡ false)
    × (list_any (λ b. b == c) info ≡ false)
fits_parts c [] fits = (refl, refl)
fits_parts c (b ∷ info) fits =
    let first =
    each (b == line_feed) (b == carriage_return) (b == c)
    (list_any (λ x. (x == line_feed) || (x == carriage_return) || (x == c)) info) fits in
    let rest = fits_parts c info first.2 in
    (rw first.0 rest.0, rw first.1 rest.1)
  where
    each : (x y z w : Bool) → not (((x || y) || z) || w) ≡ true → ((x || y) ≡ false) × (z ≡ false)
        × (not w ≡ true)
    each true y z w e = (cc, cc, cc)
    each false true z w e = (cc, cc, cc)
    each false false true w e = (cc, cc, cc)
    each false false false w e = (refl, refl, e)

opens : (fence : CodeBlockFence) (n : ℕ) (info : List ℕ) → 3 ≤ n
    → list_any (λ b. b == symbol_of fence) info ≡ false
    → is_opening (replicate n (symbol_of fence) ++ info) ≡ true
opens Tildes n info le none = opens_with_tildes n info le
opens Backticks n info le none = opens_with_backquotes n info le none

regrouped : (fence info code : List ℕ)
    → between_fences fence info code ≡ (fence ++ info) ++ line_feed ∷ (code ++ line_feed ∷ fence)
regrouped fence info code = simp append_assoc

pub fenced_code_block-reads_back : (s : List ℕ) (language : Option (List ℕ)) (fence : CodeBlockFence)
    → fits_fence (symbol_of fence) (info_string language) ≡ true
    → read_fence (fenced_code_block s language fence) ≡ Some (code_of s)
fenced_code_block-reads_back s language fence fits =
    let c : ℕ = symbol_of fence in
    let n : ℕ = fence_len c (code_of s) in
    let info : List ℕ = info_string language in
    let parts = fits_parts c info fits in
    let below : Below c n (code_of s) = λ k. omega (arith, run_at-le-longest c (code_of s) k) in
    ap read_fence (regrouped (replicate n c) info (code_of s))
    ∙ read_fence-between c n info (code_of s) (makes_fences fence) (omega arith)
    (opens fence n info (omega arith) parts.1) parts.0 parts.1 below

-- ---- the fence is longer than any run of its symbol

run_push : (c k : ℕ) (s : List ℕ) → (line_feed == c) ≡ false
    → symbols_at_start c (drop k (s ++ line_feed ∷ [])) ≡ symbols_at_start c (drop k s)
run_push c zero [] other = rw other refl
run_push c (suc zero) [] other = refl
run_push c (suc (suc k)) [] other = refl
run_push c zero (b ∷ s) other = ap (λ n. cond (b == c) (1 + n) 0) (run_push c zero s other)
run_push c (suc k) (b ∷ s) other = run_push c k s other

run_of_content : (c k : ℕ) (s : List ℕ) → (line_feed == c) ≡ false → (s ≡ code_of s)
    ⊎ (s ≡ code_of s ++ line_feed ∷ [])
    → symbols_at_start c (drop k s) ≡ symbols_at_start c (drop k (code_of s))
run_of_content c k s other (inl same) = ap (λ l. symbols_at_start c (drop k l)) same
run_of_content c k s other (inr more) = ap (λ l. symbols_at_start c (drop k l)) more ∙ run_push c k (code_of s) other

pub fence-longer : (s : List ℕ) (fence : CodeBlockFence) (k : ℕ)
    → symbols_at_start (symbol_of fence) (drop k s) < fence_len (symbol_of fence) (code_of s)
fence-longer s fence k =
    let c : ℕ = symbol_of fence in
    let here = run_of_content c k s (makes_fences fence).no_line_feed (code_of-behind s) in
    let run = run_at-le-longest c (code_of s) k in
    omega (arith, here, run)

-- the language that the code hands on
pub info_given : (language : Option (Bor (List ℕ))) (empty : Bor (List ℕ)) → empty.now ≡ []
    → (unwrap_or language empty).now ≡ info_string (option_copied language)
info_given None empty same = same
info_given (Some given) empty same = refl
