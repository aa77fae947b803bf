-- A text cut into words: the parts so far, and those to come.
use Rattle.std.proofs.Common.{◌≡◌, ℕ, ◌+◌, ◌-◌, ◌<◌, ◌≤◌, Bool, true, false, List, []}
use Rattle.std.proofs.Common.{◌∷◌, ◌++◌, length, drop, take}
use Rattle.std.proofs.Common.{get_or, refl, sym, ap, ◌∙◌, arith}
use Rattle.std.specs.Prelude.{◌&&◌, ◌==◌}
use Rattle.std.specs.List.{between}
use Rattle.std.proofs.lemmas.Bool.Decides.{nat_tests}
use Rattle.std.proofs.lemmas.List.{append-nil, append_assoc, drop_all, drop_more, get_or-drop, length-drop}
use Rattle.std.proofs.lemmas.List.{take_more}
use Rattle.std.proofs.lemmas.Slice.{between_to_end}
use Rattle.htmd_lexical.specs.Characters.{space}
use Rattle.htmd_chunks.specs.Words.{Word, cut_text, ended, begun, shows_before, shows_behind, with_text}
use Rattle.htmd_chunks.proofs.RunsLemmas.{IsSomething, something}
use Rattle.htmd_chunks.proofs.WordsLemmas.{cut-some}

-- ---- the test of a cut

pub cut-all : (b : ℕ) (left right : Bool) → b ≡ space → left ≡ true → right ≡ true
    → ((b == space) && left && right) ≡ true
cut-all b left right is before behind =
    let here : (b == space) ≡ true = grind (arith, nat_tests) in rw (here, before, behind) refl

pub cut-no-space : (here left right : Bool) → here ≡ false → (here && left && right) ≡ false
cut-no-space here left right other = rw other refl

pub cut-no-before : (here left right : Bool) → left ≡ false → (here && left && right) ≡ false
cut-no-before true left right other = rw other refl
cut-no-before false left right other = refl

pub cut-no-behind : (here left right : Bool) → right ≡ false → (here && left && right) ≡ false
cut-no-behind true true right other = other
cut-no-behind true false right other = refl
cut-no-behind false left right other = refl

-- ---- a step

-- no cut at this byte
pub cut-on : (before behind : Bool) (so_far : List ℕ) (b : ℕ) (s : List ℕ)
    → ((b == space) && shows_before before so_far && shows_behind behind s) ≡ false
    → cut_text before behind so_far (b ∷ s) ≡ cut_text before behind (so_far ++ b ∷ []) s
cut-on before behind so_far b s on = rw on refl

-- a cut
pub cut-here : (before behind : Bool) (so_far : List ℕ) (b : ℕ) (s : List ℕ)
    → ((b == space) && shows_before before so_far && shows_behind behind s) ≡ true
    → cut_text before behind so_far (b ∷ s) ≡ so_far ∷ cut_text false behind [] s
cut-here before behind so_far b s here = rw here refl

-- the parts behind the first, where there are some
ended-more : (word : Word) (s : List ℕ) (parts : List (List ℕ)) → IsSomething parts
    → ended word (s ∷ parts) ≡ with_text word s ∷ ended [] parts
ended-more word s parts (something next rest) = refl

begun-more : (word : Word) (s : List ℕ) (parts : List (List ℕ)) → IsSomething parts
    → begun word (s ∷ parts) ≡ begun [] parts
begun-more word s parts (something next rest) = refl

-- ---- the loop: the words that are done, the one that is begun, and the parts to come

pub record Cutting (behind : Bool) (text : List ℕ) (all_done : List Word) (last : Word) (done : List Word)
    (now : Word)
    (before : Bool) (from i : ℕ) : Type 0 where
  pub within : from ≤ i
  pub words : done ++ ended now (cut_text before behind (between from i text) (drop i text)) ≡ all_done
  pub word : begun now (cut_text before behind (between from i text) (drop i text)) ≡ last

between-more : (text : List ℕ) (from i : ℕ) → from ≤ i → i < length text
    → between from i text ++ get_or text i 0 ∷ [] ≡ between from (i + 1) text
between-more text from i le within =
    let size : i + 1 - from ≡ (i - from) + 1 = omega arith in
    let place : from + (i - from) ≡ i = omega arith in
    sym (ap (λ n. take n (drop from text)) size
    ∙ take_more (drop from text) (i - from) 0 (omega (arith, length-drop from text))
    ∙ ap (λ b. take (i - from) (drop from text) ++ b ∷ [])
    (get_or-drop from text (i - from) 0 ∙ ap (λ k. get_or text k 0) place))

pub cutting-on : (behind : Bool) (text : List ℕ) (all_done : List Word) (last : Word) (done : List Word) (now : Word)
    (before : Bool) (from i : ℕ) → i < length text
    → ((get_or text i 0 == space) && shows_before before (between from i text)
    && shows_behind behind (drop (i + 1) text)) ≡ false
    → Cutting behind text all_done last done now before from i
    → Cutting behind text all_done last done now before from (i + 1)
cutting-on behind text all_done last done now before from i within on was =
    let step : cut_text before behind (between from i text) (drop i text)
    ≡ cut_text before behind (between from (i + 1) text) (drop (i + 1) text) =
    ap (cut_text before behind (between from i text)) (drop_more text i 0 within)
    ∙ cut-on before behind (between from i text) (get_or text i 0) (drop (i + 1) text) on
    ∙ ap (λ l. cut_text before behind l (drop (i + 1) text)) (between-more text from i was.within within) in
    record {
      within = omega (arith, was.within);
      words = ap (λ parts. done ++ ended now parts) (sym step) ∙ was.words;
      word = ap (begun now) (sym step) ∙ was.word;
    }

pub cutting-here : (behind : Bool) (text : List ℕ) (all_done : List Word) (last : Word) (done next_done : List Word)
    (now next_now : Word) (before : Bool) (from i : ℕ) → i < length text
    → ((get_or text i 0 == space) && shows_before before (between from i text)
    && shows_behind behind (drop (i + 1) text)) ≡ true
    → next_done ≡ done ++ with_text now (between from i text) ∷ [] → next_now ≡ []
    → Cutting behind text all_done last done now before from i
    → Cutting behind text all_done last next_done next_now false (i + 1) (i + 1)
cutting-here behind text all_done last done next_done now next_now before from i within here pushed new was =
    let rest = cut_text false behind [] (drop (i + 1) text) in
    let some = cut-some false behind [] (drop (i + 1) text) in
    let step : cut_text before behind (between from i text) (drop i text) ≡ between from i text ∷ rest =
    ap (cut_text before behind (between from i text)) (drop_more text i 0 within)
    ∙ cut-here before behind (between from i text) (get_or text i 0) (drop (i + 1) text) here in
    let none : between (i + 1) (i + 1) text ≡ [] = between_none text (i + 1) in
    let later : cut_text false behind (between (i + 1) (i + 1) text) (drop (i + 1) text) ≡ rest =
    ap (λ l. cut_text false behind l (drop (i + 1) text)) none in
    record {
      within = omega arith;
      words =
          ap (λ w. next_done ++ ended w (cut_text false behind (between (i + 1) (i + 1) text) (drop (i + 1) text))) new
          ∙ ap (λ parts. next_done ++ ended [] parts) later
          ∙ ap (λ l. l ++ ended [] rest) pushed
          ∙ append_assoc done (with_text now (between from i text) ∷ []) (ended [] rest)
          ∙ ap (λ l. done ++ l) (sym (ended-more now (between from i text) rest some))
          ∙ ap (λ parts. done ++ ended now parts) (sym step) ∙ was.words;
      word =
          ap (λ w. begun w (cut_text false behind (between (i + 1) (i + 1) text) (drop (i + 1) text))) new
          ∙ ap (begun []) later ∙ sym (begun-more now (between from i text) rest some)
          ∙ ap (begun now) (sym step) ∙ was.word;
    }
  where
    between_none : (text : List ℕ) (i : ℕ) → between i i text ≡ []
    between_none text i = let none : i - i ≡ 0 = omega arith in ap (λ n. take n (drop i text)) none

pub cutting-end : (behind : Bool) (text : List ℕ) (all_done : List Word) (last : Word) (done : List Word) (now : Word)
    (before : Bool) (from i : ℕ) → length text ≤ i → Cutting behind text all_done last done now before from i
    → (done ≡ all_done) × (with_text now (drop from text) ≡ last)
cutting-end behind text all_done last done now before from i past was =
    let rest : drop i text ≡ [] = drop_all i text past in
    let whole : between from i text ≡ drop from text = between_to_end text from i past in
    let step : cut_text before behind (between from i text) (drop i text) ≡ drop from text ∷ [] =
    ap (cut_text before behind (between from i text)) rest ∙ ap (λ l. l ∷ []) whole in (
      sym (append-nil done) ∙ ap (λ parts. done ++ ended now parts) (sym step) ∙ was.words,
      ap (begun now) (sym step) ∙ was.word,
    )
