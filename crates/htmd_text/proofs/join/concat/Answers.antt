-- One more text.
use Rattle.std.proofs.Common.{◌≡◌, ℕ, ◌+◌, ◌<◌, List, [], ◌++◌, length, get_or, take, sym, ap, ◌∙◌}
use Rattle.std.specs.List.{flat_map}
use Rattle.std.proofs.lemmas.List.{take_more, flat_map_more}
use Rattle.htmd_text.proofs.join.concat.Goals as goal

one_more : {X : Type 0} (f : X → List ℕ) (xs : List X) (i : ℕ) (d : X) (all : List ℕ) → i < length xs
    → all ≡ flat_map f (take i xs) → all ++ f (get_or xs i d) ≡ flat_map f (take (i + 1) xs)
one_more f xs i d all within so =
    ap (λ l. l ++ f (get_or xs i d)) so ∙ flat_map_more f [] (take i xs) (get_or xs i d)
    ∙ ap (flat_map f) (sym (take_more xs i d within))

pub loop-text-preserved : goal.loop-text-preserved
loop-text-preserved c =
    c.in_ok-push_str.ensures.bytes
    ∙ one_more (λ text. text.now) c.args.texts.now c.loop-text.text-index _ _ c.loop-text-test.true
    c.loop-text.invariant
