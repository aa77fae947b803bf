-- One more block.
use Rattle.std.proofs.Common.{◌≡◌, ℕ, ◌+◌, ◌<◌, ◌≤◌, List, [], ◌∷◌, ◌++◌, length, get_or, take, map, true, Option, Some}
use Rattle.std.proofs.Common.{None, refl, sym, ap, ◌∙◌, arith}
use Rattle.std.specs.Prelude.{replicate}
use Rattle.std.specs.List.{flat_map}
use Rattle.std.specs.Iterator.{Yields, EndsFrom, items_left, MakesProgress, IsFinite}
use Rattle.std.specs.Iterator.Runs.{Run}
use Rattle.std.specs.declared.iter.Iterator.{Ghosts}
use Rattle.std.proofs.iter.Next.{Ran}
use Rattle.std.proofs.iter.runs.Made.{run, to_end}
use Rattle.std.proofs.lemmas.List.{map_more, map_push, flat_map_more, length_push, take-replicate}
use Rattle.std.proofs.lemmas.List.Sums.{fold_push}
use Rattle.htmd_lexical.specs.Characters.{line_feed}
use Rattle.htmd_text.specs.Trims.{trimmed_start, trimmed_end, is_line_feed}
use Rattle.htmd_text.specs.Joins.{joined_texts, block_separator, join_block, joined_blocks}

pub joined_more : {X : Type 0} (bytes : X → List ℕ) (xs : List X) (i : ℕ) (d : X) → i < length xs
    → joined_blocks (map bytes (take (i + 1) xs)) ≡ join_block (joined_blocks (map bytes (take i xs)))
    (bytes (get_or xs i d))
joined_more bytes xs i d lt = ap joined_blocks (map_more bytes xs i d lt)
    ∙ fold_push join_block [] (map bytes (take i xs)) (bytes (get_or xs i d))

pub block_joined : (out block : List ℕ) → 0 < length block
    → join_block out block ≡ (trimmed_end is_line_feed out ++ block_separator out block)
    ++ trimmed_start is_line_feed block
block_joined out [] some = absurd (omega arith)
block_joined out (b ∷ block) some = refl

pub seam_is : (n : ℕ) → n ≤ 2 → take n (line_feed ∷ line_feed ∷ []) ≡ replicate n line_feed
seam_is n le = take-replicate n 2 line_feed le

-- ---- the items of an iterator

-- the invariant of a loop over `next`, which came from s to t
abbrev pub Loop : {S A : Type 0} → Ghosts S A → (List A → Type 0) → S → S → Type 0
Loop it P s t = Ran it.can_next (EndsFrom it.remaining) (items_left it.remaining) it.next_gives P s t

-- the invariant after the first item
pub Loop-first : {S A : Type 0} (it : Ghosts S A) {P : List A → Type 0} {s t : S} {x : A}
    → it.next_gives s (Some x) t
    → MakesProgress it.can_next it.remaining s (Some x) t → IsFinite (it.remaining s) → P (x ∷ [])
    → Loop it P s t
Loop-first it {t = t} {x = x} gave goes finite here =
    let ready = goes.on finite in
    record {
      callable = ready.0;
      ending = ready.1;
      seen = x ∷ [];
      gave = (t, gave, refl);
      counted =
          omega (arith, ready.2);
      holds = here;
    }

-- the run that was made when `next` gives no more
abbrev pub run_to_end : {S A : Type 0} (steps : S → Option A → S → Type 0) (s : S) (xs : List A) {t u : S}
    → Yields steps s xs t → steps t None u → Run steps
run_to_end steps s xs {t} {u} ran none = run steps s xs true (to_end steps s xs (u, (t, ran, none)))

pub some_more : {A : Type 0} (xs : List A) (y : A) → 0 < length (xs ++ y ∷ [])
some_more xs y = omega (arith, length_push xs y)

-- one more item
pub item_joined : {A : Type 0} (text : A → List ℕ) (separator : List ℕ) (xs : List A) (y : A) → 0 < length xs
    → joined_texts separator (map text (xs ++ y ∷ [])) ≡ joined_texts separator (map text xs)
    ++ (separator ++ text y)
item_joined text separator [] y some = absurd (omega arith)
item_joined text separator (x ∷ xs) y some =
    ap (λ l. text x ++ flat_map (λ next. separator ++ next) l) (map_push text xs y)
    ∙ sym (flat_map_more (λ next. separator ++ next) (text x) (map text xs) (text y))
