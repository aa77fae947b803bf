-- Rows of tables, cell by cell.
use Rattle.std.proofs.Common.{◌≡◌, ℕ, zero, suc, ◌+◌, ◌<◌, ◌≤◌, Bool, true, false, not, ◌&&◌, List, [], ◌∷◌, ◌++◌}
use Rattle.std.proofs.Common.{length, take, drop, get_or, refl, ap, sym, ◌∙◌, arith, subst, append_assoc, ◌⊎◌, inl, inr}
use Rattle.std.proofs.lemmas.Bool.{and_parts, cases_lt}
use Rattle.std.proofs.lemmas.Bool.Decides.{nat_tests}
use Rattle.std.proofs.lemmas.List.{drop_more, take_more, take-map, map-append, length-append}
use Rattle.std.proofs.lemmas.List.{length-map, length-take}
use Rattle.std.proofs.lemmas.Str.{IsCharBoundary-before_ascii, IsCharBoundary-end}
use Rattle.std.specs.Prelude.{◌==◌, String, string_bytes}
use Rattle.std.specs.Str.{IsCharBoundary}
use Rattle.htmd_lexical.proofs.Cases.{test}
use Rattle.htmd_lexical.specs.CharacterClasses.{first_is}
use Rattle.htmd_commonmark_reading.specs.Lines.{is_blank_text, onto_first}
use Rattle.htmd_commonmark_reading.specs.Tables.{split_at_bars, without_blank_last, with_bars, fitted}
use Rattle.htmd_commonmark_reader.specs.Rows.{until_bar, with_rest, raw_cells, escapes_bar, strings}

-- ---- bars

pub bar_more : (s : List ℕ) (i before : ℕ) → i < length s
    → ((get_or s i 0 == 124) && not (before == 92)) ≡ false
    → length (until_bar before (drop i s)) ≡ length (until_bar (get_or s i 0) (drop (i + 1) s)) + 1
bar_more s i before l e = rw (drop_more s i 0 l, e) (omega arith)

pub bar_stops : (s : List ℕ) (i before : ℕ) → i < length s
    → ((get_or s i 0 == 124) && not (before == 92)) ≡ true
    → length (until_bar before (drop i s)) ≡ 0
bar_stops s i before l e = rw (drop_more s i 0 l, e) refl

pub bar_within : (before : ℕ) (s : List ℕ) → length (until_bar before s) ≤ length s
bar_within before [] = omega arith
bar_within before (c ∷ s) =
    test ((c == 124) && not (before == 92)) (λ e. rw e (omega arith))
    (λ e. let h = bar_within c s in rw e (omega arith))

same : (x y : ℕ) → (x == y) ≡ true → x ≡ y
same x y h = grind (arith, nat_tests)

bar_there : (before : ℕ) (s : List ℕ) → length (until_bar before s) < length s
    → get_or s (length (until_bar before s)) 0 ≡ 124
bar_there before [] l = absurd (omega arith)
bar_there before (c ∷ s) l =
    test ((c == 124) && not (before == 92))
    (λ e. rw e (same c 124 ((and_parts (c == 124) (not (before == 92)) e).0)))
    (λ e. let m = rw e at l in rw e (bar_there c s (omega arith)))

-- before a bar a text may be cut, and at its end
pub bar_cut : (s : List ℕ) (n : ℕ) → n ≡ length (until_bar 0 s) → IsCharBoundary s n
bar_cut s n e = subst (IsCharBoundary s) (sym e) (go (cases_lt (length (until_bar 0 s)) (length s)))
  where
    go : (length (until_bar 0 s) < length s) ⊎ (length s ≤ length (until_bar 0 s))
        → IsCharBoundary s (length (until_bar 0 s))
    go (inl l) =
        let there = bar_there 0 s l in
        IsCharBoundary-before_ascii s (length (until_bar 0 s)) l (omega (arith, there))
    go (inr l) =
        let all : length s ≡ length (until_bar 0 s) = omega (arith, bar_within 0 s) in
        subst (IsCharBoundary s) all (IsCharBoundary-end s)

-- only a backslash counts before a text
other_before : (b : ℕ) (s : List ℕ) → (b == 92) ≡ false → split_at_bars b s ≡ split_at_bars 0 s
other_before b [] e = refl
other_before b (c ∷ s) e = rw e refl

module _ (before : ℕ) where
  pub cell_last : (s : List ℕ) → first_is 124 (drop (length (until_bar before s)) s) ≡ false
      → split_at_bars before s ≡ take (length (until_bar before s)) s ∷ []
  cell_last s f = last before s f
    where
      last : (b : ℕ) (s : List ℕ) → first_is 124 (drop (length (until_bar b s)) s) ≡ false
          → split_at_bars b s ≡ take (length (until_bar b s)) s ∷ []
      last b [] f = refl
      last b (c ∷ s) f =
          test ((c == 124) && not (b == 92))
          (λ e. let bar = (and_parts (c == 124) (not (b == 92)) e).0 in
          let g : false ≡ true = sym (rw e at f) ∙ bar in absurd (cc))
          (λ e. let g = rw e at f in rw (e) (ap (onto_first c) (last c s g)))

  pub cell_more : (s : List ℕ) → first_is 124 (drop (length (until_bar before s)) s) ≡ true
      → split_at_bars before s
      ≡ take (length (until_bar before s)) s ∷ split_at_bars 0 (drop 1 (drop (length (until_bar before s)) s))
  cell_more s f = more before s f
    where
      more : (b : ℕ) (s : List ℕ) → first_is 124 (drop (length (until_bar b s)) s) ≡ true
          → split_at_bars b s
          ≡ take (length (until_bar b s)) s ∷ split_at_bars 0 (drop 1 (drop (length (until_bar b s)) s))
      more b [] f = absurd (cc)
      more b (c ∷ s) f =
          test ((c == 124) && not (b == 92))
          (λ e. let bar = same c 124 ((and_parts (c == 124) (not (b == 92)) e).0) in
          let plain : (c == 92) ≡ false = grind (arith, nat_tests) in
          rw e (ap (λ (t : List (List ℕ)). [] ∷ t) (other_before c s plain)))
          (λ e. let g = rw e at f in rw (e) (ap (onto_first c) (more c s g)))

-- ---- cells

filled_row : (c : List ℕ) (before : ℕ) (s : List ℕ)
    → without_blank_last (c ∷ split_at_bars before s) ≡ c ∷ without_blank_last (split_at_bars before s)
filled_row c before [] = refl
filled_row c before (b ∷ s) =
    test ((b == 124) && not (before == 92)) (λ e. rw e refl) (λ e. rw e (onto (split_at_bars b s)))
  where
    onto : (ls : List (List ℕ)) → without_blank_last (c ∷ onto_first b ls) ≡ c
        ∷ without_blank_last (onto_first b ls)
    onto [] = refl
    onto (l ∷ ls) = refl

pub row_more : (s cell rest : List ℕ) → split_at_bars 0 s ≡ with_rest cell true rest
    → raw_cells true s ≡ cell ∷ raw_cells true rest
row_more s cell rest e = ap without_blank_last e ∙ filled_row cell 0 rest

pub row_last : (s cell rest : List ℕ) → split_at_bars 0 s ≡ with_rest cell false rest
    → is_blank_text cell ≡ false → raw_cells true s ≡ cell ∷ raw_cells false rest
row_last s cell rest e f = ap without_blank_last e ∙ (rw f refl)

pub row_ends : (s cell rest : List ℕ) → split_at_bars 0 s ≡ with_rest cell false rest
    → is_blank_text cell ≡ true → raw_cells true s ≡ []
row_ends s cell rest e f = ap without_blank_last e ∙ (rw f refl)

pub row_next : (s cell rest : List ℕ) (more : Bool) → split_at_bars 0 s ≡ with_rest cell more rest
    → (not more && is_blank_text cell) ≡ false → raw_cells true s ≡ cell ∷ raw_cells more rest
row_next s cell rest true e f = row_more s cell rest e
row_next s cell rest false e f = row_last s cell rest e f

pub row_none : (s cell rest : List ℕ) (more : Bool) → split_at_bars 0 s ≡ with_rest cell more rest
    → (not more && is_blank_text cell) ≡ true → raw_cells true s ≡ []
row_none s cell rest true e f = absurd (cc)
row_none s cell rest false e f = row_ends s cell rest e f

-- the cell up to a place, and what follows it
module _ (s cell rest : List ℕ) (n : ℕ) (e : n ≡ length (until_bar 0 s)) (c : cell ≡ take n s)
    (r : rest ≡ drop n s)
  where
    front_cell : take (length (until_bar 0 s)) s ≡ cell
    front_cell = ap (λ k. take k s) (sym e) ∙ sym c

    back_rest : drop (length (until_bar 0 s)) s ≡ rest
    back_rest = ap (λ k. drop k s) (sym e) ∙ sym r

    pub cell_and_more : (after : List ℕ) → first_is 124 rest ≡ true → after ≡ drop 1 rest
        → split_at_bars 0 s ≡ with_rest cell true after
    cell_and_more after f a =
        cell_more 0 s (ap (first_is 124) back_rest ∙ f)
        ∙ ap (λ x. x ∷ split_at_bars 0 (drop 1 (drop (length (until_bar 0 s)) s))) front_cell
        ∙ ap (λ x. cell ∷ split_at_bars 0 x) (ap (drop 1) back_rest ∙ sym a)

    pub cell_alone : first_is 124 rest ≡ false → split_at_bars 0 s ≡ with_rest cell false rest
    cell_alone f = cell_last 0 s (ap (first_is 124) back_rest ∙ f) ∙ ap (λ (x : List ℕ). x ∷ []) front_cell

-- ---- bars with a backslash before them

pub unescaped_more : (s : List ℕ) (i : ℕ) → i < length s → escapes_bar (drop i s) ≡ false
    → take i s ++ with_bars (drop i s) ≡ take (i + 1) s ++ with_bars (drop (i + 1) s)
unescaped_more s i l e =
    let at = drop_more s i 0 l in
    let f : escapes_bar (get_or s i 0 ∷ drop (i + 1) s) ≡ false = rw at at e in
    ap (λ t. take i s ++ with_bars t) at
    ∙ (rw f refl)
    ∙ sym (append_assoc (take i s) (get_or s i 0 ∷ []) (with_bars (drop (i + 1) s)))
    ∙ ap (λ t. t ++ with_bars (drop (i + 1) s)) (sym (take_more s i 0 l))

pub escaped_here : (s : List ℕ) (i : ℕ) → i < length s → escapes_bar (drop i s) ≡ true
    → (with_bars (drop i s) ≡ with_bars (drop (i + 1) s)) × (get_or s i 0 ≡ 92)
escaped_here s i l e =
    let at = drop_more s i 0 l in
    let f : escapes_bar (get_or s i 0 ∷ drop (i + 1) s) ≡ true = rw at at e in (
      ap with_bars at ∙ (rw f refl),
      same (get_or s i 0) 92 ((and_parts (get_or s i 0 == 92) (first_is 124 (drop (i + 1) s)) f).0),
    )

-- ---- rows of so many cells

pub fitted_take : (n : ℕ) (cs : List (List ℕ)) → fitted n (take n cs) ≡ fitted n cs
fitted_take zero cs = refl
fitted_take (suc n) [] = refl
fitted_take (suc n) (c ∷ cs) = ap (λ (x : List (List ℕ)). c ∷ x) (fitted_take n cs)

pub fitted_more : (n : ℕ) (cs : List (List ℕ)) → length cs < n → fitted n (cs ++ [] ∷ []) ≡ fitted n cs
fitted_more zero cs l = absurd (omega arith)
fitted_more (suc n) [] l = refl
fitted_more (suc n) (c ∷ cs) l = ap (λ (x : List (List ℕ)). c ∷ x) (fitted_more n cs (omega arith))

pub fitted_whole : (n : ℕ) (cs : List (List ℕ)) → length cs ≡ n → fitted n cs ≡ cs
fitted_whole zero [] l = refl
fitted_whole (suc n) [] l = absurd (omega arith)
fitted_whole zero (c ∷ cs) l = absurd (omega arith)
fitted_whole (suc n) (c ∷ cs) l = ap (λ (x : List (List ℕ)). c ∷ x) (fitted_whole n cs (omega arith))

module _ {Z : Type 0} (n : ℕ) where
  pub fitted_start : (xs ys : List (String Z)) (row : List (List ℕ)) → ys ≡ take n xs → strings xs ≡ row
      → (length ys ≤ n) × (fitted n (strings ys) ≡ fitted n row)
  fitted_start xs ys row e f =
      let texts : strings ys ≡ take n row =
      ap strings e ∙ sym (take-map (λ (s : String Z). string_bytes s) n xs) ∙ ap (take n) f in
      (omega (arith, ap length e, length-take n xs), ap (fitted n) texts ∙ fitted_take n row)

  pub fitted_pushed : (xs ys : List (String Z)) (v : String Z) → ys ≡ xs ++ v ∷ [] → string_bytes v ≡ []
      → length xs < n → (length ys ≤ n) × (fitted n (strings ys) ≡ fitted n (strings xs))
  fitted_pushed xs ys v e f l =
      let size = length-append xs (v ∷ []) in
      let texts : strings ys ≡ strings xs ++ [] ∷ [] =
      ap strings e ∙ map-append (λ (s : String Z). string_bytes s) xs (v ∷ [])
      ∙ ap (λ (t : List ℕ). strings xs ++ t ∷ []) f in
      let few : length (strings xs) < n = omega (arith, l, length-map xs (λ (s : String Z). string_bytes s)) in
      (omega (arith, ap length e, size, l), ap (fitted n) texts ∙ fitted_more n (strings xs) few)

  pub fitted_end : (xs : List (String Z)) (row : List (List ℕ)) → length xs ≤ n → n ≤ length xs
      → fitted n (strings xs) ≡ row → strings xs ≡ row
  fitted_end xs row l m e =
      let size : length (strings xs) ≡ n = omega (arith, l, m, length-map xs (λ (s : String Z). string_bytes s)) in
      sym (fitted_whole n (strings xs) size) ∙ e
