-- A line with a character that no line of hyphens has.
use Rattle.std.proofs.Common.{◌≡◌, ◌∙◌, refl, ap, sym, subst, ℕ, Bool, true, false, List, [], ◌∷◌, ◌++◌, None}
use Rattle.std.proofs.Common.{append_assoc, ◌⊎◌, inl, inr}
use Rattle.std.specs.Prelude.{◌==◌, ◌&&◌, not, reverse}
use Rattle.std.specs.List.{list_all}
use Rattle.std.proofs.lemmas.List.{reverse-append}
use Rattle.htmd_lexical.specs.CharacterClasses.{first_is, is_empty, behind_run}
use Rattle.htmd_commonmark_reading.specs.Characters.{is_space_or_tab, past_blanks, stripped, stripped_end}
use Rattle.htmd_commonmark_reading.specs.Lines.{marks, onto_first}
use Rattle.htmd_commonmark_reading.specs.Tables.{without_first_bar, split_at_bars, without_blank_last, cell_texts}
use Rattle.htmd_commonmark_reading.specs.Tables.{with_bars, is_delimiter, has_hyphens_alone, without_colon}
use Rattle.htmd_commonmark_reading.specs.Tables.{alignments_of, one_more_alignment, delimiter_row, is_hyphen}
use Rattle.htmd_law_inlines.proofs.TextPieces.{test}
use Rattle.htmd_law_texts.proofs.LineStarts.{strip_at, strip_cons, no_row, first_of, rest_of, onto}
use mathlib.Core.List.{reverse-cons}

-- ---- a character among others

pub all_false : (p : ℕ → Bool) (u v : List ℕ) (f : ℕ) → p f ≡ false → list_all p (u ++ (f ∷ v))
    ≡ false
all_false p [] v f h = rw h refl
all_false p (c ∷ u) v f h = test (p c) (λ e. rw (e, all_false p u v f h) refl) (λ e. rw e refl)

-- a character that no delimiter row has
pub record IsForeign (f : ℕ) (v : List ℕ) : Type 0 where
  pub black : is_space_or_tab f ≡ false
  pub no_hyphen : (f == 45) ≡ false
  pub no_colon : (f == 58) ≡ false
  pub no_bar : (f == 124) ≡ false
  pub no_escape : ((f == 92) && first_is 124 v) ≡ false

-- one stands in the text
pub record HasForeign (s : List ℕ) : Type 0 where
  pub before : List ℕ
  pub sign : ℕ
  pub after : List ℕ
  pub is : s ≡ before ++ (sign ∷ after)
  pub foreign : IsForeign sign after

pub foreign_cons : (c : ℕ) (s : List ℕ) → HasForeign s → HasForeign (c ∷ s)
foreign_cons c s h = record {
  before = c ∷ h.before;
  sign = h.sign;
  after = h.after;
  is = ap (λ l. c ∷ l) h.is;
  foreign = h.foreign;
}

at_first : (f : ℕ) (v : List ℕ) → IsForeign f v → HasForeign (f ∷ v)
at_first f v h = record { before = []; sign = f; after = v; is = refl; foreign = h }

-- ---- marks

marks_at : (u v : List ℕ) (f : ℕ) → is_space_or_tab f ≡ false
    → (x : List ℕ) × (marks (u ++ (f ∷ v)) ≡ x ++ (f ∷ marks v))
marks_at [] v f h = ([], rw h refl)
marks_at (c ∷ u) v f h =
    let i = marks_at u v f h in
    test (is_space_or_tab c) (λ e. (i.0, rw e i.1)) (λ e. (c ∷ i.0, rw e (ap (λ l. c ∷ l) i.1)))

pub foreign_marks : (p : ℕ → Bool) (s : List ℕ) (h : HasForeign s) → p h.sign ≡ false
    → list_all p (marks s) ≡ false
foreign_marks p s h e =
    let m = marks_at h.before h.after h.sign h.foreign.black in
    ap (λ l. list_all p (marks l)) h.is ∙ ap (list_all p) m.1 ∙ all_false p m.0 (marks h.after) h.sign e

pub foreign_all : (p : ℕ → Bool) (s : List ℕ) (h : HasForeign s) → p h.sign ≡ false → list_all p s ≡ false
foreign_all p s h e = ap (list_all p) h.is ∙ all_false p h.before h.after h.sign e

-- ---- without white space at the ends

pub behind_first : (p : ℕ → Bool) (d : ℕ) (v : List ℕ) → first_is d v ≡ false
    → first_is d (stripped_end p v) ≡ false
behind_first p d [] h = refl
behind_first p d (c ∷ v) h =
    ap (λ l. first_is d (reverse (behind_run p l))) (reverse-cons c v) ∙ go (reverse v)
  where
    go : (r : List ℕ) → first_is d (reverse (behind_run p (r ++ (c ∷ [])))) ≡ false
    go [] = test (p c) (λ e. rw e refl) (λ e. rw e h)
    go (x ∷ r) =
        test (p x) (λ e. rw e (go r))
        (λ e. rw e (ap (first_is d) (reverse-append (x ∷ r) (c ∷ [])) ∙ h))

no_bar_end : (f : ℕ) (v : List ℕ) → ((f == 92) && first_is 124 v) ≡ false
    → ((f == 92) && first_is 124 (stripped_end is_space_or_tab v)) ≡ false
no_bar_end f v h =
    test (f == 92) (λ e. rw (e, behind_first is_space_or_tab 124 v (rw e at h)) refl) (λ e. rw e refl)

pub foreign_end : (s : List ℕ) → HasForeign s → HasForeign (stripped_end is_space_or_tab s)
foreign_end s h = record {
  before = h.before;
  sign = h.sign;
  after = stripped_end is_space_or_tab h.after;
  is = ap (stripped_end is_space_or_tab) h.is ∙ strip_at is_space_or_tab h.before h.after h.sign h.foreign.black;
  foreign = record {
    black = h.foreign.black;
    no_hyphen = h.foreign.no_hyphen;
    no_colon = h.foreign.no_colon;
    no_bar = h.foreign.no_bar;
    no_escape = no_bar_end h.sign h.after h.foreign.no_escape;
  };
}

foreign_blanks : (u v : List ℕ) (f : ℕ) → IsForeign f v → HasForeign (past_blanks (u ++ (f ∷ v)))
foreign_blanks [] v f h = subst HasForeign (sym (past f v h.black)) (at_first f v h)
  where
    past : (f : ℕ) (v : List ℕ) → is_space_or_tab f ≡ false → past_blanks (f ∷ v) ≡ f ∷ v
    past f v e = rw e refl
foreign_blanks (c ∷ u) v f h =
    test (is_space_or_tab c)
    (λ e. let w : past_blanks (c ∷ (u ++ (f ∷ v))) ≡ past_blanks (u ++ (f ∷ v)) = rw e refl in
    subst HasForeign (sym w) (foreign_blanks u v f h))
    (λ e. let w : past_blanks (c ∷ (u ++ (f ∷ v))) ≡ c ∷ (u ++ (f ∷ v)) = rw e refl in
    subst HasForeign (sym w)
    (record { before = c ∷ u; sign = f; after = v; is = refl; foreign = h }))

pub foreign_stripped : (s : List ℕ) → HasForeign s → HasForeign (stripped s)
foreign_stripped s h =
    foreign_end (past_blanks s)
    (subst (λ l. HasForeign (past_blanks l)) (sym h.is) (foreign_blanks h.before h.after h.sign h.foreign))

-- ---- cells

-- some cell has one
abbrev HasCell : List (List ℕ) → Type 0
HasCell [] = ⊥
HasCell (c ∷ cs) = HasForeign c ⊎ HasCell cs

onto_cell : (c : ℕ) (ls : List (List ℕ)) → HasCell ls → HasCell (onto_first c ls)
onto_cell c [] h = absurd h
onto_cell c (l ∷ ls) (inl h) = inl (foreign_cons c l h)
onto_cell c (l ∷ ls) (inr h) = inr h

no_first_bar : (b d : ℕ) (v : List ℕ) → ((b == 92) && first_is 124 v) ≡ false
    → ((b == 92) && first_is 124 (first_of (split_at_bars b v))) ≡ false
no_first_bar b d [] h = test (b == 92) (λ e. rw e refl) (λ e. rw e refl)
no_first_bar b d (c ∷ v) h =
    test (b == 92)
    (λ e. let n : (c == 124) ≡ false = rw e at h in
    rw (e, n) (ap (λ l. first_is 124 (first_of l)) (onto c (split_at_bars c v)) ∙ n))
    (λ e. rw e refl)

split_at : (b : ℕ) (u v : List ℕ) (f : ℕ) → IsForeign f v → HasCell (split_at_bars b (u ++ (f ∷ v)))
split_at b [] v f h =
    let ls = split_at_bars f v in
    let w : split_at_bars b (f ∷ v) ≡ (f ∷ first_of ls) ∷ rest_of ls = rw h.no_bar (onto f ls) in
    subst HasCell (sym w)
    (inl (at_first f (first_of ls) (record {
      black = h.black;
      no_hyphen = h.no_hyphen;
      no_colon = h.no_colon;
      no_bar = h.no_bar;
      no_escape = no_first_bar f 0 v h.no_escape;
    })))
split_at b (c ∷ u) v f h =
    let i = split_at c u v f h in
    test ((c == 124) && not (b == 92))
    (λ e. let w : split_at_bars b (c ∷ (u ++ (f ∷ v))) ≡ [] ∷ split_at_bars c (u ++ (f ∷ v)) = rw e refl in
    subst HasCell (sym w) (inr i))
    (λ e. let w : split_at_bars b (c ∷ (u ++ (f ∷ v)))
    ≡ onto_first c (split_at_bars c (u ++ (f ∷ v))) = rw e refl in
    subst HasCell (sym w) (onto_cell c (split_at_bars c (u ++ (f ∷ v))) i))

last_kept : (cs : List (List ℕ)) → HasCell cs → HasCell (without_blank_last cs)
last_kept [] h = absurd h
last_kept (c ∷ []) (inl h) =
    let n : list_all is_space_or_tab c ≡ false = foreign_all is_space_or_tab c h h.foreign.black in
    let w : without_blank_last (c ∷ []) ≡ c ∷ [] = rw n refl in
    subst HasCell (sym w) (inl h)
last_kept (c ∷ []) (inr h) = absurd h
last_kept (c ∷ d ∷ cs) (inl h) = inl h
last_kept (c ∷ d ∷ cs) (inr h) = inr (last_kept (d ∷ cs) h)

-- a sign that no delimiter has
abbrev IsIn : List ℕ → Type 0
IsIn s = (u : List ℕ) × ((f : ℕ) × ((v : List ℕ) ×
    ((s ≡ u ++ (f ∷ v)) × ((f == 45) ≡ false) × ((f == 58) ≡ false))))

in_cons : (c : ℕ) (s : List ℕ) → IsIn s → IsIn (c ∷ s)
in_cons c s (u, (f, (v, (e, n, k)))) = (c ∷ u, (f, (v, (ap (λ l. c ∷ l) e, n, k))))

bars_kept : (u v : List ℕ) (f : ℕ) → IsForeign f v → IsIn (with_bars (u ++ (f ∷ v)))
bars_kept [] v f h =
    let w : with_bars (f ∷ v) ≡ f ∷ with_bars v = rw h.no_escape refl in
    ([], (f, (with_bars v, (w, h.no_hyphen, h.no_colon))))
bars_kept (c ∷ u) v f h =
    let i = bars_kept u v f h in
    test ((c == 92) && first_is 124 (u ++ (f ∷ v)))
    (λ e. let w : with_bars (c ∷ (u ++ (f ∷ v)))
    ≡ with_bars (u ++ (f ∷ v)) = rw e refl in subst IsIn (sym w) i)
    (λ e. let w : with_bars (c ∷ (u ++ (f ∷ v))) ≡ c ∷ with_bars (u ++ (f ∷ v)) = rw e refl in
    subst IsIn (sym w) (in_cons c (with_bars (u ++ (f ∷ v))) i))

colon_kept : (s : List ℕ) → IsIn s → IsIn (without_colon s)
colon_kept s ([], (f, (v, (e, n, k)))) =
    let w : without_colon (f ∷ v) ≡ f ∷ v = rw k refl in
    subst (λ l. IsIn (without_colon l)) (sym e) (subst IsIn (sym w) ([], (f, (v, (refl, n, k)))))
colon_kept s (c ∷ u, (f, (v, (e, n, k)))) =
    subst (λ l. IsIn (without_colon l)) (sym e)
    (test (c == 58)
    (λ x. let w : without_colon (c ∷ (u ++ (f ∷ v))) ≡ u ++ (f ∷ v) = rw x refl in
    subst IsIn (sym w) (u, (f, (v, (refl, n, k)))))
    (λ x. let w : without_colon (c ∷ (u ++ (f ∷ v))) ≡ c ∷ (u ++ (f ∷ v)) = rw x refl in
    subst IsIn (sym w) (c ∷ u, (f, (v, (refl, n, k))))))

reverse_kept : (s : List ℕ) → IsIn s → IsIn (reverse s)
reverse_kept s (u, (f, (v, (e, n, k)))) = (
  reverse v,
  (
    f,
    (
      reverse u,
      (
        ap reverse e ∙ reverse-append u (f ∷ v) ∙ ap (λ l. l ++ reverse u) (reverse-cons f v)
            ∙ append_assoc (reverse v) (f ∷ []) (reverse u),
        n,
        k,
      ),
    ),
  ),
)

no_hyphens : (s : List ℕ) → IsIn s → has_hyphens_alone s ≡ false
no_hyphens s (u, (f, (v, (e, n, k)))) = ap has_hyphens_alone e ∙ go (first_is 45 (u ++ (f ∷ v))) (run u)
  where
    run : (u : List ℕ) → is_empty (behind_run is_hyphen (u ++ (f ∷ v))) ≡ false
    run [] = rw n refl
    run (c ∷ u) = test (c == 45) (λ x. rw x (run u)) (λ x. rw x refl)

    go : (b : Bool) → is_empty (behind_run is_hyphen (u ++ (f ∷ v))) ≡ false
        → (b && is_empty (behind_run is_hyphen (u ++ (f ∷ v)))) ≡ false
    go true h = h
    go false h = refl

foreign_delimiter : (c : List ℕ) → HasForeign c → is_delimiter (with_bars c) ≡ false
foreign_delimiter c h =
    no_hyphens _ (reverse_kept _ (colon_kept _ (reverse_kept _ (colon_kept (with_bars c)
    (subst (λ l. IsIn (with_bars l)) (sym h.is) (bars_kept h.before h.after h.sign h.foreign))))))

no_alignments : (cs : List (List ℕ)) → HasCell cs → alignments_of (cell_texts cs) ≡ None
no_alignments [] h = absurd h
no_alignments (c ∷ cs) (inl h) =
    no_row (with_bars (stripped c)) (cell_texts cs) (foreign_delimiter (stripped c) (foreign_stripped c h))
no_alignments (c ∷ cs) (inr h) = ap (one_more_alignment (with_bars (stripped c))) (no_alignments cs h)

-- a line that begins with no bar, and has such a character
pub foreign_row : (c : ℕ) (s : List ℕ) → is_space_or_tab c ≡ false → (c == 124) ≡ false → HasForeign s
    → delimiter_row (c ∷ s) ≡ None
foreign_row c s b n h =
    let h' = foreign_stripped (c ∷ s) (foreign_cons c s h) in
    let first : without_first_bar (stripped (c ∷ s)) ≡ stripped (c ∷ s) =
    ap without_first_bar (strip_cons c s b)
    ∙ rw n (sym (strip_cons c s b)) in
    let cell : HasCell (split_at_bars 0 (stripped (c ∷ s))) =
    subst (λ l. HasCell (split_at_bars 0 l)) (sym h'.is) (split_at 0 h'.before h'.after h'.sign h'.foreign) in
    ap (λ l. alignments_of (cell_texts (without_blank_last (split_at_bars 0 l)))) first
    ∙ no_alignments (without_blank_last (split_at_bars 0 (stripped (c ∷ s))))
    (last_kept (split_at_bars 0 (stripped (c ∷ s))) cell)
