-- Characters of texts that show: those that are no white space are letters.
use Rattle.std.proofs.Common.{◌≡◌, ℕ, Bool, true, false, cond, not, ◌&&◌, List, [], ◌∷◌, ◌++◌, filter, refl, sym, ap}
use Rattle.std.proofs.Common.{◌∙◌, subst, append_assoc, arith}
use Rattle.std.specs.List.{list_all, flat_map, slice_split, onto_first}
use Rattle.std.specs.Str.{chars, IsUtf8}
use Rattle.std.proofs.lemmas.Bool.Decides.{nat_tests}
use Rattle.std.proofs.lemmas.List.{append-nil}
use Rattle.std.proofs.lemmas.Str.{chars-nil, chars-append, chars-encodes, scalars-chars, IsUtf8-append}
use Rattle.htmd_lexical.specs.Characters.{space}
use Rattle.htmd_lexical.specs.WhiteSpace.{is_ascii_white_space}
use Rattle.htmd_lexical.proofs.Cases.{test}
use Rattle.htmd_text.proofs.PlainTextLemmas.{chars_ascii}
use Rattle.htmd_text.specs.Joins.{joined_texts}
use Rattle.htmd_shown.specs.Attributes.{is_filled, words, in_line}
use Rattle.htmd_shown.specs.ShownTexts.{is_shown, shown_text}
use Rattle.htmd_shown.specs.Spaces.{is_white, is_blank_text}
use Rattle.htmd_law_documents.specs.DocumentTexts.{is_visible, visible}
use Rattle.htmd_law_documents.proofs.VisibleLemmas.{both-true, scalars-filter, shown-shows}
use Rattle.htmd_law_documents.proofs.PiecesLemmas.{AreAsciiWhite, ascii-white, IsCut, cut, AreUtf8, pieces-show, onto}
use Rattle.htmd_law_documents.proofs.PiecesLemmas.{onto-more, onto-none, space-shows}
use Rattle.htmd_law_documents.proofs.NormalTextLemmas.{and-true, all-append}

-- ---- what isn't blank has letters

none-filled : is_filled [] ≡ false
none-filled = grind (arith, nat_tests)

some-filled : (c : ℕ) (cs : List ℕ) → is_filled (c ∷ cs) ≡ true
some-filled c cs = grind (arith, nat_tests)

blank-letters : (cs : List ℕ) → list_all is_shown cs ≡ true
    → list_all is_white cs ≡ not (is_filled (filter is_visible cs))
blank-letters [] h = sym (ap not none-filled)
blank-letters (c ∷ cs) h =
    let parts = both-true (is_shown c) (list_all is_shown cs) h in
    let rest : List ℕ = filter is_visible cs in
    let seen : is_visible c ≡ not (is_white c) = ap (λ b. b && not (is_white c)) parts.0 in
    subst (λ (b : Bool). (is_white c && list_all is_white cs) ≡ not (is_filled (cond b (c ∷ rest) rest)))
    (sym seen)
    (either (is_white c) c cs (blank-letters cs parts.1))
  where
    either : (b : Bool) (c : ℕ) (cs : List ℕ) → list_all is_white cs ≡ not (is_filled (filter is_visible cs))
        → (b && list_all is_white cs)
        ≡ not (is_filled (cond (not b) (c ∷ filter is_visible cs) (filter is_visible cs)))
    either true c cs h = h
    either false c cs h = sym (ap not (some-filled c (filter is_visible cs)))

pub blank-visible : (s : List ℕ) → list_all is_shown (chars s) ≡ true
    → is_blank_text s ≡ not (is_filled (visible s))
blank-visible s h = blank-letters (chars s) h

-- ---- texts that show

all-shown : (cs : List ℕ) → list_all is_shown (filter is_shown cs) ≡ true
all-shown [] = refl
all-shown (c ∷ cs) = either (is_shown c) refl (all-shown cs)
  where
    either : (b : Bool) → is_shown c ≡ b → list_all is_shown (filter is_shown cs) ≡ true
        → list_all is_shown (cond b (c ∷ filter is_shown cs) (filter is_shown cs)) ≡ true
    either true e h = and-true e h
    either false e h = h

pub shown-characters : (s : List ℕ) → IsUtf8 s → list_all is_shown (chars (shown_text s)) ≡ true
shown-characters s u =
    ap (list_all is_shown)
    (chars-encodes (filter is_shown (chars s)) (scalars-filter is_shown (chars s) (scalars-chars s u)))
    ∙ all-shown (chars s)

-- ---- characters of pieces

all-parts : (q : ℕ → Bool) (xs ys : List ℕ) → list_all q (xs ++ ys) ≡ true
    → (list_all q xs ≡ true) × (list_all q ys ≡ true)
all-parts q [] ys h = (refl, h)
all-parts q (x ∷ xs) ys h =
    let parts = both-true (q x) (list_all q (xs ++ ys)) h in
    let rest = all-parts q xs ys parts.1 in
    (and-true parts.0 rest.0, rest.1)

pub characters-append : (q : ℕ → Bool) (s t : List ℕ) → IsUtf8 s → list_all q (chars s) ≡ true
    → list_all q (chars t) ≡ true
    → list_all q (chars (s ++ t)) ≡ true
characters-append q s t u g h =
    ap (list_all q) (chars-append s t u) ∙ all-append q (chars s) (chars t) g h

-- all characters of each piece pass
abbrev AllPass : (ℕ → Bool) → List (List ℕ) → Type 0
AllPass q [] = Unit {0}
AllPass q (s ∷ pieces) = (list_all q (chars s) ≡ true) × AllPass q pieces

module _ (q p : ℕ → Bool) (a : AreAsciiWhite p) where
  split-pass : (s xs : List ℕ) → IsUtf8 (xs ++ s) → list_all q (chars (xs ++ s)) ≡ true
      → AllPass q (onto xs (slice_split p s))
  split-pass [] xs u h = (h, tt)
  split-pass (b ∷ s) xs u h = test (p b)
      (λ e.
      let k : IsCut xs b s = cut xs b s (a.ascii b e) (a.white b e) u in
      let same : chars (xs ++ b ∷ s) ≡ chars xs ++ b ∷ chars s =
      chars-append xs (b ∷ s) k.front ∙ ap (λ t. chars xs ++ t) (chars_ascii b s (a.ascii b e)) in
      let parts = all-parts q (chars xs) (b ∷ chars s) (ap (list_all q) (sym same) ∙ h) in
      subst (λ (c : Bool). AllPass q (onto xs (cond c ([] ∷ slice_split p s) (onto_first b (slice_split p s)))))
      (sym e) (
        subst (λ (t : List ℕ). list_all q (chars t) ≡ true) (sym (append-nil xs)) parts.0,
        subst (AllPass q) (onto-none p s)
            (split-pass s [] k.rest (both-true (q b) (list_all q (chars s)) parts.1).1),
      ))
      (λ e.
      let same : (xs ++ b ∷ []) ++ s ≡ xs ++ b ∷ s = append_assoc xs (b ∷ []) s in
      subst (λ (c : Bool). AllPass q (onto xs (cond c ([] ∷ slice_split p s) (onto_first b (slice_split p s)))))
      (sym e)
      (subst (AllPass q) (sym (onto-more xs b (slice_split p s)))
      (split-pass s (xs ++ b ∷ []) (subst IsUtf8 (sym same) u)
      (subst (λ (t : List ℕ). list_all q (chars t) ≡ true) (sym same) h))))

  pieces-pass : (s : List ℕ) → IsUtf8 s → list_all q (chars s) ≡ true → AllPass q (slice_split p s)
  pieces-pass s u h = subst (AllPass q) (onto-none p s) (split-pass s [] u h)

filled-pass : (q : ℕ → Bool) (pieces : List (List ℕ)) → AllPass q pieces → AreUtf8 pieces
    → AllPass q (filter is_filled pieces) × AreUtf8 (filter is_filled pieces)
filled-pass q [] h u = (tt, tt)
filled-pass q (s ∷ pieces) h u = either (is_filled s) (filled-pass q pieces h.1 u.1)
  where
    either : (b : Bool) → AllPass q (filter is_filled pieces) × AreUtf8 (filter is_filled pieces)
        → AllPass q (cond b (s ∷ filter is_filled pieces) (filter is_filled pieces))
        × AreUtf8 (cond b (s ∷ filter is_filled pieces) (filter is_filled pieces))
    either true g = ((h.0, g.0), (u.0, g.1))
    either false g = g

-- in one line
module _ (q : ℕ → Bool) (e : list_all q (chars (space ∷ [])) ≡ true) where
  more-pass : (ws : List (List ℕ)) → AllPass q ws → AreUtf8 ws
      → list_all q (chars (flat_map (λ next. (space ∷ []) ++ next) ws)) ≡ true
  more-pass [] h u = ap (list_all q) chars-nil
  more-pass (w ∷ ws) h u =
      characters-append q ((space ∷ []) ++ w) (flat_map (λ next. (space ∷ []) ++ next) ws)
      (IsUtf8-append (space ∷ []) w space-shows.utf8 u.0)
      (characters-append q (space ∷ []) w space-shows.utf8 e h.0) (more-pass ws h.1 u.1)

  joined-pass : (ws : List (List ℕ)) → AllPass q ws → AreUtf8 ws
      → list_all q (chars (joined_texts (space ∷ []) ws)) ≡ true
  joined-pass [] h u = ap (list_all q) chars-nil
  joined-pass (w ∷ ws) h u =
      characters-append q w (flat_map (λ next. (space ∷ []) ++ next) ws) u.0 h.0 (more-pass ws h.1 u.1)

space-seen : list_all is_shown (chars (space ∷ [])) ≡ true
unfolding chars
space-seen = refl

pub line-characters : (s : List ℕ) → IsUtf8 s → list_all is_shown (chars (in_line s)) ≡ true
line-characters s u =
    let t : List ℕ = shown_text s in
    let v : IsUtf8 t = (shown-shows s u).utf8 in
    let pieces : List (List ℕ) = slice_split is_ascii_white_space t in
    let kept = filled-pass is_shown pieces
    (pieces-pass is_shown is_ascii_white_space ascii-white t v (shown-characters s u))
    (pieces-show is_ascii_white_space ascii-white t v).texts in
    joined-pass is_shown space-seen (words t) kept.0 kept.1
