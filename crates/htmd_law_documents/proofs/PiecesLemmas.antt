-- Texts that are cut at white space of ASCII say what their pieces say.
use Rattle.std.proofs.Common.{◌≡◌, ℕ, suc, ◌+◌, ◌<◌, Bool, true, false, cond}
use Rattle.std.proofs.Common.{List, [], ◌∷◌, ◌++◌, length, get_or, drop, filter, refl, sym, ap, ◌∙◌, ◌||◌}
use Rattle.std.proofs.Common.{append_assoc, arith, subst}
use Rattle.std.specs.List.{flat_map, prefix_len, slice_split, onto_first}
use Rattle.std.specs.Str.{chars, IsUtf8}
use Rattle.std.proofs.Math.Seq.{take-append_seam, drop-append_seam, get_or-append_seam}
use Rattle.std.proofs.lemmas.Bool.Decides.{nat_tests}
use Rattle.std.proofs.lemmas.List.{append-nil, length-append}
use Rattle.std.proofs.lemmas.List.Elements.{filter-append}
use Rattle.std.proofs.lemmas.Str.{IsUtf8-take, IsUtf8-drop, IsCharBoundary-before_ascii, IsUtf8-past_char, encode_ascii}
use Rattle.htmd_lexical.specs.Characters.{line_feed, space}
use Rattle.htmd_lexical.specs.WhiteSpace.{is_ascii_white_space}
use Rattle.htmd_lexical.proofs.Cases.{test}
use Rattle.htmd_text.proofs.PlainTextLemmas.{chars_ascii}
use Rattle.htmd_text.specs.Joins.{joined_texts}
use Rattle.htmd_text.specs.Trims.{trimmed_start, is_line_feed}
use Rattle.htmd_shown.specs.Attributes.{is_filled, words, in_line}
use Rattle.htmd_shown.specs.ShownTexts.{shown_text}
use Rattle.htmd_shown.specs.Spaces.{is_white, is_wide_space}
use Rattle.htmd_law_documents.specs.DocumentTexts.{is_visible, visible}
use Rattle.htmd_law_documents.proofs.VisibleLemmas.{Shows, shows-itself, shows-nil, shows-append, text-same, seen-same}
use Rattle.htmd_law_documents.proofs.VisibleLemmas.{visible-append, white-unseen, shown-shows}
use lib.Utf8.{encode}

-- bytes that are white space of ASCII
pub record AreAsciiWhite (p : ℕ → Bool) : Type 0 where
  pub ascii : (b : ℕ) → p b ≡ true → b < 128
  pub white : (b : ℕ) → p b ≡ true → is_white b ≡ true

pub ascii-white : AreAsciiWhite is_ascii_white_space
ascii-white = record { ascii = small; white = λ b e. ap (λ c. c || is_wide_space b) e }
  where
    small : (b : ℕ) → is_ascii_white_space b ≡ true → b < 128
    small b e = grind (arith, nat_tests)

pub line_feed-white : AreAsciiWhite is_line_feed
line_feed-white = record { ascii = small; white = λ b e. ap is_white (same b e) }
  where
    small : (b : ℕ) → is_line_feed b ≡ true → b < 128
    small b e = grind (arith, nat_tests)

    same : (b : ℕ) → is_line_feed b ≡ true → b ≡ line_feed
    same b e = grind (arith, nat_tests)

-- ---- where a text is cut

pub record IsCut (xs : List ℕ) (b : ℕ) (ys : List ℕ) : Type 0 where
  pub front : IsUtf8 xs
  pub rest : IsUtf8 ys
  pub is : visible (xs ++ b ∷ ys) ≡ visible xs ++ visible ys

white-visible : (b : ℕ) (ys : List ℕ) → b < 128 → is_white b ≡ true → visible (b ∷ ys) ≡ visible ys
white-visible b ys l w =
    ap (filter is_visible) (chars_ascii b ys l)
    ∙ (filter-append is_visible (b ∷ []) (chars ys)
    ∙ ap (λ t. t ++ filter is_visible (chars ys)) (white-unseen b w))

pub cut : (xs : List ℕ) (b : ℕ) (ys : List ℕ) → b < 128 → is_white b ≡ true → IsUtf8 (xs ++ b ∷ ys)
    → IsCut xs b ys
cut xs b ys l w u =
    let n : ℕ = length xs in
    let all : List ℕ = xs ++ b ∷ ys in
    let here : get_or all n 0 ≡ b = get_or-append_seam xs b ys 0 in
    let within : n < length all = omega (arith, length-append xs (b ∷ ys)) in
    let boundary = IsCharBoundary-before_ascii all n within (subst (λ (c : ℕ). c < 128) (sym here) l) in
    let front : IsUtf8 xs = subst IsUtf8 (take-append_seam xs (b ∷ ys)) (IsUtf8-take all n u boundary) in
    let rest : IsUtf8 (b ∷ ys) = subst IsUtf8 (drop-append_seam xs (b ∷ ys)) (IsUtf8-drop all n u boundary) in
    record {
      front = front;
      rest = IsUtf8-past_char (b ∷ ys) ys b rest (ap (λ t. t ++ ys) (sym (encode_ascii b l)));
      is = visible-append xs (b ∷ ys) front ∙ ap (λ t. visible xs ++ t) (white-visible b ys l w);
    }

-- ---- pieces

abbrev pub AreUtf8 : List (List ℕ) → Type 0
AreUtf8 [] = Unit {0}
AreUtf8 (s ∷ pieces) = IsUtf8 s × AreUtf8 pieces

abbrev pub pieces_seen : List (List ℕ) → List ℕ
pieces_seen pieces = flat_map visible pieces

pub record PiecesShow (pieces : List (List ℕ)) (cs : List ℕ) : Type 0 where
  pub texts : AreUtf8 pieces
  pub is : cs ≡ pieces_seen pieces

-- a text before the first piece
abbrev pub onto : List ℕ → List (List ℕ) → List (List ℕ)
onto xs [] = xs ∷ []
onto xs (s ∷ pieces) = (xs ++ s) ∷ pieces

pub onto-more : (xs : List ℕ) (b : ℕ) (pieces : List (List ℕ))
    → onto xs (onto_first b pieces) ≡ onto (xs ++ b ∷ []) pieces
onto-more xs b [] = refl
onto-more xs b (s ∷ pieces) = ap (λ t. t ∷ pieces) (sym (append_assoc xs (b ∷ []) s))

onto-either : (c : Bool) (b : ℕ) (pieces : List (List ℕ))
    → onto [] (cond c ([] ∷ pieces) (onto_first b pieces)) ≡ cond c ([] ∷ pieces) (onto_first b pieces)
onto-either true b pieces = refl
onto-either false b [] = refl
onto-either false b (s ∷ pieces) = refl

pub onto-none : (p : ℕ → Bool) (s : List ℕ) → onto [] (slice_split p s) ≡ slice_split p s
onto-none p [] = refl
onto-none p (b ∷ s) = onto-either (p b) b (slice_split p s)

module _ (p : ℕ → Bool) (a : AreAsciiWhite p) where
  split-ended : (b : ℕ) (s xs : List ℕ) → p b ≡ true → IsUtf8 (xs ++ b ∷ s)
      → (IsUtf8 s → PiecesShow (onto [] (slice_split p s)) (visible s))
      → PiecesShow (onto xs ([] ∷ slice_split p s)) (visible (xs ++ b ∷ s))
  split-ended b s xs e u next =
      let k : IsCut xs b s = cut xs b s (a.ascii b e) (a.white b e) u in
      let rest : PiecesShow (onto [] (slice_split p s)) (visible s) = next k.rest in
      let same : onto [] (slice_split p s) ≡ slice_split p s = onto-none p s in
      record {
        texts = (subst IsUtf8 (sym (append-nil xs)) k.front, subst AreUtf8 same rest.texts);
        is = k.is ∙ (ap (λ t. visible xs ++ t) (rest.is ∙ ap pieces_seen same)
            ∙ ap (λ t. visible t ++ pieces_seen (slice_split p s)) (sym (append-nil xs)));
      }

  split-goes : (b : ℕ) (s xs : List ℕ) → IsUtf8 (xs ++ b ∷ s)
      → (IsUtf8 ((xs ++ b ∷ []) ++ s)
      → PiecesShow (onto (xs ++ b ∷ []) (slice_split p s)) (visible ((xs ++ b ∷ []) ++ s)))
      → PiecesShow (onto xs (onto_first b (slice_split p s))) (visible (xs ++ b ∷ s))
  split-goes b s xs u next =
      let same : (xs ++ b ∷ []) ++ s ≡ xs ++ b ∷ s = append_assoc xs (b ∷ []) s in
      let rest : PiecesShow (onto (xs ++ b ∷ []) (slice_split p s)) (visible ((xs ++ b ∷ []) ++ s)) =
      next (subst IsUtf8 (sym same) u) in
      record {
        texts = subst AreUtf8 (sym (onto-more xs b (slice_split p s))) rest.texts;
        is = ap visible (sym same) ∙ (rest.is ∙ ap pieces_seen (sym (onto-more xs b (slice_split p s))));
      }

  split-shows : (s xs : List ℕ) → IsUtf8 (xs ++ s) → PiecesShow (onto xs (slice_split p s)) (visible (xs ++ s))
  split-shows [] xs u = record { texts = (u, tt); is = sym (append-nil (visible (xs ++ []))) }
  split-shows (b ∷ s) xs u =
      let none : IsUtf8 s → PiecesShow (onto [] (slice_split p s)) (visible s) = λ v. split-shows s [] v in
      let one : IsUtf8 ((xs ++ b ∷ []) ++ s)
      → PiecesShow (onto (xs ++ b ∷ []) (slice_split p s)) (visible ((xs ++ b ∷ []) ++ s)) =
      λ v. split-shows s (xs ++ b ∷ []) v in
      test (p b)
      (λ e. subst (λ (c : Bool). PiecesShow (onto xs
      (cond c ([] ∷ slice_split p s) (onto_first b (slice_split p s))))
      (visible (xs ++ b ∷ s))) (sym e) (split-ended b s xs e u none))
      (λ e. subst (λ (c : Bool). PiecesShow (onto xs
      (cond c ([] ∷ slice_split p s) (onto_first b (slice_split p s))))
      (visible (xs ++ b ∷ s))) (sym e) (split-goes b s xs u one))

  pub pieces-show : (s : List ℕ) → IsUtf8 s → PiecesShow (slice_split p s) (visible s)
  pieces-show s u =
      subst (λ (pieces : List (List ℕ)). PiecesShow pieces (visible s)) (onto-none p s)
      (split-shows s [] u)

  -- ---- what is at the ends

  start-later : (b : ℕ) (s : List ℕ) → p b ≡ true → IsUtf8 (b ∷ s)
      → (IsUtf8 s → Shows (trimmed_start p s) (visible s))
      → Shows (drop (1 + prefix_len p s) (b ∷ s)) (visible (b ∷ s))
  start-later b s e u next =
      let k : IsCut [] b s = cut [] b s (a.ascii b e) (a.white b e) u in
      text-same (drop (1 + prefix_len p s) (b ∷ s)) (drop (prefix_len p s) s) (visible (b ∷ s))
      (ap (λ n. drop n (b ∷ s)) (one_more (prefix_len p s)))
      (seen-same (drop (prefix_len p s) s) (visible s) (visible (b ∷ s))
      (sym (white-visible b s (a.ascii b e) (a.white b e))) (next k.rest))
    where
      one_more : (n : ℕ) → 1 + n ≡ suc n
      one_more n = omega arith

  pub start-shows : (s : List ℕ) → IsUtf8 s → Shows (trimmed_start p s) (visible s)
  start-shows [] u = shows-itself [] u
  start-shows (b ∷ s) u =
      let next : IsUtf8 s → Shows (trimmed_start p s) (visible s) = λ v. start-shows s v in
      test (p b)
      (λ e. subst (λ (c : Bool). Shows (drop (cond c (1 + prefix_len p s) 0) (b ∷ s)) (visible (b ∷ s))) (sym e)
      (start-later b s e u next))
      (λ e. subst (λ (c : Bool). Shows (drop (cond c (1 + prefix_len p s) 0) (b ∷ s)) (visible (b ∷ s))) (sym e)
      (shows-itself (b ∷ s) u))

  -- all of a text passes
  abbrev pub Pass : List ℕ → Type 0
  Pass [] = Unit {0}
  Pass (b ∷ s) = (p b ≡ true) × Pass s

  passed-visible : (t : List ℕ) → Pass t → visible t ≡ []
  passed-visible [] h = shows-nil.is
  passed-visible (b ∷ t) h = white-visible b t (a.ascii b h.0) (a.white b h.0) ∙ passed-visible t h.1

  pub front-shows : (xs t : List ℕ) → Pass t → IsUtf8 (xs ++ t) → Shows xs (visible (xs ++ t))
  front-shows xs [] h u =
      text-same xs (xs ++ []) (visible (xs ++ [])) (sym (append-nil xs)) (shows-itself (xs ++ []) u)
  front-shows xs (b ∷ t) h u =
      let k : IsCut xs b t = cut xs b t (a.ascii b h.0) (a.white b h.0) u in
      seen-same xs (visible xs) (visible (xs ++ b ∷ t))
      (sym (append-nil (visible xs)) ∙ (ap (λ s. visible xs ++ s) (sym (passed-visible t h.1)) ∙ sym k.is))
      (shows-itself xs k.front)

  pub pass-append : (s t : List ℕ) → Pass s → Pass t → Pass (s ++ t)
  pass-append [] t g h = h
  pass-append (b ∷ s) t g h = (g.0, pass-append s t g.1 h)

-- ---- words

pub unfilled : (s : List ℕ) → is_filled s ≡ false → s ≡ []
unfilled [] e = refl
unfilled (b ∷ s) e = absurd (grind (arith, nat_tests))

filled-shows : (pieces : List (List ℕ)) (cs : List ℕ) → PiecesShow pieces cs
    → PiecesShow (filter is_filled pieces) cs
filled-shows [] cs h = h
filled-shows (s ∷ pieces) cs h =
    let rest : PiecesShow (filter is_filled pieces) (pieces_seen pieces) =
    filled-shows pieces (pieces_seen pieces) (record { texts = h.texts.1; is = refl }) in
    test (is_filled s)
    (λ e. subst (λ (c : Bool). PiecesShow (cond c (s ∷ filter is_filled pieces) (filter is_filled pieces)) cs)
    (sym e)
    (record { texts = (h.texts.0, rest.texts); is = h.is ∙ ap (λ t. visible s ++ t) rest.is }))
    (λ e. subst (λ (c : Bool). PiecesShow (cond c (s ∷ filter is_filled pieces) (filter is_filled pieces)) cs)
    (sym e)
    (record {
      texts = rest.texts;
      is = h.is ∙ (ap (λ t. visible t ++ pieces_seen pieces) (unfilled s e)
          ∙ (ap (λ t. t ++ pieces_seen pieces) shows-nil.is ∙ rest.is));
    }))

pub space-shows : Shows (space ∷ []) []
unfolding chars
space-shows =
    record { utf8 = (space ∷ [], (refl, append-nil (encode space) ∙ encode_ascii space (omega arith))); is = refl }

more-shows : (pieces : List (List ℕ)) → AreUtf8 pieces
    → Shows (flat_map (λ next. (space ∷ []) ++ next) pieces) (pieces_seen pieces)
more-shows [] u = shows-nil
more-shows (s ∷ pieces) u =
    shows-append ((space ∷ []) ++ s) (flat_map (λ next. (space ∷ []) ++ next) pieces) (visible s)
    (pieces_seen pieces)
    (shows-append (space ∷ []) s [] (visible s) space-shows (shows-itself s u.0)) (more-shows pieces u.1)

joined-shows : (pieces : List (List ℕ)) → AreUtf8 pieces
    → Shows (joined_texts (space ∷ []) pieces) (pieces_seen pieces)
joined-shows [] u = shows-nil
joined-shows (s ∷ pieces) u =
    shows-append s (flat_map (λ next. (space ∷ []) ++ next) pieces) (visible s) (pieces_seen pieces)
    (shows-itself s u.0) (more-shows pieces u.1)

pub in_line-shows : (s : List ℕ) → IsUtf8 s → Shows (in_line s) (visible s)
in_line-shows s u =
    let t : List ℕ = shown_text s in
    let here : Shows t (visible s) = shown-shows s u in
    let parts : PiecesShow (words t) (visible t) =
    filled-shows (slice_split is_ascii_white_space t) (visible t)
    (pieces-show is_ascii_white_space ascii-white t here.utf8) in
    seen-same (in_line s) (pieces_seen (words t)) (visible s) (sym parts.is ∙ here.is)
    (joined-shows (words t) parts.texts)
