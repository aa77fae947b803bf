-- A code block says what stands in it.
use Rattle.std.proofs.Common.{◌≡◌, ℕ, suc, ◌+◌, ◌-◌, Bool, true, false, cond, ◌&&◌, ◌⊎◌, inl, inr}
use Rattle.std.proofs.Common.{List, [], ◌∷◌, ◌++◌, length, take, drop, filter, fold, refl, sym, ap, ◌∙◌, append_assoc}
use Rattle.std.proofs.Common.{arith, subst, reverse}
use Rattle.std.specs.Prelude.{◌==◌}
use Rattle.std.specs.List.{prefix_len, suffix_len, list_all}
use Rattle.std.specs.Str.{chars, IsUtf8}
use Rattle.std.proofs.Math.Utf8.{scalars, scalar}
use Rattle.std.proofs.Math.Seq.{take-append_seam}
use Rattle.std.proofs.lemmas.Bool.Decides.{nat_tests}
use Rattle.std.proofs.lemmas.List.{append-nil, take-append-drop, length-drop, length-reverse, reverse-append}
use Rattle.std.proofs.lemmas.List.Elements.{filter-append}
use Rattle.std.proofs.lemmas.Str.{scalars-chars}
use Rattle.htmd_lexical.specs.Characters.{line_feed, carriage_return}
use Rattle.htmd_lexical.proofs.Cases.{test}
use Rattle.htmd_text.specs.Trims.{trimmed_start, trimmed_end, trimmed_text, is_line_feed}
use Rattle.htmd_shown.specs.AllTexts.{Lines, no_lines, with_character, written_for, with_line_feeds}
use Rattle.htmd_shown.specs.AllTexts.{without_last_line_feed}
use Rattle.htmd_shown.specs.Spaces.{is_white, is_blank_text}
use Rattle.htmd_law_documents.specs.DocumentTexts.{is_visible, visible}
use Rattle.htmd_law_documents.proofs.VisibleLemmas.{Shows, text-same, seen-same, white-unseen}
use Rattle.htmd_law_documents.proofs.VisibleLemmas.{shows-encodes, both-true}
use Rattle.htmd_law_documents.proofs.PiecesLemmas.{AreAsciiWhite, line_feed-white, Pass, pass-append, front-shows}
use Rattle.htmd_law_documents.proofs.PiecesLemmas.{start-shows}

-- ---- what is at the end

backwards : (b : ℕ) (s : List ℕ) → reverse (b ∷ s) ≡ reverse s ++ b ∷ []
backwards b s = reverse-append (b ∷ []) s

reverse-reverse : (s : List ℕ) → reverse (reverse s) ≡ s
reverse-reverse [] = refl
reverse-reverse (b ∷ s) =
    ap reverse (backwards b s) ∙ (reverse-append (reverse s) (b ∷ []) ∙ ap (λ t. b ∷ t) (reverse-reverse s))

module _ (p : ℕ → Bool) (a : AreAsciiWhite p) where
  front-passes : (s : List ℕ) → Pass p a (take (prefix_len p s) s)
  front-passes [] = tt
  front-passes (b ∷ s) =
      let rest : Pass p a (take (prefix_len p s) s) = front-passes s in
      test (p b)
      (λ e. subst (λ (c : Bool). Pass p a (take (cond c (1 + prefix_len p s) 0) (b ∷ s))) (sym e)
      (subst (λ (n : ℕ). Pass p a (take n (b ∷ s))) (sym (one_more (prefix_len p s))) (e, rest)))
      (λ e. subst (λ (c : Bool). Pass p a (take (cond c (1 + prefix_len p s) 0) (b ∷ s))) (sym e) tt)
    where
      one_more : (n : ℕ) → 1 + n ≡ suc n
      one_more n = omega arith

  reverse-passes : (s : List ℕ) → Pass p a s → Pass p a (reverse s)
  reverse-passes [] h = tt
  reverse-passes (b ∷ s) h =
      subst (Pass p a) (sym (backwards b s)) (pass-append p a (reverse s) (b ∷ []) (reverse-passes s h.1) (h.0, tt))

  -- of a text that is written backwards
  back-shows : (r : List ℕ) → IsUtf8 (reverse r)
      → Shows (take (length (reverse r) - prefix_len p r) (reverse r)) (visible (reverse r))
  back-shows r u =
      let n : ℕ = prefix_len p r in
      let front : List ℕ = reverse (drop n r) in
      let back : List ℕ = reverse (take n r) in
      let same : reverse r ≡ front ++ back =
      ap reverse (sym (take-append-drop n r)) ∙ reverse-append (take n r) (drop n r) in
      let count : length (reverse r) - n ≡ length front =
      ap (λ k. k - n) (length-reverse r) ∙ sym (length-reverse (drop n r) ∙ length-drop n r) in
      text-same (take (length (reverse r) - n) (reverse r)) front (visible (reverse r))
      (ap (λ k. take k (reverse r)) count ∙ (ap (λ t. take (length front) t) same ∙ take-append_seam front back))
      (seen-same front (visible (front ++ back)) (visible (reverse r)) (ap visible (sym same))
      (front-shows p a front back (reverse-passes (take n r) (front-passes r)) (subst IsUtf8 same u)))

  end-shows : (s : List ℕ) → IsUtf8 s → Shows (trimmed_end p s) (visible s)
  end-shows s u =
      let same : reverse (reverse s) ≡ s = reverse-reverse s in
      subst (λ (t : List ℕ). Shows (take (length t - suffix_len p s) t) (visible t)) same
      (back-shows (reverse s) (subst IsUtf8 (sym same) u))

  pub trimmed-shows : (s : List ℕ) → IsUtf8 s → Shows (trimmed_text p s) (visible s)
  trimmed-shows s u =
      let start : Shows (trimmed_start p s) (visible s) = start-shows p a s u in
      seen-same (trimmed_text p s) (visible (trimmed_start p s)) (visible s) start.is
      (end-shows (trimmed_start p s) start.utf8)

-- ---- the last line feed

-- it is there, or nothing is left out
last-cases : (s : List ℕ)
    → (without_last_line_feed s ≡ s) ⊎ (s ≡ without_last_line_feed s ++ line_feed ∷ [])
last-cases [] = inl refl
last-cases (b ∷ []) = test (b == line_feed)
    (λ e. inr (ap (λ x. x ∷ []) (same b e)
    ∙ sym (ap (λ c. cond c [] (b ∷ []) ++ line_feed ∷ []) e)))
    (λ e. inl (ap (λ c. cond c [] (b ∷ [])) e))
  where
    same : (b : ℕ) → (b == line_feed) ≡ true → b ≡ line_feed
    same b e = grind (arith, nat_tests)
last-cases (b ∷ c ∷ s) = more (last-cases (c ∷ s))
  where
    more : (without_last_line_feed (c ∷ s) ≡ c ∷ s)
        ⊎ (c ∷ s ≡ without_last_line_feed (c ∷ s) ++ line_feed ∷ [])
        → (without_last_line_feed (b ∷ c ∷ s) ≡ b ∷ c ∷ s)
        ⊎ (b ∷ c ∷ s ≡ without_last_line_feed (b ∷ c ∷ s) ++ line_feed ∷ [])
    more (inl e) = inl (ap (λ t. b ∷ t) e)
    more (inr e) = inr (ap (λ t. b ∷ t) e)

pub without-shows : (s cs : List ℕ) → Shows s cs → Shows (without_last_line_feed s) cs
without-shows s cs h = either (last-cases s)
  where
    either : (without_last_line_feed s ≡ s) ⊎ (s ≡ without_last_line_feed s ++ line_feed ∷ [])
        → Shows (without_last_line_feed s) cs
    either (inl e) = text-same (without_last_line_feed s) s cs e h
    either (inr e) = seen-same (without_last_line_feed s) (visible (without_last_line_feed s ++ line_feed ∷ [])) cs
        (ap visible (sym e) ∙ h.is)
        (front-shows is_line_feed line_feed-white (without_last_line_feed s) (line_feed ∷ []) (refl, tt)
        (subst IsUtf8 e h.utf8))

-- ---- line ends

scalars-append : (xs ys : List ℕ) → scalars xs ≡ true → scalars ys ≡ true → scalars (xs ++ ys) ≡ true
scalars-append [] ys g h = h
scalars-append (x ∷ xs) ys g h =
    let parts = both-true (scalar x) (scalars xs) g in
    ap (λ b. b && scalars (xs ++ ys)) parts.0 ∙ scalars-append xs ys parts.1 h

record IsLike (xs ys : List ℕ) : Type 0 where
  are_scalars : scalars xs ≡ true
  is : filter is_visible xs ≡ filter is_visible ys

like-append : (xs ys us vs : List ℕ) → IsLike xs ys → IsLike us vs → IsLike (xs ++ us) (ys ++ vs)
like-append xs ys us vs g h = record {
  are_scalars = scalars-append xs us g.are_scalars h.are_scalars;
  is = filter-append is_visible xs us
      ∙ (ap (λ t. t ++ filter is_visible us) g.is
      ∙ (ap (λ t. filter is_visible ys ++ t) h.is ∙ sym (filter-append is_visible ys vs)));
}

character-like : (c : ℕ) → scalar c ≡ true → IsLike (c ∷ []) (c ∷ [])
character-like c h = record { are_scalars = ap (λ b. b && true) h; is = refl }

feed-like : (b : Bool) (after : Bool) (c : ℕ) → (c == line_feed) ≡ b → scalar c ≡ true
    → IsLike (cond (b && after) [] (c ∷ [])) (c ∷ [])
feed-like true true c e h = record { are_scalars = refl; is = sym (white-unseen c (ap is_white (same c e))) }
  where
    same : (c : ℕ) → (c == line_feed) ≡ true → c ≡ line_feed
    same c e = grind (arith, nat_tests)
feed-like true false c e h = character-like c h
feed-like false after c e h = character-like c h

return-like : (b : Bool) (after : Bool) (c : ℕ) → (c == carriage_return) ≡ b → scalar c ≡ true
    → IsLike (cond b (line_feed ∷ []) (cond ((c == line_feed) && after) [] (c ∷ []))) (c ∷ [])
return-like true after c e h =
    record { are_scalars = refl; is = sym (white-unseen c (ap is_white (same c e))) }
  where
    same : (c : ℕ) → (c == carriage_return) ≡ true → c ≡ carriage_return
    same c e = grind (arith, nat_tests)
return-like false after c e h = feed-like (c == line_feed) after c refl h

lines-like : (cs : List ℕ) (l : Lines) (ds : List ℕ) → scalars cs ≡ true → IsLike l.written ds
    → IsLike (fold with_character l cs).written (ds ++ cs)
lines-like [] l ds s h =
    record { are_scalars = h.are_scalars; is = h.is ∙ ap (filter is_visible) (sym (append-nil ds)) }
lines-like (c ∷ cs) l ds s h =
    let parts = both-true (scalar c) (scalars cs) s in
    subst (λ (xs : List ℕ). IsLike (fold with_character (with_character l c) cs).written xs)
    (append_assoc ds (c ∷ []) cs)
    (lines-like cs (with_character l c) (ds ++ c ∷ []) parts.1
    (like-append l.written ds (written_for l.after_return c) (c ∷ []) h
    (return-like (c == carriage_return) l.after_return c refl parts.0)))

pub lines-scalar : (s : List ℕ) → IsUtf8 s → scalars (fold with_character no_lines (chars s)).written ≡ true
lines-scalar s u =
    (lines-like (chars s) no_lines [] (scalars-chars s u) (record { are_scalars = refl; is = refl })).are_scalars

pub feeds-show : (s cs : List ℕ) → Shows s cs → Shows (with_line_feeds s) cs
feeds-show s cs h =
    let like : IsLike (fold with_character no_lines (chars s)).written (chars s) =
    lines-like (chars s) no_lines [] (scalars-chars s h.utf8) (record { are_scalars = refl; is = refl }) in
    seen-same (with_line_feeds s) (filter is_visible (fold with_character no_lines (chars s)).written) cs
    (like.is ∙ h.is)
    (shows-encodes (fold with_character no_lines (chars s)).written like.are_scalars)

-- ---- texts of white space

white-all : (cs : List ℕ) → list_all is_white cs ≡ true → filter is_visible cs ≡ []
white-all [] e = refl
white-all (c ∷ cs) e =
    let parts = both-true (is_white c) (list_all is_white cs) e in
    filter-append is_visible (c ∷ []) cs
    ∙ (ap (λ t. t ++ filter is_visible cs) (white-unseen c parts.0) ∙ white-all cs parts.1)

pub blank-seen : (s : List ℕ) → is_blank_text s ≡ true → visible s ≡ []
blank-seen s e = white-all (chars s) e
