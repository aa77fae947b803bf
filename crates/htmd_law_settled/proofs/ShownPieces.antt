-- Texts whose characters show: pieces of them, and languages of code.
use Rattle.std.proofs.Common.{◌≡◌, ◌⊎◌, ℕ, suc, ◌+◌, ◌-◌, Bool, true, false, cond, List, [], ◌∷◌, ◌++◌, length, take}
use Rattle.std.proofs.Common.{drop}
use Rattle.std.proofs.Common.{refl, sym, ap, ◌∙◌, subst, inl, inr, arith, append_assoc}
use Rattle.std.specs.Prelude.{◌==◌}
use Rattle.std.specs.List.{list_all, prefix_len, suffix_len, slice_split, onto_first}
use Rattle.std.specs.Str.{chars, IsUtf8}
use Rattle.std.proofs.lemmas.Bool.{and_parts}
use Rattle.std.proofs.lemmas.Bool.Decides.{nat_tests}
use Rattle.std.proofs.lemmas.List.{append-nil, take-append-drop}
use Rattle.std.proofs.lemmas.List.Folds.{list_all-append}
use Rattle.htmd_lexical.specs.AttributePairs.{AttributePair}
use Rattle.htmd_lexical.specs.Characters.{line_feed}
use Rattle.htmd_lexical.specs.WhiteSpace.{is_ascii_white_space}
use Rattle.htmd_lexical.proofs.Cases.{test}
use Rattle.htmd_text.specs.Trims.{trimmed_start, trimmed_text, is_line_feed}
use Rattle.std.proofs.lemmas.Str.{chars-append, chars-nil}
use Rattle.htmd_text.proofs.PlainTextLemmas.{chars_ascii}
use Rattle.htmd_text.proofs.TrimsLemmas.{OfAscii}
use Rattle.htmd_shown.specs.AllTexts.{lines_of, without_last_line_feed}
use Rattle.htmd_shown.specs.ShownTexts.{is_shown}
use Rattle.htmd_shown.specs.Spaces.{is_white, is_blank_text}
use Rattle.htmd_shown.specs.SimpleTrees.{Simple}
use Rattle.htmd_flow.specs.Languages.{is_name, is_none, first_name, language_named, language_of_block}
use Rattle.htmd_flow.specs.Languages.{found_languages, only_code}
use Rattle.htmd_law_documents.proofs.PiecesLemmas.{AreAsciiWhite, line_feed-white, IsCut, cut, onto}
use Rattle.htmd_law_documents.proofs.PiecesLemmas.{onto-none, onto-more}
use Rattle.htmd_law_documents.proofs.NormalValueLemmas.{IsClean, utf8-trimmed}
use Rattle.htmd_law_returning.specs.SettledDocuments.{has_settled_language}

-- ---- pieces

pub record IsShown (s : List ℕ) : Type 0 where
  pub utf8 : IsUtf8 s
  pub shown : list_all is_shown (chars s) ≡ true

pub clean-shown : (s : List ℕ) → IsClean s → IsShown s
clean-shown s h = record { utf8 = h.utf8; shown = h.shown }

-- a beginning, and what follows it
front-shown : (s t : List ℕ) → IsUtf8 s → list_all is_shown (chars (s ++ t)) ≡ true
    → (list_all is_shown (chars s) ≡ true) × (list_all is_shown (chars t) ≡ true)
front-shown s t u h =
    and_parts (list_all is_shown (chars s)) (list_all is_shown (chars t))
    (sym (list_all-append is_shown (chars s) (chars t)) ∙ sym (ap (list_all is_shown) (chars-append s t u)) ∙ h)

-- both sides of white space of ASCII
parted : (p : ℕ → Bool) → AreAsciiWhite p → (xs : List ℕ) (b : ℕ) (ys : List ℕ) → p b ≡ true
    → IsShown (xs ++ b ∷ ys) → IsShown xs × IsShown ys
parted p a xs b ys e h =
    let k : IsCut xs b ys = cut xs b ys (a.ascii b e) (a.white b e) h.utf8 in
    let f = front-shown xs (b ∷ ys) k.front h.shown in
    let g : list_all is_shown (b ∷ chars ys) ≡ true =
    sym (ap (list_all is_shown) (chars_ascii b ys (a.ascii b e))) ∙ f.1 in (
      record { utf8 = k.front; shown = f.0 },
      record { utf8 = k.rest; shown = (and_parts (is_shown b) (list_all is_shown (chars ys)) g).1 },
    )

abbrev pub AllShown : List (List ℕ) → Type 0
AllShown [] = Unit {0}
AllShown (s ∷ pieces) = IsShown s × AllShown pieces

module _ (p : ℕ → Bool) (a : AreAsciiWhite p) where
  split-shown : (s xs : List ℕ) → IsShown (xs ++ s) → AllShown (onto xs (slice_split p s))
  split-shown [] xs h = (h, tt)
  split-shown (b ∷ s) xs h =
      test (p b)
      (λ e. let k = parted p a xs b s e h in
      subst (λ (c : Bool). AllShown (onto xs (cond c ([] ∷ slice_split p s) (onto_first b (slice_split p s)))))
      (sym e)
      (subst IsShown (sym (append-nil xs)) k.0, subst AllShown (onto-none p s) (split-shown s [] k.1)))
      (λ e. subst (λ (c : Bool). AllShown
      (onto xs (cond c ([] ∷ slice_split p s) (onto_first b (slice_split p s)))))
      (sym e)
      (subst AllShown (sym (onto-more xs b (slice_split p s)))
      (split-shown s (xs ++ b ∷ []) (subst IsShown (sym (append_assoc xs (b ∷ []) s)) h))))

  start-shown : (s : List ℕ) → IsShown s → IsShown (trimmed_start p s)
  start-shown [] h = h
  start-shown (b ∷ s) h =
      test (p b)
      (λ e. rw e (subst IsShown (sym (one_less (prefix_len p s) b s)) (start-shown s (parted p a [] b s e h).1)))
      (λ e. rw e h)
    where
      one_less : (n b : ℕ) (s : List ℕ) → drop (1 + n) (b ∷ s) ≡ drop n s
      one_less n b s = let e : 1 + n ≡ suc n = omega arith in ap (λ m. drop m (b ∷ s)) e

  pub trimmed-shown : OfAscii p → (s : List ℕ) → IsShown s → IsShown (trimmed_text p s)
  trimmed-shown o s h =
      let t : List ℕ = trimmed_start p s in
      let n : ℕ = length t - suffix_len p t in
      let u : IsUtf8 (take n t) = utf8-trimmed p o s h.utf8 in
      record {
        utf8 = u;
        shown = (front-shown (take n t) (drop n t) u
            (ap (λ y. list_all is_shown (chars y)) (take-append-drop n t) ∙ (start-shown s h).shown)).0;
      }

feeds-ascii : OfAscii is_line_feed
feeds-ascii b e = grind (arith, nat_tests)

pub white-ascii : OfAscii is_ascii_white_space
white-ascii b e = grind (arith, nat_tests)

pub lines-shown : (s : List ℕ) → IsShown s → AllShown (lines_of s)
lines-shown s h =
    let t : List ℕ = trimmed_text is_line_feed s in
    subst AllShown (onto-none is_line_feed t)
    (split-shown is_line_feed line_feed-white t [] (trimmed-shown is_line_feed line_feed-white feeds-ascii s h))

-- ---- without the last line feed

last-feed : (s : List ℕ) → (without_last_line_feed s ≡ s) ⊎ (s ≡ without_last_line_feed s ++ line_feed ∷ [])
last-feed [] = inl refl
last-feed (b ∷ []) = test (b == line_feed) (λ e. inr (one b e)) (λ e. inl (rw e refl))
  where
    one : (b : ℕ) → (b == line_feed) ≡ true → b ∷ [] ≡ without_last_line_feed (b ∷ []) ++ line_feed ∷ []
    one b e = rw e (ap (λ c. c ∷ []) (same b e))
      where
        same : (b : ℕ) → (b == line_feed) ≡ true → b ≡ line_feed
        same b e = grind (arith, nat_tests)
last-feed (b ∷ c ∷ s) = elim (last-feed (c ∷ s)) [
  | inl e ↦ inl (ap (λ t. b ∷ t) e)
  | inr e ↦ inr (ap (λ t. b ∷ t) e)
]

pub without-shown : (s : List ℕ) → IsShown s → IsShown (without_last_line_feed s)
without-shown s h = elim (last-feed s) [
  | inl e ↦ subst IsShown (sym e) h
  | inr e ↦ (parted is_line_feed line_feed-white (without_last_line_feed s) line_feed [] refl (subst IsShown e h)).0
]

-- what isn't blank isn't without it
pub without-filled : (s : List ℕ) → IsShown s → is_blank_text s ≡ false
    → is_blank_text (without_last_line_feed s) ≡ false
without-filled s h e = elim (last-feed s) [
  | inl q ↦ ap is_blank_text q ∙ e
  | inr q ↦
      let t : List ℕ = without_last_line_feed s in
      let k = (parted is_line_feed line_feed-white t line_feed [] refl (subst IsShown q h)).0 in
      test (is_blank_text t)
      (λ b. absurd (let w : is_blank_text s ≡ true =
      ap is_blank_text q ∙ ap (list_all is_white) (chars-append t (line_feed ∷ []) k.utf8)
      ∙ list_all-append is_white (chars t) (chars (line_feed ∷ []))
      ∙ rw (b, ap (list_all is_white) (chars_ascii line_feed [] (line_feed-white.ascii line_feed refl)))
      (rw chars-nil refl) in
      let z : true ≡ false = sym w ∙ e in cc))
      (λ b. b)
]

-- ---- languages

found-named : (found : List (List ℕ)) → has_settled_language (language_named (first_name found)) ≡ true
found-named [] = refl
found-named (s ∷ found) =
    test (is_name s) (λ e. rw e (test (is_none s) (λ n. rw n refl) (λ n. rw n (rw (e, n) refl))))
    (λ e. rw e (found-named found))

pub language-named : (attributes : List AttributePair) (trees : List Simple) (near : List (List AttributePair))
    → has_settled_language (language_of_block attributes trees near) ≡ true
language-named attributes trees near = found-named (found_languages (only_code trees ++ attributes ∷ []) near)
