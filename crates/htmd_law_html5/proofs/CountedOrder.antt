-- The characters that count stand in order in the tree: they are some of those that are kept of the tokens' texts, in
-- their order, and as many of each.
use Rattle.std.proofs.Common.{◌≡◌, ◌∙◌, ℕ, Bool, true, false, List, [], ◌∷◌, refl, sym, ap, arith, cond}
use Rattle.std.specs.Prelude.{◌==◌, filter, count_by, IsUtf8}
use Rattle.std.specs.Str.{chars}
use Rattle.std.proofs.lemmas.Bool.{true≢false, eqb-true}
use Rattle.std.proofs.lemmas.List.Sums.{sum_by-cons}
use Rattle.htmd_lexical.proofs.Cases.{test}
use Rattle.htmd_lexical.specs.Characters.{null}
use Rattle.htmd_html5_tokens.specs.References.{replacement_character}
use Rattle.htmd_html5.specs.Html5Documents.{state_after, html5_document}
use Rattle.htmd_nodes.specs.Items.{greatest_depth}
use Rattle.htmd_law_html5.specs.PageLetters.{is_character, occurrences, occurrences_in, texts_of}
use Rattle.htmd_law_html5.specs.LetterOrder.{no_tag_moves_text}
use Rattle.htmd_law_html5.specs.TextKept.{kept_texts, no_tag_comes_late, no_null_comes}
use Rattle.htmd_law_html5.proofs.LetterLemmas.{CharacterTests}
use Rattle.htmd_law_html5.proofs.TextsPut.{occurs_cons}
use Rattle.htmd_law_html5.proofs.Sublists.{Sub, many, many_append, equal_by_counts}
use Rattle.htmd_law_html5.proofs.Counted.{Choice, counted_of, counted_in}
use Rattle.htmd_law_html5.proofs.OrderedRuns.{nil_letters}
use Rattle.htmd_law_html5.proofs.OrderedTokens.{state_staged, staged_ordered}
use Rattle.htmd_law_html5.proofs.OrderedLayout.{laid_in_order}
use Rattle.htmd_law_html5.proofs.KeptTokens.{counts_kept}

-- ---- as many of each

many_kept : (f : ℕ → Bool) (c : ℕ) (xs : List ℕ) → f c ≡ true → many c (filter f xs)
    ≡ count_by (is_character c) xs
many_kept f c [] e = refl
many_kept f c (x ∷ xs) e =
    let h = many_kept f c xs e in
    let sum = sum_by-cons (λ y. cond (is_character c y) 1 0) x xs in
    test (f x) (λ t. rw t (omega arith)) (λ t. test (x == c)
    (λ u. absurd (true≢false (sym e ∙ (sym (ap f (eqb-true x c u)) ∙ t))))
    (λ u. let none : ◌≡◌ {A = ℕ} (cond (is_character c x) 1 0) 0 = rw u refl in rw t (omega arith)))

many_none : (f : ℕ → Bool) (c : ℕ) (xs : List ℕ) → f c ≡ false → many c (filter f xs) ≡ 0
many_none f c [] e = refl
many_none f c (x ∷ xs) e =
    let h = many_none f c xs e in
    test (f x) (λ t. test (x == c) (λ u. absurd (true≢false (sym t ∙ (ap f (eqb-true x c u) ∙ e))))
    (λ u. rw (t, u) (omega arith))) (λ t. rw t h)

module _ (choice : Choice) (c : ℕ) where
  many_counted : (s : List ℕ) → choice.counts c ≡ true → many c (counted_of choice s) ≡ occurrences c s
  unfolding counted_of occurrences
  many_counted s e = many_kept choice.counts c (chars s) e

  none_counted : (s : List ℕ) → choice.counts c ≡ false → many c (counted_of choice s) ≡ 0
  unfolding counted_of
  none_counted s e = many_none choice.counts c (chars s) e

  many_in : (texts : List (List ℕ)) → choice.counts c ≡ true → many c (counted_in choice texts)
      ≡ occurrences_in c texts
  many_in [] e = refl
  many_in (s ∷ texts) e =
      let a = many_append c (counted_of choice s) (counted_in choice texts) in
      let b = many_counted s e in
      let d = many_in texts e in
      let f = occurs_cons c s texts in
      omega arith

  none_in : (texts : List (List ℕ)) → choice.counts c ≡ false → many c (counted_in choice texts) ≡ 0
  none_in [] e = refl
  none_in (s ∷ texts) e =
      let a = many_append c (counted_of choice s) (counted_in choice texts) in
      let b = none_counted s e in
      let d = none_in texts e in
      omega arith

-- ---- in order

module _ (choice : Choice) where
  counted_some : (scripting : Bool) (page : List ℕ) → IsUtf8 page → no_tag_moves_text scripting page ≡ true
      → (choice.reopens ≡ false → no_tag_comes_late scripting page ≡ true)
      → (choice.nulls ≡ false → no_null_comes scripting page ≡ true)
      → Sub (counted_in choice (texts_of (html5_document scripting page)))
      (counted_in choice (kept_texts scripting page))
  unfolding html5_document
  counted_some scripting page u e early clean =
      let l = staged_ordered choice (counted_in choice (kept_texts scripting page)) (state_after scripting page)
      (state_staged choice scripting page u e early clean) in
      laid_in_order choice (counted_in choice (kept_texts scripting page)) l.0 greatest_depth
      (state_after scripting page).nodes (nil_letters choice) l.1

  choice_tests : (c : ℕ) → choice.counts c ≡ true → choice.nulls ≡ true → CharacterTests c
  choice_tests c e n = record {
    null_is_none = other null (choice.no_null n);
    other = other replacement_character (choice.no_replacement n);
  }
    where
      other : (d : ℕ) → choice.counts d ≡ false → (c == d) ≡ false
      other d f = test (c == d) (λ t. absurd (true≢false (sym e ∙ (ap choice.counts (eqb-true c d t) ∙ f))))
          (λ t. t)

  pub counted_in_order : (scripting : Bool) (page : List ℕ) → IsUtf8 page → no_tag_moves_text scripting page
      ≡ true → (choice.reopens ≡ false → no_tag_comes_late scripting page ≡ true)
      → (choice.nulls ≡ false → no_null_comes scripting page ≡ true)
      → counted_in choice (texts_of (html5_document scripting page)) ≡ counted_in choice (kept_texts scripting page)
  counted_in_order scripting page u e early clean =
      equal_by_counts (counted_in choice (texts_of (html5_document scripting page)))
      (counted_in choice (kept_texts scripting page)) (counted_some scripting page u e early clean)
      (λ c. test (choice.counts c)
      (λ t. let a = counts_kept c choice.nulls (choice_tests c t) scripting page u e clean in
      let b = many_in choice c (texts_of (html5_document scripting page)) t in
      let d = many_in choice c (kept_texts scripting page) t in
      omega arith)
      (λ t. let d = none_in choice c (kept_texts scripting page) t in omega arith))
