-- What texts hold when more is put into them.
use Rattle.std.proofs.Common.{◌≡◌, ◌∙◌, ℕ, zero, suc, ◌+◌, List, [], ◌∷◌, ◌++◌, get_or, set, refl, sym, ap, subst}
use Rattle.std.proofs.Common.{arith, All, cond}
use Rattle.std.specs.Prelude.{IsUtf8, count_by}
use Rattle.std.specs.Str.{chars}
use Rattle.std.proofs.lemmas.List.Sums.{sum_by-cons, sum_by-append, sum_by_push}
use Rattle.std.proofs.lemmas.List.Elements.{All-nil, All-cons, All-head, All-tail, All-append}
use Rattle.std.proofs.lemmas.Str.{chars-append, chars-nil, IsUtf8-append}
use Rattle.htmd_html5_state.specs.Nodes.{KindValue, document, text}
use Rattle.htmd_law_html5.specs.PageLetters.{occurrences, occurrences_in, is_character}
use Rattle.htmd_law_html5.proofs.NodeTexts.{texts, with_text}

pub occurs_append : (c : ℕ) (s t : List ℕ) → IsUtf8 s → occurrences c (s ++ t)
    ≡ occurrences c s + occurrences c t
unfolding occurrences
occurs_append c s t u =
    ap (count_by (is_character c)) (chars-append s t u)
    ∙ sum_by-append (λ x. cond (is_character c x) 1 0) (chars s) (chars t)

pub occurs_nil : (c : ℕ) → occurrences c [] ≡ 0
unfolding occurrences
occurs_nil c = ap (count_by (is_character c)) chars-nil

pub occurs_cons : (c : ℕ) (t : List ℕ) (ts : List (List ℕ))
    → occurrences_in c (t ∷ ts) ≡ occurrences c t + occurrences_in c ts
occurs_cons c t ts = sum_by-cons (occurrences c) t ts

-- ---- a text more

with_push : (k : KindValue) (ts : List (List ℕ)) (t : List ℕ) → with_text k (ts ++ t ∷ []) ≡ with_text k ts
    ++ t ∷ []
with_push (text s) ts t = refl
with_push _ ts t = refl

texts_push : (ks : List KindValue) (t : List ℕ) → texts (ks ++ text t ∷ []) ≡ texts ks ++ t ∷ []
texts_push [] t = refl
texts_push (k ∷ ks) t = ap (with_text k) (texts_push ks t) ∙ with_push k (texts ks) t

-- the texts hold this more, and are UTF-8
pub record Grown (c n : ℕ) (ks new : List KindValue) : Type 0 where
  pub grows : occurrences_in c (texts new) ≡ occurrences_in c (texts ks) + n
  pub utf8 : All IsUtf8 (texts new)

pub grown_by_text : (c : ℕ) (ks : List KindValue) (t : List ℕ) → IsUtf8 t → All IsUtf8 (texts ks)
    → Grown c (occurrences c t) ks (ks ++ text t ∷ [])
grown_by_text c ks t u all = record {
  grows = ap (occurrences_in c) (texts_push ks t) ∙ sum_by_push (occurrences c) (texts ks) t;
  utf8 = subst (All IsUtf8) (sym (texts_push ks t))
      (All-append IsUtf8 (texts ks) (t ∷ []) all (All-cons IsUtf8 t [] u (All-nil IsUtf8)));
}

-- ---- more at the end of a text

grown_in_text : (c : ℕ) (k : KindValue) (before t : List ℕ) (ks : List KindValue) → k ≡ text before → IsUtf8 t
    → All IsUtf8 (texts (k ∷ ks)) → Grown c (occurrences c t) (k ∷ ks) (text (before ++ t) ∷ ks)
grown_in_text c (text s) before t ks e u all = record {
  grows =
      let a = occurs_cons c (before ++ t) (texts ks) in
      let b = occurs_cons c s (texts ks) in
      let d = occurs_append c before t front in
      let f : occurrences c s ≡ occurrences c before = ap (occurrences c) same in
      omega arith;
  utf8 = All-cons IsUtf8 (before ++ t) (texts ks) (IsUtf8-append before t front u) (All-tail IsUtf8 s (texts ks) all);
}
  where
    same : s ≡ before
    same = cc

    front : IsUtf8 before
    front = subst IsUtf8 same (All-head IsUtf8 s (texts ks) all)
grown_in_text c _ before t ks e u all = absurd (cc)

pub all_under : (k : KindValue) (ts : List (List ℕ)) → All IsUtf8 (with_text k ts) → All IsUtf8 ts
all_under (text s) ts all = All-tail IsUtf8 s ts all
all_under _ ts all = all

grown_under : (c n : ℕ) (k : KindValue) (ks new : List KindValue) → All IsUtf8 (texts (k ∷ ks))
    → Grown c n ks new → Grown c n (k ∷ ks) (k ∷ new)
grown_under c n (text s) ks new all g = record {
  grows =
      let a = occurs_cons c s (texts ks) in
      let b = occurs_cons c s (texts new) in
      let d = g.grows in
      omega arith;
  utf8 = All-cons IsUtf8 s (texts new) (All-head IsUtf8 s (texts ks) all) g.utf8;
}
grown_under c n _ ks new all g = record { grows = g.grows; utf8 = g.utf8 }

pub grown_at : (c : ℕ) (ks : List KindValue) (n : ℕ) (before t : List ℕ) → get_or ks n document ≡ text before
    → IsUtf8 t → All IsUtf8 (texts ks) → Grown c (occurrences c t) ks (set ks n (text (before ++ t)))
grown_at c [] n before t e u all = absurd (cc)
grown_at c (k ∷ ks) zero before t e u all = grown_in_text c k before t ks e u all
grown_at c (k ∷ ks) (suc n) before t e u all =
    grown_under c (occurrences c t) k ks (set ks n (text (before ++ t))) all
    (grown_at c ks n before t e u (all_under k (texts ks) all))
