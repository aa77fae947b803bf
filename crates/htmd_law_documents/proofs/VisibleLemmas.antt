-- Texts and their visible characters.
use Rattle.std.proofs.Common.{◌≡◌, ℕ, Bool, true, false, cond, not, ◌&&◌, List, [], ◌∷◌, ◌++◌, filter, refl, sym, ap}
use Rattle.std.proofs.Common.{◌∙◌}
use Rattle.std.proofs.Common.{subst}
use Rattle.std.specs.Prelude.{encode_utf8, encode_utf8_all}
use Rattle.std.specs.Str.{chars, IsUtf8}
use Rattle.std.proofs.Math.Utf8.{scalars, scalar}
use Rattle.std.proofs.lemmas.List.{append-nil}
use Rattle.std.proofs.lemmas.List.Elements.{filter-append}
use Rattle.std.proofs.lemmas.Str.{chars-nil, chars-append, chars-encodes, scalars-chars, IsUtf8-append, IsUtf8-nil}
use Rattle.htmd_lexical.proofs.Cases.{test}
use Rattle.htmd_shown.specs.ShownTexts.{is_shown, shown_text}
use Rattle.htmd_shown.specs.Spaces.{is_white}
use Rattle.htmd_law_documents.specs.DocumentTexts.{is_visible, visible}

-- a text and its visible characters
pub record Shows (s cs : List ℕ) : Type 0 where
  pub utf8 : IsUtf8 s
  pub is : visible s ≡ cs

pub visible-append : (s t : List ℕ) → IsUtf8 s → visible (s ++ t) ≡ visible s ++ visible t
visible-append s t u = ap (filter is_visible) (chars-append s t u) ∙ filter-append is_visible (chars s) (chars t)

pub shows-append : (s t cs ds : List ℕ) → Shows s cs → Shows t ds → Shows (s ++ t) (cs ++ ds)
shows-append s t cs ds a b = record {
  utf8 = IsUtf8-append s t a.utf8 b.utf8;
  is = visible-append s t a.utf8 ∙ (ap (λ xs. xs ++ visible t) a.is ∙ ap (λ xs. cs ++ xs) b.is);
}

pub shows-nil : Shows [] []
shows-nil = record { utf8 = IsUtf8-nil; is = ap (filter is_visible) chars-nil }

pub shows-itself : (s : List ℕ) → IsUtf8 s → Shows s (visible s)
shows-itself s u = record { utf8 = u; is = refl }

pub text-same : (s t cs : List ℕ) → s ≡ t → Shows t cs → Shows s cs
text-same s t cs e h = subst (λ (x : List ℕ). Shows x cs) (sym e) h

pub seen-same : (s cs ds : List ℕ) → cs ≡ ds → Shows s cs → Shows s ds
seen-same s cs ds e h = record { utf8 = h.utf8; is = h.is ∙ e }

-- nothing more shows
pub shows-blank : (s t cs : List ℕ) → Shows s cs → Shows t [] → Shows (s ++ t) cs
shows-blank s t cs a b = seen-same (s ++ t) (cs ++ []) cs (append-nil cs) (shows-append s t cs [] a b)

-- ---- characters

pub both-true : (a b : Bool) → (a && b) ≡ true → (a ≡ true) × (b ≡ true)
both-true true b e = (refl, e)
both-true false b e = absurd (clash e)
  where
    clash : false ≡ true → ⊥
    clash p = (cc)

pub shows-encodes : (cs : List ℕ) → scalars cs ≡ true → Shows (encode_utf8_all cs) (filter is_visible cs)
shows-encodes cs h = record {
  utf8 = (cs, (h, refl));
  is = ap (filter is_visible) (chars-encodes cs h);
}

pub scalars-filter : (p : ℕ → Bool) (cs : List ℕ) → scalars cs ≡ true → scalars (filter p cs) ≡ true
scalars-filter p [] e = e
scalars-filter p (c ∷ cs) e =
    let parts = both-true (scalar c) (scalars cs) e in
    either (p c) c (filter p cs) parts.0 (scalars-filter p cs parts.1)
  where
    either : (b : Bool) (c : ℕ) (cs : List ℕ) → scalar c ≡ true → scalars cs ≡ true → scalars
        (cond b (c ∷ cs) cs) ≡ true
    either true c cs g h = ap (λ b. b && scalars cs) g ∙ h
    either false c cs g h = h

visible-shown : (cs : List ℕ) → filter is_visible (filter is_shown cs) ≡ filter is_visible cs
visible-shown [] = refl
visible-shown (c ∷ cs) =
    let rest : filter is_visible (filter is_shown cs) ≡ filter is_visible cs = visible-shown cs in
    test (is_shown c)
    (λ e. ap (λ b. filter is_visible (cond b (c ∷ filter is_shown cs) (filter is_shown cs))) e
    ∙ ap (λ xs. cond (is_visible c) (c ∷ xs) xs) rest)
    (λ e. ap (λ b. filter is_visible (cond b (c ∷ filter is_shown cs) (filter is_shown cs))) e
    ∙ (rest ∙ sym (ap (λ b. cond (b && not (is_white c)) (c ∷ filter is_visible cs) (filter is_visible cs)) e)))

-- the text that shows says what the text says
pub shown-shows : (s : List ℕ) → IsUtf8 s → Shows (shown_text s) (visible s)
shown-shows s u =
    seen-same (shown_text s) (filter is_visible (filter is_shown (chars s))) (visible s) (visible-shown (chars s))
    (shows-encodes (filter is_shown (chars s)) (scalars-filter is_shown (chars s) (scalars-chars s u)))

pub shows-character : (c : ℕ) → scalar c ≡ true → Shows (encode_utf8 c) (filter is_visible (c ∷ []))
shows-character c h = text-same (encode_utf8 c) (encode_utf8_all (c ∷ [])) (filter is_visible (c ∷ []))
    (sym (append-nil (encode_utf8 c)))
    (shows-encodes (c ∷ []) (ap (λ b. b && true) h))

pub and-false : (b : Bool) → (b && false) ≡ false
and-false true = refl
and-false false = refl

pub white-unseen : (c : ℕ) → is_white c ≡ true → filter is_visible (c ∷ []) ≡ []
white-unseen c h =
    ap (λ b. cond b (c ∷ []) []) (ap (λ b. is_shown c && not b) h ∙ and-false (is_shown c))

pub shows-white : (c : ℕ) → scalar c ≡ true → is_white c ≡ true → Shows (encode_utf8 c) []
shows-white c h w =
    seen-same (encode_utf8 c) (filter is_visible (c ∷ [])) [] (white-unseen c w) (shows-character c h)
