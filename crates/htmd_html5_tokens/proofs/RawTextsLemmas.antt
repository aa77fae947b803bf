-- How many bytes of a script are left.
use Rattle.std.proofs.Common.{◌≡◌, ℕ, suc, ◌+◌, ◌-◌, ◌<◌, ◌≤◌, true, false, List, [], ◌∷◌, length, take, drop, get_or}
use Rattle.std.proofs.Common.{refl, ap, sym, ◌∙◌, subst, arith, codes}
use Rattle.std.proofs.lemmas.List.{drop_more}
use Rattle.std.proofs.lemmas.Slice.{between_to_end}
use Rattle.std.proofs.lemmas.Str.{IsCharBoundary-end}
use Rattle.std.specs.Prelude.{◌==◌}
use Rattle.std.specs.Str.{IsCharBoundary}
use Rattle.htmd_lexical.proofs.Cases.{test}
use Rattle.htmd_lexical.specs.EndTags.{begins_own_end}
use Rattle.htmd_html5_tokens.specs.RawTexts.{ends_script, escape_after, script_len, own_text_len, raw_text_len}
use Rattle.htmd_html5_tokens.specs.declared.raw_texts.Escape.{Escape}
use Rattle.htmd_html5_tokens.specs.declared.raw_texts.Escape.TheVariants.{Unescaped, Escaped, DoublyEscaped}
use Rattle.htmd_lexical.specs.declared.content_model.RawElement.{RawElement}
use Rattle.htmd_lexical.specs.declared.content_model.RawElement.TheVariants.{Title, Textarea, Style, Xmp, Iframe}
use Rattle.htmd_lexical.specs.declared.content_model.RawElement.TheVariants.{Noembed, Noframes, Noscript, Script}
use Rattle.htmd_lexical.specs.declared.content_model.RawElement.TheVariants.{Plaintext}
use Rattle.htmd_html5_tokens.proofs.BeginningsLemmas.{BeginsAscii, cut_up_to, same}

module _ (s : List ℕ) (i : ℕ) (e : Escape) (l : i < length s) where
  abbrev here : List ℕ
  here = take (length s - i) (drop i s)

  all : here ≡ get_or s i 0 ∷ drop (i + 1) s
  all = between_to_end s i (length s) (omega arith) ∙ drop_more s i 0 l

  -- one more byte of it
  pub script_more : (next : Escape) → ends_script e here ≡ false → next ≡ escape_after e here
      → script_len e (drop i s) ≡ suc (script_len next (drop (i + 1) s))
  script_more next off same =
      let o : ends_script e (get_or s i 0 ∷ drop (i + 1) s) ≡ false = ap (ends_script e) (sym all) ∙ off in
      let n : escape_after e (get_or s i 0 ∷ drop (i + 1) s) ≡ next = ap (escape_after e) (sym all) ∙ sym same in
      rw (drop_more s i 0 l, o, n) refl

  -- it ends
  pub script_ends : ends_script e here ≡ true → script_len e (drop i s) ≡ 0
  script_ends on =
      let o : ends_script e (get_or s i 0 ∷ drop (i + 1) s) ≡ true = ap (ends_script e) (sym all) ∙ on in
      rw (drop_more s i 0 l, o) refl

-- ---- where a raw text ends

own_end_begins : (n t : List ℕ) → begins_own_end n t ≡ true → BeginsAscii t
own_end_begins n [] e = absurd (cc)
own_end_begins n (b ∷ []) e = absurd (cc)
own_end_begins n (b ∷ c ∷ t) e =
    test (b == 60) (λ q. (omega arith, omega (arith, same b 60 q)))
    (λ q. absurd (let f : false ≡ true = rw q at e in cc))

script_end_begins : (e : Escape) (t : List ℕ) → ends_script e t ≡ true → BeginsAscii t
script_end_begins Unescaped t h = own_end_begins (codes "script") t h
script_end_begins Escaped t h = own_end_begins (codes "script") t h
script_end_begins DoublyEscaped t h = absurd (cc)

script_within : (e : Escape) (s : List ℕ) → script_len e s ≤ length s
script_within e [] = omega arith
script_within e (b ∷ s) =
    let w = script_within (escape_after e (b ∷ s)) s in
    test (ends_script e (b ∷ s)) (λ q. rw q (omega arith)) (λ q. rw q (omega arith))

script_stops : (e : Escape) (s : List ℕ) → script_len e s < length s → get_or s (script_len e s) 0 < 128
script_stops e [] l = absurd (omega arith)
script_stops e (b ∷ s) l =
    test (ends_script e (b ∷ s)) (λ q. rw q ((script_end_begins e (b ∷ s) q).1))
    (λ q. let m = rw q at l in rw q (script_stops (escape_after e (b ∷ s)) s (omega arith)))

script_cut : (s : List ℕ) (n : ℕ) → n ≡ script_len Unescaped s → IsCharBoundary s n
script_cut s n e = (
  omega (arith, script_within Unescaped s),
  λ l high.
      let a = script_stops Unescaped s (omega (arith, e)) in
      let b : get_or s n 0 < 128 = omega (arith, a, ap (λ k. get_or s k 0) e) in
      absurd (omega arith),
)

own_cut : (name s : List ℕ) (n : ℕ) → n ≡ own_text_len name s → IsCharBoundary s n
own_cut name s n e = cut_up_to (begins_own_end name) s n e (own_end_begins name)

-- the text may be cut there
pub raw_cut : (element : RawElement) (s : List ℕ) (n : ℕ) → n ≡ raw_text_len element s → IsCharBoundary s n
raw_cut Title s n e = own_cut (codes "title") s n e
raw_cut Textarea s n e = own_cut (codes "textarea") s n e
raw_cut Style s n e = own_cut (codes "style") s n e
raw_cut Xmp s n e = own_cut (codes "xmp") s n e
raw_cut Iframe s n e = own_cut (codes "iframe") s n e
raw_cut Noembed s n e = own_cut (codes "noembed") s n e
raw_cut Noframes s n e = own_cut (codes "noframes") s n e
raw_cut Noscript s n e = own_cut (codes "noscript") s n e
raw_cut Script s n e = script_cut s n e
raw_cut Plaintext s n e = subst (IsCharBoundary s) (sym e) (IsCharBoundary-end s)
