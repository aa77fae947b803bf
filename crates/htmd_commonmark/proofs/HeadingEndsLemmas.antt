-- The last number sign of a heading, with a backslash before it.
use Rattle.std.proofs.Common.{◌≡◌, ℕ, suc, ◌+◌, ◌-◌, ◌<◌, Bool, true, false, List, [], ◌∷◌, ◌++◌, length, get_or, take}
use Rattle.std.proofs.Common.{drop}
use Rattle.std.proofs.Common.{refl, sym, ap, subst, ◌∙◌, arith}
use Rattle.std.specs.Prelude.{codes, ◌&&◌, if◌then◌else◌}
use Rattle.std.specs.List.{suffix_len}
use Rattle.std.specs.String.Boundary.{IsSplitPoint}
use Rattle.std.proofs.lemmas.Bool.{and_parts, and_from, ltb-true, eqb-true}
use Rattle.std.proofs.lemmas.List.{append_assoc, length-append, take_all, drop_at, get_or-append_right}
use Rattle.std.proofs.lemmas.List.Sums.{suffix_len-take_no}
use Rattle.htmd_lexical.specs.Characters.{number_sign}
use Rattle.htmd_commonmark.specs.declared.inline_ends.Following.{Following}
use Rattle.htmd_commonmark.specs.declared.line.Line.{Line}
use Rattle.htmd_commonmark.specs.TextEscapes.{escaped}
use Rattle.htmd_commonmark.specs.InlineMarkdown.{is_number_sign, ends_in_closing_signs, with_last_escaped, place_of}
use Rattle.htmd_commonmark.specs.InlineMarkdown.{is_end_of_heading, with_text}
use Rattle.htmd_commonmark.specs.WrittenText.{Written}

-- such signs end the text
last_passes : (s : List ℕ) (b : Bool) → 0 < length s → 0 < suffix_len is_number_sign s
    → b ≡ is_number_sign (get_or s (length s - 1) 0) → get_or s (length s - 1) 0 ≡ number_sign
last_passes s true filled some e = eqb-true (get_or s (length s - 1) 0) number_sign (sym e)
last_passes s false filled some e =
    let none = suffix_len-take_no is_number_sign s (length s) 0 filled (omega arith) (sym e) in
    let none : suffix_len is_number_sign s ≡ 0 =
    ap (suffix_len is_number_sign) (sym (take_all (length s) s (omega arith))) ∙ none in
    absurd (omega arith)

some_signs : (s : List ℕ) → ends_in_closing_signs s ≡ true → 0 < suffix_len is_number_sign s
some_signs s ends = ltb-true 0 (suffix_len is_number_sign s) (and_parts _ _ ends).0

filled_by_signs : (s : List ℕ) → 0 < suffix_len is_number_sign s → 0 < length s
filled_by_signs [] some = absurd (omega arith)
filled_by_signs (b ∷ s) some = omega arith

-- what ends in closing signs isn't empty, and its last byte is a number sign
ends_in_sign : (s : List ℕ) → ends_in_closing_signs s ≡ true
    → (0 < length s) × (get_or s (length s - 1) 0 ≡ number_sign)
ends_in_sign s ends =
    let some = some_signs s ends in
    let filled = filled_by_signs s some in
    (filled, last_passes s (is_number_sign (get_or s (length s - 1) 0)) filled some refl)

take_past : (w e : List ℕ) (k : ℕ) → take (length w + k) (w ++ e) ≡ w ++ take k e
take_past [] e k =
    let none : 0 + k ≡ k = omega arith in
    ap (λ n. take n e) none
take_past (b ∷ w) e k =
    let more : length (b ∷ w) + k ≡ suc (length w + k) = omega arith in
    ap (λ n. take n (b ∷ (w ++ e))) more ∙ ap (λ l. b ∷ l) (take_past w e k)

-- the text before the last sign, and where it ends
without_sign : (w e : List ℕ) → 0 < length e
    → take (length (w ++ e) - 1) (w ++ e) ≡ w ++ take (length e - 1) e
without_sign w e filled =
    let at : length (w ++ e) - 1 ≡ length w + (length e - 1) = omega (arith, length-append w e) in
    ap (λ n. take n (w ++ e)) at ∙ take_past w e (length e - 1)

-- a text may be cut before its last sign
may_cut : (w e : List ℕ) → (0 < length e) × (get_or e (length e - 1) 0 ≡ number_sign)
    → IsSplitPoint (w ++ e) (length (w ++ e) - 1)
may_cut w e (filled, last) =
    let size = length-append w e in
    let at : get_or (w ++ e) (length (w ++ e) - 1) 0 ≡ number_sign =
    get_or-append_right w e (length w) (length (w ++ e) - 1) 0 refl (omega (arith, size))
    ∙ ap (λ n. get_or e n 0) (omega (arith, size)) ∙ last in
    (omega arith, λ some within high. absurd (omega (arith, at)))

-- What was put after a text ends in closing signs: `s` is both, and `part` what is seen from where the first ends.
pub record IsEnded (w e s part : List ℕ) (start size : ℕ) : Type 0 where
  pub whole : s ≡ w ++ e
  pub from : start ≡ length w
  pub seen : part ≡ s
  pub long : size ≡ length s
  pub ends : ends_in_closing_signs (drop start part) ≡ true

pub ended_part : (w e s part : List ℕ) (start size : ℕ) → IsEnded w e s part start size
    → ends_in_closing_signs e ≡ true
ended_part w e s part start size is =
    ap ends_in_closing_signs (sym (ap (drop start) (is.seen ∙ is.whole) ∙ drop_at w e start (sym is.from)))
    ∙ is.ends

pub ended-cut : (w e s part : List ℕ) (start size : ℕ) → IsEnded w e s part start size
    → IsSplitPoint s (size - 1)
ended-cut w e s part start size is =
    let cut = may_cut w e (ends_in_sign e (ended_part w e s part start size is)) in
    let whole : IsSplitPoint s (length s - 1) =
    subst (λ (l : List ℕ). IsSplitPoint l (length l - 1)) (sym is.whole) cut in
    subst (λ (n : ℕ). IsSplitPoint s (n - 1)) (sym is.long) whole

-- the last sign with a backslash
pub ended-escaped : (w e s part : List ℕ) (start size : ℕ) → IsEnded w e s part start size
    → take (size - 1) s ++ codes "\\#" ≡ w ++ with_last_escaped e
ended-escaped w e s part start size is =
    let filled = (ends_in_sign e (ended_part w e s part start size is)).0 in
    ap (λ n. take (n - 1) s ++ codes "\\#") is.long
    ∙ ap (λ l. take (length l - 1) l ++ codes "\\#") is.whole
    ∙ ap (λ l. l ++ codes "\\#") (without_sign w e filled)
    ∙ append_assoc w (take (length e - 1) e) (codes "\\#")

-- a text that ends a heading
pub with_text-ended : (line : Line) (w : Written) (f : Following) (s all : List ℕ)
    → is_end_of_heading line f ≡ true
    → ends_in_closing_signs (escaped (place_of line w.text f.after) s) ≡ true
    → all ≡ w.text ++ with_last_escaped (escaped (place_of line w.text f.after) s)
    → record { text = all; definitions = w.definitions } ≡ with_text line w f s
with_text-ended line w f s all last ends is =
    let e = escaped (place_of line w.text f.after) s in
    let both : (is_end_of_heading line f && ends_in_closing_signs e) ≡ true = and_from _ _ last ends in
    let text : all ≡ w.text
    ++ (if is_end_of_heading line f && ends_in_closing_signs e then with_last_escaped e else e) =
    is ∙ ap (λ b. w.text ++ (if b then with_last_escaped e else e)) (sym both) in
    let make : List ℕ → Written = λ t. record { text = t; definitions = w.definitions } in
    ap make text
