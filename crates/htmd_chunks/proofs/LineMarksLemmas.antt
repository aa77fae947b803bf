-- The marks of a line put at most one backslash more into a text, before a byte that is no sign of a mark.
use Rattle.std.proofs.Common.{◌≡◌, ℕ, suc, ◌+◌, ◌-◌, ◌<◌, Bool, true, false, cond, List, [], ◌∷◌, ◌++◌}
use Rattle.std.proofs.Common.{length, drop, refl, sym, ap, ◌∙◌, subst, append_assoc, arith}
use Rattle.std.proofs.Common.{Option, Some, None, codes, length-append}
use Rattle.std.specs.Prelude.{◌==◌, ◌&&◌, ◌||◌, nat_le, nat_lt, slice_index}
use Rattle.std.specs.Char.{is_ascii, is_ascii_digit}
use Rattle.std.specs.List.{list_all, prefix_len}
use Rattle.std.proofs.lemmas.Bool.{or_right}
use Rattle.std.proofs.lemmas.Bool.Decides.{nat_tests}
use Rattle.htmd_lexical.specs.Characters.{backslash}
use Rattle.htmd_lexical.specs.Characters.{hyphen, colon, number_sign, is_one_of}
use Rattle.htmd_lexical.specs.CharacterClasses.{first_is}
use Rattle.htmd_text.specs.EscapedPlaces.{is_place}
use Rattle.htmd_text.specs.ListMarkers.{number_signs}
use Rattle.htmd_commonmark.specs.LineMarks.{ends_marker, is_bullet, is_dashes, is_heading_marker, begins_block}
use Rattle.htmd_commonmark.specs.LineMarks.{number_mark, line_mark}
use Rattle.htmd_commonmark.specs.TextEscapes.{is_marked, escaped}
use Rattle.htmd_chunks.proofs.CleanTextsLemmas.{one-byte}
use Rattle.htmd_chunks.proofs.ShiftsLemmas.{Plain, Sign, asterisks, underscores, tildes}
use Rattle.htmd_commonmark.proofs.TextEscapesLemmas.{mark_is_ascii}
use Rattle.htmd_chunks.proofs.MergedTextsLemmas.{index-at, inline_at, line_at, marked_at, marked-is, put_marks}
use Rattle.htmd_chunks.proofs.MergedTextsLemmas.{escaped-is}
use Rattle.htmd_chunks.proofs.MergedTextsLemmas.{same-marks, mono-or, keep, numbered, later-place, standing}
use Rattle.htmd_chunks.proofs.MergedTextsLemmas.{inline_alone}

-- the first has at most one backslash more, before a byte that is no sign of a mark
pub data Differ (a b : List ℕ) : Type 0 where
  no_other : a ≡ b → Differ a b
  one_other : (q : List ℕ) (c : ℕ) (v : List ℕ) → a ≡ (q ++ 92 ∷ []) ++ c ∷ v → b ≡ q ++ c ∷ v
      → Plain c → Differ a b

behind-both : (p a b : List ℕ) → Differ a b → Differ (p ++ a) (p ++ b)
behind-both p a b (no_other is) = no_other (ap (λ l. p ++ l) is)
behind-both p a b (one_other q c v left right plain) =
    one_other (p ++ q) c v
    (ap (λ l. p ++ l) left ∙ sym (append_assoc p (q ++ 92 ∷ []) (c ∷ v))
    ∙ ap (λ l. l ++ c ∷ v) (sym (append_assoc p q (92 ∷ []))))
    (ap (λ l. p ++ l) right ∙ sym (append_assoc p q (c ∷ v))) plain

block-plain : (b : ℕ) (x y z w : Bool)
    → (is_one_of (codes "=>|") b || (is_one_of (codes "-+") b && x) || ((b == hyphen) && y) || ((b == colon) && z)
    || ((b == number_sign) && w)) ≡ true
    → ((b == 92) ≡ false) × ((b == 10) ≡ false) × ((b == 42) ≡ false) × ((b == 95) ≡ false)
    × ((b == 126) ≡ false)
block-plain b x y z w e = (
  grind (arith, nat_tests),
  grind (arith, nat_tests),
  grind (arith, nat_tests),
  grind (arith, nat_tests),
  grind (arith, nat_tests),
)

number-plain : (b : ℕ) → is_one_of (codes ".)") b ≡ true
    → ((b == 92) ≡ false) × ((b == 10) ≡ false) × ((b == 42) ≡ false) × ((b == 95) ≡ false)
    × ((b == 126) ≡ false)
number-plain b e = (
  grind (arith, nat_tests),
  grind (arith, nat_tests),
  grind (arith, nat_tests),
  grind (arith, nat_tests),
  grind (arith, nat_tests),
)

abbrev Others : ℕ → Type 0
Others b =
    ((b == 92) ≡ false) × ((b == 10) ≡ false) × ((b == 42) ≡ false) × ((b == 95) ≡ false)
    × ((b == 126) ≡ false)

heading-sign : (b : ℕ) (s : List ℕ) (after : Option ℕ) → is_heading_marker (b ∷ s) after ≡ true
    → ((b == number_sign) && true) ≡ true
heading-sign b s after h =
    elim (b == number_sign)
    as (λ e. (nat_le 1 (cond e (1 + prefix_len (λ c. c == number_sign) s) 0)
    && nat_le (number_signs (b ∷ s)) 6 && ends_marker (drop (number_signs (b ∷ s)) (b ∷ s)) after) ≡ true
    → (e && true) ≡ true) [
      | true ↦ λ k. refl
      | false ↦ λ k. absurd (cc)
    ] h

block-others : (b : ℕ) (s : List ℕ) (after : Option ℕ) → begins_block b s after ≡ true → Others b
block-others b s after h =
    let rest = is_one_of (codes "=>|") b || is_bullet b s after || is_dashes b s
    || ((b == colon) && first_is hyphen s) in
    block-plain b (ends_marker s after) (list_all (is_one_of (codes "-:| ")) s) (first_is hyphen s) true
    (mono-or rest (is_heading_marker (b ∷ s) after) rest ((b == number_sign) && true) (keep rest)
    (heading-sign b s after) h)

line-others : (h : List ℕ) (b : ℕ) (z : List ℕ) (after : Option ℕ)
    → is_place (line_mark (h ++ b ∷ z) after) (length h) ≡ true → Others b
line-others [] b z after is =
    elim (begins_block b z after)
    as (λ e. begins_block b z after ≡ e → is_place (cond e (Some 0) (number_mark (b ∷ z) after)) 0 ≡ true
    → Others b) [
      | true ↦ λ block k. block-others b z after block
      | false ↦ λ block k.
          (let n = numbered (prefix_len is_ascii_digit (b ∷ z)) 0 (b ∷ z) after k in
          absurd (let bad : false ≡ true = ap (nat_le 1) n.place ∙ n.least in cc))
    ] refl is
line-others (c ∷ h) b z after is =
    let s = h ++ b ∷ z in
    elim (begins_block c s after)
    as (λ e. is_place (cond e (Some 0) (number_mark (c ∷ s) after)) (suc (length h)) ≡ true → Others b) [
      | true ↦ λ k. absurd (let bad : false ≡ true = sym (later-place (length h)) ∙ k in cc)
      | false ↦ λ k.
          (let n = numbered (prefix_len is_ascii_digit (c ∷ s)) (suc (length h)) (c ∷ s) after k in
          number-plain b (ap (is_one_of (codes ".)"))
          (sym (index-at (c ∷ h) b z) ∙ ap (slice_index (c ∷ s)) n.place)
          ∙ n.sign))
    ] is

-- the byte that a mark of a line stands before
line-plain : (h : List ℕ) (b : ℕ) (z : List ℕ) (after : Option ℕ)
    → is_place (line_mark (h ++ b ∷ z) after) (length h) ≡ true → Plain b
line-plain h b z after is =
    let place = standing true None after in
    let other = line-others h b z after is in
    let marked : is_marked place (h ++ b ∷ z) (length h) ≡ true =
    marked-is place h b z ∙ or_right (inline_at place h b z) (line_at place h b z) is in
    let ascii : is_ascii b ≡ true =
    ap is_ascii (sym (index-at h b z)) ∙ mark_is_ascii place (h ++ b ∷ z) (length h) marked in
    let low : b < 128 = grind (arith, nat_tests, ascii) in
    let test : nat_lt b 128 ≡ true = grind (arith, nat_tests, low) in
    record {
      ascii = one-byte b low;
      bits = ap (λ e. cond e b (cond (nat_lt b 224) (b - 192) (cond (nat_lt b 240) (b - 224) (b - 240)))) test;
      backslash = other.0;
      line = other.1;
      sign = λ sign a_sign. by b other sign a_sign;
    }
  where
    by : (b : ℕ) → Others b → (sign : ℕ) → Sign sign → (b == sign) ≡ false
    by b other sign asterisks = other.2
    by b other sign underscores = other.3
    by b other sign tildes = other.4

other-place : (o : Option ℕ) (n k : ℕ) → is_place o n ≡ true → n < k → is_place o k ≡ false
other-place None n k is lt = refl
other-place (Some p) n k is lt = grind (arith, nat_tests, is, lt)

differ : (after : Option ℕ) (h z : List ℕ)
    → Differ (put_marks (marked_at (standing true None after)) h z) (put_marks (inline_alone after) h z)
differ after h [] = no_other refl
differ after h (b ∷ z) =
    let place = standing true None after in
    let m = marked_at place in
    let n = inline_alone after in
    let o = line_mark (h ++ b ∷ z) after in
    let u = put_marks m (h ++ b ∷ []) z in
    let v = put_marks n (h ++ b ∷ []) z in
    let rest = differ after (h ++ b ∷ []) z in
    elim (n h b z)
    as (λ e. Differ (cond (e || (true && is_place o (length h))) (backslash ∷ b ∷ u) (b ∷ u))
    (cond e (backslash ∷ b ∷ v) (b ∷ v))) [
      | true ↦ behind-both (backslash ∷ b ∷ []) u v rest
      | false ↦
          elim (is_place o (length h))
          as (λ e. is_place o (length h) ≡ e → Differ (cond e (backslash ∷ b ∷ u) (b ∷ u)) (b ∷ v)) [
            | true ↦ λ is.
                one_other [] b v
                (ap (λ l. backslash ∷ b ∷ l) (same-marks m n (h ++ b ∷ []) (h ++ b ∷ []) z
                (λ x c y split. no-line x c y split is)))
                refl (line-plain h b z after is)
            | false ↦ λ is. behind-both (b ∷ []) u v rest
          ] refl
    ]
  where
    right : (e : Bool) → (e || false) ≡ e
    right true = refl
    right false = refl

    no-line : (x : List ℕ) (c : ℕ) (y : List ℕ) → x ++ c ∷ y ≡ z
        → is_place (line_mark (h ++ b ∷ z) after) (length h) ≡ true
        → marked_at (standing true None after) ((h ++ b ∷ []) ++ x) c y
        ≡ inline_alone after ((h ++ b ∷ []) ++ x) c y
    no-line x c y split is =
        let g = (h ++ b ∷ []) ++ x in
        let whole : g ++ c ∷ y ≡ h ++ b ∷ z =
        append_assoc (h ++ b ∷ []) x (c ∷ y) ∙ append_assoc h (b ∷ []) (x ++ c ∷ y)
        ∙ ap (λ l. h ++ b ∷ l) split in
        let longer : length h < length g =
        omega (arith, length-append (h ++ b ∷ []) x, length-append h (b ∷ [])) in
        ap (λ s. inline_alone after g c y || is_place (line_mark s after) (length g)) whole
        ∙ ap (λ e. inline_alone after g c y || e)
        (other-place (line_mark (h ++ b ∷ z) after) (length h) (length g) is longer)
        ∙ right (inline_alone after g c y)

-- what is written of a text alone, and without the marks of a line
pub line-differs : (after : Option ℕ) (f : List ℕ)
    → Differ (escaped (standing true None after) f) (put_marks (inline_alone after) [] f)
line-differs after f =
    subst (λ l. Differ l (put_marks (inline_alone after) [] f)) (sym (escaped-is (standing true None after) f))
    (differ after [] f)
