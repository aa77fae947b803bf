-- How the characters of a text or code come in, at the place where a line goes on.
use Rattle.std.proofs.Common.{◌≡◌, ℕ, Bool, true, false, not, ◌&&◌, ◌==◌, cond, if◌then◌else◌}
use Rattle.std.proofs.Common.{List, [], ◌∷◌}
use Rattle.std.proofs.Common.{◌++◌, length, map, take, fold, refl, sym, ap, ◌∙◌, subst, arith}
use Rattle.std.proofs.Common.{encode_utf8_all}
use Rattle.std.proofs.Common.{◌||◌, ◌+◌, ◌/◌, ◌%◌}
use Rattle.std.specs.Prelude.{encode_utf8}
use Rattle.std.specs.Prelude.{nat_lt}
use Rattle.std.proofs.lemmas.Bool.{and_parts}
use Rattle.std.proofs.lemmas.Bool.Decides.{nat_tests}
use Rattle.std.proofs.lemmas.List.{append_assoc, append-nil}
use Rattle.std.specs.Str.{chars}
use Rattle.std.specs.List.{list_all}
use Rattle.htmd_lexical.specs.Characters.{line_feed, space}
use Rattle.htmd_lexical.proofs.Cases.{test}
use Rattle.htmd_lexical.specs.CharacterClasses.{is_empty}
use Rattle.htmd_lexical.specs.WhiteSpace.{is_ascii_white_space}
use Rattle.htmd_document.specs.Documents.{Block, Inline, text, code, line_break, Inlines}
use Rattle.htmd_flow.specs.declared.paragraphs.Met.TheVariants as met
use Rattle.htmd_flow.specs.Nesting.{Wrapper, wrapper_of, shared, wrapped, text_or_code, joined, behind}
use Rattle.htmd_flow.specs.Paragraphs.{Writing, fed, after_character, after_leaf, latest_of, gap_before, white_behind}
use Rattle.htmd_flow.specs.Parts.{Around, run, break}
use Rattle.htmd_flow.proofs.ParagraphsLemmas.{shared-self}
use Rattle.htmd_shown.specs.Spaces as gap
use Rattle.htmd_shown.specs.Spaces.{Gap, no_gap, is_white}
use Rattle.htmd_shown.specs.Spaces.{shown_white, ends_with_space}
use Rattle.htmd_law_returning.proofs.NestLemmas.{deep, shared-deep, take-deep, IsHole, joined-twice}
use Rattle.htmd_law_returning.proofs.StartLemmas.{clean, true-false, from-not}
use Rattle.htmd_law_returning.proofs.StartLemmas.{Mode, in_blocks, in_item, one_line}
use Rattle.htmd_law_returning.specs.WholeLines.{ends_white_text}
use lib.Utf8.{encode}

-- white space that waits, as code or not, or none
abbrev pub gap_of : Bool → List ℕ → Gap
gap_of k g = record no_gap { white = g; is_code = is_empty g || k }

-- in a line: what stands in it, around its last leaf, whether that is code, and the gap after it
abbrev pub in_line : Mode → List Block → Inlines → List Wrapper → Bool → Gap → Writing
in_line flat done content around k gap = record (clean flat done) {
  content = content;
  latest = latest_of k;
  around = around;
  gap = gap;
  is_blank = false;
  met = met.More;
}

abbrev pub with_character : List Around → Bool → Writing → ℕ → Writing
with_character around k w c = after_character w around k c

-- inlines with the white space after them, if there is some
abbrev pub spaced : Bool → Inlines → List ℕ → Inlines
spaced k xs [] = xs
spaced k xs (b ∷ g) = joined xs (text_or_code k (b ∷ g))

-- single spaces between what shows, where a space came right before or not
abbrev pub are_spaced : Bool → List ℕ → Bool
are_spaced p [] = true
are_spaced p (c ∷ cs) =
    if c == space then not p && are_spaced true cs else not (is_ascii_white_space c) && are_spaced false cs

-- the white space at the end, with what came before
abbrev pub white_after : List ℕ → List ℕ → List ℕ
white_after g [] = g
white_after g (c ∷ cs) = if is_white c then white_after (g ++ encode_utf8 c) cs else white_after [] cs

pub none-after : (cs g : List ℕ) → is_empty cs ≡ false → ends_white_text cs ≡ false → white_after g cs
    ≡ []
none-after [] g some h = true-false some
none-after (c ∷ []) g some h = ap (λ b. cond b (g ++ encode_utf8 c) []) h
none-after (c ∷ d ∷ cs) g some h =
    either (is_white c) (none-after (d ∷ cs) (g ++ encode_utf8 c) refl h) (none-after (d ∷ cs) [] refl h)
  where
    either : (b : Bool) → white_after (g ++ encode_utf8 c) (d ∷ cs) ≡ [] → white_after [] (d ∷ cs) ≡ []
        → cond b (white_after (g ++ encode_utf8 c) (d ∷ cs)) (white_after [] (d ∷ cs)) ≡ []
    either true e f = e
    either false e f = f

-- characters one after another
abbrev pub each_joined : Bool → Inlines → List ℕ → Inlines
each_joined k xs [] = xs
each_joined k xs (c ∷ cs) = each_joined k (joined xs (text_or_code k (encode_utf8 c))) cs

pub joined-all : (k : Bool) (cs : List ℕ) (xs : Inlines) (s : List ℕ)
    → each_joined k (joined xs (text_or_code k s)) cs ≡ joined xs (text_or_code k (s ++ encode_utf8_all cs))
joined-all k [] xs s = ap (λ t. joined xs (text_or_code k t)) (sym (append-nil s))
joined-all k (c ∷ cs) xs s =
    ap (λ ys. each_joined k ys cs) (joined-twice k xs s (encode_utf8 c))
    ∙ (joined-all k cs xs (s ++ encode_utf8 c)
    ∙ ap (λ t. joined xs (text_or_code k t)) (append_assoc s (encode_utf8 c) (encode_utf8_all cs)))

pub shared-none : (ms : List Wrapper) → shared ms [] ≡ 0
shared-none [] = refl
shared-none (m ∷ ms) = refl

-- a character of a spaced text
pub record IsNext (p : Bool) (c : ℕ) (cs : List ℕ) : Type 0 where
  pub free : (is_ascii_white_space c && p) ≡ false
  pub shows : shown_white c ≡ c
  pub rest : are_spaced (c == space) cs ≡ true

pub next-spaced : (p : Bool) (c : ℕ) (cs : List ℕ) → are_spaced p (c ∷ cs) ≡ true → IsNext p c cs
next-spaced p c cs h = test (c == space)
    (λ e.
    let same : space ≡ c = grind (arith, nat_tests, e) in
    let parts = and_parts (not p) (are_spaced true cs)
    (sym (ap (λ b. cond b (not p && are_spaced true cs) (not (is_ascii_white_space c) && are_spaced false cs)) e)
    ∙ h) in
    record {
      free = ap (λ b. is_ascii_white_space c && b) (from-not p parts.0) ∙ and-false (is_ascii_white_space c);
      shows = either (is_ascii_white_space c) same;
      rest = ap (λ b. are_spaced b cs) e ∙ parts.1;
    })
    (λ e.
    let parts = and_parts (not (is_ascii_white_space c)) (are_spaced false cs)
    (sym (ap (λ b. cond b (not p && are_spaced true cs) (not (is_ascii_white_space c) && are_spaced false cs)) e)
    ∙ h) in
    let black : is_ascii_white_space c ≡ false = from-not (is_ascii_white_space c) parts.0 in
    record {
      free = ap (λ b. b && p) black;
      shows = ap (λ b. cond b space c) black;
      rest = ap (λ b. are_spaced b cs) e ∙ parts.1;
    })
  where
    either : (b : Bool) → space ≡ c → cond b space c ≡ c
    either true same = same
    either false same = refl

    and-false : (b : Bool) → (b && false) ≡ false
    and-false true = refl
    and-false false = refl

pub no-space : (c : ℕ) → is_white c ≡ false → (c == space) ≡ false
no-space c h = test (c == space)
    (λ e.
    let same : c ≡ space = grind (arith, nat_tests, e) in
    true-false (sym (ap is_white same) ∙ h))
    (λ e. e)

-- ---- white space that waits

ends-append : (g : List ℕ) (b : ℕ) (xs : List ℕ) → ends_with_space (g ++ b ∷ xs) ≡ ends_with_space
    (b ∷ xs)
ends-append [] b xs = refl
ends-append (a ∷ []) b xs = refl
ends-append (a ∷ d ∷ g) b xs = ends-append (d ∷ g) b xs

ends-behind : (g e : List ℕ) → is_empty e ≡ false → ends_with_space (g ++ e) ≡ ends_with_space e
ends-behind g [] h = true-false h
ends-behind g (b ∷ e) h = ends-append g b e

one-of-four : (c n x y z u v w : ℕ) (a b d : Bool)
    → ends_with_space (cond a (c ∷ []) (cond b (x ∷ n ∷ [])
    (cond d (y ∷ z ∷ n ∷ []) (u ∷ v ∷ w ∷ n ∷ []))))
    ≡ cond a (c == space) (n == space)
one-of-four c n x y z u v w true b d = refl
one-of-four c n x y z u v w false true d = refl
one-of-four c n x y z u v w false false true = refl
one-of-four c n x y z u v w false false false = refl

some-of-four : (c n x y z u v w : ℕ) (a b d : Bool)
    → is_empty (cond a (c ∷ []) (cond b (x ∷ n ∷ []) (cond d (y ∷ z ∷ n ∷ [])
    (u ∷ v ∷ w ∷ n ∷ [])))) ≡ false
some-of-four c n x y z u v w true b d = refl
some-of-four c n x y z u v w false true d = refl
some-of-four c n x y z u v w false false true = refl
some-of-four c n x y z u v w false false false = refl

pub some-bytes : (c : ℕ) → is_empty (encode_utf8 c) ≡ false
unfolding encode
some-bytes c =
    some-of-four c (128 + c % 64) (192 + c / 64) (224 + c / 4096) (128 + (c / 64) % 64) (240 + c / 262144)
    (128 + (c / 4096) % 64) (128 + (c / 64) % 64) (nat_lt c 128) (nat_lt c 2048) (nat_lt c 65536)

past-ascii : (c m : ℕ) → cond (nat_lt c 128) (c == space) (128 + m == space) ≡ (c == space)
past-ascii c m = test (nat_lt c 128)
    (λ e. ap (λ b. cond b (c == space) (128 + m == space)) e)
    (λ e.
    let left : (128 + m == space) ≡ false = grind (arith, nat_tests) in
    let right : (c == space) ≡ false = grind (arith, nat_tests, e) in
    ap (λ b. cond b (c == space) (128 + m == space)) e ∙ (left ∙ sym right))

bytes-end : (c : ℕ) → ends_with_space (encode_utf8 c) ≡ (c == space)
unfolding encode
bytes-end c =
    one-of-four c (128 + c % 64) (192 + c / 64) (224 + c / 4096) (128 + (c / 64) % 64) (240 + c / 262144)
    (128 + (c / 4096) % 64) (128 + (c / 64) % 64) (nat_lt c 128) (nat_lt c 2048) (nat_lt c 65536)
    ∙ past-ascii c (c % 64)

-- whether it ends with a space, after one more
ends-now : (g : List ℕ) (c : ℕ) → ends_with_space (g ++ encode_utf8 c) ≡ (c == space)
ends-now g c = ends-behind g (encode_utf8 c) (some-bytes c) ∙ bytes-end c

some-behind : (g e : List ℕ) → is_empty e ≡ false → is_empty (g ++ e) ≡ false
some-behind [] e h = h
some-behind (b ∷ g) e h = refl

spaced-some : (k : Bool) (xs : Inlines) (e : List ℕ) → is_empty e ≡ false
    → spaced k xs e ≡ joined xs (text_or_code k e)
spaced-some k xs [] h = true-false h
spaced-some k xs (b ∷ e) h = refl

-- one more
spaced-more : (k : Bool) (xs : Inlines) (g e : List ℕ) → is_empty e ≡ false
    → spaced k xs (g ++ e) ≡ joined (spaced k xs g) (text_or_code k e)
spaced-more k xs [] e h = spaced-some k xs e h
spaced-more k xs (b ∷ g) e h = sym (joined-twice k xs (b ∷ g) e)

-- a gap with one more white space
gap-more : (k k' : Bool) (g : List ℕ) (c : ℕ) (p : Bool) → ends_with_space g ≡ p
    → (is_ascii_white_space c && p) ≡ false → shown_white c ≡ c → (k' && k) ≡ k
    → gap.spaced (gap_of k' g) c k ≡ gap_of k (g ++ encode_utf8 c)
gap-more k k' g c p ends free shows e =
    let e1 : (is_ascii_white_space c && ends_with_space g) ≡ false =
    ap (λ b. is_ascii_white_space c && b) ends ∙ free in
    ap (λ b. cond b (gap_of k' g) (record (gap_of k' g) {
      white = g ++ encode_utf8 (shown_white c);
      is_code = (is_empty g || k') && k;
    })) e1
    ∙ (ap (λ x. record (gap_of k' g) { white = g ++ encode_utf8 x; is_code = (is_empty g || k') && k }) shows
    ∙ (ap (λ b. record (gap_of k' g) { white = g ++ encode_utf8 c; is_code = b }) (either (is_empty g) k' k e)
    ∙ ap (λ b. record (gap_of k' g) { white = g ++ encode_utf8 c; is_code = b || k })
    (sym (some-behind g (encode_utf8 c) (some-bytes c)))))
  where
    either : (a b d : Bool) → (b && d) ≡ d → ((a || b) && d) ≡ d
    either true b d h = refl
    either false b d h = h

module _ (flat : Mode) (done : List Block) (put : Inlines → Inlines) (around : List Around)
    (hole : IsHole put around) where
  -- where the line goes on after inlines in this hole; inner: what stands in it around the last leaf
  abbrev pub after : Inlines → List Wrapper → Bool → Gap → Writing
  after xs inner k gap = in_line flat done (put xs) (map wrapper_of around ++ inner) k gap

  -- at the same place after a gap
  pub hole-here : (xs : Inlines) (y : Inline) → behind (deep around 0) (put xs) around y ≡ put (joined xs y)
  hole-here xs y = ap (λ all. behind (deep around 0) (put xs) all y) (sym (append-nil around)) ∙ hole 0 xs [] y

  gap-here : (xs : Inlines) (inner : List Wrapper) (k : Bool) (g : List ℕ) (c : Bool) (more : List Around)
      → shared inner (map wrapper_of more) ≡ 0
      → shared (map wrapper_of around ++ inner) (map wrapper_of (around ++ more)) ≡ deep around 0
      → gap_before (after xs inner k (gap_of false g)) (around ++ more) c ≡ put (spaced false xs g)
  gap-here xs inner k [] c more h e = refl
  gap-here xs inner true (b ∷ g) true more h e =
      rw e (ap (λ all. behind (deep around 0) (put xs) all (text (b ∷ g))) (take-deep around more)
      ∙ hole-here xs (text (b ∷ g)))
  gap-here xs inner true (b ∷ g) false more h e =
      rw e (ap (λ all. behind (deep around 0) (put xs) all (text (b ∷ g))) (take-deep around more)
      ∙ hole-here xs (text (b ∷ g)))
  gap-here xs inner false (b ∷ g) true more h e =
      rw e (ap (λ all. behind (deep around 0) (put xs) all (text (b ∷ g))) (take-deep around more)
      ∙ hole-here xs (text (b ∷ g)))
  gap-here xs inner false (b ∷ g) false more h e =
      rw e (ap (λ all. behind (deep around 0) (put xs) all (text (b ∷ g))) (take-deep around more)
      ∙ hole-here xs (text (b ∷ g)))

  -- a leaf in what isn't open
  pub map-both : (xs ys : List Around) → map wrapper_of (xs ++ ys) ≡ map wrapper_of xs ++ map wrapper_of ys
  map-both [] ys = refl
  map-both (x ∷ xs) ys = ap (λ zs. wrapper_of x ∷ zs) (map-both xs ys)

  pub leaf-after : (xs : Inlines) (inner : List Wrapper) (k : Bool) (g : List ℕ) (c : Bool) (more : List Around)
      (y : Inline)
      → shared inner (map wrapper_of more) ≡ 0
      → after_leaf (after xs inner k (gap_of false g)) (around ++ more) c y
      ≡ in_line flat done (put (joined (spaced false xs g) (wrapped more y))) (map wrapper_of (around ++ more)) c
      no_gap
  leaf-after xs inner k g c more y h =
      let w : Writing = after xs inner k (gap_of false g) in
      let e : shared (map wrapper_of around ++ inner) (map wrapper_of (around ++ more)) ≡ deep around 0 =
      ap (shared (map wrapper_of around ++ inner)) (map-both around more)
      ∙ (shared-deep around inner (map wrapper_of more) ∙ ap (deep around) h) in
      whole flat k
      ∙ ap (λ x. in_line flat done x (map wrapper_of (around ++ more)) c no_gap)
      (ap (λ n. behind n (gap_before w (around ++ more) c) (around ++ more) y) e
      ∙ (ap (λ x. behind (deep around 0) x (around ++ more) y) (gap-here xs inner k g c more h e)
      ∙ hole 0 (spaced false xs g) more y))
    where
      whole : (flat' : Mode) (k' : Bool)
          → after_leaf (in_line flat' done (put xs) (map wrapper_of around ++ inner) k' (gap_of false g))
          (around ++ more) c y
          ≡ in_line flat' done
          (behind (shared (map wrapper_of around ++ inner) (map wrapper_of (around ++ more)))
          (gap_before (in_line flat' done (put xs) (map wrapper_of around ++ inner) k' (gap_of false g))
          (around ++ more) c)
          (around ++ more) y)
          (map wrapper_of (around ++ more)) c no_gap
      whole in_blocks true = refl
      whole in_blocks false = refl
      whole in_item true = refl
      whole in_item false = refl
      whole one_line true = refl
      whole one_line false = refl

  -- a leaf right here
  pub leaf-here : (xs : Inlines) (inner : List Wrapper) (k : Bool) (g : List ℕ) (c : Bool) (y : Inline)
      → after_leaf (after xs inner k (gap_of false g)) around c y ≡ after (joined (spaced false xs g) y) [] c no_gap
  leaf-here xs inner k g c y =
      subst (λ (all : List Around). after_leaf (after xs inner k (gap_of false g)) all c y
      ≡ in_line flat done (put (joined (spaced false xs g) y)) (map wrapper_of all) c no_gap)
      (append-nil around) (leaf-after xs inner k g c [] y (shared-none inner))
      ∙ ap (λ ms. in_line flat done (put (joined (spaced false xs g) y)) ms c no_gap)
      (sym (append-nil (map wrapper_of around)))

  -- ---- breaks

  -- after a break, with the line's end that a page has there or without it
  abbrev pub gap_past : Bool → Gap
  gap_past true = record { white = space ∷ []; has_break = true; is_code = false }
  gap_past false = record { white = []; has_break = true; is_code = true }

  abbrev pub past_break : Bool → Inlines → List Wrapper → Bool → Writing
  past_break ended xs inner k = record (after xs inner k (gap_past ended)) { breaks = 1 }

  pub break-fed : (xs : Inlines) (inner : List Wrapper) (k : Bool)
      → fed (fed (after xs inner k no_gap) break) (run (line_feed ∷ []) around false) ≡ past_break true xs inner k
  unfolding chars encode
  break-fed xs inner k = refl

  pub leaf-past-break : (ended : Bool) (xs : Inlines) (inner : List Wrapper) (k c : Bool) (more : List Around)
      (y : Inline)
      → shared inner (map wrapper_of more) ≡ 0
      → after_leaf (past_break ended xs inner k) (around ++ more) c y
      ≡ in_line flat done (put (joined (joined xs line_break) (wrapped more y))) (map wrapper_of (around ++ more)) c
      no_gap
  leaf-past-break ended xs inner k c more y h =
      let e : shared (map wrapper_of around ++ inner) (map wrapper_of (around ++ more)) ≡ deep around 0 =
      ap (shared (map wrapper_of around ++ inner)) (map-both around more)
      ∙ (shared-deep around inner (map wrapper_of more) ∙ ap (deep around) h) in
      whole ended flat k
      ∙ ap (λ x. in_line flat done x (map wrapper_of (around ++ more)) c no_gap)
      (ap (λ n. behind n (behind n (put xs) (take n (around ++ more)) line_break) (around ++ more) y) e
      ∙ (ap (λ all. behind (deep around 0) (behind (deep around 0) (put xs) all line_break) (around ++ more) y)
      (take-deep around more)
      ∙ (ap (λ x. behind (deep around 0) x (around ++ more) y) (hole-here xs line_break)
      ∙ hole 0 (joined xs line_break) more y)))
    where
      whole : (ended' : Bool) (flat' : Mode) (k' : Bool)
          → after_leaf (record (in_line flat' done (put xs) (map wrapper_of around ++ inner) k'
          (gap_past ended')) { breaks = 1 })
          (around ++ more) c y
          ≡ in_line flat' done
          (behind (shared (map wrapper_of around ++ inner) (map wrapper_of (around ++ more)))
          (behind (shared (map wrapper_of around ++ inner) (map wrapper_of (around ++ more))) (put xs)
          (take (shared (map wrapper_of around ++ inner) (map wrapper_of (around ++ more)))
          (around ++ more)) line_break)
          (around ++ more) y)
          (map wrapper_of (around ++ more)) c no_gap
      whole true in_blocks true = refl
      whole true in_blocks false = refl
      whole true in_item true = refl
      whole true in_item false = refl
      whole true one_line true = refl
      whole true one_line false = refl
      whole false in_blocks true = refl
      whole false in_blocks false = refl
      whole false in_item true = refl
      whole false in_item false = refl
      whole false one_line true = refl
      whole false one_line false = refl

  -- ---- text

  pub record IsRun (xs : Inlines) (inner : List Wrapper) (k : Bool) (g cs : List ℕ) : Type 0 where
    pub ys : Inlines
    pub within : List Wrapper
    pub last : Bool
    pub is : fold (with_character around false) (after xs inner k (gap_of false g)) cs
        ≡ after ys within last (gap_of false (white_after g cs))
    pub all : spaced false ys (white_after g cs) ≡ each_joined false (spaced false xs g) cs
    pub shows : list_all is_white cs ≡ false → within ≡ []
    pub stays : list_all is_white cs ≡ true → within ≡ inner

  white-here : (xs : Inlines) (inner : List Wrapper) (k : Bool) (g : List ℕ) (c : ℕ) (p : Bool) → is_white c
      ≡ true
      → ends_with_space g ≡ p → (is_ascii_white_space c && p) ≡ false → shown_white c ≡ c
      → with_character around false (after xs inner k (gap_of false g)) c
      ≡ after xs inner k (gap_of false (g ++ encode_utf8 c))
  white-here xs inner k g c p h ends free shows =
      rw h (ap (after xs inner k) (gap-more false false g c p ends free shows refl))

  pub black-here : (xs : Inlines) (inner : List Wrapper) (k : Bool) (g : List ℕ) (c' : Bool) (c : ℕ)
      → is_white c ≡ false
      → with_character around c' (after xs inner k (gap_of false g)) c
      ≡ after (joined (spaced false xs g) (text_or_code c' (encode_utf8 c))) [] c' no_gap
  black-here xs inner k g c' c h = rw h (leaf-here xs inner k g c' (text_or_code c' (encode_utf8 c)))

  pub text-run : (cs : List ℕ) (xs : Inlines) (inner : List Wrapper) (k : Bool) (g : List ℕ) (p : Bool)
      → ends_with_space g ≡ p → are_spaced p cs ≡ true → IsRun xs inner k g cs
  text-run [] xs inner k g p ends h = record {
    ys = xs;
    within = inner;
    last = k;
    is = refl;
    all = refl;
    shows = λ e. true-false e;
    stays = λ e. refl;
  }
  text-run (c ∷ cs) xs inner k g p ends h =
      let next : IsNext p c cs = next-spaced p c cs h in
      test (is_white c)
      (λ e.
      let more : List ℕ = g ++ encode_utf8 c in
      let rest : IsRun xs inner k more cs = text-run cs xs inner k more (c == space) (ends-now g c) next.rest in
      record {
        ys = rest.ys;
        within = rest.within;
        last = rest.last;
        is = ap (λ w. fold (with_character around false) w cs)
            (white-here xs inner k g c p e ends next.free next.shows)
            ∙ (rest.is ∙ ap (λ b. after rest.ys rest.within rest.last
            (gap_of false (cond b (white_after more cs) (white_after [] cs)))) (sym e));
        all = ap (λ b. spaced false rest.ys (cond b (white_after more cs) (white_after [] cs))) e
            ∙ (rest.all
            ∙ ap (λ ys. each_joined false ys cs) (spaced-more false xs g (encode_utf8 c) (some-bytes c)));
        shows = λ f. rest.shows (sym (ap (λ b. b && list_all is_white cs) e) ∙ f);
        stays = λ f. rest.stays (and_parts (is_white c) (list_all is_white cs) f).1;
      })
      (λ e.
      let zs : Inlines = joined (spaced false xs g) (text (encode_utf8 c)) in
      let black : (c == space) ≡ false = no-space c e in
      let rest : IsRun zs [] false [] cs =
      text-run cs zs [] false [] false refl (ap (λ b. are_spaced b cs) (sym black) ∙ next.rest) in
      record {
        ys = rest.ys;
        within = rest.within;
        last = rest.last;
        is = ap (λ w. fold (with_character around false) w cs) (black-here xs inner k g false c e)
            ∙ (rest.is ∙ ap (λ b. after rest.ys rest.within rest.last
            (gap_of false (cond b (white_after (g ++ encode_utf8 c) cs) (white_after [] cs)))) (sym e));
        all = ap (λ b. spaced false rest.ys (cond b (white_after (g ++ encode_utf8 c) cs) (white_after [] cs))) e
            ∙ rest.all;
        shows = λ f. test (list_all is_white cs) rest.stays rest.shows;
        stays = λ f. true-false (sym (and_parts (is_white c) (list_all is_white cs) f).0 ∙ e);
      })

  -- ---- code

  -- the same place, by what stands around it alone
  abbrev pub here : Inlines → List ℕ → Writing
  here xs g = in_line flat done (put xs) (map wrapper_of around) true (gap_of true g)

  pub record IsCodeRun (xs : Inlines) (g cs : List ℕ) : Type 0 where
    pub ys : Inlines
    pub is : fold (with_character around true) (here xs g) cs ≡ here ys (white_after g cs)
    pub all : spaced true ys (white_after g cs) ≡ each_joined true (spaced true xs g) cs

  code-gap : (xs : Inlines) (g : List ℕ) → gap_before (here xs g) around true ≡ put (spaced true xs g)
  code-gap xs [] = refl
  code-gap xs (b ∷ g) =
      let n : ℕ = length (map wrapper_of around) in
      let self : shared (map wrapper_of around) (map wrapper_of around) ≡ n = shared-self (map wrapper_of around) in
      let equal : (n == n) ≡ true = grind (arith, nat_tests) in
      let e : shared (map wrapper_of around) (map wrapper_of around) ≡ deep around 0 =
      ap (λ ms. shared ms ms) (sym (append-nil (map wrapper_of around))) ∙ shared-deep around [] [] in
      ap (λ x. white_behind (shared (map wrapper_of around) (map wrapper_of around)) (put xs) around x (b ∷ g))
      (ap (λ m. (m == n) && (m == n)) self ∙ (ap (λ x. x && (n == n)) equal ∙ equal))
      ∙ (ap (λ m. behind m (put xs) (take m around) (code (b ∷ g))) e
      ∙ (ap (λ all. behind (deep around 0) (put xs) all (code (b ∷ g)))
      (ap (take (deep around 0)) (sym (append-nil around)) ∙ take-deep around [])
      ∙ hole-here xs (code (b ∷ g))))

  code-leaf : (xs : Inlines) (g : List ℕ) (y : Inline)
      → after_leaf (here xs g) around true y ≡ here (joined (spaced true xs g) y) []
  code-leaf xs g y =
      let e : shared (map wrapper_of around) (map wrapper_of around) ≡ deep around 0 =
      ap (λ ms. shared ms ms) (sym (append-nil (map wrapper_of around))) ∙ shared-deep around [] [] in
      whole flat
      ∙ ap (λ x. in_line flat done x (map wrapper_of around) true no_gap)
      (ap (λ n. behind n (gap_before (here xs g) around true) around y) e
      ∙ (ap (λ x. behind (deep around 0) x around y) (code-gap xs g) ∙ hole-here (spaced true xs g) y))
    where
      whole : (flat' : Mode)
          → after_leaf (in_line flat' done (put xs) (map wrapper_of around) true (gap_of true g)) around true y
          ≡ in_line flat' done
          (behind (shared (map wrapper_of around) (map wrapper_of around))
          (gap_before (in_line flat' done (put xs) (map wrapper_of around) true (gap_of true g)) around true) around y)
          (map wrapper_of around) true no_gap
      whole in_blocks = refl
      whole in_item = refl
      whole one_line = refl

  code-white : (xs : Inlines) (g : List ℕ) (c : ℕ) (p : Bool) → is_white c ≡ true → ends_with_space g ≡ p
      → (is_ascii_white_space c && p) ≡ false → shown_white c ≡ c
      → with_character around true (here xs g) c ≡ here xs (g ++ encode_utf8 c)
  code-white xs g c p h ends free shows =
      rw h (ap (λ x. in_line flat done (put xs) (map wrapper_of around) true x)
      (gap-more true true g c p ends free shows refl))

  black-code : (xs : Inlines) (g : List ℕ) (c : ℕ) → is_white c ≡ false
      → with_character around true (here xs g) c ≡ here (joined (spaced true xs g) (code (encode_utf8 c))) []
  black-code xs g c h = rw h (code-leaf xs g (code (encode_utf8 c)))

  pub code-run : (cs : List ℕ) (xs : Inlines) (g : List ℕ) (p : Bool) → ends_with_space g ≡ p
      → are_spaced p cs ≡ true → IsCodeRun xs g cs
  code-run [] xs g p ends h = record { ys = xs; is = refl; all = refl }
  code-run (c ∷ cs) xs g p ends h =
      let next : IsNext p c cs = next-spaced p c cs h in
      test (is_white c)
      (λ e.
      let more : List ℕ = g ++ encode_utf8 c in
      let rest : IsCodeRun xs more cs = code-run cs xs more (c == space) (ends-now g c) next.rest in
      record {
        ys = rest.ys;
        is = ap (λ w. fold (with_character around true) w cs) (code-white xs g c p e ends next.free next.shows)
            ∙ (rest.is ∙ ap (λ b. here rest.ys (cond b (white_after more cs) (white_after [] cs))) (sym e));
        all = ap (λ b. spaced true rest.ys (cond b (white_after more cs) (white_after [] cs))) e
            ∙ (rest.all ∙ ap (λ ys. each_joined true ys cs)
            (spaced-more true xs g (encode_utf8 c) (some-bytes c)));
      })
      (λ e.
      let zs : Inlines = joined (spaced true xs g) (code (encode_utf8 c)) in
      let rest : IsCodeRun zs [] cs =
      code-run cs zs [] false refl (ap (λ b. are_spaced b cs) (sym (no-space c e)) ∙ next.rest) in
      record {
        ys = rest.ys;
        is = ap (λ w. fold (with_character around true) w cs) (black-code xs g c e)
            ∙ (rest.is ∙ ap (λ b. here rest.ys (cond b (white_after (g ++ encode_utf8 c) cs) (white_after [] cs)))
            (sym e));
        all = ap (λ b. spaced true rest.ys (cond b (white_after (g ++ encode_utf8 c) cs) (white_after [] cs))) e
            ∙ rest.all;
      })
