-- Lines in which no white space stands at the ends and beside breaks, and no format after itself with white space alone
-- between.
use Rattle.std.proofs.Common.{◌≡◌, ◌⊎◌, ℕ, Bool, true, false, List, [], ◌∷◌, ◌++◌, refl, sym, ap, ◌∙◌}
use Rattle.std.proofs.Common.{inl, inr, subst, append_assoc}
use Rattle.std.specs.Prelude.{encode_utf8, ◌&&◌, ◌||◌, cond}
use Rattle.std.proofs.lemmas.Bool.{true≢false}
use Rattle.std.specs.List.{list_all}
use Rattle.std.specs.Str.{chars, IsUtf8}
use Rattle.std.proofs.Math.Utf8.{scalar}
use Rattle.std.proofs.lemmas.List.{append-nil}
use Rattle.std.proofs.lemmas.List.Folds.{list_all-append}
use Rattle.std.proofs.lemmas.Str.{IsUtf8-append, chars-append, chars-encodes}
use Rattle.htmd_lexical.specs.Characters.{space}
use Rattle.htmd_lexical.proofs.BytesLemmas.{same_bytes}
use Rattle.htmd_document.specs.Formats.{Format, Emphasis, Strong, Deleted, Superscript, Subscript, Inserted, Underlined}
use Rattle.htmd_document.specs.Formats.{Marked, Small, Keyboard, Abbreviation, is_same_format}
use Rattle.htmd_document.specs.Documents.{Inline, text, code, formatted, link, anchor, line_break, task}
use Rattle.htmd_document.specs.Documents.{Inlines, no_inlines, inline}
use Rattle.htmd_flow.specs.Nesting.{one_inline, met, joined}
use Rattle.htmd_shown.specs.Spaces.{is_white, is_blank_text}
use Rattle.htmd_document.specs.NormalInlines.{is_anchor}
use Rattle.htmd_law_returning.specs.LastingAnchors.{past_gaps, goes_on}
use Rattle.htmd_law_returning.specs.WholeLines.{is_gap, is_same_around}

-- ---- the same format

pub same-format : (f g : Format) → is_same_format f g ≡ true → f ≡ g
same-format Emphasis Emphasis e = refl
same-format Strong Strong e = refl
same-format Deleted Deleted e = refl
same-format Superscript Superscript e = refl
same-format Subscript Subscript e = refl
same-format Inserted Inserted e = refl
same-format Underlined Underlined e = refl
same-format Marked Marked e = refl
same-format Small Small e = refl
same-format Keyboard Keyboard e = refl
same-format (Abbreviation s) (Abbreviation t) e = ap Abbreviation (same_bytes s t e)
same-format f g e = absurd (cc)

-- ---- texts with something to see at an end

abbrev pub BlackStart : List ℕ → Type 0
BlackStart s = (c : ℕ) × (t : List ℕ) × (s ≡ encode_utf8 c ++ t) × (scalar c ≡ true)
    × (is_white c ≡ false)

abbrev pub BlackEnd : List ℕ → Type 0
BlackEnd s =
    (t : List ℕ) × (c : ℕ) × (s ≡ t ++ encode_utf8 c) × IsUtf8 t × (scalar c ≡ true)
    × (is_white c ≡ false)

pub start-append : (s u : List ℕ) → BlackStart s → BlackStart (s ++ u)
start-append s u h =
    (h.0, h.1 ++ u, ap (λ (y : List ℕ). y ++ u) h.2 ∙ append_assoc (encode_utf8 h.0) h.1 u, h.3, h.4)

pub end-append : (s u : List ℕ) → IsUtf8 s → BlackEnd u → BlackEnd (s ++ u)
end-append s u g h = (
  s ++ h.0,
  h.1,
  ap (λ (y : List ℕ). s ++ y) h.2 ∙ sym (append_assoc s h.0 (encode_utf8 h.1)),
  IsUtf8-append s h.0 g h.3,
  h.4,
  h.5,
)

pub one-character : (c : ℕ) → scalar c ≡ true → chars (encode_utf8 c) ≡ c ∷ []
one-character c e =
    ap chars (sym (append-nil (encode_utf8 c))) ∙ chars-encodes (c ∷ []) (rw e refl)

pub character-utf8 : (c : ℕ) → scalar c ≡ true → IsUtf8 (encode_utf8 c)
character-utf8 c e = (c ∷ [], (rw e refl, append-nil (encode_utf8 c)))

pub end-characters : (s : List ℕ) → (h : BlackEnd s) → chars s ≡ chars h.0 ++ h.1 ∷ []
end-characters s h =
    ap chars h.2 ∙ chars-append h.0 (encode_utf8 h.1) h.3
    ∙ ap (λ (y : List ℕ). chars h.0 ++ y) (one-character h.1 h.4)

pub not-blank : (s : List ℕ) → BlackEnd s → is_blank_text s ≡ false
not-blank s h =
    ap (list_all is_white) (end-characters s h) ∙ list_all-append is_white (chars h.0) (h.1 ∷ [])
    ∙ rw h.5 (none (list_all is_white (chars h.0)))
  where
    none : (b : Bool) → (b && false) ≡ false
    none true = refl
    none false = refl

-- more of a text whose end is to be seen isn't blank
more-not-blank : (s u : List ℕ) → BlackEnd s → IsUtf8 s → is_blank_text (s ++ u) ≡ false
more-not-blank s u h g =
    ap (list_all is_white) (chars-append s u g) ∙ list_all-append is_white (chars s) (chars u)
    ∙ ap (λ (b : Bool). b && list_all is_white (chars u)) (not-blank s h)

-- ---- lines

abbrev pub StartsInline : Inline → Type 0
StartsInline (text s) = BlackStart s
StartsInline line_break = ⊥
StartsInline x = Unit {0}

abbrev pub EndsInline : Inline → Type 0
EndsInline (text s) = BlackEnd s
EndsInline line_break = ⊥
EndsInline x = Unit {0}

abbrev pub Starts : Inlines → Type 0
Starts no_inlines = Unit {0}
Starts (inline x xs) = StartsInline x

abbrev pub Ends : Inlines → Type 0
Ends no_inlines = Unit {0}
Ends (inline x no_inlines) = EndsInline x
Ends (inline x (inline y ys)) = Ends (inline y ys)

-- behind the box of a task stand a space, and what begins with something to see
abbrev pub BehindBox : Inlines → Type 0
BehindBox (inline (text (c ∷ [])) xs) = (c ≡ space) × Starts xs
BehindBox (inline (text (c ∷ d ∷ s)) xs) = (c ≡ space) × BlackStart (d ∷ s)
BehindBox xs = ⊥

abbrev pub Boxed : Inlines → Type 0
Boxed (inline (task is_checked) xs) = BehindBox xs
Boxed xs = Unit {0}

-- what shows next after an inline, past gaps and anchors, isn't in its format
abbrev pub Apart : Inline → Inlines → Type 0
Apart x xs = goes_on x (past_gaps xs) ≡ false

-- no white space is beside a break, and nothing of it behind an anchor
abbrev pub Beside : Inline → Inline → Type 0
Beside (text s) line_break = BlackEnd s
Beside line_break (text s) = BlackStart s
Beside (anchor id) y = StartsInline y
Beside x y = Unit {0}

abbrev pub BesideFirst : Inline → Inlines → Type 0
BesideFirst x no_inlines = Unit {0}
BesideFirst x (inline y ys) = Beside x y

abbrev mutual
  pub ShapedInline : Inline → Type 0
  ShapedInline (text s) = IsUtf8 s
  ShapedInline (code s) = BlackStart s × BlackEnd s × IsUtf8 s
  ShapedInline (formatted f content) = Shaped content × Starts content × Ends content × Boxed content
  ShapedInline (link address title content) = Shaped content × Starts content × Ends content × Boxed content
  ShapedInline x = Unit {0}

  pub Shaped : Inlines → Type 0
  Shaped no_inlines = Unit {0}
  Shaped (inline x xs) = ShapedInline x × Apart x xs × Shaped xs × BesideFirst x xs

abbrev pub Whole : Inlines → Type 0
Whole xs = Shaped xs × Starts xs × Ends xs × Boxed xs

-- ---- one more inline

-- this one may follow: it isn't in the format of what showed last, before gaps and anchors
abbrev pub Follows : Inlines → Inline → Type 0
Follows no_inlines w = Unit {0}
Follows (inline x xs) w = (past_gaps xs ≡ no_inlines → is_same_around x w ≡ false) × Follows xs w

-- the last inline may stand beside this one
abbrev pub Touches : Inlines → Inline → Type 0
Touches no_inlines w = Unit {0}
Touches (inline x no_inlines) w = Beside x w
Touches (inline x (inline y ys)) w = Touches (inline y ys) w

beside-start : (x y : Inline) → StartsInline y → Beside x y
beside-start (text s) line_break e = absurd e
beside-start line_break (text t) e = e
beside-start (anchor id) y e = e
beside-start x y e = tt

pub start-touch : (xs : Inlines) (y : Inline) → StartsInline y → Touches xs y
start-touch no_inlines y e = tt
start-touch (inline x no_inlines) y e = beside-start x y e
start-touch (inline x (inline z zs)) y e = start-touch (inline z zs) y e

-- something to see
abbrev pub IsSeen : Inline → Type 0
IsSeen x = (is_gap x || is_anchor x) ≡ false

-- the last inline is
abbrev pub LastSeen : Inlines → Type 0
LastSeen no_inlines = ⊥
LastSeen (inline x no_inlines) = IsSeen x
LastSeen (inline x (inline y ys)) = LastSeen (inline y ys)

beside-end : (x y : Inline) → EndsInline x → IsSeen x → Beside x y
beside-end (text s) line_break e l = e
beside-end line_break y e l = absurd e
beside-end (anchor id) y e l = absurd (true≢false l)
beside-end x y e l = tt

pub ends-touch : (xs : Inlines) (y : Inline) → Ends xs → LastSeen xs → Touches xs y
ends-touch no_inlines y e l = tt
ends-touch (inline x no_inlines) y e l = beside-end x y e l
ends-touch (inline x (inline z zs)) y e l = ends-touch (inline z zs) y e l

-- two that meet are both there, or one that is no format
abbrev pub Meets : Inline → Inline → Inlines → Type 0
Meets x y zs =
    (zs ≡ inline x (one_inline y))
    ⊎ ((z : Inline) × (zs ≡ one_inline z) × ((v : Inline) → is_same_around v z ≡ false))

pub meets : (x y : Inline) → Meets x y (met x y)
meets (text s) (text t) = inr (text (s ++ t), refl, no_format)
  where
    no_format : (v : Inline) → is_same_around v (text (s ++ t)) ≡ false
    no_format (formatted f c) = refl
    no_format v = refl
meets (code s) (code t) = inr (code (s ++ t), refl, no_format)
  where
    no_format : (v : Inline) → is_same_around v (code (s ++ t)) ≡ false
    no_format (formatted f c) = refl
    no_format v = refl
meets (text s) y = inl refl
meets (code s) y = inl refl
meets x y = inl refl

-- one inline alone
pub one-on : (v z : Inline) → is_same_around v z ≡ false → Apart v (one_inline z)
one-on v z e = by (is_gap z || is_anchor z)
  where
    by : (b : Bool) → goes_on v (cond b no_inlines (one_inline z)) ≡ false
    by true = refl
    by false = e

-- what holds of the one, or of both
met-shaped : (x y : Inline) → ShapedInline x → ShapedInline y → Beside x y → is_same_around x y ≡ false
    → Shaped (met x y)
met-shaped (text s) (text t) g h b e = (IsUtf8-append s t g h, refl, tt, tt)
met-shaped (code s) (code t) g h b e =
    ((start-append s t g.0, end-append s t g.2 h.1, IsUtf8-append s t g.2 h.2), refl, tt, tt)
met-shaped (text s) y g h b e = (g, one-on (text s) y e, (h, refl, tt, tt), b)
met-shaped (code s) y g h b e = (g, one-on (code s) y e, (h, refl, tt, tt), b)
met-shaped x y g h b e = (g, one-on x y e, (h, refl, tt, tt), b)

beside-code : (x : Inline) (s : List ℕ) → Beside x (code s)
beside-code (text s) t = tt
beside-code line_break t = tt
beside-code (anchor id) t = tt
beside-code x t = tt

met-beside : (v x y : Inline) → Beside v x → BesideFirst v (met x y)
met-beside line_break (text s) (text t) b = start-append s t b
met-beside (anchor id) (text s) (text t) b = start-append s t b
met-beside v (text s) (text t) b = tt
met-beside v (code s) (code t) b = beside-code v (s ++ t)
met-beside v (text s) y b = b
met-beside v (code s) y b = b
met-beside v x y b = b

met-on : (v x y : Inline) → Apart v (one_inline x)
    → (past_gaps (one_inline x) ≡ no_inlines → is_same_around v y ≡ false) → Apart v (met x y)
met-on v x y h g = elim (meets x y) [
  | inl e ↦ subst (Apart v) (sym e) (by (is_gap x || is_anchor x) h g)
  | inr e ↦ subst (Apart v) (sym e.1) (one-on v e.0 (e.2 v))
]
  where
    by : (b : Bool) → goes_on v (cond b no_inlines (one_inline x)) ≡ false
        → (cond b no_inlines (one_inline x) ≡ no_inlines → is_same_around v y ≡ false)
        → goes_on v (cond b (past_gaps (one_inline y)) (inline x (one_inline y))) ≡ false
    by true h g = one-on v y (g refl)
    by false h g = h

-- with one more inline
joined-on : (v : Inline) (xs : Inlines) (y : Inline) → Apart v xs
    → (past_gaps xs ≡ no_inlines → is_same_around v y ≡ false) → Apart v (joined xs y)
joined-on v no_inlines y h g = one-on v y (g refl)
joined-on v (inline x no_inlines) y h g = met-on v x y h g
joined-on v (inline x (inline z zs)) y h g =
    by (is_gap x || is_anchor x) h g (λ i j. joined-on v (inline z zs) y i j)
  where
    by : (b : Bool) → goes_on v (cond b (past_gaps (inline z zs)) (inline x (inline z zs))) ≡ false
        → (cond b (past_gaps (inline z zs)) (inline x (inline z zs)) ≡ no_inlines → is_same_around v y ≡ false)
        → (Apart v (inline z zs) → (past_gaps (inline z zs) ≡ no_inlines → is_same_around v y ≡ false)
        → Apart v (joined (inline z zs) y))
        → goes_on v (cond b (past_gaps (joined (inline z zs) y)) (inline x (joined (inline z zs) y))) ≡ false
    by true h g f = f h g
    by false h g f = h

pub joined-shaped : (xs : Inlines) (y : Inline) → Shaped xs → ShapedInline y → Follows xs y → Touches xs y
    → Shaped (joined xs y)
joined-shaped no_inlines y h g f t = (g, refl, tt, tt)
joined-shaped (inline x no_inlines) y h g f t = met-shaped x y h.0 g t (f.0 refl)
joined-shaped (inline x (inline z no_inlines)) y h g f t =
    (h.0, joined-on x (one_inline z) y h.1 f.0, met-shaped z y h.2.0 g t (f.1.0 refl), met-beside x z y h.3)
joined-shaped (inline x (inline z (inline v vs))) y h g f t = (
  h.0,
  joined-on x (inline z (inline v vs)) y h.1 f.0,
  joined-shaped (inline z (inline v vs)) y h.2 g f.1 t,
  h.3,
)

met-starts : (x y : Inline) → StartsInline x → Starts (met x y)
met-starts (text s) (text t) h = start-append s t h
met-starts (code s) (code t) h = tt
met-starts (text s) y h = h
met-starts (code s) y h = h
met-starts x y h = h

pub joined-starts : (xs : Inlines) (y : Inline) → Starts xs → StartsInline y → Starts (joined xs y)
joined-starts no_inlines y h g = g
joined-starts (inline x no_inlines) y h g = met-starts x y h
joined-starts (inline x (inline z zs)) y h g = h

-- where something is there already
pub joined-starts-on : (x : Inline) (xs : Inlines) (y : Inline) → StartsInline x → Starts (joined (inline x xs) y)
joined-starts-on x no_inlines y h = met-starts x y h
joined-starts-on x (inline z zs) y h = h

met-ends : (x y : Inline) → ShapedInline x → EndsInline y → Ends (met x y)
met-ends (text s) (text t) g h = end-append s t g h
met-ends (code s) (code t) g h = tt
met-ends (text s) y g h = h
met-ends (code s) y g h = h
met-ends x y g h = h

pub joined-ends : (xs : Inlines) (y : Inline) → Shaped xs → EndsInline y → Ends (joined xs y)
joined-ends no_inlines y h g = g
joined-ends (inline x no_inlines) y h g = met-ends x y h.0 g
joined-ends (inline x (inline z zs)) y h g =
    behind_it (joined (inline z zs) y) (filled (inline z zs) y) (joined-ends (inline z zs) y h.2 g)
  where
    some : Inlines → Bool
    some no_inlines = false
    some (inline v us) = true

    met-some : (x y : Inline) → some (met x y) ≡ true
    met-some x y = elim (meets x y) [
      | inl e ↦ ap some e
      | inr e ↦ ap some e.1
    ]

    filled : (us : Inlines) (v : Inline) → some (joined us v) ≡ true
    filled no_inlines v = refl
    filled (inline u no_inlines) v = met-some u v
    filled (inline u (inline w us)) v = refl

    behind_it : (us : Inlines) → some us ≡ true → Ends us → Ends (inline x us)
    behind_it no_inlines e h = absurd (cc)
    behind_it (inline v us) e h = h

-- what is no format follows anything
pub plain-follow : (xs : Inlines) (y : Inline) → ((v : Inline) → is_same_around v y ≡ false) → Follows xs y
plain-follow no_inlines y h = tt
plain-follow (inline x xs) y h = (λ e. h x, plain-follow xs y h)

-- ---- a gap, and what follows it

-- what ends with something to see isn't gaps and anchors alone
seen-some : (xs : Inlines) → LastSeen xs → past_gaps xs ≡ no_inlines → ⊥
seen-some no_inlines l e = absurd l
seen-some (inline x no_inlines) l e = by (is_gap x || is_anchor x) l e
  where
    by : (b : Bool) → b ≡ false → cond b no_inlines (one_inline x) ≡ no_inlines → ⊥
    by true l e = absurd (true≢false l)
    by false l e = (cc)
seen-some (inline x (inline z zs)) l e = by (is_gap x || is_anchor x) (λ f. seen-some (inline z zs) l f) e
  where
    by : (b : Bool) → (past_gaps (inline z zs) ≡ no_inlines → ⊥)
        → cond b (past_gaps (inline z zs)) (inline x (inline z zs)) ≡ no_inlines → ⊥
    by true f e = f e
    by false f e = (cc)

-- the last inline isn't in the format of this one
abbrev pub LastApart : Inlines → Inline → Type 0
LastApart no_inlines w = Unit {0}
LastApart (inline x no_inlines) w = is_same_around x w ≡ false
LastApart (inline x (inline y ys)) w = LastApart (inline y ys) w

abbrev pub IsGapInline : Inline → Type 0
IsGapInline (text s) = IsUtf8 s
IsGapInline line_break = Unit {0}
IsGapInline x = ⊥

pub gap-shaped : (g : Inline) → IsGapInline g → ShapedInline g
gap-shaped (text s) h = h
gap-shaped line_break h = tt
gap-shaped g h = absurd h

pub gap-plain : (g : Inline) → IsGapInline g → (v : Inline) → is_same_around v g ≡ false
gap-plain (text s) h (formatted f c) = refl
gap-plain line_break h (formatted f c) = refl
gap-plain (text s) h v = refl
gap-plain line_break h v = refl
gap-plain g h v = absurd h

-- where something showed last
pub last-follow : (xs : Inlines) (y : Inline) → LastSeen xs → LastApart xs y → Follows xs y
last-follow no_inlines y l a = tt
last-follow (inline x no_inlines) y l a = (λ e. a, tt)
last-follow (inline x (inline z zs)) y l a =
    (λ e. absurd (seen-some (inline z zs) l e), last-follow (inline z zs) y l a)

gap-same : (g w : Inline) → IsGapInline g → is_same_around g w ≡ false
gap-same (text s) w i = refl
gap-same line_break w i = refl
gap-same g w i = absurd i

met-follow : (x g w : Inline) → is_same_around x w ≡ false → IsGapInline g → Follows (met x g) w
met-follow (text s) (text t) w e i = (λ q. refl, tt)
met-follow (code s) (code t) w e i = absurd i
met-follow (text s) g w e i = (λ q. e, (λ q. gap-same g w i, tt))
met-follow (code s) g w e i = (λ q. e, (λ q. gap-same g w i, tt))
met-follow x g w e i = (λ q. e, (λ q. gap-same g w i, tt))

-- a text that goes on isn't blank
met-some : (x g : Inline) → ShapedInline x → EndsInline x → IsSeen x → past_gaps (met x g) ≡ no_inlines
    → ⊥
met-some (text s) (text t) u h l e = by (is_blank_text (s ++ t)) (more-not-blank s t h u) e
  where
    by : (b : Bool) → b ≡ false → cond (b || false) no_inlines (one_inline (text (s ++ t))) ≡ no_inlines → ⊥
    by true n e = absurd (true≢false n)
    by false n e = (cc)
met-some (code s) (code t) u h l e = absurd (cc)
met-some (text s) g u h l e = by (is_blank_text s) (not-blank s h) e
  where
    by : (b : Bool) → b ≡ false
        → cond (b || false) (past_gaps (one_inline g)) (inline (text s) (one_inline g)) ≡ no_inlines → ⊥
    by true n e = absurd (true≢false n)
    by false n e = (cc)
met-some (code s) g u h l e = absurd (cc)
met-some line_break g u h l e = absurd h
met-some (anchor id) g u h l e = absurd (true≢false l)
met-some x g u h l e = absurd (cc)

joined-some : (xs : Inlines) (g : Inline) → Shaped xs → Ends xs → LastSeen xs
    → past_gaps (joined xs g) ≡ no_inlines → ⊥
joined-some no_inlines g h n l e = absurd l
joined-some (inline x no_inlines) g h n l e = met-some x g h.0 n l e
joined-some (inline x (inline z zs)) g h n l e =
    by (is_gap x || is_anchor x) (λ f. joined-some (inline z zs) g h.2 n l f) e
  where
    by : (b : Bool) → (past_gaps (joined (inline z zs) g) ≡ no_inlines → ⊥)
        → cond b (past_gaps (joined (inline z zs) g)) (inline x (joined (inline z zs) g)) ≡ no_inlines → ⊥
    by true f e = f e
    by false f e = (cc)

pub gap-follow : (xs : Inlines) (g w : Inline) → Shaped xs → Ends xs → LastSeen xs → LastApart xs w
    → IsGapInline g → Follows (joined xs g) w
gap-follow no_inlines g w h e l a i = absurd l
gap-follow (inline x no_inlines) g w h e l a i = met-follow x g w a i
gap-follow (inline v (inline x xs)) g w h e l a i = (
  λ q. absurd (joined-some (inline x xs) g h.2 e l q),
  gap-follow (inline x xs) g w h.2 e l a i,
)

-- ---- an anchor, and what follows it

pub anchor-plain : (id : List ℕ) (v : Inline) → is_same_around v (anchor id) ≡ false
anchor-plain id (formatted f c) = refl
anchor-plain id v = refl

anchor-none : (xs : Inlines) (id : List ℕ) → past_gaps (joined xs (anchor id)) ≡ no_inlines
    → past_gaps xs ≡ no_inlines
anchor-none no_inlines id e = refl
anchor-none (inline x no_inlines) id e = met x e
  where
    by : (b : Bool) → (x : Inline) → cond b no_inlines (inline x (one_inline (anchor id))) ≡ no_inlines
        → cond b no_inlines (one_inline x) ≡ no_inlines
    by true x e = refl
    by false x e = absurd (cc)

    met : (x : Inline) → past_gaps (joined (one_inline x) (anchor id)) ≡ no_inlines
        → past_gaps (one_inline x) ≡ no_inlines
    met (text s) e = by (is_gap (text s) || is_anchor (text s)) (text s) e
    met (code s) e = by (is_gap (code s) || is_anchor (code s)) (code s) e
    met x e = by (is_gap x || is_anchor x) x e
anchor-none (inline x (inline z zs)) id e =
    by (is_gap x || is_anchor x) (λ f. anchor-none (inline z zs) id f) e
  where
    by : (b : Bool)
        → (past_gaps (joined (inline z zs) (anchor id)) ≡ no_inlines → past_gaps (inline z zs) ≡ no_inlines)
        → cond b (past_gaps (joined (inline z zs) (anchor id))) (inline x (joined (inline z zs) (anchor id)))
        ≡ no_inlines → cond b (past_gaps (inline z zs)) (inline x (inline z zs)) ≡ no_inlines
    by true f e = f e
    by false f e = absurd (cc)

pub anchor-follow : (xs : Inlines) (id : List ℕ) (w : Inline) → Follows xs w → Follows (joined xs (anchor id)) w
anchor-follow no_inlines id w f = (λ q. refl, tt)
anchor-follow (inline (text s) no_inlines) id w f = (λ q. f.0 refl, (λ q. refl, tt))
anchor-follow (inline (code s) no_inlines) id w f = (λ q. f.0 refl, (λ q. refl, tt))
anchor-follow (inline x no_inlines) id w f = (λ q. f.0 refl, (λ q. refl, tt))
anchor-follow (inline x (inline z zs)) id w f =
    (λ q. f.0 (anchor-none (inline z zs) id q), anchor-follow (inline z zs) id w f.1)

-- ---- code that goes on

abbrev pub LastCode : Inlines → Type 0
LastCode no_inlines = ⊥
LastCode (inline (code s) no_inlines) = Unit {0}
LastCode (inline x no_inlines) = ⊥
LastCode (inline x (inline y ys)) = LastCode (inline y ys)

code-plain : (s : List ℕ) (v : Inline) → is_same_around v (code s) ≡ false
code-plain s (formatted f c) = refl
code-plain s v = refl

-- whatever it begins with
pub code-shaped : (xs : Inlines) (u : List ℕ) → Shaped xs → LastCode xs → BlackEnd u → IsUtf8 u
    → Shaped (joined xs (code u))
code-shaped no_inlines u h l e i = absurd l
code-shaped (inline (code s) no_inlines) u h l e i =
    ((start-append s u h.0.0, end-append s u h.0.2 e, IsUtf8-append s u h.0.2 i), refl, tt, tt)
code-shaped (inline x (inline (code s) no_inlines)) u h l e i = (
  h.0,
  one-on x (code (s ++ u)) (code-plain (s ++ u) x),
  code-shaped (inline (code s) no_inlines) u h.2 l e i,
  beside-code x (s ++ u),
)
code-shaped (inline x (inline y (inline z zs))) u h l e i = (
  h.0,
  joined-on x (inline y (inline z zs)) (code u) h.1 (λ q. code-plain u x),
  code-shaped (inline y (inline z zs)) u h.2 l e i,
  h.3,
)
code-shaped xs u h l e i = absurd l

pub code-twice : (xs : Inlines) (s t : List ℕ) → LastCode xs
    → joined (joined xs (code s)) (code t) ≡ joined xs (code (s ++ t))
code-twice no_inlines s t l = absurd l
code-twice (inline (code u) no_inlines) s t l = ap (λ v. one_inline (code v)) (append_assoc u s t)
code-twice (inline x (inline (code u) no_inlines)) s t l =
    ap (inline x) (code-twice (inline (code u) no_inlines) s t l)
code-twice (inline x (inline y (inline z zs))) s t l =
    ap (inline x) (code-twice (inline y (inline z zs)) s t l)
code-twice xs s t l = absurd l
