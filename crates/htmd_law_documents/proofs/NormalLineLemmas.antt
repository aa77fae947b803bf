-- Inlines of normal documents: what they are like after one more leaf.
use Rattle.std.proofs.Common.{◌≡◌, ℕ, Bool, true, false, not, ◌&&◌, List, [], ◌∷◌, ◌++◌}
use Rattle.std.proofs.Common.{refl, sym, ap, ◌∙◌, subst}
use Rattle.htmd_lexical.specs.CharacterClasses.{is_empty}
use Rattle.htmd_document.specs.Formats.{Format}
use Rattle.htmd_document.specs.Documents.{Inline, text, code, image, line_break, task, link, Inlines, no_inlines}
use Rattle.htmd_document.specs.Documents.{anchor}
use Rattle.htmd_document.specs.Documents.{inline}
use Rattle.htmd_document.specs.Documents as value
use Rattle.htmd_flow.specs.Nesting.{Wrapper, of_format, of_link, wrapper_of, is_same, wrapped_by}
use Rattle.htmd_flow.specs.Nesting.{one_inline, before_link}
use Rattle.htmd_flow.specs.NestViews.{followed}
use Rattle.htmd_flow.specs.Parts.{Around, formatted, linked}
use Rattle.htmd_document.specs.NormalInlines.{is_attribute, is_title}
use Rattle.htmd_document.specs.NormalInlines.{sort, is_same_sort, is_code, is_break}
use Rattle.htmd_document.specs.NormalInlines.{begins_with_space, ends_with_space, may_meet, has_none}
use Rattle.htmd_document.specs.NormalInlines.{first_passes, last_passes, is_barred, has_title, is_normal}
use Rattle.htmd_document.specs.NormalInlines.{are_normal}
use Rattle.htmd_law_documents.proofs.VisibleLemmas.{both-true}
use Rattle.htmd_law_documents.proofs.NormalTextLemmas.{and-true, not-false, false-true}
use Rattle.htmd_law_documents.proofs.NormalTextLemmas.{first-append}

-- ---- neighbours

-- both are of one sort, and neither or both are code
abbrev pub is_clash : Inline → Inline → Bool
is_clash x y =
    is_same_sort (sort x) (sort y) && not (is_code x && not (is_code y)) && not (is_code y && not (is_code x))

pub may-meet : (x y : Inline) → is_clash x y ≡ false → (ends_with_space x && is_break y) ≡ false
    → (is_break x && begins_with_space y) ≡ false → may_meet x y ≡ true
may-meet x y a b c = and-true (and-true (not-false a) (not-false b)) (not-false c)

-- the last of them may stand before it
abbrev pub last_meets : Inlines → Inline → Bool
last_meets no_inlines y = true
last_meets (inline x no_inlines) y = may_meet x y
last_meets (inline x (inline x' xs)) y = last_meets (inline x' xs) y

module _ (l : Bool) (r : List Format) where
  pub normal-more : (xs : Inlines) (y : Inline) → are_normal l r xs ≡ true → last_meets xs y ≡ true
      → is_normal l r y ≡ true → are_normal l r (followed xs (one_inline y)) ≡ true
  normal-more no_inlines y a b c = and-true (and-true c refl) refl
  normal-more (inline x no_inlines) y a b c =
      let parts = both-true (is_normal l r x && true) true a in
      let first = both-true (is_normal l r x) true parts.0 in
      and-true (and-true first.0 b) (and-true (and-true c refl) refl)
  normal-more (inline x (inline x' xs)) y a b c =
      let parts = both-true (is_normal l r x && may_meet x x') (are_normal l r (inline x' xs)) a in
      and-true parts.0 (normal-more (inline x' xs) y parts.1 b c)

pub last-of : (xs : Inlines) (y z : Inline) → last_meets (followed xs (one_inline y)) z ≡ may_meet y z
last-of no_inlines y z = refl
last-of (inline x no_inlines) y z = refl
last-of (inline x (inline x' xs)) y z = last-of (inline x' xs) y z

pub last-is : (p : Inline → Bool) (xs : Inlines) (y : Inline) → last_passes p (followed xs (one_inline y)) ≡ p y
last-is p no_inlines y = refl
last-is p (inline x no_inlines) y = refl
last-is p (inline x (inline x' xs)) y = last-is p (inline x' xs) y

pub some-followed : (xs : Inlines) (y : Inline) → has_none (followed xs (one_inline y)) ≡ false
some-followed no_inlines y = refl
some-followed (inline x xs) y = refl

-- one may stand where the other stood
pub last-like : (xs : Inlines) (y z : Inline) → ((x : Inline) → may_meet x y ≡ true → may_meet x z ≡ true)
    → last_meets xs y ≡ true → last_meets xs z ≡ true
last-like no_inlines y z f h = refl
last-like (inline x no_inlines) y z f h = f x h
last-like (inline x (inline x' xs)) y z f h = last-like (inline x' xs) y z f h

-- ---- the last inline

-- they end with it
pub record Ends (l : Bool) (r : List Format) (xs : Inlines) (x : Inline) : Type 0 where
  pub before : Inlines
  pub is : xs ≡ followed before (one_inline x)
  pub normal : are_normal l r before ≡ true
  pub fits : last_meets before x ≡ true

pub ends-normal : (l : Bool) (r : List Format) (xs : Inlines) (x : Inline) → Ends l r xs x → is_normal l r x
    ≡ true
    → are_normal l r xs ≡ true
ends-normal l r xs x e n =
    ap (are_normal l r) e.is ∙ normal-more l r e.before x e.normal e.fits n

pub ends-last : (l : Bool) (r : List Format) (p : Inline → Bool) (xs : Inlines) (x : Inline) → Ends l r xs x
    → last_passes p xs ≡ p x
ends-last l r p xs x e = ap (last_passes p) e.is ∙ last-is p e.before x

pub ends-some : (l : Bool) (r : List Format) (xs : Inlines) (x : Inline) → Ends l r xs x → has_none xs ≡ false
ends-some l r xs x e = ap has_none e.is ∙ some-followed e.before x

-- one more that doesn't melt into it
pub ends-more : (l : Bool) (r : List Format) (xs : Inlines) (x y : Inline) → Ends l r xs x → is_normal l r x
    ≡ true
    → may_meet x y ≡ true → Ends l r (followed xs (one_inline y)) y
ends-more l r xs x y e n m = record {
  before = xs;
  is = refl;
  normal = ends-normal l r xs x e n;
  fits = ap (λ zs. last_meets zs y) e.is ∙ (last-of e.before x y ∙ m);
}

-- in its place another
pub ends-other : (l : Bool) (r : List Format) (xs : Inlines) (x y : Inline) → (e : Ends l r xs x)
    → ((z : Inline) → may_meet z x ≡ true → may_meet z y ≡ true)
    → Ends l r (followed e.before (one_inline y)) y
ends-other l r xs x y e f = record {
  before = e.before;
  is = refl;
  normal = e.normal;
  fits = last-like e.before x y f e.fits;
}

pub ends-as : (l : Bool) (r : List Format) (xs ys : Inlines) (x : Inline) → xs ≡ ys → Ends l r ys x
    → Ends l r xs x
ends-as l r xs ys x e h = subst (λ (zs : Inlines). Ends l r zs x) (sym e) h

-- ---- texts in place of others

-- a text that begins alike may stand where the other stood
pub text-like : (s t : List ℕ) → is_empty s ≡ false → (z : Inline) → may_meet z (text s) ≡ true
    → may_meet z (text (s ++ t)) ≡ true
text-like s t e z h = subst (λ (b : Bool). not (is_clash z (text s)) && not (ends_with_space z && false)
    && not (is_break z && b) ≡ true) (sym (first-append s t e)) h

-- ---- what stands around

-- whether a link stands around what is in it, and which formats do
abbrev pub in_link : Bool → Wrapper → Bool
in_link l (of_format f) = l
in_link l (of_link node) = true

abbrev pub formats_in : List Format → Wrapper → List Format
formats_in r (of_format f) = f ∷ r
formats_in r (of_link node) = r

-- a format that may stand there, or a link where none is
abbrev pub Fits : Bool → List Format → Around → Type 0
Fits l r (formatted f) = (is_barred r f ≡ false) × (has_title f ≡ true)
Fits l r (linked node address title) = (l ≡ false) × (is_attribute address ≡ true) × (is_title title ≡ true)

abbrev pub FitAll : Bool → List Format → List Around → Type 0
FitAll l r [] = Unit {0}
FitAll l r (a ∷ around) = Fits l r a × FitAll (in_link l (wrapper_of a)) (formats_in r (wrapper_of a)) around

pub wrapped-normal : (l : Bool) (r : List Format) (a : Around) (content : Inlines) → Fits l r a
    → has_none content ≡ false → first_passes begins_with_space content ≡ false
    → first_passes is_break content ≡ false → last_passes ends_with_space content ≡ false
    → last_passes is_break content ≡ false
    → are_normal (in_link l (wrapper_of a)) (formats_in r (wrapper_of a)) content ≡ true
    → is_normal l r (wrapped_by a content) ≡ true
wrapped-normal l r (formatted f) content g n b c e d h =
    let trimmed = and-true (not-false b) (not-false e) in
    let whole = and-true (and-true trimmed (not-false c)) (not-false d) in
    and-true (and-true (and-true (and-true (not-false g.0) g.1) (not-false n)) whole) h
wrapped-normal l r (linked node address title) content g n b c e d h =
    and-true (and-true (and-true (and-true (not-false g.0) g.1) g.2) (not-false n)) h

-- what stands before one may stand before it with other content
pub wrapped-like : (a : Around) (xs ys : Inlines) (z : Inline) → may_meet z (wrapped_by a xs) ≡ true
    → may_meet z (wrapped_by a ys) ≡ true
wrapped-like (formatted f) xs ys z h = h
wrapped-like (linked node address title) xs ys z h = h

-- the first wrappers differ, or there are none
abbrev pub Apart : List Wrapper → List Wrapper → Type 0
Apart [] ns = Unit {0}
Apart (m ∷ ms) [] = Unit {0}
Apart (m ∷ ms) (n ∷ ns) = is_same m n ≡ false

pub wrapped-no_clash : (b : Around) (ys : Inlines) (a : Around) (xs : Inlines) → is_same (wrapper_of b) (wrapper_of a)
    ≡ false
    → is_clash (wrapped_by b ys) (wrapped_by a xs) ≡ false
wrapped-no_clash (formatted f) ys (formatted g) xs e =
    ap (λ c. c && not (false && true) && not (false && true)) e
wrapped-no_clash (formatted f) ys (linked n address title) xs e = refl
wrapped-no_clash (linked m address title) ys (formatted g) xs e = refl
wrapped-no_clash (linked m address title) ys (linked n address' title') xs e = refl

-- ---- leaves

-- a text, code or an image
abbrev pub is_leaf : Inline → Bool
is_leaf (text s) = true
is_leaf (code s) = true
is_leaf (image address title description) = true
is_leaf (anchor i) = true
is_leaf _ = false

-- the last leaf
pub record IsLast (k : Bool) (x : Inline) : Type 0 where
  pub normal : (l : Bool) (r : List Format) → is_normal l r x ≡ true
  pub leaf : is_leaf x ≡ true
  pub no_space : ends_with_space x ≡ false
  pub kind : is_code x ≡ k

-- the last inline, after which anything may stand that doesn't melt into it
pub record IsShut (l : Bool) (r : List Format) (x : Inline) : Type 0 where
  pub normal : is_normal l r x ≡ true
  pub no_space : ends_with_space x ≡ false
  pub no_break : is_break x ≡ false

-- The inlines are normal, and their last one is in these wrappers from the outermost in: where the next leaf may go.
-- B: what the innermost last one is like.
abbrev pub HeldBy : (Bool → List Format → Inline → Type 0) → Bool → List Format → List Wrapper → Inlines
    → Type 0
HeldBy B l r [] xs = (x : Inline) × Ends l r xs x × B l r x
HeldBy B l r (m ∷ ms) xs =
    (a : Around) × (content : Inlines) × Ends l r xs (wrapped_by a content) × (wrapper_of a ≡ m) × Fits l r a
    × (first_passes begins_with_space content ≡ false) × (first_passes is_break content ≡ false)
    × HeldBy B (in_link l m) (formats_in r m) ms content

-- it is a leaf
abbrev pub Held : Bool → Bool → List Format → List Wrapper → Inlines → Type 0
Held k = HeldBy (λ l r x. IsLast k x)

-- it is anything
abbrev pub Open : Bool → List Format → List Wrapper → Inlines → Type 0
Open = HeldBy IsShut

abbrev pub ShutsAll : (Bool → List Format → Inline → Type 0) → Type 0
ShutsAll B = (l : Bool) (r : List Format) (x : Inline) → B l r x → IsShut l r x

pub leaf-no_break : (x : Inline) → is_leaf x ≡ true → is_break x ≡ false
leaf-no_break (text s) e = refl
leaf-no_break (code s) e = refl
leaf-no_break (image address title description) e = refl
leaf-no_break (anchor i) e = refl
leaf-no_break (value.formatted f xs) e = refl
leaf-no_break (link address title xs) e = refl
leaf-no_break line_break e = false-true e
leaf-no_break (task b) e = refl

pub leaf-no_clash : (x : Inline) (a : Around) (xs : Inlines) → is_leaf x ≡ true → is_clash x (wrapped_by a xs)
    ≡ false
leaf-no_clash (text s) (formatted f) xs e = refl
leaf-no_clash (text s) (linked n address title) xs e = refl
leaf-no_clash (code s) (formatted f) xs e = refl
leaf-no_clash (code s) (linked n address title) xs e = refl
leaf-no_clash (image address title description) (formatted f) xs e = refl
leaf-no_clash (anchor i) (formatted f) xs e = refl
leaf-no_clash (image address title description) (linked n address' title') xs e = refl
leaf-no_clash (anchor i) (linked n address' title') xs e = refl
leaf-no_clash (value.formatted f ys) a xs e = false-true e
leaf-no_clash (link address title ys) a xs e = false-true e
leaf-no_clash line_break a xs e = false-true e
leaf-no_clash (task b) a xs e = false-true e

wrapped-ends : (a : Around) (xs : Inlines) → ends_with_space (wrapped_by a xs) ≡ false
wrapped-ends (formatted f) xs = refl
wrapped-ends (linked node address title) xs = refl

pub wrapped-begins : (a : Around) (xs : Inlines) → begins_with_space (wrapped_by a xs) ≡ false
wrapped-begins (formatted f) xs = refl
wrapped-begins (linked node address title) xs = refl

pub wrapped-no_break : (a : Around) (xs : Inlines) → is_break (wrapped_by a xs) ≡ false
wrapped-no_break (formatted f) xs = refl
wrapped-no_break (linked node address title) xs = refl

-- what is held is normal and ends in no space and no break
pub record IsWhole (l : Bool) (r : List Format) (xs : Inlines) : Type 0 where
  pub normal : are_normal l r xs ≡ true
  pub some : has_none xs ≡ false
  pub no_space : last_passes ends_with_space xs ≡ false
  pub no_break : last_passes is_break xs ≡ false

held-inner : (l : Bool) (r : List Format) (m : Wrapper) (a : Around) (content : Inlines) → wrapper_of a ≡ m
    → Fits l r a
    → first_passes begins_with_space content ≡ false → first_passes is_break content ≡ false
    → IsWhole (in_link l m) (formats_in r m) content → is_normal l r (wrapped_by a content) ≡ true
held-inner l r m a content e f b c h = wrapped-normal l r a content f h.some b c h.no_space h.no_break
    (subst (λ (n : Wrapper). are_normal (in_link l n) (formats_in r n) content ≡ true) (sym e) h.normal)

pub leaf-shuts : (k : Bool) → ShutsAll (λ l r x. IsLast k x)
leaf-shuts k l r x h = record { normal = h.normal l r; no_space = h.no_space; no_break = leaf-no_break x h.leaf }

pub any-shuts : ShutsAll IsShut
any-shuts l r x h = h

module _ (B : Bool → List Format → Inline → Type 0) (shuts : ShutsAll B) where
  pub held-whole : (l : Bool) (r : List Format) (ms : List Wrapper) (xs : Inlines) → HeldBy B l r ms xs
      → IsWhole l r xs
  held-whole l r [] xs h =
      let shut : IsShut l r h.0 = shuts l r h.0 h.2 in
      record {
        normal = ends-normal l r xs h.0 h.1 shut.normal;
        some = ends-some l r xs h.0 h.1;
        no_space = ends-last l r ends_with_space xs h.0 h.1 ∙ shut.no_space;
        no_break = ends-last l r is_break xs h.0 h.1 ∙ shut.no_break;
      }
  held-whole l r (m ∷ ms) xs h =
      let x : Inline = wrapped_by h.0 h.1 in
      let here : is_normal l r x ≡ true = held-inner l r m h.0 h.1 h.3 h.4 h.5 h.6
      (held-whole (in_link l m) (formats_in r m) ms h.1 h.7) in
      record {
        normal = ends-normal l r xs x h.2 here;
        some = ends-some l r xs x h.2;
        no_space = ends-last l r ends_with_space xs x h.2 ∙ wrapped-ends h.0 h.1;
        no_break = ends-last l r is_break xs x h.2 ∙ wrapped-no_break h.0 h.1;
      }

  -- the last one, whatever is open
  pub held-last : (l : Bool) (r : List Format) (ms : List Wrapper) (xs : Inlines) → HeldBy B l r ms xs
      → (x : Inline) × Ends l r xs x × IsShut l r x
  held-last l r [] xs h = (h.0, h.1, shuts l r h.0 h.2)
  held-last l r (m ∷ ms) xs h = (
    wrapped_by h.0 h.1,
    h.2,
    record {
      normal = held-inner l r m h.0 h.1 h.3 h.4 h.5 h.6
          (held-whole (in_link l m) (formats_in r m) ms h.1 h.7);
      no_space = wrapped-ends h.0 h.1;
      no_break = wrapped-no_break h.0 h.1;
    },
  )

  -- what is open but for a link
  pub held-open : (l : Bool) (r : List Format) (ms : List Wrapper) (xs : Inlines) → HeldBy B l r ms xs
      → Open l r (before_link ms) xs
  held-open l r [] xs h = held-last l r [] xs h
  held-open l r (of_format f ∷ ms) xs h =
      (h.0, h.1, h.2, h.3, h.4, h.5, h.6, held-open l (f ∷ r) ms h.1 h.7)
  held-open l r (of_link node ∷ ms) xs h = held-last l r (of_link node ∷ ms) xs h

-- no link is open
abbrev pub NoLinks : List Wrapper → Type 0
NoLinks [] = Unit {0}
NoLinks (of_format f ∷ ms) = NoLinks ms
NoLinks (of_link node ∷ ms) = ⊥

pub before-links : (ms : List Wrapper) → NoLinks (before_link ms)
before-links [] = tt
before-links (of_format f ∷ ms) = before-links ms
before-links (of_link node ∷ ms) = tt

-- the last inline, and what can come after it
pub record IsStop (l : Bool) (r : List Format) (ms : List Wrapper) (xs : Inlines) (x : Inline) : Type 0 where
  pub ends : Ends l r xs x
  pub normal : is_normal l r x ≡ true
  pub no_space : ends_with_space x ≡ false
  pub no_break : is_break x ≡ false
  pub apart : (a : Around) (content : Inlines) → Apart ms (wrapper_of a ∷ []) → is_clash x (wrapped_by a content)
      ≡ false

pub held-stop : (k l : Bool) (r : List Format) (ms : List Wrapper) (xs : Inlines) → Held k l r ms xs
    → (x : Inline) × IsStop l r ms xs x
held-stop k l r [] xs h = (
  h.0,
  record {
    ends = h.1;
    normal = h.2.normal l r;
    no_space = h.2.no_space;
    no_break = leaf-no_break h.0 h.2.leaf;
    apart = λ a content e. leaf-no_clash h.0 a content h.2.leaf;
  },
)
held-stop k l r (m ∷ ms) xs h = (
  wrapped_by h.0 h.1,
  record {
    ends = h.2;
    normal = held-inner l r m h.0 h.1 h.3 h.4 h.5 h.6
        (held-whole (λ l' r' x. IsLast k x) (leaf-shuts k) (in_link l m) (formats_in r m) ms h.1 h.7);
    no_space = wrapped-ends h.0 h.1;
    no_break = wrapped-no_break h.0 h.1;
    apart = λ a content e. wrapped-no_clash h.0 h.1 a content (ap (λ n. is_same n (wrapper_of a)) h.3 ∙ e);
  },
)
