-- Lines that begin with the box of a task, with one more inline.
use Rattle.std.proofs.Common.{◌≡◌, ℕ, Bool, List, [], ◌∷◌, ◌++◌, refl, ap, ◌∙◌, subst, true, false, sym}
use Rattle.std.specs.Prelude.{encode_utf8}
use Rattle.std.specs.Str.{chars, IsUtf8}
use Rattle.std.proofs.lemmas.Str.{chars-append}
use Rattle.htmd_lexical.specs.Characters.{space}
use Rattle.htmd_document.specs.Documents.{Inline, text, code, formatted, link, task, Inlines, no_inlines, inline}
use Rattle.htmd_flow.specs.Nesting.{met, joined, in_last, with_content}
use Rattle.htmd_shown.specs.Spaces.{is_white}
use Rattle.htmd_law_returning.specs.WholeLines.{begins_white_text, ends_white_text}
use Rattle.htmd_law_returning.proofs.BoxLemmas.{characters-behind-space}
use Rattle.htmd_law_settled.proofs.LineShapes.{BlackStart, BlackEnd, start-append, one-character, character-utf8}
use Rattle.htmd_law_settled.proofs.LineShapes.{end-characters, StartsInline, Starts, Ends, BehindBox, Boxed}
use Rattle.htmd_law_settled.proofs.LineShapes.{joined-starts-on}
use lib.Utf8.{encode}

-- ---- texts

pub begins-black : (s : List ℕ) → BlackStart s → begins_white_text (chars s) ≡ false
begins-black s h =
    ap begins_white_text (ap chars h.2 ∙ chars-append (encode_utf8 h.0) h.1 (character-utf8 h.0 h.3)
    ∙ ap (λ (y : List ℕ). y ++ chars h.1) (one-character h.0 h.3)) ∙ h.4

last-character : (cs : List ℕ) (c : ℕ) → ends_white_text (cs ++ c ∷ []) ≡ is_white c
last-character [] c = refl
last-character (b ∷ []) c = refl
last-character (b ∷ d ∷ cs) c = last-character (d ∷ cs) c

pub ends-black : (s : List ℕ) → BlackEnd s → ends_white_text (chars s) ≡ false
ends-black s h = ap ends_white_text (end-characters s h) ∙ last-character (chars h.0) h.1 ∙ h.5

pub space-utf8 : IsUtf8 (space ∷ [])
unfolding encode
space-utf8 = (space ∷ [], (refl, refl))

-- a space isn't to be seen
no-end : (c : ℕ) → c ≡ space → BlackEnd (c ∷ []) → ⊥
unfolding chars
no-end c e h =
    let p : ends_white_text (chars (space ∷ [])) ≡ false =
    ends-black (space ∷ []) (subst (λ b. BlackEnd (b ∷ [])) e h) in
    let q : true ≡ false = sym (ap ends_white_text (characters-behind-space [])) ∙ p in
    absurd (cc)

no-start : BlackStart [] → ⊥
unfolding chars
no-start h =
    let p : [] ≡ h.0 ∷ chars h.1 = ap chars h.2 ∙ chars-append (encode_utf8 h.0) h.1 (character-utf8 h.0 h.3)
    ∙ ap (λ (y : List ℕ). y ++ chars h.1) (one-character h.0 h.3) in
    absurd (cc)

-- ---- one more inline

abbrev pub NoTask : Inline → Type 0
NoTask (task is_checked) = ⊥
NoTask x = Unit {0}

-- right behind the space something begins that is to be seen
abbrev pub Fills : Inlines → Inline → Type 0
Fills (inline (task is_checked) (inline (text (c ∷ [])) no_inlines)) y = StartsInline y
Fills xs y = Unit {0}

pub fills-start : (xs : Inlines) (y : Inline) → StartsInline y → Fills xs y
fills-start (inline (task d) (inline (text (c ∷ [])) no_inlines)) y h = h
fills-start xs y h = tt

-- a line that ends with something to see isn't a box alone
pub fills-end : (xs : Inlines) (y : Inline) → Boxed xs → Ends xs → Fills xs y
fills-end (inline (task d) (inline (text (c ∷ [])) no_inlines)) y b h = absurd (no-end c b.0 h)
fills-end xs y b h = tt

space-met : (c : ℕ) (y : Inline) → c ≡ space → StartsInline y → BehindBox (met (text (c ∷ [])) y)
space-met c (text []) e h = absurd (no-start h)
space-met c (text (b ∷ s)) e h = (e, h)
space-met c y e h = (e, h)

text-met : (c d : ℕ) (s : List ℕ) (y : Inline) → c ≡ space → BlackStart (d ∷ s)
    → BehindBox (met (text (c ∷ d ∷ s)) y)
text-met c d s (text t) e h = (e, start-append (d ∷ s) t h)
text-met c d s y e h = (e, h)

behind-boxed : (is_checked : Bool) (xs : Inlines) (y : Inline) → BehindBox xs
    → Fills (inline (task is_checked) xs) y → Boxed (joined (inline (task is_checked) xs) y)
behind-boxed k no_inlines y b f = absurd b
behind-boxed k (inline (text (c ∷ [])) no_inlines) y b f = space-met c y b.0 f
behind-boxed k (inline (text (c ∷ [])) (inline z zs)) y b f = (b.0, joined-starts-on z zs y b.1)
behind-boxed k (inline (text (c ∷ d ∷ s)) no_inlines) y b f = text-met c d s y b.0 b.1
behind-boxed k (inline (text (c ∷ d ∷ s)) (inline z zs)) y b f = b
behind-boxed k (inline x xs) y b f = absurd b

pub one-boxed : (y : Inline) (xs : Inlines) → NoTask y → Boxed (inline y xs)
one-boxed (task d) xs n = absurd n
one-boxed y xs n = tt

met-boxed : (x y : Inline) → NoTask x → Boxed (met x y)
met-boxed (text s) (text t) n = tt
met-boxed (code s) (code t) n = tt
met-boxed (text s) y n = tt
met-boxed (code s) y n = tt
met-boxed (task d) y n = absurd n
met-boxed x y n = tt

pub joined-boxed : (xs : Inlines) (y : Inline) → Boxed xs → Fills xs y → NoTask y → Boxed (joined xs y)
joined-boxed no_inlines y b f n = one-boxed y no_inlines n
joined-boxed (inline (task d) xs) y b f n = behind-boxed d xs y b f
joined-boxed (inline x no_inlines) y b f n = met-boxed x y tt
joined-boxed (inline x (inline z zs)) y b f n = tt

-- ---- a change in the last inline

content-starts : (f : Inlines → Inlines) (x : Inline) → StartsInline x → StartsInline (with_content f x)
content-starts f (formatted g c) h = tt
content-starts f (link a t c) h = tt
content-starts f x h = h

pub last-starts : (f : Inlines → Inlines) (xs : Inlines) → Starts xs → Starts (in_last f xs)
last-starts f no_inlines h = h
last-starts f (inline x no_inlines) h = content-starts f x h
last-starts f (inline x (inline y ys)) h = h

behind-last : (f : Inlines → Inlines) (is_checked : Bool) (xs : Inlines) → BehindBox xs
    → Boxed (in_last f (inline (task is_checked) xs))
behind-last f k no_inlines b = absurd b
behind-last f k (inline (text (c ∷ [])) no_inlines) b = b
behind-last f k (inline (text (c ∷ [])) (inline z zs)) b = (b.0, last-starts f (inline z zs) b.1)
behind-last f k (inline (text (c ∷ d ∷ s)) no_inlines) b = b
behind-last f k (inline (text (c ∷ d ∷ s)) (inline z zs)) b = b
behind-last f k (inline x xs) b = absurd b

content-boxed : (f : Inlines → Inlines) (x : Inline) → NoTask x → Boxed (inline (with_content f x) no_inlines)
content-boxed f (formatted g c) n = tt
content-boxed f (link a t c) n = tt
content-boxed f (task d) n = absurd n
content-boxed f x n = tt

pub last-boxed : (f : Inlines → Inlines) (xs : Inlines) → Boxed xs → Boxed (in_last f xs)
last-boxed f no_inlines b = b
last-boxed f (inline (task d) xs) b = behind-last f d xs b
last-boxed f (inline x no_inlines) b = content-boxed f x tt
last-boxed f (inline x (inline y ys)) b = tt
