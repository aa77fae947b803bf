-- The first of inlines, which stays as it is when more come after them.
use Rattle.std.proofs.Common.{◌≡◌, ℕ, zero, suc, Bool, true, false, not, ◌&&◌, List, [], ◌∷◌, refl, ◌∙◌}
use Rattle.htmd_lexical.specs.CharacterClasses.{is_empty}
use Rattle.htmd_document.specs.Formats.{Format}
use Rattle.htmd_document.specs.Documents.{Inline, text, code, image, line_break, task, link, anchor, Inlines}
use Rattle.htmd_document.specs.Documents.{no_inlines, inline}
use Rattle.htmd_document.specs.Documents as value
use Rattle.htmd_flow.specs.Nesting.{wrapped, one_inline, met, joined, in_last, with_content, behind}
use Rattle.htmd_flow.specs.Parts.{Around}
use Rattle.htmd_document.specs.NormalInlines.{is_text, begins_with_space, has_none, first_passes, are_normal}
use Rattle.htmd_document.specs.NormalInlines.{meets, is_break, is_anchor}
use Rattle.htmd_law_documents.proofs.VisibleLemmas.{both-true}
use Rattle.htmd_law_documents.proofs.NormalTextLemmas.{not-false, from-not, true-false, false-true, first-append}
use Rattle.htmd_law_documents.proofs.NormalTextLemmas.{filled-append, from-text}

-- ---- what is first

-- there is a first one, and it isn't an empty text
abbrev pub is_begun : Inlines → Bool
is_begun no_inlines = false
is_begun (inline (text s) xs) = not (is_empty s)
is_begun (inline x xs) = true

-- the first is as it was
pub record BeginsAs (xs ys : Inlines) : Type 0 where
  pub begun : is_begun ys ≡ true
  pub space : first_passes begins_with_space ys ≡ first_passes begins_with_space xs
  pub break : first_passes is_break ys ≡ first_passes is_break xs
  pub anchor : first_passes is_anchor ys ≡ first_passes is_anchor xs

pub same-begin : (xs : Inlines) → is_begun xs ≡ true → BeginsAs xs xs
same-begin xs h = record { begun = h; space = refl; break = refl; anchor = refl }

pub then-begins : (xs ys zs : Inlines) → BeginsAs xs ys → BeginsAs ys zs → BeginsAs xs zs
then-begins xs ys zs a b = record {
  begun = b.begun;
  space = b.space ∙ a.space;
  break = b.break ∙ a.break;
  anchor = b.anchor ∙ a.anchor;
}

like : (x : Inline) (xs ys : Inlines) → is_begun (inline x xs) ≡ true → BeginsAs (inline x xs) (inline x ys)
like (text s) xs ys h = record { begun = h; space = refl; break = refl; anchor = refl }
like (code s) xs ys h = record { begun = refl; space = refl; break = refl; anchor = refl }
like (image a t d) xs ys h = record { begun = refl; space = refl; break = refl; anchor = refl }
like (anchor i) xs ys h = record { begun = refl; space = refl; break = refl; anchor = refl }
like (value.formatted f zs) xs ys h = record { begun = refl; space = refl; break = refl; anchor = refl }
like (link a t zs) xs ys h = record { begun = refl; space = refl; break = refl; anchor = refl }
like line_break xs ys h = record { begun = refl; space = refl; break = refl; anchor = refl }
like (task b) xs ys h = record { begun = refl; space = refl; break = refl; anchor = refl }

pub met-begins : (x y : Inline) → is_begun (one_inline x) ≡ true → BeginsAs (one_inline x) (met x y)
met-begins (text s) (text t) h = record {
  begun = not-false (filled-append s t (from-not (is_empty s) h));
  space = first-append s t (from-not (is_empty s) h);
  break = refl;
  anchor = refl;
}
met-begins (text s) (code t) h = record { begun = h; space = refl; break = refl; anchor = refl }
met-begins (text s) (image a t d) h = record { begun = h; space = refl; break = refl; anchor = refl }
met-begins (text s) (anchor i) h = record { begun = h; space = refl; break = refl; anchor = refl }
met-begins (text s) (value.formatted f xs) h = record { begun = h; space = refl; break = refl; anchor = refl }
met-begins (text s) (link a t xs) h = record { begun = h; space = refl; break = refl; anchor = refl }
met-begins (text s) line_break h = record { begun = h; space = refl; break = refl; anchor = refl }
met-begins (text s) (task b) h = record { begun = h; space = refl; break = refl; anchor = refl }
met-begins (code s) (text t) h = record { begun = refl; space = refl; break = refl; anchor = refl }
met-begins (code s) (code t) h = record { begun = refl; space = refl; break = refl; anchor = refl }
met-begins (code s) (image a t d) h = record { begun = refl; space = refl; break = refl; anchor = refl }
met-begins (code s) (anchor i) h = record { begun = refl; space = refl; break = refl; anchor = refl }
met-begins (code s) (value.formatted f xs) h = record { begun = refl; space = refl; break = refl; anchor = refl }
met-begins (code s) (link a t xs) h = record { begun = refl; space = refl; break = refl; anchor = refl }
met-begins (code s) line_break h = record { begun = refl; space = refl; break = refl; anchor = refl }
met-begins (code s) (task b) h = record { begun = refl; space = refl; break = refl; anchor = refl }
met-begins (image a t d) y h = record { begun = refl; space = refl; break = refl; anchor = refl }
met-begins (anchor i) y h = record { begun = refl; space = refl; break = refl; anchor = refl }
met-begins (value.formatted f xs) y h = record { begun = refl; space = refl; break = refl; anchor = refl }
met-begins (link a t xs) y h = record { begun = refl; space = refl; break = refl; anchor = refl }
met-begins line_break y h = record { begun = refl; space = refl; break = refl; anchor = refl }
met-begins (task b) y h = record { begun = refl; space = refl; break = refl; anchor = refl }

joined-begins : (xs : Inlines) (y : Inline) → is_begun xs ≡ true → BeginsAs xs (joined xs y)
joined-begins no_inlines y h = false-true h
joined-begins (inline x no_inlines) y h = met-begins x y h
joined-begins (inline x (inline x' xs)) y h = like x (inline x' xs) (joined (inline x' xs) y) h

changed-begins : (change : Inlines → Inlines) (x : Inline) → is_begun (one_inline x) ≡ true
    → BeginsAs (one_inline x) (one_inline (with_content change x))
changed-begins change (text s) h = record { begun = h; space = refl; break = refl; anchor = refl }
changed-begins change (code s) h = record { begun = refl; space = refl; break = refl; anchor = refl }
changed-begins change (image a t d) h = record { begun = refl; space = refl; break = refl; anchor = refl }
changed-begins change (anchor i) h = record { begun = refl; space = refl; break = refl; anchor = refl }
changed-begins change (value.formatted f xs) h = record { begun = refl; space = refl; break = refl; anchor = refl }
changed-begins change (link a t xs) h = record { begun = refl; space = refl; break = refl; anchor = refl }
changed-begins change line_break h = record { begun = refl; space = refl; break = refl; anchor = refl }
changed-begins change (task b) h = record { begun = refl; space = refl; break = refl; anchor = refl }

last-begins : (change : Inlines → Inlines) (xs : Inlines) → is_begun xs ≡ true → BeginsAs xs (in_last change xs)
last-begins change no_inlines h = false-true h
last-begins change (inline x no_inlines) h = changed-begins change x h
last-begins change (inline x (inline x' xs)) h = like x (inline x' xs) (in_last change (inline x' xs)) h

pub behind-begins : (n : ℕ) (xs : Inlines) (around : List Around) (y : Inline) → is_begun xs ≡ true
    → BeginsAs xs (behind n xs around y)
behind-begins zero xs around y h = joined-begins xs (wrapped around y) h
behind-begins (suc n) xs [] y h = joined-begins xs y h
behind-begins (suc n) xs (a ∷ around) y h = last-begins (λ content. behind n content around y) xs h

-- what is normal begins with no empty text
pub normal-begun : (l : Bool) (r : List Format) (xs : Inlines) → are_normal l r xs ≡ true → has_none xs ≡ false
    → is_begun xs ≡ true
normal-begun l r no_inlines h e = true-false e
normal-begun l r (inline (text s) xs) h e =
    let parts = both-true (is_text s && meets (text s) xs) (are_normal l r xs) h in
    not-false (from-text s (both-true (is_text s) (meets (text s) xs) parts.0).0).some
normal-begun l r (inline (code s) xs) h e = refl
normal-begun l r (inline (image a t d) xs) h e = refl
normal-begun l r (inline (anchor i) xs) h e = refl
normal-begun l r (inline (value.formatted f ys) xs) h e = refl
normal-begun l r (inline (link a t ys) xs) h e = refl
normal-begun l r (inline line_break xs) h e = refl
normal-begun l r (inline (task b) xs) h e = refl
