-- Pieces of what is written, as they are read: the tokens of a piece, one after another, and what they mean to the
-- stack of openers.
use Rattle.std.proofs.Common.{◌≡◌, ◌∙◌, refl, ap, sym, ℕ, Bool, true, false, List, [], ◌∷◌, ◌++◌}
use Rattle.std.proofs.lemmas.List.{append_assoc, append-nil}
use Rattle.htmd_commonmark_reading.specs.Markup.{Inlines, no_inlines, letter, code, formatted, link, image, line_break}
use Rattle.htmd_commonmark_reading.specs.Markup.{task, raw, joined, letters}
use Rattle.htmd_commonmark_reading.specs.DelimiterRuns.{Token, Stack, base, opener, with_items, with_tokens, with_token}
use Rattle.htmd_commonmark_reading.specs.Brackets.{References, Brackets, outermost, bracket, and_tokens, scanned}
use Rattle.htmd_commonmark_reading.specs.Brackets.{step_of, kind, Step}

-- ---- inlines and stacks

pub joined_joined : (xs ys zs : Inlines) → joined (joined xs ys) zs ≡ joined xs (joined ys zs)
joined_joined no_inlines ys zs = refl
joined_joined (letter c xs) ys zs = ap (letter c) (joined_joined xs ys zs)
joined_joined (code s xs) ys zs = ap (code s) (joined_joined xs ys zs)
joined_joined (formatted f content xs) ys zs = ap (formatted f content) (joined_joined xs ys zs)
joined_joined (link a t content xs) ys zs = ap (link a t content) (joined_joined xs ys zs)
joined_joined (image a t content xs) ys zs = ap (image a t content) (joined_joined xs ys zs)
joined_joined (line_break xs) ys zs = ap line_break (joined_joined xs ys zs)
joined_joined (task d xs) ys zs = ap (task d) (joined_joined xs ys zs)
joined_joined (raw tag xs) ys zs = ap (raw tag) (joined_joined xs ys zs)

pub joined_none : (xs : Inlines) → joined xs no_inlines ≡ xs
joined_none no_inlines = refl
joined_none (letter c xs) = ap (letter c) (joined_none xs)
joined_none (code s xs) = ap (code s) (joined_none xs)
joined_none (formatted f content xs) = ap (formatted f content) (joined_none xs)
joined_none (link a t content xs) = ap (link a t content) (joined_none xs)
joined_none (image a t content xs) = ap (image a t content) (joined_none xs)
joined_none (line_break xs) = ap line_break (joined_none xs)
joined_none (task d xs) = ap (task d) (joined_none xs)
joined_none (raw tag xs) = ap (raw tag) (joined_none xs)

pub joined_letters : (s t : List ℕ) (ys : Inlines) → joined (letters s (letters t no_inlines)) ys
    ≡ letters s (letters t ys)
joined_letters [] [] ys = refl
joined_letters [] (c ∷ t) ys = ap (letter c) (joined_letters [] t ys)
joined_letters (c ∷ s) t ys = ap (letter c) (joined_letters s t ys)

pub with_both : (s : Stack) (xs ys : Inlines) → with_items (with_items s xs) ys ≡ with_items s (joined xs ys)
with_both (base items) xs ys = ap base (joined_joined items xs ys)
with_both (opener by items below) xs ys = ap (λ i. opener by i below) (joined_joined items xs ys)

pub with_none : (s : Stack) → with_items s no_inlines ≡ s
with_none (base items) = ap base (joined_none items)
with_none (opener by items below) = ap (λ i. opener by i below) (joined_none items)

pub tokens_append : (ts us : List Token) (s : Stack) → with_tokens s (ts ++ us) ≡ with_tokens (with_tokens s ts) us
tokens_append [] us s = refl
tokens_append (t ∷ ts) us s = tokens_append ts us (with_token s t)

-- ---- brackets

pub both_tokens : (b : Brackets) (ts us : List Token) → and_tokens (and_tokens b ts) us ≡ and_tokens b (ts ++ us)
both_tokens (outermost vs) ts us = ap outermost (append_assoc vs ts us)
both_tokens (bracket i a s vs below) ts us = ap (λ l. bracket i a s l below) (append_assoc vs ts us)

pub no_tokens : (b : Brackets) → and_tokens b [] ≡ b
no_tokens (outermost vs) = ap outermost (append-nil vs)
no_tokens (bracket i a s vs below) = ap (λ l. bracket i a s l below) (append-nil vs)

-- outside of links no bracket is open
abbrev pub AreBrackets : Bool → Brackets → Type 0
AreBrackets true b = Unit {0}
AreBrackets false (outermost ts) = Unit {0}
AreBrackets false (bracket i a s ts below) = ⊥

pub still_brackets : (in_link : Bool) (b : Brackets) (ts : List Token) → AreBrackets in_link b
    → AreBrackets in_link (and_tokens b ts)
still_brackets true b ts h = tt
still_brackets false (outermost us) ts h = tt
still_brackets false (bracket i a s us below) ts h = h

-- ---- pieces

-- the text before, from its end, when a piece was read
abbrev pub pushed : List ℕ → List ℕ → List ℕ
pushed [] before = before
pushed (c ∷ s) before = pushed s (c ∷ before)

pub pushed_append : (s t before : List ℕ) → pushed (s ++ t) before ≡ pushed t (pushed s before)
pushed_append [] t before = refl
pushed_append (c ∷ s) t before = pushed_append s t (c ∷ before)

-- Between these texts a piece is read as tokens that mean these inlines, whatever is open; the reader stands after the
-- piece then.
pub record IsRead (refs : References) (in_link : Bool) (before s ks : List ℕ) (xs : Inlines) : Type 0 where
  pub tokens : List Token
  pub scans : (b : Brackets) → AreBrackets in_link b
      → scanned refs (s ++ ks) 0 before b ≡ scanned refs ks 0 (pushed s before) (and_tokens b tokens)
  pub means : (st : Stack) → with_tokens st tokens ≡ with_items st xs

-- nothing is read as nothing
pub none_read : (refs : References) (in_link : Bool) (before ks : List ℕ)
    → IsRead refs in_link before [] ks no_inlines
none_read refs in_link before ks = record {
  tokens = [];
  scans = λ b h. ap (scanned refs ks 0 before) (sym (no_tokens b));
  means = λ st. sym (with_none st);
}

-- two pieces, one after the other
pub both_read : (refs : References) (in_link : Bool) (before s t ks : List ℕ) (xs ys : Inlines)
    → IsRead refs in_link before s (t ++ ks) xs → IsRead refs in_link (pushed s before) t ks ys
    → IsRead refs in_link before (s ++ t) ks (joined xs ys)
both_read refs in_link before s t ks xs ys p q = record {
  tokens = p.tokens ++ q.tokens;
  scans = λ b h.
      ap (λ u. scanned refs u 0 before b) (append_assoc s t ks) ∙ p.scans b h
      ∙ q.scans (and_tokens b p.tokens) (still_brackets in_link b p.tokens h)
      ∙ ap (λ u. scanned refs ks 0 u (and_tokens (and_tokens b p.tokens) q.tokens)) (sym (pushed_append s t before))
      ∙ ap (scanned refs ks 0 (pushed (s ++ t) before)) (both_tokens b p.tokens q.tokens);
  means = λ st.
      tokens_append p.tokens q.tokens st ∙ ap (λ u. with_tokens u q.tokens) (p.means st)
      ∙ q.means (with_items st xs) ∙ with_both st xs ys;
}

-- what a step gives
pub steps_to : (refs : References) (c : ℕ) (s before : List ℕ) (b : Brackets) (x : Step)
    → step_of (kind c) refs b before c s ≡ x
    → scanned refs (c ∷ s) 0 before b ≡ scanned refs s x.more (c ∷ before) x.brackets
steps_to refs c s before b x e = ap (λ (y : Step). scanned refs s y.more (c ∷ before) y.brackets) e
