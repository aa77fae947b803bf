-- Formats: what is around, what shows of one, and what the title of an abbreviation costs.
use Rattle.std.proofs.Common.{◌≡◌, ℕ, Bool, true, false, ◌&&◌, ◌||◌, ◌==◌, List, [], ◌∷◌}
use Rattle.std.proofs.Common.{◌++◌, refl, sym, ap, ◌∙◌, arith, cond, subst, filter, length, Option, Some}
use Rattle.std.proofs.Common.{None}
use Rattle.std.proofs.Common.{suc, ◌+◌, ◌*◌, ◌≤◌}
use Rattle.std.proofs.Common.{◌<◌}
use Rattle.std.specs.Prelude.{nat_le}
use Rattle.std.specs.List.{list_any}
use Rattle.std.specs.Str.{chars}
use Rattle.std.specs.Option.{unwrap_or}
use Rattle.std.proofs.lemmas.Bool.{and_parts}
use Rattle.std.proofs.lemmas.Bool.Decides.{nat_tests}
use Rattle.htmd_lexical.specs.AttributePairs.{AttributePair}
use Rattle.htmd_document.specs.DocumentLimits.{most_raised}
use Rattle.htmd_document.specs.declared.document.Format.TheVariants as marked
use Rattle.htmd_document.specs.declared.document.InlineElement.TheVariants as written
use Rattle.htmd_document.specs.Formats.{Format, Emphasis, Strong, Deleted, Superscript, Subscript, Inserted, Underlined}
use Rattle.htmd_document.specs.Formats.{Marked, Small, Keyboard, Abbreviation, is_same_kind, number}
use Rattle.htmd_document.specs.Formats.{is_raised, raised_count}
use Rattle.htmd_document.specs.NormalInlines.{is_barred, is_around, has_title, is_text, is_trimmed, is_line}
use Rattle.htmd_flow.specs.Contexts.{Context, bare_in, inside_format, is_format, is_enough}
use Rattle.htmd_flow.specs.Contexts.{is_raised_around, raised_around}
use Rattle.htmd_flow.specs.Parts as part
use Rattle.htmd_flow.specs.Parts.{Around}
use Rattle.htmd_shown.specs.declared.role.Role.{Role}
use Rattle.htmd_shown.specs.declared.role.Role.TheVariants as role
use Rattle.htmd_shown.specs.Attributes.{title_of, is_filled}
use Rattle.htmd_shown.specs.Facts.{made, facts_of, leaves_among}
use Rattle.htmd_shown.specs.Repeats.{is_copied}
use Rattle.htmd_shown.specs.Kinds.{has_table, have_table}
use Rattle.htmd_shown.specs.Roles.{is_edged, is_verbatim, is_line_break, is_paragraph, is_item}
use Rattle.htmd_shown.specs.SimpleTrees.{Simple, Simples}
use Rattle.htmd_document_of_tree.specs.Limits.{Written, characters, size, title_text}
use Rattle.htmd_shown.specs.Pieces.{greatest_count}
use Rattle.htmd_law_rendering.specs.RenderedTrees.{format_name, pairs_of_format}
use Rattle.htmd_law_returning.specs.SettledDocuments.{is_one_line, title_weight}
use Rattle.htmd_law_returning.specs.SettledDocuments.{with_format}
use Rattle.htmd_law_returning.specs.PageFormats.{format_shows}
use Rattle.htmd_law_returning.proofs.AddressLemmas.{line-stays}
use Rattle.htmd_law_returning.proofs.BareLemmas.{is_bare, are_bare}
use Rattle.htmd_law_returning.proofs.CostLemmas.{AllSpend, Spends, spend-element, spend-carrying, count-light}
use Rattle.htmd_law_returning.proofs.StandLemmas.{is_break}
use Rattle.htmd_law_returning.proofs.StartLemmas.{false-true, true-false}
use lib.Utf8.{encode}

-- ---- formats around

-- a place in a line or not, with so many quotes around
abbrev pub place : Bool → Bool → ℕ → List Around → Context
place flat is_rich n around = record (bare_in is_rich) { around = around; is_flat = flat; nested = n }

pub either-false : (a b : Bool) → (a || b) ≡ false → (a ≡ false) × (b ≡ false)
either-false true b e = true-false e
either-false false b e = (refl, e)

pub any-more : (p : Around → Bool) (xs : List Around) (x : Around) → list_any p xs ≡ false → p x ≡ false
    → list_any p (xs ++ x ∷ []) ≡ false
any-more p [] x h e = ap (λ b. b || false) e
any-more p (a ∷ xs) x h e =
    let parts = either-false (p a) (list_any p xs) h in
    ap (λ b. b || list_any p (xs ++ x ∷ [])) parts.0 ∙ any-more p xs x parts.1 e

-- what is around is none but these formats, and as many that raise or lower
pub record Covers (around : List Around) (fs : List Format) : Type 0 where
  pub apart : (f : Format) → is_around fs f ≡ false → list_any (is_format f) around ≡ false
  pub raised : raised_around around ≡ raised_count fs

pub covers-none : Covers [] []
covers-none = record { apart = λ f e. refl; raised = refl }

other-number : (m n : ℕ) → (m == n) ≡ false → (n == m) ≡ false
other-number m n h = grind (arith, nat_tests, h)

-- one more behind those that are counted
counted-more : (p : Around → Bool) (xs : List Around) (x : Around)
    → length (filter p (xs ++ x ∷ [])) ≡ cond (p x) (suc (length (filter p xs))) (length (filter p xs))
counted-more p [] x = either (p x)
  where
    either : (b : Bool) → length (cond b (x ∷ []) []) ≡ cond b 1 0
    either true = refl
    either false = refl
counted-more p (a ∷ xs) x = either (p a) (p x) (counted-more p xs x)
  where
    n : ℕ
    n = length (filter p xs)

    either : (b c : Bool) → length (filter p (xs ++ x ∷ [])) ≡ cond c (suc n) n
        → length (cond b (a ∷ filter p (xs ++ x ∷ [])) (filter p (xs ++ x ∷ [])))
        ≡ cond c (suc (length (cond b (a ∷ filter p xs) (filter p xs))))
        (length (cond b (a ∷ filter p xs) (filter p xs)))
    either true true h = ap suc h
    either true false h = ap suc h
    either false true h = h
    either false false h = h

pub covers-more : (around : List Around) (fs : List Format) (g : Format) → Covers around fs
    → Covers (around ++ part.formatted g ∷ []) (g ∷ fs)
covers-more around fs g h = record {
  apart = λ f b.
      let parts = either-false (is_same_kind g f) (is_around fs f) b in
      any-more (is_format f) around (part.formatted g) (h.apart f parts.1)
      (other-number (number g) (number f) parts.0);
  raised = counted-more is_raised_around around (part.formatted g)
      ∙ ap (λ n. cond (is_raised g) (suc n) n) h.raised;
}

pub covers-link : (around : List Around) (fs : List Format) (n : ℕ) (a : List ℕ) (t : Option (List ℕ))
    → Covers around fs → Covers (around ++ part.linked n a t ∷ []) fs
covers-link around fs n a t h = record {
  apart = λ f b. any-more (is_format f) around (part.linked n a t) (h.apart f b) refl;
  raised = counted-more is_raised_around around (part.linked n a t) ∙ h.raised;
}

-- a format that may stand here is put around
not-enough : (around : List Around) (fs : List Format) (f : Format) → Covers around fs → is_barred fs f ≡ false
    → is_enough f around ≡ false
not-enough around fs f h e = either (is_raised f) e
  where
    either : (b : Bool) → cond b (nat_le most_raised (raised_count fs)) (is_around fs f) ≡ false
        → cond b (nat_le most_raised (raised_around around)) (list_any (is_format f) around) ≡ false
    either true e = ap (nat_le most_raised) h.raised ∙ e
    either false e = h.apart f e

pub inside-formats : (flat is_rich : Bool) (n : ℕ) (around : List Around) (fs : List Format) (f : Format)
    → Covers around fs → is_barred fs f ≡ false
    → inside_format f (place flat is_rich n around) ≡ place flat is_rich n (around ++ part.formatted f ∷ [])
inside-formats flat is_rich n around fs f h e =
    ap (λ b. cond b (place flat is_rich n around) (place flat is_rich n (around ++ part.formatted f ∷ [])))
    (not-enough around fs f h e)

-- ---- what shows

-- on a page that shows it
abbrev pub format_role : Format → Role
format_role Emphasis = role.Format marked.Emphasis
format_role Strong = role.Format marked.Strong
format_role Deleted = role.Format marked.Deleted
format_role Superscript = role.Element written.Superscript
format_role Subscript = role.Element written.Subscript
format_role Inserted = role.Element written.Inserted
format_role Underlined = role.Element written.Underlined
format_role Marked = role.Element written.Marked
format_role Small = role.Element written.Small
format_role Keyboard = role.Element written.Keyboard
format_role (Abbreviation title) = role.Abbreviation

-- a role that stands in a line, and is no link
pub record IsInlineRole (r : Role) : Type 0 where
  pub edged : is_edged r ≡ false
  pub verbatim : is_verbatim r ≡ false
  pub breaks : is_line_break r ≡ false
  pub lined : is_paragraph r ≡ false
  pub no_item : is_item r ≡ false

pub format-inline : (f : Format) → IsInlineRole (format_role f)
format-inline Emphasis = record { edged = refl; verbatim = refl; breaks = refl; lined = refl; no_item = refl }
format-inline Strong = record { edged = refl; verbatim = refl; breaks = refl; lined = refl; no_item = refl }
format-inline Deleted = record { edged = refl; verbatim = refl; breaks = refl; lined = refl; no_item = refl }
format-inline Superscript = record { edged = refl; verbatim = refl; breaks = refl; lined = refl; no_item = refl }
format-inline Subscript = record { edged = refl; verbatim = refl; breaks = refl; lined = refl; no_item = refl }
format-inline Inserted = record { edged = refl; verbatim = refl; breaks = refl; lined = refl; no_item = refl }
format-inline Underlined = record { edged = refl; verbatim = refl; breaks = refl; lined = refl; no_item = refl }
format-inline Marked = record { edged = refl; verbatim = refl; breaks = refl; lined = refl; no_item = refl }
format-inline Small = record { edged = refl; verbatim = refl; breaks = refl; lined = refl; no_item = refl }
format-inline Keyboard = record { edged = refl; verbatim = refl; breaks = refl; lined = refl; no_item = refl }
format-inline (Abbreviation title) =
    record { edged = refl; verbatim = refl; breaks = refl; lined = refl; no_item = refl }

pub format-tableless : (id : ℕ) (f : Format) (attributes : List AttributePair) (content : Simples)
    → have_table content ≡ false → has_table (made id (format_role f) attributes content) ≡ false
format-tableless id Emphasis attributes content h = h
format-tableless id Strong attributes content h = h
format-tableless id Deleted attributes content h = h
format-tableless id Superscript attributes content h = h
format-tableless id Subscript attributes content h = h
format-tableless id Inserted attributes content h = h
format-tableless id Underlined attributes content h = h
format-tableless id Marked attributes content h = h
format-tableless id Small attributes content h = h
format-tableless id Keyboard attributes content h = h
format-tableless id (Abbreviation title) attributes content h = h

pub format-bare : (id : ℕ) (f : Format) (content : Simples) → are_bare content ≡ true
    → is_bare (made id (format_role f) (pairs_of_format f) content) ≡ true
format-bare id Emphasis content h = h
format-bare id Strong content h = h
format-bare id Deleted content h = h
format-bare id Superscript content h = h
format-bare id Subscript content h = h
format-bare id Inserted content h = h
format-bare id Underlined content h = h
format-bare id Marked content h = h
format-bare id Small content h = h
format-bare id Keyboard content h = h
format-bare id (Abbreviation title) content h = h

-- none is a break
pub format-unbroken : (m : Format) → is_break (format_name m) ≡ false
format-unbroken Emphasis = refl
format-unbroken Strong = refl
format-unbroken Deleted = refl
format-unbroken Superscript = refl
format-unbroken Subscript = refl
format-unbroken Inserted = refl
format-unbroken Underlined = refl
format-unbroken Marked = refl
format-unbroken Small = refl
format-unbroken Keyboard = refl
format-unbroken (Abbreviation title) = refl

-- none shows a formula again
pub format-fresh : (before : Option (List AttributePair)) (f : Format) → is_copied before [] ≡ false
    → is_copied before (pairs_of_format f) ≡ false
format-fresh before Emphasis h = h
format-fresh before Strong h = h
format-fresh before Deleted h = h
format-fresh before Superscript h = h
format-fresh before Subscript h = h
format-fresh before Inserted h = h
format-fresh before Underlined h = h
format-fresh before Marked h = h
format-fresh before Small h = h
format-fresh before Keyboard h = h
format-fresh None (Abbreviation title) h = refl
format-fresh (Some b) (Abbreviation title) h = refl

-- ---- titles

title-filled : (title : List ℕ) → has_title (Abbreviation title) ≡ true → is_filled title ≡ true
title-filled [] h =
    let own = and_parts (is_text []) (is_trimmed []) h in
    false-true (and_parts (is_line []) false (and_parts (is_line [] && false) true own.0).0).1
title-filled (b ∷ s) h = grind (arith, nat_tests)

pub abbreviation-title : (title : List ℕ) → has_title (Abbreviation title) ≡ true → is_one_line title ≡ true
    → title_of (pairs_of_format (Abbreviation title)) ≡ Some title
abbreviation-title title h e =
    ap (λ x. cond (is_filled x) (Some x) None) (line-stays title e)
    ∙ ap (λ b. cond b (Some title) None) (title-filled title h)

no-characters : characters [] ≡ 0
unfolding chars encode
no-characters = refl

abbreviation-size : (title : List ℕ) → has_title (Abbreviation title) ≡ true → is_one_line title ≡ true
    → size role.Abbreviation (pairs_of_format (Abbreviation title)) ≡ characters title
abbreviation-size title h e =
    ap (λ n. n + characters (title_text (pairs_of_format (Abbreviation title)))) no-characters
    ∙ (ap (λ t. 0 + characters (unwrap_or t [])) (abbreviation-title title h e) ∙ zero-more (characters title))
  where
    zero-more : (n : ℕ) → 0 + n ≡ n
    zero-more n = omega arith

-- ---- costs

unweighed : {g : Written → Written} → (k n : ℕ) (t : Simple) → Spends k g t → Spends (0 * n + k) g t
unweighed {g} k n t h = subst (λ j. Spends j g t) (sym none) h
  where
    none : 0 * n + k ≡ k
    none = omega arith

pub format-spent : {g : Written → Written} → (is_rich : Bool) (f : Format) (k n id : ℕ) (content : Simples)
    → format_shows is_rich f ≡ true
    → has_title f ≡ true → leaves_among content ≤ n → title_weight f * n + k < greatest_count
    → AllSpend k g content
    → Spends (title_weight f * n + k) (λ w. g (with_format f w))
    (made id (format_role f) (pairs_of_format f) content)
format-spent is_rich Emphasis k n id content h t counted light inner =
    unweighed k n (made id (format_role Emphasis) [] content)
    (spend-element k id (format_role Emphasis) (facts_of content) [] content refl inner)
format-spent is_rich Strong k n id content h t counted light inner =
    unweighed k n (made id (format_role Strong) [] content)
    (spend-element k id (format_role Strong) (facts_of content) [] content refl inner)
format-spent is_rich Deleted k n id content h t counted light inner =
    unweighed k n (made id (format_role Deleted) [] content)
    (spend-element k id (format_role Deleted) (facts_of content) [] content refl inner)
format-spent is_rich Superscript k n id content h t counted light inner =
    unweighed k n (made id (format_role Superscript) [] content)
    (spend-element k id (format_role Superscript) (facts_of content) [] content refl inner)
format-spent is_rich Subscript k n id content h t counted light inner =
    unweighed k n (made id (format_role Subscript) [] content)
    (spend-element k id (format_role Subscript) (facts_of content) [] content refl inner)
format-spent is_rich Inserted k n id content h t counted light inner =
    unweighed k n (made id (format_role Inserted) [] content)
    (spend-element k id (format_role Inserted) (facts_of content) [] content refl inner)
format-spent is_rich Underlined k n id content h t counted light inner =
    unweighed k n (made id (format_role Underlined) [] content)
    (spend-element k id (format_role Underlined) (facts_of content) [] content refl inner)
format-spent is_rich Marked k n id content h t counted light inner =
    unweighed k n (made id (format_role Marked) [] content)
    (spend-element k id (format_role Marked) (facts_of content) [] content refl inner)
format-spent is_rich Small k n id content h t counted light inner =
    unweighed k n (made id (format_role Small) [] content)
    (spend-element k id (format_role Small) (facts_of content) [] content refl inner)
format-spent is_rich Keyboard k n id content h t counted light inner =
    unweighed k n (made id (format_role Keyboard) [] content)
    (spend-element k id (format_role Keyboard) (facts_of content) [] content refl inner)
format-spent is_rich (Abbreviation title) k n id content h t counted light inner =
    let line = (and_parts is_rich (is_one_line title) h).1 in
    spend-carrying (suc (characters title)) k n id role.Abbreviation (pairs_of_format (Abbreviation title)) content []
    title refl refl (ap (λ t. unwrap_or t []) (abbreviation-title title t line))
    (less (abbreviation-size title t line)) counted
    (count-light (characters title) n (omega (arith, light))) inner
  where
    less : {a b : ℕ} → a ≡ b → a ≤ suc b
    less h = omega (arith, h)
