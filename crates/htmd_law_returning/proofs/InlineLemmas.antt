-- What stands in a line, and around it: links, breaks and images, and what they cost.
use Rattle.std.proofs.Common.{◌≡◌, ℕ, Bool, true, false, ◌&&◌, List, [], ◌∷◌}
use Rattle.std.proofs.Common.{◌++◌, refl, sym, ap, ◌∙◌}
use Rattle.std.proofs.Common.{arith, filter, fold, encode_utf8_all, Option}
use Rattle.std.proofs.Common.{suc, ◌+◌, ◌≤◌}
use Rattle.std.proofs.Common.{◌<◌, ◌||◌, length, not}
use Rattle.std.specs.Prelude.{encode_utf8}
use Rattle.std.specs.Prelude.{nat_le}
use Rattle.std.specs.Str.{chars, is_utf8}
use Rattle.std.proofs.lemmas.List.Sums.{fold-append}
use Rattle.std.proofs.lemmas.Str.{chars-append, IsUtf8-from_is_utf8}
use Rattle.htmd_lexical.specs.Characters.{line_feed}
use Rattle.htmd_flow.specs.Paragraphs.{Writing, after_character, fed, fed_all}
use lib.Utf8.{encode}
use Rattle.std.specs.List.{list_any}
use Rattle.std.proofs.lemmas.Bool.{and_parts, and_from}
use Rattle.std.proofs.lemmas.Bool.Decides.{nat_tests}
use Rattle.htmd_document.specs.Formats.{Format}
use Rattle.htmd_document.specs.NormalInlines.{is_line, is_attribute, is_title}
use Rattle.htmd_flow.specs.Contexts.{is_link}
use Rattle.htmd_flow.specs.Parts as part
use Rattle.htmd_flow.specs.Parts.{Around, Part}
use Rattle.htmd_shown.specs.Marks as marks
use Rattle.htmd_shown.specs.declared.role.Role.TheVariants as role
use Rattle.htmd_shown.specs.Attributes.{address, title_of, description_of}
use Rattle.htmd_shown.specs.Facts.{made}
use Rattle.htmd_shown.specs.Facts.{facts_of, leaves_among}
use Rattle.htmd_shown.specs.ShownTexts.{is_shown, shown_text}
use Rattle.htmd_shown.specs.SimpleTrees.{Simples, none, more}
use Rattle.htmd_shown.specs.SimpleTrees as simple
use Rattle.htmd_shown.specs.Spaces.{is_blank_text}
use Rattle.htmd_law_rendering.specs.RenderedTrees.{pairs_of_image}
use Rattle.htmd_law_rendering.specs.RenderedTrees.{encoded_address}
use Rattle.htmd_law_returning.specs.SettledDocuments.{is_settled_address, is_settled_title, is_one_line}
use Rattle.htmd_law_returning.proofs.AddressLemmas.{encoded-stays, address-stays, title-stays, line-stays}
use Rattle.htmd_law_returning.proofs.AddressLemmas.{own-title, own-description}
use Rattle.htmd_law_returning.proofs.StartLemmas.{false-true, true-false}
use Rattle.htmd_document_of_tree.specs.Limits.{Written}
use Rattle.htmd_document_of_tree.specs.Limits.{with_text}
use Rattle.htmd_law_returning.proofs.CostLemmas.{AllSpend, spend-none, spend-text, spend-more}
use Rattle.htmd_law_returning.proofs.CostLemmas.{spend-element, leaves-more, one-leaf}
use Rattle.htmd_law_returning.proofs.CostLemmas.{spend-past, all-less}
use Rattle.htmd_shown.specs.Pieces.{greatest_count}
use Rattle.htmd_law_returning.proofs.FormatLemmas.{any-more}

-- ---- links around

-- no link is around, outside of links
abbrev pub IsFree : Bool → List Around → Type 0
IsFree in_link around = in_link ≡ false → list_any is_link around ≡ false

pub free-none : IsFree false []
free-none e = refl

pub free-more : (b : Bool) (around : List Around) (g : Format) → IsFree b around
    → IsFree b (around ++ part.formatted g ∷ [])
free-more b around g h e = any-more is_link around (part.formatted g) (h e) refl

pub free-link : (around : List Around) → IsFree true around
free-link around e = true-false e

-- ---- what is fed one after another

pub both-fed : (w : Writing) (ps qs rs ss : List Part) → fed_all w ps ≡ fed_all w qs
    → ((v : Writing) → fed_all v rs ≡ fed_all v ss) → fed_all w (ps ++ rs) ≡ fed_all w (qs ++ ss)
both-fed w ps qs rs ss e f =
    fold-append fed w ps rs ∙ (ap (λ v. fed_all v rs) e ∙ (f (fed_all w qs) ∙ sym (fold-append fed w qs ss)))

pub line-end-text : shown_text (line_feed ∷ []) ≡ line_feed ∷ []
unfolding chars encode
line-end-text = refl

pub line-end-characters : chars (line_feed ∷ []) ≡ line_feed ∷ []
unfolding chars encode
line-end-characters = refl

pub line-end-utf8 : is_utf8 (line_feed ∷ []) ≡ true
unfolding is_utf8 chars encode
line-end-utf8 = refl

-- a line's end before a text
pub characters-behind : (s : List ℕ) → chars (line_feed ∷ s) ≡ line_feed ∷ chars s
characters-behind s =
    chars-append (line_feed ∷ []) s (IsUtf8-from_is_utf8 (line_feed ∷ []) line-end-utf8)
    ∙ ap (λ cs. cs ++ chars s) line-end-characters

pub line-end-bytes : encode_utf8 line_feed ≡ line_feed ∷ []
unfolding encode
line-end-bytes = refl

pub line-end-shown : (s : List ℕ) → shown_text s ≡ s → shown_text (line_feed ∷ s) ≡ line_feed ∷ s
line-end-shown s h =
    ap (λ cs. encode_utf8_all (filter is_shown cs)) (characters-behind s)
    ∙ (ap (λ x. x ++ shown_text s) line-end-bytes ∙ ap (λ x. line_feed ∷ x) h)

-- nothing is seen of a line's end
pub line-end-letters : (s : List ℕ) → marks.letters (line_feed ∷ s) ≡ marks.letters s
line-end-letters s = ap (filter marks.is_seen) (characters-behind s)

pub line-end-unseen : marks.letters (line_feed ∷ []) ≡ []
line-end-unseen = ap (filter marks.is_seen) line-end-characters

-- a link that isn't for its own place

-- of two, in a heading or not
pub show-both : (h a b s t : Bool) → ((not h || (a && b)) && (s && t)) ≡ true
    → (((not h || a) && s) ≡ true) × (((not h || b) && t) ≡ true)
show-both false a b s t e = and_parts s t e
show-both true a b s t e =
    let p = and_parts (a && b) (s && t) e in
    let q = and_parts a b p.0 in
    let r = and_parts s t p.1 in
    (and_from a s q.0 r.0, and_from b t q.1 r.1)

-- a link that isn't for its own place shows
pub away-shown : (h a b : Bool) → (not h || not a) ≡ true → b ≡ a → (h && b) ≡ false
away-shown false a b e q = refl
away-shown true true b e q = false-true e
away-shown true false b e q = q

pub line-end-fed : (w : Writing) (around : List Around) (s : List ℕ)
    → fed w (part.run (line_feed ∷ s) around false)
    ≡ fed (fed w (part.run (line_feed ∷ []) around false)) (part.run s around false)
line-end-fed w around s =
    ap (λ cs. fold (λ v c. after_character v around false c) w cs) (characters-behind s)
    ∙ ap (λ cs. fold (λ v c. after_character v around false c)
    (fold (λ v c. after_character v around false c) w cs) (chars s)) (sym line-end-characters)

-- ---- what a line costs

pub left-light : (j k : ℕ) → j + k < greatest_count → j < greatest_count
left-light j k h = omega (arith, h)

pub right-light : (j k : ℕ) → j + k < greatest_count → k < greatest_count
right-light j k h = omega (arith, h)

pub later-number : (m n : ℕ) → nat_le (suc m) n ≡ true → suc m ≤ suc n
later-number m n h = grind (arith, nat_tests, h)

pub at-most : {a b c : ℕ} → a ≤ b → b ≤ c → a ≤ c
at-most h e = omega (arith, h, e)

pub at-most-suc : {a b : ℕ} → a ≡ b → a ≤ suc b
at-most-suc h = omega (arith, h)

-- a break and the line's end after it
pub broken-spent : {g : Written → Written} → (id k : ℕ) (s : List ℕ) (ts : Simples) → AllSpend k g ts
    → AllSpend (0 + k) g (more (made id role.LineBreak [] none) (more (simple.text s) ts))
broken-spent id k s ts h =
    spend-more 0 k (made id role.LineBreak [] none) (more (simple.text s) ts)
    (spend-element 0 id role.LineBreak (facts_of none) [] none refl spend-none)
    (spend-past k (simple.text s) ts (spend-text s) h)

-- the text behind the break begins with that end
pub broken-text : {g : Written → Written} → (id k : ℕ) (s : List ℕ) (ts : Simples)
    → AllSpend k g (more (simple.text s) ts)
    → AllSpend (0 + k) g (more (made id role.LineBreak [] none) (more (simple.text (line_feed ∷ s)) ts))
broken-text {g} id k s ts h =
    let longer : length (chars (line_feed ∷ s)) ≡ suc (length (chars s)) = ap length (characters-behind s) in
    let words : Simples = more (simple.text (line_feed ∷ s)) ts in
    let own : AllSpend k g words = (
      h.0,
      λ v w l.
          let less = h.1 v w l in
          let rest = all-less (with_text w s) (with_text w (line_feed ∷ s)) ts (refl, omega (arith, longer)) in
          (less.0 ∙ rest.0, omega (arith, less.1, rest.1)),
    ) in
    spend-more 0 k (made id role.LineBreak [] none) words
    (spend-element 0 id role.LineBreak (facts_of none) [] none refl spend-none) own

pub broken-counted : (id k : ℕ) (s : List ℕ) (ts : Simples) → leaves_among ts ≤ k
    → leaves_among (more (made id role.LineBreak [] none) (more (simple.text s) ts)) ≤ 1 + k
broken-counted id k s ts h =
    let rest : leaves_among (more (simple.text s) ts) ≤ 1 + k =
    leaves-more 1 k (simple.text s) ts (one-leaf (is_blank_text s)) h in
    omega (arith, rest)

-- and without that
pub unended-spent : {g : Written → Written} → (id k : ℕ) (ts : Simples) → AllSpend k g ts
    → AllSpend (0 + k) g (more (made id role.LineBreak [] none) ts)
unended-spent id k ts h =
    spend-more 0 k (made id role.LineBreak [] none) ts
    (spend-element 0 id role.LineBreak (facts_of none) [] none refl spend-none) h

pub unended-counted : (id k : ℕ) (ts : Simples) → leaves_among ts ≤ k
    → leaves_among (more (made id role.LineBreak [] none) ts) ≤ 1 + k
unended-counted id k ts h = omega (arith, h)

-- what an image says of itself
pub record IsKeptImage (a : List ℕ) (t : Option (List ℕ)) (d : List ℕ) : Type 0 where
  pub is : (around : List Around)
      → part.picture (address (encoded_address a)) (title_of (pairs_of_image a t d))
      (description_of (pairs_of_image a t d)) around
      ≡ part.picture a t d around

pub image-kept : (a : List ℕ) (t : Option (List ℕ)) (d : List ℕ)
    → (is_attribute a && is_title t && is_line d) ≡ true
    → (is_settled_address a && is_settled_title t && is_one_line d) ≡ true → IsKeptImage a t d
image-kept a t d normal settled =
    let good = and_parts (is_attribute a) (is_title t)
    (and_parts (is_attribute a && is_title t) (is_line d) normal).0 in
    let parts = and_parts (is_settled_address a && is_settled_title t) (is_one_line d) settled in
    let own = and_parts (is_settled_address a) (is_settled_title t) parts.0 in
    record {
      is = λ around. ap (λ s. part.picture (address s) (title_of (pairs_of_image a t d))
          (description_of (pairs_of_image a t d)) around) (encoded-stays a own.0)
          ∙ (ap (λ s. part.picture s (title_of (pairs_of_image a t d))
          (description_of (pairs_of_image a t d)) around)
          (address-stays a own.0)
          ∙ (ap (λ s. part.picture a s (description_of (pairs_of_image a t d)) around)
          (own-title a t d ∙ title-stays t good.1 own.1)
          ∙ ap (λ s. part.picture a t s around) (own-description a t d ∙ line-stays d parts.1)));
    }
