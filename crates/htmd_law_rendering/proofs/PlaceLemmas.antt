-- Where the elements of documents may stand by the strict grammar.
use Rattle.std.proofs.Common.{◌≡◌, ℕ, zero, suc, Bool, true, false, not, List, [], ◌∷◌, refl, codes, arith}
use Rattle.std.proofs.Common.{Option, Some, None}
use Rattle.std.specs.Fmt.{digits}
use Rattle.std.specs.Prelude.{◌||◌, nat_le}
use Rattle.std.proofs.lemmas.Bool.{or_parts, leb-true, not-true}
use Rattle.htmd_lexical.proofs.BooleanLemmas.{and_false}
use Rattle.htmd_lexical.specs.CharacterClasses.{is_among}
use Rattle.htmd_document.specs.Formats.{Format, Emphasis, Strong, Deleted, Superscript, Subscript, Inserted, Underlined}
use Rattle.htmd_document.specs.Formats.{Marked, Small, Keyboard, Abbreviation}
use Rattle.htmd_grammar.specs.Nesting.{Context, parent_name, holds_parts, is_allowed, is_optgroup, is_option, is_open}
use Rattle.htmd_grammar.specs.Nesting.{is_heading}
use Rattle.htmd_grammar.specs.RawContent.{holds_raw_text, holds_text_alone}
use Rattle.std.specs.List.{list_all}
use Rattle.std.specs.Str.{bytes_eq}
use Rattle.htmd_law_rendering.proofs.RawNames.{raw_names}
use Rattle.htmd_law_rendering.specs.RenderedTrees.{format_name, heading_name, list_name}

-- the innermost element takes texts and elements of lines
pub record TakesInlines (z : Bool) (c : Context) : Type 0 where
  pub not_alone : holds_text_alone z (parent_name c) ≡ false
  pub no_parts : holds_parts (parent_name c) ≡ false
  pub no_select : is_among (codes "select" ∷ []) (parent_name c) ≡ false
  pub no_optgroup : is_optgroup (parent_name c) ≡ false
  pub no_option : is_option (parent_name c) ≡ false

-- and no link is open
abbrev pub HasNoLink : Context → Type 0
HasNoLink c = is_open (codes "a" ∷ []) c ≡ false

-- it takes blocks too
pub record TakesBlocks (z : Bool) (c : Context) : Type 0 where
  pub takes_inlines : TakesInlines z c
  pub no_link : HasNoLink c
  pub no_paragraph : is_open (codes "p" ∷ []) c ≡ false
  pub no_heading : is_heading (parent_name c) ≡ false

-- ---- elements that take inlines

pub not-alone : (z : Bool) (n : List ℕ) → holds_text_alone true n ≡ false → holds_text_alone z n ≡ false
not-alone true n e = e
not-alone false n e =
    let p = or_parts (is_among (codes "title" ∷ codes "textarea" ∷ []) n) (holds_raw_text true n) e in
    let q = or_parts (is_among (codes "script" ∷ codes "style" ∷ codes "iframe" ∷ codes "noembed"
    ∷ codes "noframes" ∷ codes "xmp" ∷ []) n) (is_among (codes "noscript" ∷ []) n) p.1 in
    rw (p.0, q.0) refl

-- names of elements that hold no parts, options or raw text
abbrev pub holds_inlines : List ℕ → Bool
holds_inlines n =
    not (holds_text_alone true n || (holds_parts n || (is_among (codes "select" ∷ []) n
    || (is_optgroup n || is_option n))))

pub takes : (z : Bool) (n : List ℕ) (c : Context) → holds_inlines n ≡ true → TakesInlines z (n ∷ c)
takes z n c h =
    let e : (holds_text_alone true n || (holds_parts n || (is_among (codes "select" ∷ []) n
    || (is_optgroup n || is_option n)))) ≡ false = not-true _ h in
    let a = or_parts (holds_text_alone true n) (holds_parts n || (is_among (codes "select" ∷ []) n
    || (is_optgroup n || is_option n))) e in
    let b = or_parts (holds_parts n) (is_among (codes "select" ∷ []) n || (is_optgroup n || is_option n)) a.1 in
    let d = or_parts (is_among (codes "select" ∷ []) n) (is_optgroup n || is_option n) b.1 in
    let f = or_parts (is_optgroup n) (is_option n) d.1 in
    record {
      not_alone = not-alone z n a.0;
      no_parts = b.0;
      no_select = d.0;
      no_optgroup = f.0;
      no_option = f.1;
    }

pub format-holds : (f : Format) → holds_inlines (format_name f) ≡ true
format-holds Emphasis = refl
format-holds Strong = refl
format-holds Deleted = refl
format-holds Superscript = refl
format-holds Subscript = refl
format-holds Inserted = refl
format-holds Underlined = refl
format-holds Marked = refl
format-holds Small = refl
format-holds Keyboard = refl
format-holds (Abbreviation title) = refl

-- no format is a link
pub format-no_link : (f : Format) (c : Context) → HasNoLink c → HasNoLink (format_name f ∷ c)
format-no_link Emphasis c h = h
format-no_link Strong c h = h
format-no_link Deleted c h = h
format-no_link Superscript c h = h
format-no_link Subscript c h = h
format-no_link Inserted c h = h
format-no_link Underlined c h = h
format-no_link Marked c h = h
format-no_link Small c h = h
format-no_link Keyboard c h = h
format-no_link (Abbreviation title) c h = h

-- ---- headings

-- what holds for each of the six names
pub by_level : (P : List ℕ → Type 0) (level : ℕ) → nat_le 1 level ≡ true → nat_le level 6 ≡ true
    → P (codes "h1") → P (codes "h2") → P (codes "h3") → P (codes "h4") → P (codes "h5") → P (codes "h6")
    → P (heading_name level)
unfolding digits
by_level P zero l m a b c d e f = absurd (cc)
by_level P (suc zero) l m a b c d e f = a
by_level P (suc (suc zero)) l m a b c d e f = b
by_level P (suc (suc (suc zero))) l m a b c d e f = c
by_level P (suc (suc (suc (suc zero)))) l m a b c d e f = d
by_level P (suc (suc (suc (suc (suc zero))))) l m a b c d e f = e
by_level P (suc (suc (suc (suc (suc (suc zero)))))) l m a b c d e f = f
by_level P (suc (suc (suc (suc (suc (suc (suc level))))))) l m a b c d e f =
    let x = leb-true (suc (suc (suc (suc (suc (suc (suc level))))))) 6 m in absurd (omega arith)

-- ---- places

module _ (z : Bool) (c : Context) (t : TakesInlines z c) where
  pub format-allowed : (f : Format) → is_allowed z c (format_name f) ≡ true
  unfolding is_allowed
  format-allowed Emphasis = rw (t.not_alone, t.no_parts, t.no_select, t.no_optgroup, t.no_option) refl
  format-allowed Strong = rw (t.not_alone, t.no_parts, t.no_select, t.no_optgroup, t.no_option) refl
  format-allowed Deleted = rw (t.not_alone, t.no_parts, t.no_select, t.no_optgroup, t.no_option) refl
  format-allowed Superscript = rw (t.not_alone, t.no_parts, t.no_select, t.no_optgroup, t.no_option) refl
  format-allowed Subscript = rw (t.not_alone, t.no_parts, t.no_select, t.no_optgroup, t.no_option) refl
  format-allowed Inserted = rw (t.not_alone, t.no_parts, t.no_select, t.no_optgroup, t.no_option) refl
  format-allowed Underlined = rw (t.not_alone, t.no_parts, t.no_select, t.no_optgroup, t.no_option) refl
  format-allowed Marked = rw (t.not_alone, t.no_parts, t.no_select, t.no_optgroup, t.no_option) refl
  format-allowed Small = rw (t.not_alone, t.no_parts, t.no_select, t.no_optgroup, t.no_option) refl
  format-allowed Keyboard = rw (t.not_alone, t.no_parts, t.no_select, t.no_optgroup, t.no_option) refl
  format-allowed (Abbreviation title) =
      rw (t.not_alone, t.no_parts, t.no_select, t.no_optgroup, t.no_option) refl

  pub code-allowed : is_allowed z c (codes "code") ≡ true
  unfolding is_allowed
  code-allowed = rw (t.not_alone, t.no_parts, t.no_select, t.no_optgroup, t.no_option) refl

  pub img-allowed : is_allowed z c (codes "img") ≡ true
  unfolding is_allowed
  img-allowed = rw (t.not_alone, t.no_parts, t.no_select, t.no_optgroup, t.no_option) refl

  pub br-allowed : is_allowed z c (codes "br") ≡ true
  unfolding is_allowed
  br-allowed = rw (t.not_alone, t.no_parts, t.no_select, t.no_optgroup, t.no_option) refl

  pub input-allowed : is_allowed z c (codes "input") ≡ true
  unfolding is_allowed
  input-allowed = rw (t.not_alone, t.no_parts, t.no_select, t.no_optgroup, t.no_option) refl

  -- those that raw tags open, but for an `a`
  pub raw-places : list_all (λ m. bytes_eq m (codes "a") || is_allowed z c m) raw_names ≡ true
  unfolding is_allowed
  raw-places = rw (t.not_alone, t.no_parts, t.no_select, t.no_optgroup, t.no_option) refl

  pub a-allowed : HasNoLink c → is_allowed z c (codes "a") ≡ true
  unfolding is_allowed
  a-allowed l = rw (t.not_alone, t.no_parts, t.no_select, t.no_optgroup, t.no_option, l) refl

module _ (z : Bool) (c : Context) (b : TakesBlocks z c) where
  t : TakesInlines z c
  t = b.takes_inlines

  pub p-allowed : is_allowed z c (codes "p") ≡ true
  unfolding is_allowed
  p-allowed = rw (t.not_alone, t.no_parts, t.no_select, t.no_optgroup, t.no_option, b.no_paragraph) refl

  pub pre-allowed : is_allowed z c (codes "pre") ≡ true
  unfolding is_allowed
  pre-allowed = rw (t.not_alone, t.no_parts, t.no_select, t.no_optgroup, t.no_option, b.no_paragraph) refl

  pub hr-allowed : is_allowed z c (codes "hr") ≡ true
  unfolding is_allowed
  hr-allowed = rw (t.not_alone, t.no_parts, t.no_select, t.no_optgroup, t.no_option, b.no_paragraph) refl

  pub blockquote-allowed : is_allowed z c (codes "blockquote") ≡ true
  unfolding is_allowed
  blockquote-allowed = rw (t.not_alone, t.no_parts, t.no_select, t.no_optgroup, t.no_option, b.no_paragraph) refl

  pub table-allowed : is_allowed z c (codes "table") ≡ true
  unfolding is_allowed
  table-allowed = rw (t.not_alone, t.no_parts, t.no_select, t.no_optgroup, t.no_option, b.no_paragraph) refl

  pub list-allowed : (start : Option ℕ) → is_allowed z c (list_name start) ≡ true
  unfolding is_allowed
  list-allowed None = rw (t.not_alone, t.no_parts, t.no_select, t.no_optgroup, t.no_option, b.no_paragraph) refl
  list-allowed (Some n) = rw (t.not_alone, t.no_parts, t.no_select, t.no_optgroup, t.no_option, b.no_paragraph) refl

  pub heading-allowed : (level : ℕ) → nat_le 1 level ≡ true → nat_le level 6 ≡ true
      → is_allowed z c (heading_name level) ≡ true
  unfolding is_allowed
  heading-allowed level l m = by_level (λ n. is_allowed z c n ≡ true) level l m h1 h2 h3 h4 h5 h6
    where
      h1 : is_allowed z c (codes "h1") ≡ true
      h1 = rw (t.not_alone, t.no_parts, t.no_select, t.no_optgroup, t.no_option, b.no_paragraph, b.no_heading) refl

      h2 : is_allowed z c (codes "h2") ≡ true
      h2 = rw (t.not_alone, t.no_parts, t.no_select, t.no_optgroup, t.no_option, b.no_paragraph, b.no_heading) refl

      h3 : is_allowed z c (codes "h3") ≡ true
      h3 = rw (t.not_alone, t.no_parts, t.no_select, t.no_optgroup, t.no_option, b.no_paragraph, b.no_heading) refl

      h4 : is_allowed z c (codes "h4") ≡ true
      h4 = rw (t.not_alone, t.no_parts, t.no_select, t.no_optgroup, t.no_option, b.no_paragraph, b.no_heading) refl

      h5 : is_allowed z c (codes "h5") ≡ true
      h5 = rw (t.not_alone, t.no_parts, t.no_select, t.no_optgroup, t.no_option, b.no_paragraph, b.no_heading) refl

      h6 : is_allowed z c (codes "h6") ≡ true
      h6 = rw (t.not_alone, t.no_parts, t.no_select, t.no_optgroup, t.no_option, b.no_paragraph, b.no_heading) refl

  pub li-allowed : (start : Option ℕ) → is_allowed z (list_name start ∷ c) (codes "li") ≡ true
  unfolding is_allowed
  li-allowed None = rw (and_false z, b.no_paragraph) refl
  li-allowed (Some n) = rw (and_false z, b.no_paragraph) refl

-- ---- parts of tables

module _ (z : Bool) (c : Context) where
  pub thead-allowed : is_allowed z (codes "table" ∷ c) (codes "thead") ≡ true
  unfolding is_allowed
  thead-allowed = rw (and_false z) refl

  pub tbody-allowed : is_allowed z (codes "table" ∷ c) (codes "tbody") ≡ true
  unfolding is_allowed
  tbody-allowed = rw (and_false z) refl

  pub head_row-allowed : is_allowed z (codes "thead" ∷ c) (codes "tr") ≡ true
  unfolding is_allowed
  head_row-allowed = rw (and_false z) refl

  pub body_row-allowed : is_allowed z (codes "tbody" ∷ c) (codes "tr") ≡ true
  unfolding is_allowed
  body_row-allowed = rw (and_false z) refl

  pub th-allowed : is_allowed z (codes "tr" ∷ c) (codes "th") ≡ true
  unfolding is_allowed
  th-allowed = rw (and_false z) refl

  pub td-allowed : is_allowed z (codes "tr" ∷ c) (codes "td") ≡ true
  unfolding is_allowed
  td-allowed = rw (and_false z) refl

-- ---- what takes blocks

module _ (z : Bool) (c : Context) (b : TakesBlocks z c) where
  pub quote-takes : TakesBlocks z (codes "blockquote" ∷ c)
  quote-takes = record {
    takes_inlines = takes z (codes "blockquote") c refl;
    no_link = b.no_link;
    no_paragraph = b.no_paragraph;
    no_heading = refl;
  }

  pub li-takes : (start : Option ℕ) → TakesBlocks z (codes "li" ∷ list_name start ∷ c)
  li-takes None = record {
    takes_inlines = takes z (codes "li") (codes "ul" ∷ c) refl;
    no_link = b.no_link;
    no_paragraph = b.no_paragraph;
    no_heading = refl;
  }
  li-takes (Some n) = record {
    takes_inlines = takes z (codes "li") (codes "ol" ∷ c) refl;
    no_link = b.no_link;
    no_paragraph = b.no_paragraph;
    no_heading = refl;
  }
