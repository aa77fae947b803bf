-- What is written of inlines behind two texts that end alike is the same.
use Rattle.std.proofs.Common.{◌≡◌, ℕ, suc, ◌+◌, ◌-◌, ◌%◌, Bool, true, false, not, cond, List, [], ◌∷◌, ◌++◌, length}
use Rattle.std.proofs.Common.{take, reverse, refl, sym, ap, ◌∙◌, subst, append_assoc, append-nil, arith, Option, Some}
use Rattle.std.proofs.Common.{None}
use Rattle.std.proofs.Common.{codes, length-append}
use Rattle.std.specs.Prelude.{◌==◌, ◌&&◌, ◌||◌, is_none, slice_get, replicate}
use Rattle.std.specs.List.{prefix_len, suffix_len, position_or_len, range_with_len}
use Rattle.std.specs.Str.{chars, continuation_len, lead_bits}
use Rattle.std.proofs.lemmas.List.{reverse-append}
use Rattle.std.proofs.lemmas.Str.{chars-nil}
use Rattle.htmd_lexical.specs.Characters.{space, asterisk, underscore, tilde, right_square_bracket, line_feed}
use Rattle.htmd_document.specs.Documents.{Inline, text, code, formatted, link, image, anchor, line_break, task}
use Rattle.htmd_document.specs.Documents.{Inlines, no_inlines, inline}
use Rattle.htmd_document.specs.Formats.{Format, Emphasis, Strong, Deleted, Superscript, Subscript, Inserted}
use Rattle.htmd_document.specs.Formats.{Underlined, Marked, Small, Keyboard, Abbreviation}
use Rattle.htmd_document.specs.Tags.{escaped_value}
use Rattle.htmd_document.specs.Tags as html
use Rattle.htmd_markdown.specs.CodeSpans.{meets_delimiter, smallest_unused_len, delimited_text, space_if}
use Rattle.htmd_markdown.specs.LineBreaks as breaks
use Rattle.htmd_markdown.specs.Runs.{longest_run, has_run}
use Rattle.htmd_markdown.specs.declared.line_break.BrStyle.{BrStyle}
use Rattle.htmd_markdown.specs.declared.line_break.BrStyle.TheVariants.{TwoSpaces, Backslash}
use Rattle.htmd_commonmark.specs.declared.inline_ends.Following.{Following}
use Rattle.htmd_commonmark.specs.declared.line.Line.{Line}
use Rattle.htmd_commonmark.specs.declared.line.LineKind.TheVariants.{Paragraph}
use Rattle.htmd_commonmark.specs.declared.marks.Sides.{Sides}
use Rattle.htmd_commonmark.specs.CharacterKinds.{last_character}
use Rattle.htmd_commonmark.specs.CodeSpans.{code_span}
use Rattle.htmd_commonmark.specs.InlineEnds.{follows, first_of_all, last_of_all}
use Rattle.htmd_commonmark.specs.InlineMarkdown.{written, with_inline, sides_of, place_of, written_code}
use Rattle.htmd_commonmark.specs.InlineMarkdown.{written_resource}
use Rattle.htmd_commonmark.specs.InlineMarkdown.{written_image, written_task, place_of_description}
use Rattle.htmd_commonmark.specs.Marks.{Mark, mark_for, fits, row, tags_of, is_character, can_stand, meets_equal}
use Rattle.htmd_commonmark.specs.Marks.{is_disputed, is_in_word}
use Rattle.htmd_commonmark.specs.TextEscapes.{escaped}
use Rattle.htmd_commonmark.specs.WrittenText.{Written, wrote, in_line, character_before, is_backslash}
use Rattle.htmd_commonmark.specs.WrittenText.{is_last_escaped}
use Rattle.htmd_chunks.proofs.BegunTextsLemmas.{line_in, at}
use Rattle.htmd_chunks.proofs.CleanTextsLemmas.{IsClean, chars-behind, chars-ascii, in-append}
use Rattle.htmd_chunks.proofs.RunsLemmas.{IsSomething, something}

-- ---- texts that end alike, with whatever stands behind both

pub record Same (a b : List ℕ) : Type 0 where
  pub before : (u : List ℕ) → character_before (a ++ u) ≡ character_before (b ++ u)
  pub escaped : (u : List ℕ) → is_last_escaped (a ++ u) ≡ is_last_escaped (b ++ u)

pub same-more : (a b e : List ℕ) → Same a b → Same (a ++ e) (b ++ e)
same-more a b e same = record {
  before =
      λ u. ap character_before (append_assoc a e u) ∙ same.before (e ++ u)
      ∙ ap character_before (sym (append_assoc b e u));
  escaped =
      λ u. ap is_last_escaped (append_assoc a e u) ∙ same.escaped (e ++ u)
      ∙ ap is_last_escaped (sym (append_assoc b e u));
}

pub same-trans : (a b c : List ℕ) → Same a b → Same b c → Same a c
same-trans a b c p q = record {
  before = λ u. p.before u ∙ q.before u;
  escaped = λ u. p.escaped u ∙ q.escaped u;
}

pub same-sym : (a b : List ℕ) → Same a b → Same b a
same-sym a b p = record { before = λ u. sym (p.before u); escaped = λ u. sym (p.escaped u) }

same-before : (a b : List ℕ) → Same a b → character_before a ≡ character_before b
same-before a b same =
    ap character_before (sym (append-nil a)) ∙ same.before [] ∙ ap character_before (append-nil b)

same-escaped : (a b : List ℕ) → Same a b → is_last_escaped a ≡ is_last_escaped b
same-escaped a b same =
    ap is_last_escaped (sym (append-nil a)) ∙ same.escaped [] ∙ ap is_last_escaped (append-nil b)

-- the same is written behind both
pub record Emits (w v : Written) (a b : List ℕ) : Type 0 where
  pub put : List ℕ
  pub left : w ≡ at (a ++ put) []
  pub right : v ≡ at (b ++ put) []

-- what stands at the sides of a format
abbrev sides_with : Following → Line → Inlines → Option ℕ → Bool → Sides
sides_with f l content before is_escaped = record {
  before = before;
  is_escaped = is_escaped;
  first = first_of_all l.kind content;
  last = last_of_all content;
  after = f.after;
  is_last = f.is_last;
}

nest : (a o e c : List ℕ) → ((a ++ o) ++ e) ++ c ≡ a ++ (o ++ (e ++ c))
nest a o e c = append_assoc (a ++ o) e c ∙ append_assoc a o (e ++ c)

mutual
  pub emit-all : (style : BrStyle) (in_link : Bool) (closing : Option ℕ) (a b : List ℕ) (xs : Inlines) → Same a b
      → Emits (written (line_in Paragraph style in_link) (at a []) closing xs)
      (written (line_in Paragraph style in_link) (at b []) closing xs) a b
  emit-all style in_link closing a b no_inlines same = record {
    put = [];
    left = ap (λ t. at t []) (sym (append-nil a));
    right = ap (λ t. at t []) (sym (append-nil b));
  }
  emit-all style in_link closing a b (inline x rest) same =
      let l = line_in Paragraph style in_link in
      let one = emit-one style in_link (follows Paragraph closing rest) a b x same in
      let more = emit-all style in_link closing (a ++ one.put) (b ++ one.put) rest (same-more a b one.put same) in
      record {
        put = one.put ++ more.put;
        left =
            ap (λ (w : Written). written l w closing rest) one.left ∙ more.left
            ∙ ap (λ t. at t []) (append_assoc a one.put more.put);
        right =
            ap (λ (w : Written). written l w closing rest) one.right ∙ more.right
            ∙ ap (λ t. at t []) (append_assoc b one.put more.put);
      }

  emit-one : (style : BrStyle) (in_link : Bool) (f : Following) (a b : List ℕ) (x : Inline) → Same a b
      → Emits (with_inline (line_in Paragraph style in_link) (at a []) f x)
      (with_inline (line_in Paragraph style in_link) (at b []) f x) a b
  emit-one style in_link f a b (text s) same =
      let l = line_in Paragraph style in_link in
      record {
        put = escaped (place_of l a f.after) s;
        left = refl;
        right =
            ap (λ c. at (b ++ escaped (record {
              begins_line = is_none c && true;
              in_brackets = in_link;
              before = c;
              after = f.after;
            }) s) []) (sym (same-before a b same));
      }
  emit-one style in_link f a b (code s) same = record {
    put = written_code (line_in Paragraph style in_link) s;
    left = refl;
    right = refl;
  }
  emit-one style in_link f a b (formatted format content) same =
      let l = line_in Paragraph style in_link in
      let mark = mark_for format (sides_of l a f content) in
      let inner = emit-all style in_link (Some mark.sign) (a ++ mark.opener) (b ++ mark.opener) content
      (same-more a b mark.opener same) in
      let alike : sides_of l b f content ≡ sides_of l a f content =
      ap (λ c. sides_with f l content c (is_last_escaped b)) (sym (same-before a b same))
      ∙ ap (sides_with f l content (character_before a)) (sym (same-escaped a b same)) in
      record {
        put = mark.opener ++ (inner.put ++ mark.closer);
        left =
            ap (λ w. wrote w mark.closer) inner.left
            ∙ ap (λ t. at t []) (nest a mark.opener inner.put mark.closer);
        right =
            ap (λ s. let k = mark_for format s in
            wrote (written l (at (b ++ k.opener) []) (Some k.sign) content) k.closer) alike
            ∙ ap (λ w. wrote w mark.closer) inner.right
            ∙ ap (λ t. at t []) (nest b mark.opener inner.put mark.closer);
      }
  emit-one style in_link f a b (link address name content) same =
      let inner = emit-all style true (Some right_square_bracket) (a ++ codes "[") (b ++ codes "[") content
      (same-more a b (codes "[") same) in
      let resource = written_resource address name in
      record {
        put = codes "[" ++ (inner.put ++ resource);
        left =
            ap (λ w. wrote w resource) inner.left ∙ ap (λ t. at t []) (nest a (codes "[") inner.put resource);
        right =
            ap (λ w. wrote w resource) inner.right ∙ ap (λ t. at t []) (nest b (codes "[") inner.put resource);
      }
  emit-one style in_link f a b (image address name description) same = record {
    put = written_image address name description;
    left = refl;
    right = refl;
  }
  emit-one style in_link f a b (anchor id) same = record { put = html.anchor id; left = refl; right = refl }
  emit-one style in_link f a b line_break same = record {
    put = breaks.line_break style;
    left = refl;
    right = refl;
  }
  emit-one style in_link f a b (task is_checked) same = record {
    put = written_task is_checked;
    left = refl;
    right = refl;
  }

-- ---- behind a space, and at the beginning

some-behind : {X : Type 0} (xs : List X) (y : X) → IsSomething (xs ++ y ∷ [])
some-behind [] y = something y []
some-behind (x ∷ xs) y = something x (xs ++ y ∷ [])

pub reverse-some : {X : Type 0} (xs : List X) → IsSomething xs → IsSomething (reverse xs)
reverse-some {X} xs (something x rest) =
    subst (λ (l : List X). IsSomething l) (sym (reverse-append (x ∷ []) rest)) (some-behind (reverse rest) x)

first-of-some : {X : Type 0} (xs ys : List X) → IsSomething xs → slice_get (xs ++ ys) 0 ≡ slice_get xs 0
first-of-some xs ys (something x rest) = refl

-- the last character is that of what stands behind
pub last-behind : (a b : List ℕ) → IsClean a → IsSomething (chars b)
    → last_character (a ++ b) ≡ last_character b
last-behind a b clean some =
    ap (λ cs. slice_get (reverse cs) 0) (chars-behind a b clean)
    ∙ ap (λ cs. slice_get cs 0) (reverse-append (chars a) (chars b))
    ∙ first-of-some (reverse (chars b)) (reverse (chars a)) (reverse-some (chars b) some)

pub prefix-behind : (p : ℕ → Bool) (c : ℕ) (xs ys : List ℕ) → p c ≡ false
    → prefix_len p (xs ++ c ∷ ys) ≡ prefix_len p xs
prefix-behind p c [] ys none = ap (λ e. cond e (1 + prefix_len p ys) 0) none
prefix-behind p c (x ∷ xs) ys none =
    ap (λ n. cond (p x) (1 + n) 0) (prefix-behind p c xs ys none)

-- what ends behind a space counts alone
pub suffix-behind-any : (p : ℕ → Bool) (a v : List ℕ) → p space ≡ false
    → suffix_len p ((a ++ space ∷ []) ++ v) ≡ suffix_len p v
suffix-behind-any p a v none =
    ap (prefix_len p) (reverse-append (a ++ space ∷ []) v
    ∙ ap (λ l. reverse v ++ l) (reverse-append a (space ∷ [])))
    ∙ prefix-behind p space (reverse v) (reverse a) none

suffix-behind : (a v : List ℕ) → suffix_len is_backslash ((a ++ space ∷ []) ++ v) ≡ suffix_len is_backslash v
suffix-behind a v =
    ap (prefix_len is_backslash) (reverse-append (a ++ space ∷ []) v
    ∙ ap (λ l. reverse v ++ l) (reverse-append a (space ∷ [])))
    ∙ prefix-behind is_backslash space (reverse v) (reverse a) refl

take-behind : (x : List ℕ) (b : ℕ) (v : List ℕ)
    → take (length (x ++ b ∷ v) - 1) (x ++ b ∷ v) ≡ x ++ take (length (b ∷ v) - 1) (b ∷ v)
take-behind [] b v = refl
take-behind (c ∷ x) b v =
    let n : length (c ∷ (x ++ b ∷ v)) - 1 ≡ suc (length (x ++ b ∷ v) - 1) =
    omega (arith, length-append x (b ∷ v)) in
    ap (λ k. take k (c ∷ (x ++ b ∷ v))) n ∙ ap (λ l. c ∷ l) (take-behind x b v)

escaped-behind : (a : List ℕ) (b : ℕ) (v : List ℕ)
    → is_last_escaped ((a ++ space ∷ []) ++ b ∷ v) ≡ is_last_escaped (b ∷ v)
escaped-behind a b v =
    ap (λ t. suffix_len is_backslash t % 2 == 1) (take-behind (a ++ space ∷ []) b v)
    ∙ ap (λ n. n % 2 == 1) (suffix-behind a (take (length (b ∷ v) - 1) (b ∷ v)))

-- a text that has characters, whatever stands behind it
abbrev pub HasCharacters : List ℕ → Type 0
HasCharacters v = (u : List ℕ) → IsSomething (chars (v ++ u))

-- the same behind a space as at the beginning
pub shift-same : (a : List ℕ) (b : ℕ) (v : List ℕ) → IsClean (a ++ space ∷ []) → HasCharacters (b ∷ v)
    → Same ((a ++ space ∷ []) ++ b ∷ v) (b ∷ v)
shift-same a b v clean has = record {
  before =
      λ u. ap character_before (append_assoc (a ++ space ∷ []) (b ∷ v) u)
      ∙ ap in_line (last-behind (a ++ space ∷ []) (b ∷ (v ++ u)) clean (has u));
  escaped =
      λ u. ap is_last_escaped (append_assoc (a ++ space ∷ []) (b ∷ v) u) ∙ escaped-behind a b (v ++ u);
}

ascii-characters : (b : ℕ) (v : List ℕ) → continuation_len b ≡ 0 → lead_bits b ≡ b
    → HasCharacters (b ∷ v)
ascii-characters b v none bits =
    λ u. subst (λ (l : List ℕ). IsSomething l) (sym (chars-ascii b (v ++ u) none bits))
    (something b (chars (v ++ u)))

-- ---- a first inline that is no text

abbrev pub is_text : Inline → Bool
is_text (text s) = true
is_text _ = false

-- no character before, or a space
pub data Calm : Option ℕ → Type 0 where
  calm_none : Calm None
  calm_space : Calm (Some space)

abbrev sides_from : Option ℕ → Option ℕ → Bool → Bool → Option ℕ → Option ℕ → Sides
sides_from before after is_escaped is_last first last = record {
  before = before;
  is_escaped = is_escaped;
  first = first;
  last = last;
  after = after;
  is_last = is_last;
}

-- the signs of marks
pub data Sign : ℕ → Type 0 where
  asterisks : Sign asterisk
  underscores : Sign underscore
  tildes : Sign tilde

stand-calm : (inner outer : Option ℕ) → Calm outer → can_stand inner outer ≡ can_stand inner None
stand-calm None outer calm_none = refl
stand-calm None outer calm_space = refl
stand-calm (Some c) outer calm_none = refl
stand-calm (Some c) outer calm_space = refl

abbrev fits_with : ℕ → Sides → Bool → Bool → Bool
fits_with sign s before after =
    not (meets_equal sign s) && (before && after) && not (is_disputed sign s) && not (is_in_word sign s)

after-with : (sign : ℕ) (b a : Option ℕ) (e l : Bool) (first last : Option ℕ) (x y : Bool) → Sign sign
    → Calm a
    → fits_with sign (sides_from b a e l first last) x y ≡ fits_with sign (sides_from b None e true first last) x y
after-with sign b a e true first last x y asterisks calm_none = refl
after-with sign b a e true first last x y asterisks calm_space = refl
after-with sign b a e false first last x y asterisks calm_none = refl
after-with sign b a e false first last x y asterisks calm_space = refl
after-with sign b a e true first last x y underscores calm_none = refl
after-with sign b a e true first last x y underscores calm_space = refl
after-with sign b a e false first last x y underscores calm_none = refl
after-with sign b a e false first last x y underscores calm_space = refl
after-with sign b a e true first last x y tildes calm_none = refl
after-with sign b a e true first last x y tildes calm_space = refl
after-with sign b a e false first last x y tildes calm_none = refl
after-with sign b a e false first last x y tildes calm_space = refl

fits-after : (sign : ℕ) (b a : Option ℕ) (e l : Bool) (first last : Option ℕ) → Sign sign → Calm a
    → fits sign (sides_from b a e l first last) ≡ fits sign (sides_from b None e true first last)
fits-after sign b a e l first last is calm =
    ap (fits_with sign (sides_from b a e l first last) (can_stand first b)) (stand-calm last a calm)
    ∙ after-with sign b a e l first last (can_stand first b) (can_stand last None) is calm

before-with : (sign : ℕ) (b a : Option ℕ) (e l : Bool) (first last : Option ℕ) (x y : Bool) → Sign sign
    → Calm b
    → fits_with sign (sides_from b a e l first last) x y ≡ fits_with sign (sides_from None a false l first last) x y
before-with sign b a e l first last x y asterisks calm_none = refl
before-with sign b a e l first last x y asterisks calm_space = refl
before-with sign b a e l first last x y underscores calm_none = refl
before-with sign b a e l first last x y underscores calm_space = refl
before-with sign b a e l first last x y tildes calm_none = refl
before-with sign b a e l first last x y tildes calm_space = refl

fits-before : (sign : ℕ) (b a : Option ℕ) (e l : Bool) (first last : Option ℕ) → Sign sign → Calm b
    → fits sign (sides_from b a e l first last) ≡ fits sign (sides_from None a false l first last)
fits-before sign b a e l first last is calm =
    ap (λ x. fits_with sign (sides_from b a e l first last) x (can_stand last a)) (stand-calm first b calm)
    ∙ before-with sign b a e l first last (can_stand first None) (can_stand last a) is calm

marks-by : (format : Format) (s t : Sides) → ((sign : ℕ) → Sign sign → fits sign s ≡ fits sign t)
    → mark_for format s ≡ mark_for format t
marks-by Emphasis s t alike =
    ap (λ x. cond x (row asterisk (codes "*")) (cond (fits underscore s) (row underscore (codes "_"))
    (tags_of Emphasis)))
    (alike asterisk asterisks)
    ∙ ap (λ x. cond (fits asterisk t) (row asterisk (codes "*"))
    (cond x (row underscore (codes "_")) (tags_of Emphasis)))
    (alike underscore underscores)
marks-by Strong s t alike =
    ap (λ x. cond x (row asterisk (codes "**")) (cond (fits underscore s) (row underscore (codes "__"))
    (tags_of Strong)))
    (alike asterisk asterisks)
    ∙ ap (λ x. cond (fits asterisk t) (row asterisk (codes "**"))
    (cond x (row underscore (codes "__")) (tags_of Strong)))
    (alike underscore underscores)
marks-by Deleted s t alike =
    ap (λ x. cond x (row tilde (codes "~~")) (tags_of Deleted)) (alike tilde tildes)
marks-by Superscript s t alike = refl
marks-by Subscript s t alike = refl
marks-by Inserted s t alike = refl
marks-by Underlined s t alike = refl
marks-by Marked s t alike = refl
marks-by Small s t alike = refl
marks-by Keyboard s t alike = refl
marks-by (Abbreviation title) s t alike = refl

-- what follows an inline that is no text doesn't change what is written of it
pub calm-following : (style : BrStyle) (w : Written) (x : Inline) (f g : Following) → is_text x ≡ false
    → Calm f.after → Calm g.after
    → with_inline (line_in Paragraph style false) w f x ≡ with_inline (line_in Paragraph style false) w g x
calm-following style w (text s) f g other cf cg = absurd (cc)
calm-following style w (code s) f g other cf cg = refl
calm-following style w (formatted format content) f g other cf cg =
    let l = line_in Paragraph style false in
    let first = first_of_all Paragraph content in
    let last = last_of_all content in
    let before = character_before w.text in
    let e = is_last_escaped w.text in
    ap (λ (k : Mark). wrote (written l (wrote w k.opener) (Some k.sign) content) k.closer)
    (marks-by format (sides_of l w.text f content) (sides_of l w.text g content)
    (λ sign is. fits-after sign before f.after e f.is_last first last is cf
    ∙ sym (fits-after sign before g.after e g.is_last first last is cg)))
calm-following style w (link address name content) f g other cf cg = refl
calm-following style w (image address name description) f g other cf cg = refl
calm-following style w (anchor id) f g other cf cg = refl
calm-following style w line_break f g other cf cg = refl
calm-following style w (task is_checked) f g other cf cg = refl

-- Texts behind which the same is written of an inline that is no text: marks fit behind both or behind none, and they
-- end alike with more behind them.
pub record Near (a b : List ℕ) : Type 0 where
  pub fit : (sign : ℕ) (after : Option ℕ) (l : Bool) (first last : Option ℕ) → Sign sign
      → fits sign (sides_from (character_before a) after (is_last_escaped a) l first last)
      ≡ fits sign (sides_from (character_before b) after (is_last_escaped b) l first last)
  pub more : (c : ℕ) (u : List ℕ) → continuation_len c ≡ 0 → lead_bits c ≡ c
      → Same (a ++ c ∷ u) (b ++ c ∷ u)

pub same-near : (a b : List ℕ) → Same a b → Near a b
same-near a b same = record {
  fit =
      λ sign after l first last is.
      ap (λ c. fits sign (sides_from c after (is_last_escaped a) l first last)) (same-before a b same)
      ∙ ap (λ e. fits sign (sides_from (character_before b) after e l first last)) (same-escaped a b same);
  more = λ c u none bits. same-more a b (c ∷ u) same;
}

-- what is written first behind both
record First (w v : Written) (a b : List ℕ) : Type 0 where
  byte : ℕ
  rest : List ℕ
  ascii : continuation_len byte ≡ 0
  bits : lead_bits byte ≡ byte
  left : w ≡ at (a ++ byte ∷ rest) []
  right : v ≡ at (b ++ byte ∷ rest) []

first-of : (w v : Written) (a b : List ℕ) (c : ℕ) (s : List ℕ) → continuation_len c ≡ 0 → lead_bits c ≡ c
    → w ≡ at (a ++ c ∷ s) [] → v ≡ at (b ++ c ∷ s) [] → First w v a b
first-of w v a b c s none bits left right = record {
  byte = c;
  rest = s;
  ascii = none;
  bits = bits;
  left = left;
  right = right;
}

some-chars : (b : ℕ) → continuation_len b ≡ 0 → lead_bits b ≡ b → chars (b ∷ []) ≡ b ∷ []
some-chars b none bits = chars-ascii b [] none bits ∙ ap (λ l. b ∷ l) chars-nil

-- the last character before what follows a space
pub space-before : (a : List ℕ) → IsClean a → last_character (a ++ space ∷ []) ≡ Some space
space-before a clean =
    let one = some-chars space refl refl in
    last-behind a (space ∷ []) clean
    (subst (λ (l : List ℕ). IsSomething l) (sym one) (something space []))
    ∙ ap (λ cs. slice_get (reverse cs) 0) one

pub calm-before : (a : List ℕ) → IsClean a → Calm (character_before (a ++ space ∷ []))
calm-before a clean = subst Calm (sym (ap in_line (space-before a clean))) calm_space

pub calm-nothing : Calm (character_before [])
calm-nothing = subst Calm (sym (ap (λ cs. in_line (slice_get (reverse cs) 0)) chars-nil)) calm_none

-- the first byte of a mark
record Opens (k : Mark) : Type 0 where
  byte : ℕ
  rest : List ℕ
  is : k.opener ≡ byte ∷ rest
  ascii : continuation_len byte ≡ 0
  bits : lead_bits byte ≡ byte

opens-either : (e : Bool) (k l : Mark) → Opens k → Opens l → Opens (cond e k l)
opens-either true k l one two = one
opens-either false k l one two = two

opens : (k : Mark) (b : ℕ) (s : List ℕ) → k.opener ≡ b ∷ s → continuation_len b ≡ 0 → lead_bits b ≡ b
    → Opens k
opens k b s is none bits = record { byte = b; rest = s; is = is; ascii = none; bits = bits }

mark-opens : (format : Format) (s : Sides) → Opens (mark_for format s)
mark-opens Emphasis s =
    opens-either (fits asterisk s) (row asterisk (codes "*"))
    (cond (fits underscore s) (row underscore (codes "_")) (tags_of Emphasis))
    (opens (row asterisk (codes "*")) 42 [] refl refl refl)
    (opens-either (fits underscore s) (row underscore (codes "_")) (tags_of Emphasis)
    (opens (row underscore (codes "_")) 95 [] refl refl refl) (opens (tags_of Emphasis) 60 (codes "em>") refl refl
    refl))
mark-opens Strong s =
    opens-either (fits asterisk s) (row asterisk (codes "**"))
    (cond (fits underscore s) (row underscore (codes "__")) (tags_of Strong))
    (opens (row asterisk (codes "**")) 42 (codes "*") refl refl refl)
    (opens-either (fits underscore s) (row underscore (codes "__")) (tags_of Strong)
    (opens (row underscore (codes "__")) 95 (codes "_") refl refl refl)
    (opens (tags_of Strong) 60 (codes "strong>") refl refl refl))
mark-opens Deleted s =
    opens-either (fits tilde s) (row tilde (codes "~~")) (tags_of Deleted)
    (opens (row tilde (codes "~~")) 126 (codes "~") refl refl refl)
    (opens (tags_of Deleted) 60 (codes "del>") refl refl refl)
mark-opens Superscript s = opens (tags_of Superscript) 60 (codes "sup>") refl refl refl
mark-opens Subscript s = opens (tags_of Subscript) 60 (codes "sub>") refl refl refl
mark-opens Inserted s = opens (tags_of Inserted) 60 (codes "ins>") refl refl refl
mark-opens Underlined s = opens (tags_of Underlined) 60 (codes "u>") refl refl refl
mark-opens Marked s = opens (tags_of Marked) 60 (codes "mark>") refl refl refl
mark-opens Small s = opens (tags_of Small) 60 (codes "small>") refl refl refl
mark-opens Keyboard s = opens (tags_of Keyboard) 60 (codes "kbd>") refl refl refl
mark-opens (Abbreviation title) s =
    opens (tags_of (Abbreviation title)) 60 (codes "abbr title=\"" ++ escaped_value title ++ codes "\">") refl refl refl

span-opens : (s : List ℕ) → (rest : List ℕ) × (code_span s ≡ 96 ∷ rest)
span-opens s =
    let k = position_or_len (λ n. not (has_run 96 n s)) (range_with_len 1 (longest_run 96 s)) in
    let one : smallest_unused_len s ≡ suc k = omega arith in (
      ((replicate k 96 ++ space_if (meets_delimiter s)) ++ s) ++ space_if (meets_delimiter s) ++ replicate (suc k) 96,
      ap (λ n. delimited_text (meets_delimiter s) n s) one,
    )

first-emit : (style : BrStyle) (f : Following) (a b : List ℕ) (x : Inline) → is_text x ≡ false → Near a b
    → First (with_inline (line_in Paragraph style false) (at a []) f x)
    (with_inline (line_in Paragraph style false) (at b []) f x) a b
first-emit style f a b (text s) other near = absurd (cc)
first-emit style f a b (code s) other near =
    let one = span-opens s in
    first-of _ _ a b 96 one.0 refl refl (ap (λ t. at (a ++ t) []) one.1) (ap (λ t. at (b ++ t) []) one.1)
first-emit style f a b (formatted format content) other near =
    let l = line_in Paragraph style false in
    let first = first_of_all Paragraph content in
    let last = last_of_all content in
    let k = mark_for format (sides_of l b f content) in
    let opened = mark-opens format (sides_of l b f content) in
    let same : mark_for format (sides_of l a f content) ≡ k =
    marks-by format (sides_of l a f content) (sides_of l b f content)
    (λ sign is. near.fit sign f.after f.is_last first last is) in
    let inner : Emits (written l (at (a ++ k.opener) []) (Some k.sign) content)
    (written l (at (b ++ k.opener) []) (Some k.sign) content) (a ++ k.opener) (b ++ k.opener) =
    emit-all style false (Some k.sign) (a ++ k.opener) (b ++ k.opener) content
    (subst (λ o. Same (a ++ o) (b ++ o)) (sym opened.is) (near.more opened.byte opened.rest opened.ascii
    opened.bits)) in
    first-of _ _ a b opened.byte (opened.rest ++ (inner.put ++ k.closer)) opened.ascii opened.bits
    (ap (λ (m : Mark). wrote (written l (at (a ++ m.opener) []) (Some m.sign) content) m.closer) same
    ∙ ap (λ w. wrote w k.closer) inner.left
    ∙ ap (λ t. at t []) (nest a k.opener inner.put k.closer)
    ∙ ap (λ o. at (a ++ (o ++ (inner.put ++ k.closer))) []) opened.is)
    (ap (λ w. wrote w k.closer) inner.right
    ∙ ap (λ t. at t []) (nest b k.opener inner.put k.closer)
    ∙ ap (λ o. at (b ++ (o ++ (inner.put ++ k.closer))) []) opened.is)
first-emit style f a b (link address name content) other near =
    let l = line_in Paragraph style true in
    let resource = written_resource address name in
    let inner = emit-all style true (Some right_square_bracket) (a ++ codes "[") (b ++ codes "[") content
    (near.more 91 [] refl refl) in
    first-of _ _ a b 91 (inner.put ++ resource) refl refl
    (ap (λ w. wrote w resource) inner.left ∙ ap (λ t. at t []) (nest a (codes "[") inner.put resource))
    (ap (λ w. wrote w resource) inner.right ∙ ap (λ t. at t []) (nest b (codes "[") inner.put resource))
first-emit style f a b (image address name description) other near =
    first-of _ _ a b 33
    ((91 ∷ escaped place_of_description description) ++ written_resource address name) refl refl refl refl
first-emit style f a b (anchor id) other near =
    first-of _ _ a b 60
    (((codes "a id=\"" ++ escaped_value id) ++ codes "\">") ++ codes "</a>") refl refl refl refl
first-emit TwoSpaces f a b line_break other near = first-of _ _ a b 32 (codes " \n") refl refl refl refl
first-emit Backslash f a b line_break other near = first-of _ _ a b 92 (codes "\n") refl refl refl refl
first-emit style f a b (task true) other near = first-of _ _ a b 91 (codes "x]") refl refl refl refl
first-emit style f a b (task false) other near = first-of _ _ a b 91 (codes " ]") refl refl refl refl

-- inlines, the first of which is no text
pub data StartsApart : Inlines → Type 0 where
  no_start : StartsApart no_inlines
  starts : (x : Inline) (rest : Inlines) → is_text x ≡ false → StartsApart (inline x rest)

-- the same is written of them
pub emit-near : (style : BrStyle) (a b : List ℕ) (xs : Inlines) → StartsApart xs → Near a b
    → Emits (written (line_in Paragraph style false) (at a []) None xs)
    (written (line_in Paragraph style false) (at b []) None xs) a b
emit-near style a b xs no_start near = record {
  put = [];
  left = ap (λ t. at t []) (sym (append-nil a));
  right = ap (λ t. at t []) (sym (append-nil b));
}
emit-near style a b xs (starts x rest other) near =
    let l = line_in Paragraph style false in
    let first = first-emit style (follows Paragraph None rest) a b x other near in
    let e = first.byte ∷ first.rest in
    let more = emit-all style false None (a ++ e) (b ++ e) rest
    (near.more first.byte first.rest first.ascii first.bits) in
    record {
      put = e ++ more.put;
      left =
          ap (λ (w : Written). written l w None rest) first.left ∙ more.left
          ∙ ap (λ t. at t []) (append_assoc a e more.put);
      right =
          ap (λ (w : Written). written l w None rest) first.right ∙ more.right
          ∙ ap (λ t. at t []) (append_assoc b e more.put);
    }

-- ---- behind a space, and at the beginning

pub space-near : (a : List ℕ) → IsClean a → Near (a ++ space ∷ []) []
space-near a clean = record {
  fit =
      λ sign after l first last is.
      fits-before sign (character_before (a ++ space ∷ [])) after (is_last_escaped (a ++ space ∷ [])) l first last
      is
      (calm-before a clean)
      ∙ sym (fits-before sign (character_before []) after (is_last_escaped []) l first last is calm-nothing);
  more =
      λ c u none bits.
      shift-same a c u (in-append a (space ∷ []) clean refl) (ascii-characters c u none bits);
}

-- ---- with and without a backslash before a byte that is no sign of a mark

-- a byte of ASCII that is none
pub record Plain (c : ℕ) : Type 0 where
  pub ascii : continuation_len c ≡ 0
  pub bits : lead_bits c ≡ c
  pub backslash : is_backslash c ≡ false
  pub line : (c == line_feed) ≡ false
  pub sign : (sign : ℕ) → Sign sign → (c == sign) ≡ false

-- the last character and the escape of it are told by what stands behind such a byte
plain-same : (q : List ℕ) (c : ℕ) (d : ℕ) (v : List ℕ) → IsClean q → Plain c
    → Same ((q ++ 92 ∷ []) ++ c ∷ d ∷ v) (q ++ c ∷ d ∷ v)
plain-same q c d v clean plain = record {
  before =
      λ u. ap in_line
      (ap last_character (append_assoc (q ++ 92 ∷ []) (c ∷ d ∷ v) u)
      ∙ last-behind (q ++ 92 ∷ []) (c ∷ d ∷ (v ++ u)) (in-append q (92 ∷ []) clean refl)
      (some (d ∷ (v ++ u)))
      ∙ sym (last-behind q (c ∷ d ∷ (v ++ u)) clean (some (d ∷ (v ++ u))))
      ∙ ap last_character (sym (append_assoc q (c ∷ d ∷ v) u)));
  escaped =
      λ u. ap is_last_escaped (append_assoc (q ++ 92 ∷ []) (c ∷ d ∷ v) u) ∙ alone (q ++ 92 ∷ []) (v ++ u)
      ∙ sym (alone q (v ++ u)) ∙ ap is_last_escaped (sym (append_assoc q (c ∷ d ∷ v) u));
}
  where
    some : (w : List ℕ) → IsSomething (chars (c ∷ w))
    some w = subst (λ (l : List ℕ). IsSomething l) (sym (chars-ascii c w plain.ascii plain.bits))
        (something c (chars w))

    -- backslashes before the byte don't count
    counted : (x w : List ℕ) → suffix_len is_backslash (x ++ c ∷ w) ≡ suffix_len is_backslash (c ∷ w)
    counted x w =
        ap (prefix_len is_backslash) (reverse-append x (c ∷ w)
        ∙ ap (λ l. l ++ reverse x) (reverse-append (c ∷ []) w)
        ∙ append_assoc (reverse w) (c ∷ []) (reverse x))
        ∙ prefix-behind is_backslash c (reverse w) (reverse x) plain.backslash
        ∙ sym (prefix-behind is_backslash c (reverse w) [] plain.backslash)
        ∙ ap (prefix_len is_backslash) (sym (reverse-append (c ∷ []) w))

    alone : (x w : List ℕ) → is_last_escaped (x ++ c ∷ d ∷ w) ≡ is_last_escaped (c ∷ d ∷ w)
    alone x w =
        let n : length (c ∷ d ∷ w) - 1 ≡ suc (length w) = omega arith in
        ap (λ t. suffix_len is_backslash t % 2 == 1)
        (take-behind x c (d ∷ w) ∙ ap (λ k. x ++ take k (c ∷ d ∷ w)) n)
        ∙ ap (λ k. k % 2 == 1) (counted x (take (length w) (d ∷ w)))
        ∙ ap (λ k. suffix_len is_backslash (take k (c ∷ d ∷ w)) % 2 == 1) (sym n)

plain-fit : (o : Option ℕ) (c : ℕ) → Plain c → o ≡ Some c → (sign : ℕ) (after : Option ℕ) (e f l : Bool)
    (first last : Option ℕ) → Sign sign
    → fits sign (sides_from o after e l first last) ≡ fits sign (sides_from o after f l first last)
plain-fit o c plain is sign after e f l first last a_sign =
    let none : is_character sign o ≡ false = ap (is_character sign) is ∙ plain.sign sign a_sign in
    ap (λ x. not (x && not e || l && is_character sign after) && (can_stand first o && can_stand last after)
    && not (is_disputed sign (sides_from o after e l first last))
    && not (is_in_word sign (sides_from o after e l first last)))
    none
    ∙ ap (λ x. not (x && not f || l && is_character sign after) && (can_stand first o && can_stand last after)
    && not (is_disputed sign (sides_from o after e l first last))
    && not (is_in_word sign (sides_from o after e l first last)))
    (sym none)

pub plain-near : (q : List ℕ) (c : ℕ) (v : List ℕ) → IsClean q → Plain c
    → Near ((q ++ 92 ∷ []) ++ c ∷ v) (q ++ c ∷ v)
plain-near q c (d ∷ v) clean plain = same-near _ _ (plain-same q c d v clean plain)
plain-near q c [] clean plain = record {
  fit =
      λ sign after l first last is.
      ap (λ o. fits sign (sides_from o after (is_last_escaped a) l first last)) (here (q ++ 92 ∷ [])
      (in-append q (92 ∷ []) clean refl) ∙ sym (here q clean))
      ∙ plain-fit (character_before b) c plain (here q clean) sign after (is_last_escaped a) (is_last_escaped b) l
      first last is;
  more =
      λ d u none bits.
      subst (λ x. Same x (b ++ d ∷ u)) (sym (append_assoc (q ++ 92 ∷ []) (c ∷ []) (d ∷ u)))
      (subst (λ x. Same ((q ++ 92 ∷ []) ++ c ∷ d ∷ u) x) (sym (append_assoc q (c ∷ []) (d ∷ u)))
      (plain-same q c d u clean plain));
}
  where
    a : List ℕ
    a = (q ++ 92 ∷ []) ++ c ∷ []

    b : List ℕ
    b = q ++ c ∷ []

    here : (x : List ℕ) → IsClean x → character_before (x ++ c ∷ []) ≡ Some c
    here x clean_x =
        let one = some-chars c plain.ascii plain.bits in
        ap in_line (last-behind x (c ∷ []) clean_x
        (subst (λ (l : List ℕ). IsSomething l) (sym one) (something c []))
        ∙ ap (λ cs. slice_get (reverse cs) 0) one)
        ∙ ap (λ e. cond e None (Some c)) plain.line
