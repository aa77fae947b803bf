-- How much is repeated of a simpler tree: what each link and each abbreviation says, for each leaf in it.
use Rattle.std.proofs.Common.{◌≡◌, ◌∙◌, refl, sym, ℕ, ◌+◌, ◌*◌, ◌≤◌, Bool, true, false, List}
use Rattle.std.proofs.Common.{mul-zero, mul-add, mul-le-mul_right, arith}
use Rattle.std.specs.Prelude.{if◌then◌else◌, None}
use Rattle.htmd_lexical.specs.AttributePairs.{AttributePair}
use Rattle.htmd_shown.specs.declared.role.Role.{Role}
use Rattle.htmd_shown.specs.declared.role.Role.TheVariants as role
use Rattle.htmd_shown.specs.Kinds.{has, content_of}
use Rattle.htmd_shown.specs.Roles as roles
use Rattle.htmd_shown.specs.SimpleTrees.{Simple, text, image, formula, embedded, anchor, element, Simples, none, more}
use Rattle.htmd_shown.specs.Spaces.{is_blank_text}
use Rattle.htmd_document_of_tree.specs.Limits.{is_carrying, size}
use Rattle.htmd_law_sizes.proofs.Debts.{link_size}

-- ---- leaves

abbrev mutual
  pub leaves : Simple → ℕ
  leaves (text s) = if is_blank_text s then 0 else 1
  leaves (image address attributes) = 1
  leaves (formula tex is_alone attributes) = 1
  leaves (embedded id address title attributes anchors) = 1
  leaves (anchor id) = 0
  leaves (element id r facts attributes content) = if roles.is_verbatim r then 1 else leaves_among content

  pub leaves_among : Simples → ℕ
  leaves_among none = 0
  leaves_among (more t ts) = leaves t + leaves_among ts

-- ---- links

-- what a link or an abbreviation says, for each leaf in it
abbrev pub said_by : Role → List AttributePair → Simples → ℕ
said_by r attributes content = if is_carrying r then size r attributes * leaves_among content else 0

-- the language of code
abbrev pub named_by : Role → ℕ
named_by r = if roles.is_verbatim r then 64 else 0

-- by what is in a node itself
abbrev mutual
  pub own : Simple → ℕ
  own (text s) = 0
  own (image address attributes) = 0
  own (formula tex is_alone attributes) = 4
  own (embedded id address title attributes anchors) = link_size address None
  own (anchor id) = 0
  own (element id r facts attributes content) = said_by r attributes content + named_by r + own_among content

  pub own_among : Simples → ℕ
  own_among none = 0
  own_among (more t ts) = own t + own_among ts

-- with what stands around, for each leaf
abbrev pub due : ℕ → Simple → ℕ
due k t = k * leaves t + own t

abbrev pub due_among : ℕ → Simples → ℕ
due_among k ts = k * leaves_among ts + own_among ts

-- of what is in a node
abbrev pub inner_due : ℕ → Simple → ℕ
inner_due k t = due_among k (content_of t)

pub due_more : (k : ℕ) (t : Simple) (ts : Simples) → due_among k (more t ts) ≡ due k t + due_among k ts
due_more k t ts = omega (arith, mul-add k (leaves t) (leaves_among ts))

pub due_grows : (j k : ℕ) (t : Simple) → j ≤ k → due j t ≤ due k t
due_grows j k t h = omega (arith, mul-le-mul_right (leaves t) h)

pub among_grows : (j k : ℕ) (ts : Simples) → j ≤ k → due_among j ts ≤ due_among k ts
among_grows j k ts h = omega (arith, mul-le-mul_right (leaves_among ts) h)

-- ---- elements that hold what is in them

record Closed (r : Role) : Type 0 where
  item : roles.is_item r ≡ false
  cell : roles.is_cell r ≡ false
  caption : roles.is_caption r ≡ false
  figure_caption : roles.is_figure_caption r ≡ false
  summary : roles.is_summary r ≡ false
  term : roles.is_term r ≡ false
  meaning : roles.is_meaning r ≡ false
  row : roles.is_row r ≡ false
  part : roles.is_part r ≡ false
  division : roles.is_division r ≡ false

-- a verbatim block is none of these
closed : (r : Role) → roles.is_verbatim r ≡ true → Closed r
closed (role.Format f) h = absurd (cc)
closed (role.Element f) h = absurd (cc)
closed role.Abbreviation h = absurd (cc)
closed role.Code h = absurd (cc)
closed role.Typed h = absurd (cc)
closed role.Link h = absurd (cc)
closed role.Target h = absurd (cc)
closed role.Apart h = absurd (cc)
closed role.LineBreak h = absurd (cc)
closed role.Input h = absurd (cc)
closed (role.Heading level) h = absurd (cc)
closed role.Paragraph h = absurd (cc)
closed role.Preformatted h = record {
  item = refl;
  cell = refl;
  caption = refl;
  figure_caption = refl;
  summary = refl;
  term = refl;
  meaning = refl;
  row = refl;
  part = refl;
  division = refl;
}
closed role.Verbatim h = record {
  item = refl;
  cell = refl;
  caption = refl;
  figure_caption = refl;
  summary = refl;
  term = refl;
  meaning = refl;
  row = refl;
  part = refl;
  division = refl;
}
closed role.BlockQuote h = absurd (cc)
closed role.ThematicBreak h = absurd (cc)
closed role.BulletList h = absurd (cc)
closed role.NumberedList h = absurd (cc)
closed role.Item h = absurd (cc)
closed role.Terms h = absurd (cc)
closed role.Term h = absurd (cc)
closed role.Meaning h = absurd (cc)
closed role.Table h = absurd (cc)
closed role.LayoutTable h = absurd (cc)
closed role.Caption h = absurd (cc)
closed role.TableHead h = absurd (cc)
closed role.TableBody h = absurd (cc)
closed role.Row h = absurd (cc)
closed role.Cell h = absurd (cc)
closed role.HeaderCell h = absurd (cc)
closed role.Division h = absurd (cc)
closed role.Figure h = absurd (cc)
closed role.FigureCaption h = absurd (cc)
closed role.Details h = absurd (cc)
closed role.Summary h = absurd (cc)
closed role.Legend h = absurd (cc)
closed role.Block h = absurd (cc)
closed role.Plain h = absurd (cc)
closed role.Anchors h = absurd (cc)
closed role.Unlinked h = absurd (cc)

differ : (x : Bool) → x ≡ true → x ≡ false → true ≡ false
differ x e f = sym e ∙ f

pub item_open : (r : Role) → roles.is_item r ≡ true → roles.is_verbatim r ≡ false
item_open r e = go (roles.is_verbatim r) refl
  where
    go : (b : Bool) → roles.is_verbatim r ≡ b → b ≡ false
    go true v = let c = closed r v in differ (roles.is_item r) e c.item
    go false v = refl

pub cell_open : (r : Role) → roles.is_cell r ≡ true → roles.is_verbatim r ≡ false
cell_open r e = go (roles.is_verbatim r) refl
  where
    go : (b : Bool) → roles.is_verbatim r ≡ b → b ≡ false
    go true v = let c = closed r v in differ (roles.is_cell r) e c.cell
    go false v = refl

pub caption_open : (r : Role) → roles.is_caption r ≡ true → roles.is_verbatim r ≡ false
caption_open r e = go (roles.is_verbatim r) refl
  where
    go : (b : Bool) → roles.is_verbatim r ≡ b → b ≡ false
    go true v = let c = closed r v in differ (roles.is_caption r) e c.caption
    go false v = refl

pub figure_caption_open : (r : Role) → roles.is_figure_caption r ≡ true → roles.is_verbatim r ≡ false
figure_caption_open r e = go (roles.is_verbatim r) refl
  where
    go : (b : Bool) → roles.is_verbatim r ≡ b → b ≡ false
    go true v = let c = closed r v in differ (roles.is_figure_caption r) e c.figure_caption
    go false v = refl

pub summary_open : (r : Role) → roles.is_summary r ≡ true → roles.is_verbatim r ≡ false
summary_open r e = go (roles.is_verbatim r) refl
  where
    go : (b : Bool) → roles.is_verbatim r ≡ b → b ≡ false
    go true v = let c = closed r v in differ (roles.is_summary r) e c.summary
    go false v = refl

pub term_open : (r : Role) → roles.is_term r ≡ true → roles.is_verbatim r ≡ false
term_open r e = go (roles.is_verbatim r) refl
  where
    go : (b : Bool) → roles.is_verbatim r ≡ b → b ≡ false
    go true v = let c = closed r v in differ (roles.is_term r) e c.term
    go false v = refl

pub meaning_open : (r : Role) → roles.is_meaning r ≡ true → roles.is_verbatim r ≡ false
meaning_open r e = go (roles.is_verbatim r) refl
  where
    go : (b : Bool) → roles.is_verbatim r ≡ b → b ≡ false
    go true v = let c = closed r v in differ (roles.is_meaning r) e c.meaning
    go false v = refl

pub row_open : (r : Role) → roles.is_row r ≡ true → roles.is_verbatim r ≡ false
row_open r e = go (roles.is_verbatim r) refl
  where
    go : (b : Bool) → roles.is_verbatim r ≡ b → b ≡ false
    go true v = let c = closed r v in differ (roles.is_row r) e c.row
    go false v = refl

pub part_open : (r : Role) → roles.is_part r ≡ true → roles.is_verbatim r ≡ false
part_open r e = go (roles.is_verbatim r) refl
  where
    go : (b : Bool) → roles.is_verbatim r ≡ b → b ≡ false
    go true v = let c = closed r v in differ (roles.is_part r) e c.part
    go false v = refl

pub division_open : (r : Role) → roles.is_division r ≡ true → roles.is_verbatim r ≡ false
division_open r e = go (roles.is_verbatim r) refl
  where
    go : (b : Bool) → roles.is_verbatim r ≡ b → b ≡ false
    go true v = let c = closed r v in differ (roles.is_division r) e c.division
    go false v = refl

pub open_by : (kind : Role → Bool) → ((r : Role) → kind r ≡ true → roles.is_verbatim r ≡ false)
    → (t : Simple)
    → has kind t ≡ true → has roles.is_verbatim t ≡ false
open_by kind h (text s) e = refl
open_by kind h (image address attributes) e = refl
open_by kind h (formula tex is_alone attributes) e = refl
open_by kind h (embedded id address title attributes anchors) e = refl
open_by kind h (anchor id) e = refl
open_by kind h (element id r facts attributes content) e = h r e

pub inner_le : (k : ℕ) (t : Simple) → has roles.is_verbatim t ≡ false → inner_due k t ≤ due k t
inner_le k (text s) e = omega (arith, mul-zero k)
inner_le k (image address attributes) e = omega (arith, mul-zero k)
inner_le k (formula tex is_alone attributes) e = omega (arith, mul-zero k)
inner_le k (embedded id address title attributes anchors) e = omega (arith, mul-zero k)
inner_le k (anchor id) e = omega (arith, mul-zero k)
inner_le k (element id r facts attributes content) e = rw e (omega arith)
