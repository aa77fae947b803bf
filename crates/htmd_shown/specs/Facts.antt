-- What is known of the content of an element.
use Rattle.std.specs.Prelude.{ℕ, ◌+◌, min, Bool, true, false, if◌then◌else◌, List}
use Rattle.htmd_lexical.specs.AttributePairs.{AttributePair}
use Rattle.htmd_shown.specs.declared.facts.Facts.{Facts}
use Rattle.htmd_shown.specs.declared.role.Role.{Role}
use Rattle.htmd_shown.specs.Kinds.{are_blank, have_table, have_header}
use Rattle.htmd_shown.specs.Marks.{is_mark, is_usual_sign}
use Rattle.htmd_shown.specs.Pieces.{greatest_count}
use Rattle.htmd_shown.specs.Roles.{is_preformatted, is_verbatim}
use Rattle.htmd_shown.specs.SimpleTrees.{Simple, text, image, formula, embedded, anchor, element, Simples, none, more}
use Rattle.htmd_shown.specs.Spaces.{is_blank_text}

-- how many `pre` a node is and holds, two at most; a `pre` counts one, whatever is in it
abbrev pub pres : Simple → ℕ
pres (element id role facts attributes content) = if is_preformatted role then 1 else facts.pres
pres _ = 0

abbrev pub pres_among : Simples → ℕ
pres_among none = 0
pres_among (more tree trees) = min 2 (pres tree + pres_among trees)

abbrev pub one_unless : Bool → ℕ
one_unless true = 0
one_unless false = 1

abbrev mutual
  -- how many things of a node may show: texts that aren't blank, images, formulas, what is embedded, code blocks
  pub leaves : Simple → ℕ
  leaves (text s) = one_unless (is_blank_text s)
  leaves (image address attributes) = 1
  leaves (formula tex is_alone attributes) = 1
  leaves (embedded id address title attributes anchors) = 1
  leaves (anchor id) = 0
  leaves (element id role facts attributes content) =
      if is_verbatim role then 1 else leaves_among content

  pub leaves_among : Simples → ℕ
  leaves_among none = 0
  leaves_among (more tree trees) = min greatest_count (leaves tree + leaves_among trees)

abbrev pub facts_of : Simples → Facts
facts_of content = record {
  is_blank = are_blank content;
  pres = pres_among content;
  holds_table = have_table content;
  holds_header = have_header content;
  shows_sign = is_mark is_usual_sign content;
  leaves = leaves_among content;
}

-- an element with what is known of its content
abbrev pub made : ℕ → Role → List AttributePair → Simples → Simple
made id role attributes content = element id role (facts_of content) attributes content

-- of what is put around a leaf or anchors
abbrev pub inserted_facts : Facts
inserted_facts = record {
  is_blank = false;
  pres = 0;
  holds_table = false;
  holds_header = false;
  shows_sign = false;
  leaves = 0;
}
