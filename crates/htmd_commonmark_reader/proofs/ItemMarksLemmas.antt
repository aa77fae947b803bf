-- What is known of some blocks is that of the definitions, by what follows each.
use Rattle.std.proofs.Common.{◌≡◌, ℕ, suc, ◌<◌, Bool, true, false, List, [], ◌∷◌, drop, length, get_or, refl}
use Rattle.std.proofs.Common.{sym, ap}
use Rattle.std.proofs.Common.{◌∙◌, drop-cons}
use Rattle.std.specs.Prelude.{Option, Some, not, ◌&&◌, ◌||◌, ◌==◌, if◌then◌else◌}
use Rattle.htmd_commonmark_reading.specs.Boxes as box
use Rattle.htmd_commonmark_reading.specs.Boxes.{ClosedBlocks}
use Rattle.htmd_commonmark_reading.specs.Brackets.{References}
use Rattle.htmd_commonmark_reading.specs.Lists as spec
use Rattle.htmd_commonmark_reading.specs.Lists.{Gapped, no_gapped, shown, hidden, listed, plain, with_item, gapped}
use Rattle.htmd_commonmark_reading.specs.Lists.{item_gapped}
use Rattle.htmd_commonmark_reading.specs.Markup.{Items, item}
use Rattle.htmd_commonmark_reader.specs.ClosedParts.{ClosedPart, begin, end, definition, single, closed_parts, part_of}
use Rattle.htmd_commonmark_reader.specs.ClosedParts.{parts_of}
use Rattle.htmd_commonmark_reader.specs.ItemMarks.{nothing_ahead, any_gap, before_block, item_mark, before_item}
use Rattle.htmd_commonmark_reader.specs.ItemMarks.{Survey, surveyed_as, surveyed, survey}
use Rattle.htmd_commonmark_reader.specs.declared.closed.Closed.{Closed}
use Rattle.htmd_commonmark_reader.specs.declared.lists.Ahead.{Ahead}
use Rattle.htmd_commonmark_reader.specs.declared.lists.ItemMark.{ItemMark}

pub survey-step : (bs : List Closed) (n m : ℕ) (b : Closed) (v w : Survey) → n < length bs → suc n ≡ m
    → b ≡ get_or bs n b → v ≡ survey (parts_of (drop m bs)) → w ≡ surveyed (part_of b) v
    → w ≡ survey (parts_of (drop n bs))
survey-step bs n m b v w h e is k s =
    let rest = drop (suc n) bs in
    let split : drop n bs ≡ b ∷ rest = drop-cons bs n b h ∙ ap (λ x. x ∷ rest) (sym is) in
    s ∙ ap (surveyed (part_of b)) (k ∙ ap (λ j. survey (parts_of (drop j bs))) (sym e))
    ∙ sym (ap (λ l. survey (parts_of l)) split)

-- what is ahead of a block before these
abbrev pub ahead_of : Gapped → Ahead
ahead_of no_gapped = nothing_ahead
ahead_of (shown g b rest) = before_block g (ahead_of rest)
ahead_of (hidden g rest) = before_block g (ahead_of rest)
ahead_of (listed g sign start is_tight items rest) = record {
  gap = g;
  inner_gap = any_gap (ahead_of rest);
  list = Some (record { sign = sign; is_tight = is_tight });
}

any-gap : (x : Gapped) → spec.any_gap x ≡ any_gap (ahead_of x)
any-gap no_gapped = refl
any-gap (shown g b rest) = ap (λ a. g || a) (any-gap rest)
any-gap (hidden g rest) = ap (λ a. g || a) (any-gap rest)
any-gap (listed g sign start is_tight items rest) = ap (λ a. g || a) (any-gap rest)

pub inner-gap : (x : Gapped) → spec.inner_gap x ≡ (ahead_of x).inner_gap
inner-gap no_gapped = refl
inner-gap (shown g b rest) = any-gap rest
inner-gap (hidden g rest) = any-gap rest
inner-gap (listed g sign start is_tight items rest) = any-gap rest

-- the mark of an item with this content before others
abbrev pub mark_of : ℕ → Gapped → Gapped → ItemMark
mark_of sign content rest = item_mark sign (ahead_of content) (ahead_of rest)

tight : (content : Gapped) → not (spec.inner_gap content) ≡ not (ahead_of content).inner_gap
tight content = ap not (inner-gap content)

abbrev ahead_as : Bool → Bool → ℕ → Bool → Ahead
ahead_as g i sign t = record { gap = g; inner_gap = i; list = Some (record { sign = sign; is_tight = t }) }

goes-on : (b g h t : Bool) (sign other : ℕ) (number start : Option ℕ) (content more : Gapped) (items : Items)
    → ahead_of (if b
    then listed g sign number (not (spec.inner_gap content) && not h && t) (item (plain content) items) more
    else spec.one_item g sign number content (listed h other start t items more))
    ≡ ahead_as g (if b then any_gap (ahead_of more) else h || any_gap (ahead_of more)) sign
    (if b then not (ahead_of content).inner_gap && not h && t else not (ahead_of content).inner_gap)
goes-on true g h t sign other number start content more items =
    ap (λ x. ahead_as g (any_gap (ahead_of more)) sign (x && not h && t)) (tight content)
goes-on false g h t sign other number start content more items =
    ap (λ x. ahead_as g (h || any_gap (ahead_of more)) sign x) (tight content)

with-item : (g : Bool) (sign : ℕ) (number : Option ℕ) (content rest : Gapped)
    → ahead_of (with_item g sign number content rest)
    ≡ before_item g sign (mark_of sign content rest) (ahead_of rest)
with-item g sign number content no_gapped = ap (λ x. ahead_as g false sign x) (tight content)
with-item g sign number content (shown h b rest) =
    ap (λ x. ahead_as g (h || any_gap (ahead_of rest)) sign x) (tight content)
with-item g sign number content (hidden h rest) =
    ap (λ x. ahead_as g (h || any_gap (ahead_of rest)) sign x) (tight content)
with-item g sign number content (listed h other start t items rest) =
    goes-on (sign == other) g h t sign other number start content rest items

pub item-ahead : (refs : References) (ps : ClosedBlocks)
    → ahead_of (item_gapped refs ps) ≡ ahead_of (gapped refs ps)
item-ahead refs box.no_closed_blocks = refl
item-ahead refs (box.closed_block g (box.text s) ps) = refl
item-ahead refs (box.closed_block g (box.headed level s) ps) = refl
item-ahead refs (box.closed_block g (box.code language s) ps) = refl
item-ahead refs (box.closed_block g box.rule ps) = refl
item-ahead refs (box.closed_block g (box.html s) ps) = refl
item-ahead refs (box.closed_block g (box.grid alignments header rows) ps) = refl
item-ahead refs (box.closed_block g (box.defined d) ps) = refl
item-ahead refs (box.closed_block g (box.boxed box.quoting qs) ps) = refl
item-ahead refs (box.closed_block g (box.boxed (box.listing sign number columns) qs) ps) = refl

-- the marks of the items of some blocks, before others
abbrev pub marks_in : References → ClosedBlocks → List ItemMark → List ItemMark
marks_in refs box.no_closed_blocks ms = ms
marks_in refs (box.closed_block g (box.text s) ps) ms = marks_in refs ps ms
marks_in refs (box.closed_block g (box.headed level s) ps) ms = marks_in refs ps ms
marks_in refs (box.closed_block g (box.code language s) ps) ms = marks_in refs ps ms
marks_in refs (box.closed_block g box.rule ps) ms = marks_in refs ps ms
marks_in refs (box.closed_block g (box.html s) ps) ms = marks_in refs ps ms
marks_in refs (box.closed_block g (box.grid alignments header rows) ps) ms = marks_in refs ps ms
marks_in refs (box.closed_block g (box.defined d) ps) ms = marks_in refs ps ms
marks_in refs (box.closed_block g (box.boxed box.quoting qs) ps) ms = marks_in refs qs (marks_in refs ps ms)
marks_in refs (box.closed_block g (box.boxed (box.listing sign number columns) qs) ps) ms =
    mark_of sign (item_gapped refs qs) (gapped refs ps) ∷ marks_in refs qs (marks_in refs ps ms)

-- a survey of blocks before the end of a container, or at the end of all
abbrev level : References → ClosedBlocks → List Ahead → List ItemMark → Survey
level refs ps outer ms = surveyed_as (ahead_of (gapped refs ps)) outer (marks_in refs ps ms)

item-level : (g : Bool) (sign : ℕ) (number : Option ℕ) (outer : List Ahead) (ms : List ItemMark)
    (content bare rest : Gapped) → ahead_of content ≡ ahead_of bare
    → surveyed_as (before_item g sign (item_mark sign (ahead_of bare) (ahead_of rest)) (ahead_of rest)) outer
    (item_mark sign (ahead_of bare) (ahead_of rest) ∷ ms)
    ≡ surveyed_as (ahead_of (with_item g sign number content rest)) outer (mark_of sign content rest ∷ ms)
item-level g sign number outer ms content bare rest e =
    ap (λ a. surveyed_as (before_item g sign (item_mark sign a (ahead_of rest)) (ahead_of rest)) outer
    (item_mark sign a (ahead_of rest) ∷ ms)) (sym e)
    ∙ ap (λ a. surveyed_as a outer (mark_of sign content rest ∷ ms)) (sym (with-item g sign number content rest))

surveys : (refs : References) (ps : ClosedBlocks) (cs : List ClosedPart) (outer : List Ahead) (ms : List ItemMark)
    → survey cs ≡ surveyed_as nothing_ahead outer ms → survey (closed_parts ps cs) ≡ level refs ps outer ms
surveys refs box.no_closed_blocks cs outer ms h = h
surveys refs (box.closed_block g (box.text s) ps) cs outer ms h =
    ap (surveyed (single g (box.text s))) (surveys refs ps cs outer ms h)
surveys refs (box.closed_block g (box.headed n s) ps) cs outer ms h =
    ap (surveyed (single g (box.headed n s))) (surveys refs ps cs outer ms h)
surveys refs (box.closed_block g (box.code language s) ps) cs outer ms h =
    ap (surveyed (single g (box.code language s))) (surveys refs ps cs outer ms h)
surveys refs (box.closed_block g box.rule ps) cs outer ms h =
    ap (surveyed (single g box.rule)) (surveys refs ps cs outer ms h)
surveys refs (box.closed_block g (box.html s) ps) cs outer ms h =
    ap (surveyed (single g (box.html s))) (surveys refs ps cs outer ms h)
surveys refs (box.closed_block g (box.grid alignments header rows) ps) cs outer ms h =
    ap (surveyed (single g (box.grid alignments header rows))) (surveys refs ps cs outer ms h)
surveys refs (box.closed_block g (box.defined d) ps) cs outer ms h =
    ap (surveyed (definition g)) (surveys refs ps cs outer ms h)
surveys refs (box.closed_block g (box.boxed box.quoting qs) ps) cs outer ms h =
    ap (surveyed (begin g box.quoting))
    (surveys refs qs (end ∷ closed_parts ps cs) (ahead_of (gapped refs ps) ∷ outer)
    (marks_in refs ps ms) (ap (surveyed end) (surveys refs ps cs outer ms h)))
surveys refs (box.closed_block g (box.boxed (box.listing sign number columns) qs) ps) cs outer ms h =
    ap (surveyed (begin g (box.listing sign number columns)))
    (surveys refs qs (end ∷ closed_parts ps cs) (ahead_of (gapped refs ps) ∷ outer)
    (marks_in refs ps ms) (ap (surveyed end) (surveys refs ps cs outer ms h)))
    ∙ item-level g sign number outer (marks_in refs qs (marks_in refs ps ms)) (item_gapped refs qs) (gapped refs qs)
    (gapped refs ps) (item-ahead refs qs)

-- all marks of a document
pub marks-of : (refs : References) (ps : ClosedBlocks) → (survey (closed_parts ps [])).marks ≡ marks_in refs ps []
marks-of refs ps = ap (λ v. v.marks) (surveys refs ps [] [] [] refl)
