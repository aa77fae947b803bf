-- What lines start, as the reader finds it.
use Rattle.std.specs.Prelude.{Bool, true, false, if◌then◌else◌, [], ◌∷◌, ⊤}
use Rattle.htmd_commonmark_reading.specs.Lines as lines
use Rattle.htmd_commonmark_reading.specs.Boxes.{headed, fenced, leaf, indented, html, raw, rule, quoting, listing}
use Rattle.htmd_commonmark_reading.specs.BlockStarts.{Start, no_start, whole, first_line, fresh, started, alone}
use Rattle.htmd_commonmark_reader.specs.LineViews.{line_of, IsLine}
use Rattle.htmd_commonmark_reader.specs.HtmlBlocks.{ends_of}
use Rattle.htmd_commonmark_reading.specs.BlockStarts as blocks
use Rattle.htmd_commonmark_reader.specs.declared.starts.Sign.{Sign}
use Rattle.htmd_commonmark_reader.specs.declared.starts.LineStart.{LineStart}
use Rattle.htmd_commonmark_reader.specs.declared.starts.LineStart.TheVariants.{Nothing, Code, Heading, Fence, Html}
use Rattle.htmd_commonmark_reader.specs.declared.starts.LineStart.TheVariants.{Rule, Quote, Item}

-- what this line starts; the rest of a line in a container starts what it would alone
abbrev pub start_of : lines.Line → LineStart → Start
start_of l Nothing = no_start
start_of l (Code c) = first_line (leaf (indented ((line_of c).text ∷ [])))
start_of l (Heading h) = whole (headed h.level h.text.now)
start_of l (Fence f) = first_line (leaf (fenced f.columns f.sign f.count f.info.now []))
start_of l (Html end is_whole) =
    if is_whole then whole (html l.text) else first_line (leaf (raw (ends_of end) (l.text ∷ [])))
start_of l Rule = whole rule
start_of l (Quote r) = first_line (fresh quoting (line_of r) (started alone (line_of r)))
start_of l (Item sign number i) =
    first_line (fresh (listing sign number i.columns) (line_of i.content) (started alone (line_of i.content)))

abbrev pub is_nothing : LineStart → Bool
is_nothing Nothing = true
is_nothing _ = false

-- no container begins
abbrev pub StartsLeaf : LineStart → Type 0
StartsLeaf (Quote r) = ⊥
StartsLeaf (Item sign number i) = ⊥
StartsLeaf _ = ⊤

-- the lines that are held are so
abbrev pub IsHeld : LineStart → Type 0
IsHeld (Code c) = IsLine c
IsHeld (Quote r) = IsLine r
IsHeld (Item sign number i) = IsLine i.content
IsHeld _ = ⊤

abbrev pub sign_as : Sign → blocks.Sign
sign_as Sign.Quote = blocks.quote_sign
sign_as Sign.Heading = blocks.heading_sign
sign_as Sign.Fence = blocks.fence_sign
sign_as Sign.Tag = blocks.tag_sign
sign_as Sign.Rule = blocks.rule_sign
sign_as Sign.BulletOrRule = blocks.bullet_or_rule
sign_as Sign.Bullet = blocks.bullet
sign_as Sign.Digit = blocks.digit
sign_as Sign.Other = blocks.no_sign
