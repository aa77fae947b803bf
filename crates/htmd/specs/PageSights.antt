-- What a reader of CommonMark sees of what a page becomes.
use Rattle.std.specs.Prelude.{◌≡◌, ℕ, true, false, All, List, MatchBool, Option, Some, None, ⊤}
use Rattle.htmd_nodes.specs.Items.{Item}
use Rattle.htmd_nodes.specs.NumberedTrees.{tree_of}
use Rattle.htmd_shown.specs.Shown.{Sight}
use Rattle.htmd_chunks.specs.ChunkLines.{json_lines}
use Rattle.htmd_chunks.specs.Joins.{joined}
use Rattle.htmd_chunks.specs.Pieces.{Piece}
use Rattle.htmd_law_reading.specs.PieceLaws.{IsReadBack}
use Rattle.htmd_law_reading.specs.ReadingLaws.{IsSeenIn, Shows}
use Rattle.htmd.specs.PageChanges.{head_of, part_of}
use Rattle.htmd.specs.PageDocuments.{document_options}
use Rattle.htmd.specs.PageOutputs.{IsTreeBy, after_head, document_in, front_in, text_in}
use Rattle.htmd.specs.PageSettings.{Settings, writes_html}

-- whether scripts run, what is skipped, and whether the document is rich
abbrev pub sight_in : Settings → Sight
sight_in settings = record { scripting = settings.scripting; skip = settings.skipped; is_rich = settings.rich }

-- Where what a person sees is written, and not as JSON: after what the head of its page says comes Markdown in which,
-- with a line feed, a reader sees the document of this tree, with each visible character of it.
abbrev pub IsSeenAfter : Settings → List ℕ → List Item → List ℕ → Type 0
IsSeenAfter settings head tree output =
    settings.guarded ≡ true → settings.mdast ≡ false
    → (markdown : List ℕ) × (output ≡ after_head head markdown)
    × IsSeenIn settings.anchors (sight_in settings) tree markdown

-- the lines of pieces which, joined in order, are the document of this tree, with each visible character of it; and in
-- the Markdown of each piece a reader sees the piece
abbrev pub AreSeenPieces : Settings → List ℕ → List Item → List ℕ → Type 0
AreSeenPieces settings head tree output =
    (pieces : List Piece)
    × (output ≡ json_lines (document_options settings.options) settings.name (front_in head) pieces)
    × (joined pieces ≡ document_in settings tree)
    × Shows settings.anchors (sight_in settings) (tree_of tree 0) (Some (joined pieces))
    × All (IsReadBack (document_options settings.options)) pieces

-- what is seen of a tree in one text, or in pieces if their greatest size is given
abbrev pub IsSeenBy : Option ℕ → Settings → List ℕ → List Item → List ℕ → Type 0
IsSeenBy None settings head tree output = IsSeenAfter settings head tree output
IsSeenBy (Some most) settings head tree output = AreSeenPieces settings head tree output

-- the part of a page that is converted is seen in what the bytes of the page become
abbrev pub IsPartSeen : Settings → List ℕ → List ℕ → Type 0
IsPartSeen settings bytes output =
    (page : List Item) × IsTreeBy settings (text_in settings bytes) page
    × (part : List Item) × (part_of settings page ≡ Some part)
    × IsSeenBy settings.chunks settings (head_of settings page) part output

-- So a reader sees the part of a page that is converted, unless its HTML is written.
abbrev pub IsSeen : Settings → List ℕ → List ℕ → Type 0
IsSeen settings bytes output = MatchBool (writes_html settings) ⊤ (IsPartSeen settings bytes output)
