-- What an element is to the document, by its name.
use Rattle.std.specs.Prelude.{ℕ, Bool, true, false, not, ◌||◌, if◌then◌else◌, List, [], ◌∷◌, codes}
use Rattle.std.specs.List.{list_any}
use Rattle.std.specs.Str.{bytes_eq}
use Rattle.htmd_shown.specs.declared.role.Role.{Role}
use Rattle.htmd_shown.specs.declared.role.Role.TheVariants as role
use Rattle.htmd_document.specs.declared.document.Format.TheVariants.{Emphasis, Strong, Deleted}
use Rattle.htmd_document.specs.declared.document.InlineElement.TheVariants.{Superscript, Subscript, Inserted}
use Rattle.htmd_document.specs.declared.document.InlineElement.TheVariants.{Underlined, Marked, Small, Keyboard}

-- the name is one of these
abbrev pub is_among : List (List ℕ) → List ℕ → Bool
is_among names name = list_any (λ n. bytes_eq n name) names

-- ---- what doesn't show

-- elements that a browser doesn't show, whatever scripts do
abbrev pub hidden_names : List (List ℕ)
hidden_names =
    codes "script" ∷ codes "style" ∷ codes "title" ∷ codes "noframes" ∷ codes "noembed" ∷
    codes "template" ∷ codes "datalist" ∷ codes "annotation" ∷ codes "annotation-xml" ∷ []

-- ---- what stands in lines

abbrev pub is_emphasis : List ℕ → Bool
is_emphasis name =
    bytes_eq name (codes "em") || bytes_eq name (codes "i") || bytes_eq name (codes "cite")
    || bytes_eq name (codes "dfn") || bytes_eq name (codes "var")

abbrev pub is_strong : List ℕ → Bool
is_strong name =
    bytes_eq name (codes "strong") || bytes_eq name (codes "b")

abbrev pub is_deleted : List ℕ → Bool
is_deleted name =
    bytes_eq name (codes "del") || bytes_eq name (codes "s") || bytes_eq name (codes "strike")

-- what is printed, which is code too
abbrev pub is_typed : List ℕ → Bool
is_typed name = bytes_eq name (codes "tt") || bytes_eq name (codes "samp")

-- elements that stand beside each other with a space between
abbrev pub is_apart : List ℕ → Bool
is_apart name =
    bytes_eq name (codes "button") || bytes_eq name (codes "select") || bytes_eq name (codes "option")
    || bytes_eq name (codes "optgroup") || bytes_eq name (codes "textarea")

-- an element with none of these names says nothing of what is in it
unfoldable pub element_role : List ℕ → Role
element_role name =
    if bytes_eq name (codes "sup") then role.Element Superscript
    else (if bytes_eq name (codes "sub") then role.Element Subscript
    else (if bytes_eq name (codes "ins") then role.Element Inserted
    else (if bytes_eq name (codes "u") then role.Element Underlined
    else (if bytes_eq name (codes "mark") then role.Element Marked
    else (if bytes_eq name (codes "small") then role.Element Small
    else (if bytes_eq name (codes "kbd") then role.Element Keyboard
    else (if bytes_eq name (codes "abbr") then role.Abbreviation
    else role.Plain)))))))

unfoldable pub inline_role : List ℕ → Role
inline_role name =
    if is_emphasis name then role.Format Emphasis
    else (if is_strong name then role.Format Strong
    else (if is_deleted name then role.Format Deleted
    else (if bytes_eq name (codes "code") then role.Code
    else (if is_typed name then role.Typed
    else (if bytes_eq name (codes "a") then role.Link
    else (if is_apart name then role.Apart
    else (if bytes_eq name (codes "br") then role.LineBreak
    else (if bytes_eq name (codes "input") then role.Input
    else element_role name))))))))

-- ---- blocks

-- where white space stays, but for `pre`
abbrev pub is_verbatim_name : List ℕ → Bool
is_verbatim_name name =
    bytes_eq name (codes "listing") || bytes_eq name (codes "xmp") || bytes_eq name (codes "plaintext")

abbrev pub is_bullet_list : List ℕ → Bool
is_bullet_list name =
    bytes_eq name (codes "ul") || bytes_eq name (codes "menu") || bytes_eq name (codes "dir")

-- the parts of a table that hold rows, but for its head
abbrev pub is_table_body : List ℕ → Bool
is_table_body name =
    bytes_eq name (codes "tbody") || bytes_eq name (codes "tfoot")

-- elements that are blocks, and nothing else to the document
abbrev pub block_names : List (List ℕ)
block_names =
    codes "address" ∷ codes "article" ∷ codes "aside" ∷ codes "body" ∷ codes "center" ∷ codes "dialog" ∷
    codes "fieldset" ∷ codes "footer" ∷ codes "form" ∷ codes "frameset" ∷ codes "header" ∷
    codes "hgroup" ∷ codes "html" ∷ codes "main" ∷ codes "nav" ∷ codes "search" ∷ codes "section" ∷ []

unfoldable pub block_role : List ℕ → Role
block_role name =
    if bytes_eq name (codes "dl") then role.Terms
    else (if bytes_eq name (codes "dt") then role.Term
    else (if bytes_eq name (codes "dd") then role.Meaning
    else (if bytes_eq name (codes "div") then role.Division
    else (if bytes_eq name (codes "figure") then role.Figure
    else (if bytes_eq name (codes "figcaption") then role.FigureCaption
    else (if bytes_eq name (codes "details") then role.Details
    else (if bytes_eq name (codes "summary") then role.Summary
    else (if bytes_eq name (codes "legend") then role.Legend
    else (if is_among block_names name then role.Block
    else inline_role name)))))))))

unfoldable pub heading_or_block : List ℕ → Role
heading_or_block name =
    if bytes_eq name (codes "h1") then role.Heading 1
    else (if bytes_eq name (codes "h2") then role.Heading 2
    else (if bytes_eq name (codes "h3") then role.Heading 3
    else (if bytes_eq name (codes "h4") then role.Heading 4
    else (if bytes_eq name (codes "h5") then role.Heading 5
    else (if bytes_eq name (codes "h6") then role.Heading 6
    else block_role name)))))

unfoldable pub table_role : List ℕ → Role
table_role name =
    if bytes_eq name (codes "table") then role.Table
    else (if bytes_eq name (codes "caption") then role.Caption
    else (if bytes_eq name (codes "thead") then role.TableHead
    else (if is_table_body name then role.TableBody
    else (if bytes_eq name (codes "tr") then role.Row
    else (if bytes_eq name (codes "td") then role.Cell
    else (if bytes_eq name (codes "th") then role.HeaderCell
    else heading_or_block name))))))

unfoldable pub role_of : List ℕ → Role
role_of name =
    if bytes_eq name (codes "p") then role.Paragraph
    else (if bytes_eq name (codes "li") then role.Item
    else (if is_bullet_list name then role.BulletList
    else (if bytes_eq name (codes "ol") then role.NumberedList
    else (if bytes_eq name (codes "pre") then role.Preformatted
    else (if is_verbatim_name name then role.Verbatim
    else (if bytes_eq name (codes "blockquote") then role.BlockQuote
    else (if bytes_eq name (codes "hr") then role.ThematicBreak
    else table_role name)))))))

-- ---- kinds of elements

-- elements whose content counts for nothing, and of which something shows
abbrev pub is_void : Role → Bool
is_void role.LineBreak = true
is_void role.ThematicBreak = true
is_void _ = false

abbrev pub is_link : Role → Bool
is_link role.Link = true
is_link _ = false

abbrev pub is_abbreviation : Role → Bool
is_abbreviation role.Abbreviation = true
is_abbreviation _ = false

-- an `a`, with an address or without
abbrev pub is_anchor : Role → Bool
is_anchor role.Link = true
is_anchor role.Target = true
is_anchor _ = false

abbrev pub is_item : Role → Bool
is_item role.Item = true
is_item _ = false

abbrev pub is_paragraph : Role → Bool
is_paragraph role.Paragraph = true
is_paragraph _ = false

abbrev pub is_term : Role → Bool
is_term role.Term = true
is_term _ = false

abbrev pub is_meaning : Role → Bool
is_meaning role.Meaning = true
is_meaning _ = false

abbrev pub is_division : Role → Bool
is_division role.Division = true
is_division _ = false

abbrev pub is_figure_caption : Role → Bool
is_figure_caption role.FigureCaption = true
is_figure_caption _ = false

abbrev pub is_summary : Role → Bool
is_summary role.Summary = true
is_summary _ = false

abbrev pub is_table : Role → Bool
is_table role.Table = true
is_table role.LayoutTable = true
is_table _ = false

abbrev pub is_caption : Role → Bool
is_caption role.Caption = true
is_caption _ = false

abbrev pub is_head : Role → Bool
is_head role.TableHead = true
is_head _ = false

-- a part of a table that holds rows
abbrev pub is_part : Role → Bool
is_part role.TableHead = true
is_part role.TableBody = true
is_part _ = false

abbrev pub is_row : Role → Bool
is_row role.Row = true
is_row _ = false

abbrev pub is_row_or_part : Role → Bool
is_row_or_part role.Row = true
is_row_or_part role.TableHead = true
is_row_or_part role.TableBody = true
is_row_or_part _ = false

abbrev pub is_cell : Role → Bool
is_cell role.Cell = true
is_cell role.HeaderCell = true
is_cell _ = false

abbrev pub is_header_cell : Role → Bool
is_header_cell role.HeaderCell = true
is_header_cell _ = false

abbrev pub is_line_break : Role → Bool
is_line_break role.LineBreak = true
is_line_break _ = false

abbrev pub is_thematic_break : Role → Bool
is_thematic_break role.ThematicBreak = true
is_thematic_break _ = false

abbrev pub is_preformatted : Role → Bool
is_preformatted role.Preformatted = true
is_preformatted _ = false

-- where white space stays
abbrev pub is_verbatim : Role → Bool
is_verbatim role.Preformatted = true
is_verbatim role.Verbatim = true
is_verbatim _ = false

abbrev pub is_heading : Role → Bool
is_heading (role.Heading level) = true
is_heading _ = false

-- what heads something that isn't the page
abbrev pub is_title : Role → Bool
is_title role.Term = true
is_title role.Caption = true
is_title role.FigureCaption = true
is_title role.Summary = true
is_title _ = false

-- headings, and what heads something else
abbrev pub is_headed : Role → Bool
is_headed (role.Heading level) = true
is_headed role.Term = true
is_headed role.Caption = true
is_headed role.FigureCaption = true
is_headed role.Summary = true
is_headed role.Legend = true
is_headed _ = false

-- an element that stands in a line, and no block
abbrev pub is_inline : Role → Bool
is_inline (role.Format format) = true
is_inline (role.Element element) = true
is_inline role.Abbreviation = true
is_inline role.Code = true
is_inline role.Typed = true
is_inline role.Link = true
is_inline role.Target = true
is_inline role.Apart = true
is_inline role.LineBreak = true
is_inline role.Input = true
is_inline role.Plain = true
is_inline role.Anchors = true
is_inline role.Unlinked = true
is_inline _ = false

-- an element with edges, or that is a block
abbrev pub is_edged : Role → Bool
is_edged r = not (is_inline r)
