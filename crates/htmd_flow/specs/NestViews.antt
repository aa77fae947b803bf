-- Inlines that are open, as the source keeps them.
use Rattle.std.specs.Prelude.{Bool, not, List, [], ◌∷◌, map}
use Rattle.htmd_document.specs.Documents.{Inline, Inlines, no_inlines, inline}
use Rattle.htmd_document.specs.DocumentViews.{inlines_of}
use Rattle.htmd_flow.specs.Contexts.{is_link}
use Rattle.htmd_flow.specs.Nesting.{Wrapper, wrapper_of, wrapped_by, one_inline, joined}
use Rattle.htmd_flow.specs.Parts.{Around}
use Rattle.htmd_flow.specs.PartViews.{around_of}
use Rattle.htmd_flow.specs.declared.around.Around as declared_around
use Rattle.htmd_flow.specs.declared.nest.Frame as declared_frame
use Rattle.htmd_flow.specs.declared.nest.Nest as declared_nest

-- what is open, and what stands before it
pub record Frame : Type 0 where
  pub before : Inlines
  pub around : Around

abbrev pub frame_of : declared_frame.Frame → Frame
frame_of f = record { before = inlines_of f.before.items; around = around_of f.around }

-- inlines after others
abbrev pub followed : Inlines → Inlines → Inlines
followed no_inlines ys = ys
followed (inline x xs) ys = inline x (followed xs ys)

-- inlines within frames, from the outermost in
abbrev pub within : List Frame → Inlines → Inlines
within [] xs = xs
within (f ∷ fs) xs = followed f.before (one_inline (wrapped_by f.around (within fs xs)))

abbrev pub frames_of : declared_nest.Nest → List Frame
frames_of n = map frame_of n.frames.items

abbrev pub content_of : declared_nest.Nest → Inlines
content_of n = inlines_of n.content.items

-- all that is open
abbrev pub inlines_in : declared_nest.Nest → Inlines
inlines_in n = within (frames_of n) (content_of n)

-- all that is open, with an inline more at its innermost place
abbrev pub put_in : declared_nest.Nest → Inline → Inlines
put_in n x = within (frames_of n) (joined (content_of n) x)

-- what is open, from the outermost in
abbrev pub wrappers_in : declared_nest.Nest → List Wrapper
wrappers_in n = map (λ f. wrapper_of f.around) (frames_of n)

abbrev pub wrappers_of : List declared_around.Around → List Wrapper
wrappers_of around = map wrapper_of (map around_of around)

-- what opens after these inlines
abbrev pub frame_after : Inlines → Around → Frame
frame_after before around = record { before = before; around = around }

-- a frame of a format
abbrev pub is_format_frame : declared_frame.Frame → Bool
is_format_frame f = not (is_link (around_of f.around))
