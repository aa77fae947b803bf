-- What the source knows of a place in a page, and what nodes of the source give there.
use Rattle.std.specs.Prelude.{Bool, not, List, [], ◌∷◌, ◌++◌, map, take, drop, Option, Some, None, string_bytes}
use Rattle.htmd_lexical.specs.AttributePairs.{AttributePair}
use Rattle.htmd_lexical.specs.Attributes.{pairs_of}
use Rattle.htmd_shown.specs.declared.simple.Embedded.{Embedded}
use Rattle.htmd_shown.specs.declared.simple.Simple as source
use Rattle.htmd_shown.specs.SimpleViews.{simple_of, simples_of}
use Rattle.htmd_flow.specs.declared.around.Around as code
use Rattle.htmd_flow.specs.declared.flow.Element as elements
use Rattle.htmd_flow.specs.declared.place.Near.{Near}
use Rattle.htmd_flow.specs.declared.place.Near.TheVariants as near
use Rattle.htmd_flow.specs.declared.place.Place as places
use Rattle.htmd_flow.specs.declared.place.Taken.{Taken}
use Rattle.htmd_flow.specs.Contexts.{Context, with_around, is_link, inside_link, run_in}
use Rattle.htmd_flow.specs.Flows.{Node, Element, node_of, rows_of_table, pieces_of, terms_of, embed_parts}
use Rattle.htmd_flow.specs.Parts.{Part}
use Rattle.htmd_flow.specs.PartViews.{around_of}

abbrev pub near_in : Near → List (List AttributePair)
near_in near.None = []
near_in (near.One a) = pairs_of a.now ∷ []
near_in (near.Two a b) = pairs_of a.now ∷ pairs_of b.now ∷ []
near_in (near.Three a b c) = pairs_of a.now ∷ pairs_of b.now ∷ pairs_of c.now ∷ []

abbrev pub context_in : places.Place → List code.Around → Context
context_in place around = record {
  around = map around_of around;
  is_code = place.is_code;
  is_flat = place.is_flat;
  is_rich = place.is_rich;
  nested = place.nested;
  near = near_in place.near;
}

abbrev pub node_at : source.Simple → Node
node_at tree = node_of (simple_of tree)

abbrev pub nodes_at : List source.Simple → List Node
nodes_at trees = map node_at trees

abbrev pub element_in : elements.Element → Element
element_in e = record {
  id = e.node;
  facts = e.facts;
  attributes = pairs_of e.attrs.now;
  content = simples_of e.content.now;
  nodes = nodes_at e.content.now;
  rows = rows_of_table (simples_of e.content.now);
  pieces = pieces_of (simples_of e.content.now);
  terms = terms_of (simples_of e.content.now);
}

-- with one more format or link around, if there is one
abbrev pub with_option : Context → Option code.Around → Context
with_option context None = context
with_option context (Some a) = with_around context (around_of a)

abbrev pub is_no_link : code.Around → Bool
is_no_link a = not (is_link (around_of a))

-- what is around, with the link that was taken out of it
abbrev pub with_taken : List code.Around → Option Taken → List code.Around
with_taken around None = around
with_taken around (Some t) = take t.len around ++ t.link ∷ drop t.len around

-- what is embedded, as a text with its link, and all that it gives
abbrev pub embedded_run : Embedded → Context → Part
embedded_run found context =
    run_in (inside_link found.node (string_bytes found.address) None context) (string_bytes found.title)

abbrev pub embedded_parts : Embedded → Context → List Part
embedded_parts found context =
    embed_parts found.node (string_bytes found.address) (string_bytes found.title)
    (map string_bytes found.anchors.items) context
