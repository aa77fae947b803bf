-- What is left to prove of `innermost_name`.
use Rattle.std.proofs.Common.{◌≡◌, ℕ, List, refl, sym, ap, ◌∙◌}
use Rattle.std.specs.Prelude.{Vec}
use Rattle.std.specs.Global.{Global}
use Rattle.htmd_lexical.specs.AttributePairs.{AttributePair}
use Rattle.htmd_lexical.specs.declared.attribute.Attribute.{Attribute}
use Rattle.htmd_nodes.specs.declared.tree.NodeData.{NodeData}
use Rattle.htmd_nodes.specs.declared.tree.NodeData.TheVariants.{Document, Doctype, Text, Comment, Element}
use Rattle.htmd_nodes.specs.Items.{element_node}
use Rattle.htmd_lexical.specs.Attributes.{pairs_of}
use Rattle.htmd_nodes.specs.Views.{data_of}
use Rattle.htmd_tree.proofs.AdvancesLemmas.{name_at, element_at}
use Rattle.htmd_tree.proofs.reader.Reader.innermost_name.Goals as goal

pub returns-in-Element : goal.returns-in-Element
returns-in-Element c = λ has_doctype fs h.
    c.as_str.ensures
    ∙ name_at c.args.self.now has_doctype fs c.top.result c.in-Element.name
    (pairs_of c.in-Element.attrs.items) c.top.ensures.top h
    (ap data_of (sym c.in-Element.is) ∙ c.data.ensures.value)

-- the data of what isn't an element aren't those of an element
no_element : (d : NodeData) (n : List ℕ) (attributes : List AttributePair)
    → ((name : List ℕ) (attrs : Vec Attribute Global) → d ≡ Element name attrs → ⊥)
    → data_of d ≡ element_node n attributes → ⊥
no_element Document n attributes other e = cc
no_element Doctype n attributes other e = cc
no_element (Text s) n attributes other e = cc
no_element (Comment s) n attributes other e = cc
no_element (Element name attrs) n attributes other e = other name attrs refl

pub returns-in_default : goal.returns-in_default
returns-in_default c = λ has_doctype fs h.
    let e = element_at c.args.self.now has_doctype fs c.top.result c.top.ensures.top h in
    absurd (no_element c.data.result.now e.0 e.1 c.in_default.not-Element (c.data.ensures.value ∙ e.2))
