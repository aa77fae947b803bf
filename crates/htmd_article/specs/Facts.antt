-- What is known of a node: how many letters of prose and of links are in it, and whether a heading or the main part is.
use Rattle.std.specs.Prelude.{ℕ, ◌+◌, ◌*◌, Bool, false, ◌||◌, nat_lt, if◌then◌else◌, List, codes}
use Rattle.std.specs.Prelude.{count_by}
use Rattle.std.specs.Str.{bytes_eq, chars}
use Rattle.htmd_lexical.specs.AttributePairs.{AttributePair}
use Rattle.htmd_nodes.specs.Items.{Data, document_node, doctype_node, text_node, comment_node, element_node}
use Rattle.htmd_article.specs.declared.facts.Counts.{Counts}
use Rattle.htmd_article.specs.declared.facts.Facts.{Facts}
use Rattle.htmd_article.specs.Letters.{is_letter, is_seen, is_sign}
use Rattle.htmd_article.specs.Names.{is_unseen, is_heading, is_block}
use Rattle.htmd_article.specs.Sayings.{is_main}

abbrev pub no_counts : Counts
no_counts = record { letters = 0; characters = 0; signs = 0 }

abbrev pub counts_of : List ℕ → Counts
counts_of s = record {
  letters = count_by is_letter (chars s);
  characters = count_by is_seen (chars s);
  signs = count_by is_sign (chars s);
}

abbrev pub counts_sum : Counts → Counts → Counts
counts_sum a b = record {
  letters = a.letters + b.letters;
  characters = a.characters + b.characters;
  signs = a.signs + b.signs;
}

abbrev pub no_facts : Facts
no_facts = record {
  counts = no_counts;
  own = 0;
  own_linked = 0;
  prose = 0;
  links = 0;
  has_heading = false;
  has_h1 = false;
  has_main = false;
}

-- of two nodes beside each other
abbrev pub facts_sum : Facts → Facts → Facts
facts_sum a b = record {
  counts = counts_sum a.counts b.counts;
  own = a.own + b.own;
  own_linked = a.own_linked + b.own_linked;
  prose = a.prose + b.prose;
  links = a.links + b.links;
  has_heading = a.has_heading || b.has_heading;
  has_h1 = a.has_h1 || b.has_h1;
  has_main = a.has_main || b.has_main;
}

-- a text, in a link or not
abbrev pub text_facts : Bool → List ℕ → Facts
text_facts linked s = record no_facts {
  counts = counts_of s;
  own = if linked then 0 else count_by is_letter (chars s);
  own_linked = if linked then count_by is_letter (chars s) else 0;
}

-- a block's own letters are links if more than two thirds of them stand in links, and else prose
abbrev pub with_block : Facts → Facts
with_block f =
    if nat_lt (2 * f.own) f.own_linked
    then record f { own = 0; own_linked = 0; links = f.links + (f.own + f.own_linked) }
    else record f { own = 0; own_linked = 0; prose = f.prose + (f.own + f.own_linked) }

-- the element itself is a heading or the main part
abbrev pub with_element : List ℕ → List AttributePair → Facts → Facts
with_element name attributes f = record f {
  has_heading = is_heading name || f.has_heading;
  has_h1 = bytes_eq name (codes "h1") || f.has_h1;
  has_main = is_main name attributes || f.has_main;
}

-- an element, by what is below it
abbrev pub element_facts : List ℕ → List AttributePair → Facts → Facts
element_facts name attributes f =
    if is_unseen name then record no_facts { counts = f.counts }
    else if is_block name then with_block (with_element name attributes f)
    else with_element name attributes f

-- a node, by what is below it
abbrev pub facts_over : Data → Facts → Facts
facts_over document_node f = with_block f
facts_over doctype_node f = f
facts_over (text_node s) f = f
facts_over (comment_node s) f = f
facts_over (element_node name attributes) f = element_facts name attributes f

abbrev pub shows : Facts → Bool
shows f = nat_lt 0 (f.prose + f.links)

abbrev pub is_linked : Facts → Bool
is_linked f = nat_lt f.prose f.links
