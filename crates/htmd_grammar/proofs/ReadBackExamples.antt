-- What is read back of a table with an implied `tbody`, attributes and line feeds is written out.
use Rattle.std.proofs.Common.{Bool, List, [], codes, false, inl, inr, refl, subst, sym, true, ℕ, ◌++◌, ◌∷◌, ◌≡◌}
use Rattle.std.specs.Prelude.{if◌then◌else◌, ◌==◌}
use Rattle.std.proofs.lemmas.Bool.{eqb-true}
use Rattle.htmd_lexical.specs.Characters.{line_feed}
use Rattle.htmd_lexical.proofs.Cases.{test}
use Rattle.htmd_grammar.specs.HtmlDocuments.{above_body, below_body}
use Rattle.htmd_grammar.specs.Grammar.{reads}
use Rattle.htmd_grammar.specs.Nesting.{is_allowed}
use Rattle.htmd_values.specs.RawBlocks.{RefersToLineFeeds, line_feed_reference, nothing, reference, same}
use Rattle.htmd_grammar.specs.ReadBack.{DenotesAlone, is_special}
use Rattle.htmd_grammar.specs.References.{may_be_numbered}
use Rattle.htmd_grammar.specs.Rules.{project}
use Rattle.htmd_values.specs.Serialisation.{is_raw_text, is_void, serialisation}
use Rattle.htmd_grammar.specs.ReaderSteps.{Reaches, State, finished, started, step}
use Rattle.htmd_lexical.specs.AttributePairs.{AttributePair}
use Rattle.htmd_values.specs.ValueTrees.{ValueForest, ValueTree, element, more, none, text}
use Rattle.htmd_grammar.proofs.ViablePrefixes.{sound_end}
use Rattle.htmd_grammar.proofs.ReferencedLineFeeds.{refers_same}
use Rattle.htmd_grammar.proofs.ComputedSteps.{Denotes, denotes, steps, steps_reach}
use Rattle.htmd_grammar.proofs.Subtrees.{project_has, reads_back}
use lib.Utf8.{encode}

-- line feeds written as references where the flag says so, and as they are after the last flag
abbrev referred : List Bool → List ℕ → List ℕ
referred [] s = s
referred (f ∷ flags) [] = []
referred (f ∷ flags) (b ∷ s) =
    if b == line_feed
    then (if f then line_feed_reference ++ referred flags s else b ∷ referred flags s)
    else b ∷ referred (f ∷ flags) s

referred_refers : (flags : List Bool) (s : List ℕ) → RefersToLineFeeds s (referred flags s)
referred_refers [] s = refers_same s
referred_refers (f ∷ flags) [] = nothing
referred_refers (f ∷ flags) (b ∷ s) = test (b == line_feed)
    (λ t. test f (λ g. rw (t, g) (written (eqb-true b line_feed t) (referred_refers flags s)))
    (λ g. rw (t, g) (same b (referred_refers flags s))))
    (λ t. rw t (same b (referred_refers (f ∷ flags) s)))
  where
    written : {x : List ℕ} → b ≡ line_feed → RefersToLineFeeds s x
        → RefersToLineFeeds (b ∷ s) (line_feed_reference ++ x)
    written {x = x} e r =
        subst (λ (c : ℕ). RefersToLineFeeds (c ∷ s) (line_feed_reference ++ x)) (sym e) (reference r)

abbrev attribute_pair : List ℕ → List ℕ → List AttributePair
attribute_pair n v = record { name = n; value = v } ∷ []

-- attributes of three forms, white space between the parts of the table, and references by name and by number
abbrev source : List ℕ
source =
    codes "<TABLE A = 'x&#10;&lt;y'>\n\n<tr b=c&amp;d><td e>1 < 2 & 3&#x26;\n\n\n4"
    ++ codes "</TD ></tr></table><title>a<b>&gt;</title>"

abbrev cell : ValueTree
cell = element (codes "td") (attribute_pair (codes "e") []) (more (text (codes "1 < 2 & 3&\n\n\n4")) none)

abbrev table_part : ValueTree
table_part =
    element (codes "tbody") [] (more (element (codes "tr") (attribute_pair (codes "b") (codes "c&d")) (more cell none))
    none)

abbrev table : ValueTree
table =
    element (codes "table") (attribute_pair (codes "a") (codes "x\n<y"))
    (more (text (codes "\n\n")) (more table_part none))

abbrev content : ValueForest
content = more table (more (element (codes "title") [] (more (text (codes "a<b>>")) none)) none)

source_denotes : Denotes true source content
unfolding step is_allowed is_void may_be_numbered encode
source_denotes = denotes true source content 60 refl refl

source_reads : reads (project true) below_body source content
unfolding step is_allowed is_void may_be_numbered encode
source_reads = sound_end (project true) source content
    (subst (λ (st : State). Reaches (project true) above_body (started source) st) end
    (steps_reach (project true) 60 (started source)))
  where
    end : steps (project true) 60 (started source) ≡ finished content
    end = refl

-- every second line feed after another one is a reference
abbrev table_text : List ℕ
table_text = referred (false ∷ false ∷ true ∷ false ∷ true ∷ false ∷ []) (serialisation table)

table_written : table_text
    ≡ codes "<table a=\"x\n<y\">\n&#10;<tbody><tr b=\"c&amp;d\">"
    ++ codes "<td e=\"\">1 &lt; 2 &amp; 3&amp;\n&#10;\n4</td></tr></tbody></table>"
unfolding is_void is_raw_text
table_written = refl

-- the text denotes the table and nothing else
table_reads_back : DenotesAlone (project true) below_body table_text (more table none)
unfolding is_special is_raw_text is_void
table_reads_back =
    reads_back (project true) (project_has true) below_body source content source_reads below_body table
    (record {
      parent = codes "body";
      above = above_body;
      context = refl;
      name = codes "table";
      attributes = attribute_pair (codes "a") (codes "x\n<y");
      children =
          more (text (codes "\n\n")) (more table_part none);
      is_element = refl;
      stands = inl (inl (refl, refl));
      plain = refl;
    })
    table_text (referred_refers (false ∷ false ∷ true ∷ false ∷ true ∷ false ∷ []) (serialisation table))

-- and so is a cell in the context of its ancestors, one of which no tag opened
cell_reads_back : DenotesAlone (project true) (codes "tr" ∷ codes "tbody" ∷ codes "table" ∷ below_body)
    (serialisation cell) (more cell none)
unfolding is_special is_raw_text is_void
cell_reads_back =
    reads_back (project true) (project_has true) below_body source content source_reads
    (codes "tr" ∷ codes "tbody" ∷ codes "table" ∷ below_body) cell
    (record {
      parent = codes "tr";
      above = codes "tbody" ∷ codes "table" ∷ below_body;
      context = refl;
      name = codes "td";
      attributes = attribute_pair (codes "e") [];
      children = more (text (codes "1 < 2 & 3&\n\n\n4")) none;
      is_element = refl;
      stands = inl (inr (inr (inl (inr (inl (inr (inl (inl (refl, refl)))))))));
      plain = refl;
    })
    (serialisation cell) (refers_same (serialisation cell))
