-- What is kept of the innermost open element knows its place.
use Rattle.htmd_grammar.specs.HtmlDocuments.{above_body}
use Rattle.htmd_grammar.specs.ReaderSteps.{names_of}
use Rattle.htmd_tree.proofs.AdvancesLemmas.{top_at}
use Rattle.htmd_tree.proofs.reader.Reader.allows.Goals as goal

pub returns : goal.returns
returns c =
    λ n known has_doctype fs h.
    c.allows.ensures n c.args.self.now.scripting (names_of above_body fs) known
    ((top_at c.args.self.now has_doctype fs c.top.result c.top.ensures.top h).1)
