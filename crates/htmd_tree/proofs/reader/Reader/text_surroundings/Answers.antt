-- What is left to prove of `text_surroundings`.
use Rattle.htmd_tree.proofs.TextsLemmas.{tells_of_text}
use Rattle.htmd_tree.proofs.reader.Reader.text_surroundings.Goals as goal

pub returns : goal.returns
returns c = λ has_doctype fs holds there.
    tells_of_text c.args.self.now has_doctype fs c.top.result c.is_too_deep.result c.top.ensures.top holds there
    (c.is_too_deep.ensures has_doctype fs holds)
