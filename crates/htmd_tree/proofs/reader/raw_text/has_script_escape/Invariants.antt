-- What the loop of `has_script_escape` keeps.
use Rattle.std.proofs.Common.{◌≡◌, ◌&&◌, ◌||◌, codes, drop}
use Rattle.htmd_lexical.specs.CharacterClasses.{holds_in_any_case}
use Rattle.htmd_grammar.specs.RawContent.{has_script_escape}
use Rattle.htmd_tree.proofs.reader.raw_text.has_script_escape.Given as goal

abbrev pub invariant-loop-i : goal.invariant-loop-i
invariant-loop-i l =
    ((l.escaped && holds_in_any_case (codes "<script") (drop l.i l.bytes)) || has_script_escape (drop l.i l.bytes))
    ≡ has_script_escape l.bytes
