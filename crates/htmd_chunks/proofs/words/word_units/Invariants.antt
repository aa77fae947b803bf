-- The sentence that is begun, and with the words to come all units.
use Rattle.std.proofs.Common.{◌≡◌, ◌≤◌, ◌++◌, [], List, drop, length, map}
use Rattle.std.specs.List.{flat_map}
use Rattle.htmd_chunks.specs.Words.{Word, units_of, sentences_from, word_cost}
use Rattle.htmd_chunks.specs.UnitViews.{unit_of_words}
use Rattle.htmd_chunks.specs.WordViews.{words_in}
use Rattle.htmd_chunks.proofs.words.word_units.Given as goal

abbrev pub invariant-loop-i : goal.invariant-loop-i
invariant-loop-i l =
    let unit = unit_of_words l.bounds.options l.margin in
    record {
      begun : List Word;
      ended : length l.words ≤ l.i → begun ≡ [];
      sentence : l.sentence.items ≡ map (word_cost l.bounds.options l.margin) begun;
      rest : l.units.items
          ++ map unit (flat_map (units_of l.bounds l.margin) (sentences_from begun (words_in (drop l.i l.words))))
          ≡ map unit (flat_map (units_of l.bounds l.margin) (sentences_from [] (words_in l.words)));
    }
