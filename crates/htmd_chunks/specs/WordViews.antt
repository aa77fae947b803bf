-- What the source keeps of words.
use Rattle.std.specs.Prelude.{List, map, Vec}
use Rattle.std.specs.declared.alloc.Global.{Global}
use Rattle.htmd_document.specs.declared.document.Inline.{Inline}
use Rattle.htmd_document.specs.DocumentViews.{inline_of}
use Rattle.htmd_chunks.specs.Words as spec

abbrev pub word_of : Vec Inline Global → spec.Word
word_of word = map inline_of word.items

abbrev pub words_in : List (Vec Inline Global) → List spec.Word
words_in words = map word_of words
