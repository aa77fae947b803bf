-- No class so far names a language.
use Rattle.std.proofs.Common.{◌≡◌, length, drop}
use Rattle.htmd_walk.specs.Code.{first_language, classes_of}
use Rattle.htmd_walk.proofs.element_handler.code.first_language.Given as goal

abbrev pub invariant-loop-class : goal.invariant-loop-class
invariant-loop-class l =
    first_language (drop (length l.yielded) (classes_of l.classes)) ≡ first_language (classes_of l.classes)
