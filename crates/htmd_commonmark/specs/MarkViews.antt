-- Marks, as the source keeps them.
use Rattle.htmd_commonmark.specs.declared.marks.Mark.{Mark}
use Rattle.htmd_commonmark.specs.Marks as spec

abbrev pub mark_of : Mark → spec.Mark
mark_of m = record { sign = m.sign; opener = m.opener.now; closer = m.closer.now }
