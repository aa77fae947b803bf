-- What the line of a heading is like.
use Rattle.std.proofs.Common.{◌≡◌, ℕ, true, false, not, ◌&&◌, []}
use Rattle.std.proofs.lemmas.Bool.{and_parts}
use Rattle.htmd_document.specs.Documents.{Inlines}
use Rattle.htmd_document.specs.NormalDocuments.{is_level, is_normal_heading}
use Rattle.htmd_document.specs.NormalInlines.{has_none, are_whole, are_normal, is_normal_line, anchors_stand_well}
use Rattle.htmd_law_returning.proofs.StartLemmas.{from-not}

pub record IsHeading (level : ℕ) (xs : Inlines) : Type 0 where
  pub right : is_level level ≡ true
  pub some : has_none xs ≡ false
  pub normal : are_normal false [] xs ≡ true
  pub stands : anchors_stand_well xs ≡ true

pub heading-normal : (level : ℕ) (xs : Inlines) → is_normal_heading level xs ≡ true → IsHeading level xs
heading-normal level xs h =
    let parts = and_parts ((is_level level && not (has_none xs)) && is_normal_line xs) (anchors_stand_well xs) h in
    let own = and_parts (is_level level && not (has_none xs)) (is_normal_line xs) parts.0 in
    let some = and_parts (is_level level) (not (has_none xs)) own.0 in
    let line = and_parts (are_whole xs) (are_normal false [] xs) own.1 in
    record { right = some.0; some = from-not (has_none xs) some.1; normal = line.1; stands = parts.1 }
