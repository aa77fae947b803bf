-- Worked rows of list items and lists. Each holds by computing.
use Rattle.std.proofs.Common.{◌≡◌, [], ◌∷◌, refl, codes, Some, None, true, false}
use Rattle.std.specs.Fmt.{digits}
use Rattle.htmd_markdown.specs.declared.list.BulletListMarker.TheVariants.{Asterisk}
use Rattle.htmd_markdown.specs.ListItems.{bullet_item}
use Rattle.htmd_markdown.specs.Lists.{first_number, item, other, ordered_list, list_block}

pub sign : first_number (Some (codes "+5")) ≡ 5
sign = refl

pub too_large : first_number (Some (codes "2147483648")) ≡ 1
too_large = refl

pub below_one : first_number (Some (codes "-3")) ≡ 1
below_one = refl

pub bullet : bullet_item Asterisk 3 (codes " a\n\nb ") ≡ codes "\n*   a\n\n    b"
bullet = refl

pub equal_columns : ordered_list 9 2 (item (codes "\na\n") ∷ item (codes "\nb\n") ∷ []) ≡ codes "\n9.   a\n10.  b"
unfolding digits
equal_columns = refl

pub between_items : ordered_list 1 2 (item (codes "\na\n") ∷ other (codes "x") ∷ item (codes "\nb\n") ∷ [])
    ≡ codes "\n1.  ax\n2.  b"
unfolding digits
between_items = refl

pub nested : list_block true (codes "\n*   a") ≡ Some (codes "\n*   a\n")
nested = refl

pub nothing : list_block false (codes "\n\n") ≡ None
nothing = refl
