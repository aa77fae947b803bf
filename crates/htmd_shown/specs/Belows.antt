-- What the walk over a page knows of nodes of the simpler tree.
use Rattle.std.specs.Prelude.{ℕ, ◌+◌, min, Bool, true, false, not, ◌||◌, ◌&&◌, if◌then◌else◌, List, [], ◌∷◌}
use Rattle.htmd_shown.specs.declared.below.Below.{Below}
use Rattle.htmd_shown.specs.declared.facts.Facts.{Facts}
use Rattle.htmd_shown.specs.declared.role.Role.{Role}
use Rattle.htmd_shown.specs.declared.sign.Sign.{Sign}
use Rattle.htmd_shown.specs.declared.sign.Sign.TheVariants.{Nothing, One, More}
use Rattle.htmd_shown.specs.Facts.{leaves, leaves_among, one_unless, pres, pres_among}
use Rattle.htmd_shown.specs.Kinds.{is_blank, are_blank, has_table, have_table, has_header, have_header}
use Rattle.htmd_shown.specs.Marks.{letters, letters_of, letters_among, has_image, have_image, is_usual_sign, is_sign}
use Rattle.htmd_shown.specs.Pieces.{greatest_count}
use Rattle.htmd_shown.specs.Roles.{is_void, is_preformatted, is_table, is_header_cell, is_verbatim}
use Rattle.htmd_shown.specs.SimpleTrees.{Simple, Simples}

-- ---- signs

abbrev pub sign_of : List ℕ → Sign
sign_of [] = Nothing
sign_of (c ∷ []) = One c
sign_of (c ∷ d ∷ cs) = More

abbrev pub sign_and : Sign → Sign → Sign
sign_and Nothing t = t
sign_and (One c) Nothing = One c
sign_and (One c) (One d) = More
sign_and (One c) More = More
sign_and More t = More

abbrev pub is_nothing : Sign → Bool
is_nothing Nothing = true
is_nothing _ = false

abbrev pub is_one : (ℕ → Bool) → Sign → Bool
is_one kind (One c) = kind c
is_one kind _ = false

-- ---- all of it

abbrev pub nothing : Below
nothing = record {
  is_blank = true;
  pres = 0;
  holds_table = false;
  holds_header = false;
  sign = Nothing;
  has_image = false;
  leaves = 0;
}

abbrev pub below_of_sign : Sign → Below
below_of_sign s = record nothing {
  is_blank = is_nothing s;
  sign = s;
  leaves = one_unless (is_nothing s);
}

abbrev pub below_of_image : Bool → List ℕ → Below
below_of_image has_address description =
    let s = sign_of (letters description) in
    record nothing {
      is_blank = false;
      sign = s;
      has_image = has_address;
      leaves = 1;
    }

abbrev pub below_of_leaf : Sign → Below
below_of_leaf s = record nothing {
  is_blank = false;
  sign = s;
  leaves = 1;
}

abbrev pub below_and : Below → Below → Below
below_and a b = record {
  is_blank = a.is_blank && b.is_blank;
  pres = min 2 (a.pres + b.pres);
  holds_table = a.holds_table || b.holds_table;
  holds_header = a.holds_header || b.holds_header;
  sign = sign_and a.sign b.sign;
  has_image = a.has_image || b.has_image;
  leaves = min greatest_count (a.leaves + b.leaves);
}

abbrev pub below_within : Role → Below → Below
below_within role b = record b {
  is_blank = not (is_void role) && b.is_blank;
  pres = if is_preformatted role then 1 else b.pres;
  holds_table = is_table role || b.holds_table;
  holds_header = is_header_cell role || b.holds_header;
  leaves = if is_verbatim role then 1 else b.leaves;
}

abbrev pub shows_usual_sign : Below → Bool
shows_usual_sign b = is_one is_usual_sign b.sign && not b.has_image

abbrev pub shows_sign : Below → Bool
shows_sign b = is_one is_sign b.sign && not b.has_image

abbrev pub facts_in : Below → Facts
facts_in b = record {
  is_blank = b.is_blank;
  pres = b.pres;
  holds_table = b.holds_table;
  holds_header = b.holds_header;
  shows_sign = shows_usual_sign b;
  leaves = b.leaves;
}

-- what is known of a node
abbrev pub below_of : Simple → Below
below_of tree = record {
  is_blank = is_blank tree;
  pres = pres tree;
  holds_table = has_table tree;
  holds_header = has_header tree;
  sign = sign_of (letters_of tree);
  has_image = has_image tree;
  leaves = leaves tree;
}

-- what is known of nodes beside each other
abbrev pub below_among : Simples → Below
below_among trees = record {
  is_blank = are_blank trees;
  pres = pres_among trees;
  holds_table = have_table trees;
  holds_header = have_header trees;
  sign = sign_of (letters_among trees);
  has_image = have_image trees;
  leaves = leaves_among trees;
}
