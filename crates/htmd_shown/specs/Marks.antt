-- Nodes of which one sign shows, and nothing else.
use Rattle.std.specs.Prelude.{ℕ, Bool, false, not, ◌||◌, ◌&&◌, ◌==◌, List, [], ◌∷◌, ◌++◌, filter, is_some, codes}
use Rattle.std.specs.Int.{is_in_range}
use Rattle.std.specs.Str.{chars}
use Rattle.unicode.specs.declared.properties.GeneralCategoryGroup.TheVariants.{Punctuation, Symbol}
use Rattle.unicode.specs.GeneralCategory.{general_category}
use Rattle.unicode.specs.GeneralCategoryGroup.{in_group}
use Rattle.htmd_shown.specs.AllTexts.{dollar_sign}
use Rattle.htmd_shown.specs.Attributes.{text_of}
use Rattle.htmd_shown.specs.ShownTexts.{is_shown}
use Rattle.htmd_shown.specs.SimpleTrees.{Simple, text, image, formula, embedded, anchor, element, Simples, none, more}
use Rattle.htmd_shown.specs.Spaces.{is_not_white}

-- a character that shows, and not as white space
abbrev pub is_seen : ℕ → Bool
is_seen c = is_shown c && is_not_white c

-- the characters of a text that are seen
abbrev pub letters : List ℕ → List ℕ
letters s = filter is_seen (chars s)

abbrev mutual
  -- the characters of all text of a node that are seen
  pub letters_of : Simple → List ℕ
  letters_of (text s) = letters s
  letters_of (image address attributes) = letters (text_of (codes "alt") attributes)
  letters_of (formula tex is_alone attributes) = (dollar_sign ∷ letters tex) ++ dollar_sign ∷ []
  letters_of (embedded id address title attributes anchors) = letters title
  letters_of (anchor id) = []
  letters_of (element id role facts attributes content) = letters_among content

  pub letters_among : Simples → List ℕ
  letters_among none = []
  letters_among (more tree trees) = letters_of tree ++ letters_among trees

abbrev mutual
  -- an image with an address is in it
  pub has_image : Simple → Bool
  has_image (image address attributes) = is_some address
  has_image (element id role facts attributes content) = have_image content
  has_image _ = false

  pub have_image : Simples → Bool
  have_image none = false
  have_image (more tree trees) = has_image tree || have_image trees

abbrev pub is_one : (ℕ → Bool) → List ℕ → Bool
is_one kind [] = false
is_one kind (c ∷ []) = kind c
is_one kind (c ∷ d ∷ cs) = false

-- all that shows of these is one sign of this kind
abbrev pub is_mark : (ℕ → Bool) → Simples → Bool
is_mark kind trees = is_one kind (letters_among trees) && not (have_image trees)

-- a sign that means a link to its own place: # ¶ § ◆ ⚓ ∞ 🔗, U+200B or one of private use
abbrev pub is_usual_sign : ℕ → Bool
is_usual_sign c =
    (c == 0x23) || (c == 0xB6) || (c == 0xA7) || (c == 0x25C6) || (c == 0x2693) || (c == 0x221E)
    || (c == 0x1F517) || (c == 0x200B) || is_in_range 0xE000 0xF8FF c

-- of the general categories P and S (Unicode, 4.5)
abbrev pub is_punctuation : ℕ → Bool
is_punctuation c = in_group Punctuation (general_category c)

abbrev pub is_symbol : ℕ → Bool
is_symbol c = in_group Symbol (general_category c)

-- a usual sign, punctuation, or a symbol
abbrev pub is_sign : ℕ → Bool
is_sign c = is_usual_sign c || is_punctuation c || is_symbol c
