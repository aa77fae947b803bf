-- What each kind of element adds to the wrappers of what is in it.
use Rattle.std.proofs.Common.{◌≡◌, ℕ, Bool, true, false, List, [], refl, map}
use Rattle.htmd_lexical.specs.AttributePairs.{AttributePair}
use Rattle.htmd_flow.specs.Contexts.{Context}
use Rattle.htmd_shown.specs.declared.facts.Facts.{Facts}
use Rattle.htmd_shown.specs.declared.role.Role.{Role}
use Rattle.htmd_shown.specs.declared.role.Role.TheVariants as role
use Rattle.htmd_shown.specs.Roles as roles
use Rattle.htmd_law_documents.specs.TreeWrappers.{inside_verbatim, inside_cell}
use Rattle.htmd_law_documents.proofs.VisibleLemmas.{Shows}
use Rattle.htmd_law_documents.proofs.ElementLemmas.{false-true}
use Rattle.htmd_law_documents.proofs.Readers.{Reader, unseen, read_around, read_by}

module _ (R : Reader) where
  -- an element of this role says what is in it
  abbrev pub IsInner : Role → Type 0
  IsInner r = (id : ℕ) (facts : Facts) (attributes : List AttributePair) (all : List ℕ) (holds_grid : Bool)
      (inner : Context → Bool → List R.Seen) (c : Context) (g : Bool)
      → read_by R r id facts attributes all holds_grid inner c g ≡ inner c false

  pub item-inner : (r : Role) → roles.is_item r ≡ true → IsInner r
  item-inner role.Item e = λ id facts attributes all holds_grid inner c g. refl
  item-inner r e = false-true e

  pub term-inner : (r : Role) → roles.is_term r ≡ true → IsInner r
  term-inner role.Term e = λ id facts attributes all holds_grid inner c g. refl
  term-inner r e = false-true e

  pub meaning-inner : (r : Role) → roles.is_meaning r ≡ true → IsInner r
  meaning-inner role.Meaning e = λ id facts attributes all holds_grid inner c g. refl
  meaning-inner r e = false-true e

  pub division-inner : (r : Role) → roles.is_division r ≡ true → IsInner r
  division-inner role.Division e = λ id facts attributes all holds_grid inner c g. refl
  division-inner r e = false-true e

  pub caption-inner : (r : Role) → roles.is_caption r ≡ true → IsInner r
  caption-inner role.Caption e = λ id facts attributes all holds_grid inner c g. refl
  caption-inner r e = false-true e

  module _ (id : ℕ) (facts : Facts) (attributes : List AttributePair) (all : List ℕ) (holds_grid : Bool)
      (inner : Context → Bool → List R.Seen) (c : Context) (g : Bool) where
    abbrev pub here : Role → List R.Seen
    here r = read_by R r id facts attributes all holds_grid inner c g

    pub part-within : (r : Role) → roles.is_part r ≡ true → here r ≡ inner c g
    part-within role.TableHead e = refl
    part-within role.TableBody e = refl
    part-within r e = false-true e

    pub row-within : (r : Role) → roles.is_row r ≡ true → here r ≡ inner c g
    row-within role.Row e = refl
    row-within r e = false-true e

    pub cell-within : (r : Role) → roles.is_cell r ≡ true → here r ≡ inner (inside_cell g c) false
    cell-within role.Cell e = refl
    cell-within role.HeaderCell e = refl
    cell-within r e = false-true e

    -- nothing is taken from what is blank
    pub blank-read : (r : Role) → Shows all [] → ((d : Context) (h : Bool) → inner d h ≡ []) → here r ≡ []
    blank-read role.LineBreak v h = refl
    blank-read role.ThematicBreak v h = refl
    blank-read role.Preformatted v h = unseen R (map (read_around R) (inside_verbatim c).around) true all v
    blank-read role.Verbatim v h = unseen R (map (read_around R) (inside_verbatim c).around) true all v
    blank-read r v h = h _ _
