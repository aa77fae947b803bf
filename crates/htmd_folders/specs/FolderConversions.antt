-- What a run of pages changes.
use Rattle.std.specs.Prelude.{◌≡◌, ◌≢◌, ◌⊎◌, ℕ, suc, Bool, true, List, [], ◌∷◌, ◌++◌, Option, Some, IfSome, ⊤}
use Rattle.std.specs.List.{AllByRecursion}
use Rattle.htmd_files.specs.Promises.{HasUnfinishedName}
use Rattle.htmd_files.specs.declared.planning.Page.{Page}
use Rattle.htmd_folders.specs.Changes.{Change, Makes, held, nothing, unfinished, whole}
use Rattle.htmd_folders.specs.Pages.{Conversion, Converts, Fails, input_name, output_name}

-- A page was taken: it was converted; or if newer outputs are kept, it was left alone, and no file was changed; or it
-- failed. So many were left alone before and since, and so many failed.
abbrev pub TakesOne : Conversion → Bool → Page → Option (List Change) → Option (List Change)
    → (left failed : ℕ)
    → (left_now failed_now : ℕ) → Type 0
TakesOne becomes keeps page before after left failed left_now failed_now =
    (Converts becomes page before after × (left_now ≡ left) × (failed_now ≡ failed))
    ⊎ (((keeps ≡ true) × Makes before after [] × (left_now ≡ suc left) × (failed_now ≡ failed))
    ⊎ (Fails page before after × (left_now ≡ left) × (failed_now ≡ suc failed)))

-- the pages were taken in order, after which so many were left alone, and so many failed
abbrev pub TakesAfter : Conversion → Bool → List Page → Option (List Change) → Option (List Change)
    → (left failed : ℕ) → (left_now failed_now : ℕ) → Type 0
TakesAfter becomes keeps [] before after left failed left_now failed_now =
    (after ≡ before) × (left_now ≡ left) × (failed_now ≡ failed)
TakesAfter becomes keeps (page ∷ more) before after left failed left_now failed_now =
    (between : Option (List Change)) × (l : ℕ) × (f : ℕ)
    × TakesOne becomes keeps page before between left failed l f
    × TakesAfter becomes keeps more between after l f left_now failed_now

-- the pages were taken in order, of which so many were left alone, and so many failed
abbrev pub Takes : Conversion → Bool → List Page → Option (List Change) → Option (List Change)
    → (left failed : ℕ) → Type 0
Takes becomes keeps pages before after left failed = TakesAfter becomes keeps pages before after 0 0 left failed

-- ---- what follows from that

-- none of the pages is written under this name
abbrev pub AreSparing : List ℕ → List Page → Type 0
AreSparing name pages = AllByRecursion (λ page. name ≢ output_name page) pages

-- the page doesn't write what a later one reads or writes, and neither output has a name of unfinished ones
abbrev pub IsApart : Page → Page → Type 0
IsApart page later =
    (input_name later ≢ output_name page) × (output_name later ≢ output_name page)
    × (HasUnfinishedName (output_name page) → ⊥) × (HasUnfinishedName (output_name later) → ⊥)

-- so are all pages of a run
abbrev pub AreApart : List Page → Type 0
AreApart [] = ⊤
AreApart (page ∷ more) = AllByRecursion (IsApart page) more × AreApart more

-- the name holds what it held; or where nothing was, an unfinished output that couldn't be taken away
abbrev pub IsSpared : List ℕ → List Change → List Change → Type 0
IsSpared name past now =
    (held name now ≡ held name past)
    ⊎ (HasUnfinishedName name × (held name past ≡ nothing) × (held name now ≡ unfinished))

-- the output holds in the end what the bytes become that the input held in the beginning
abbrev pub IsConverted : Conversion → List Change → List Change → Page → Type 0
IsConverted becomes past now page =
    (bytes : List ℕ) × (written : List ℕ) × (held (input_name page) past ≡ whole bytes)
    × becomes page bytes written × (held (output_name page) now ≡ whole written)

-- that, or the output is as it was
abbrev pub IsConvertedOrKept : Conversion → List Change → List Change → Page → Type 0
IsConvertedOrKept becomes past now page =
    IsConverted becomes past now page ⊎ (held (output_name page) now ≡ held (output_name page) past)

-- if the changes before are known, those after are, and this holds of both
abbrev pub IfKnown : Option (List Change) → Option (List Change) → (List Change → List Change → Type 0)
    → Type 0
IfKnown before after P = IfSome before (λ past. (now : List Change) × (after ≡ Some now) × P past now)

-- this holds after all these changes, and held after each of them and before the first
abbrev pub AtEachMoment : (List Change → Type 0) → List Change → List Change → Type 0
AtEachMoment P [] past = P past
AtEachMoment P (change ∷ sooner) past = P (change ∷ (sooner ++ past)) × AtEachMoment P sooner past

-- this is what the name held at first, or all of something
abbrev pub IsAsBeforeOrWhole : List ℕ → List Change → List Change → Type 0
IsAsBeforeOrWhole name past now = (held name now ≡ held name past)
    ⊎ ((bytes : List ℕ) × (held name now ≡ whole bytes))

-- at each moment of a run each name holds what it held before the run or all of something, unless it is one of
-- unfinished outputs and nothing was there
abbrev pub IsNeverHalf : Option (List Change) → Option (List Change) → Type 0
IsNeverHalf before after =
    IfSome before (λ past. (changes : List Change) × (after ≡ Some (changes ++ past))
    × ((name : List ℕ) → (HasUnfinishedName name → held name past ≢ nothing)
    → AtEachMoment (IsAsBeforeOrWhole name past) changes past))
