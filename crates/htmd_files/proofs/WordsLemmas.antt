-- The words of the command line, one by one.
use Rattle.std.proofs.Common.{◌≡◌, ℕ, ◌+◌, ◌<◌, List, [], ◌∷◌, length, drop, get_or, refl, sym, ap, ◌∙◌, Err, Result}
use Rattle.std.proofs.Common.{String, Global, string_bytes}
use Rattle.std.specs.Prelude.{Bool, ◌||◌}
use Rattle.std.specs.List.{list_any}
use Rattle.std.proofs.lemmas.List.{drop_more}
use Rattle.htmd_files.specs.declared.faults.WordFault.{WordFault}
use Rattle.htmd_files.specs.declared.faults.WordFault.TheVariants.{Memory, NoValue, Twice, Links, NeedsOutput}
use Rattle.htmd_files.specs.declared.faults.WordFault.TheVariants.{LinksStay}
use Rattle.htmd_files.specs.Words.{Fault, Reading, take_all, take_next, finished}
use Rattle.htmd_files.specs.WordViews.{texts_of, IsWordFault}

-- one word more
pub word_taken : (words : List (String Global)) (i : ℕ) (word : String Global) (r whole : Result Reading Fault)
    → i < length words → word ≡ get_or words i word → take_all (texts_of (drop i words)) r ≡ whole
    → take_all (texts_of (drop (i + 1) words)) (take_next (string_bytes word) r) ≡ whole
word_taken words i word r whole l is so_far =
    let d : drop i words ≡ word ∷ drop (i + 1) words =
    drop_more words i word l ∙ ap (λ (x : String Global). x ∷ drop (i + 1) words) (sym is) in
    ap (λ (x : List (String Global)). take_all (texts_of x) r) (sym d) ∙ so_far

pub fault_stays : (words : List (List ℕ)) (f : Fault) → take_all words (Err f) ≡ Err f
fault_stays [] f = refl
fault_stays (word ∷ words) f = fault_stays words f

ends_at : (words : List (List ℕ)) (r : Result Reading Fault) (f : Fault) (whole : Result Reading Fault)
    → r ≡ Err f
    → take_all words r ≡ whole → finished whole ≡ Err f
ends_at words r f whole e so_far =
    ap finished (sym so_far ∙ (ap (λ (x : Result Reading Fault). take_all words x) e ∙ fault_stays words f))

-- a fault at a word is that of all words
pub fault_of_all : (words : List (List ℕ)) (r whole : Result Reading Fault) (fault : WordFault)
    → take_all words r ≡ whole → IsWordFault r fault → IsWordFault (finished whole) fault
fault_of_all words r whole Memory so_far h = h
fault_of_all words r whole (NoValue word) so_far h = ends_at words r _ whole h so_far
fault_of_all words r whole (Twice first second) so_far h = ends_at words r _ whole h so_far
fault_of_all words r whole (Links word) so_far h = ends_at words r _ whole h so_far
fault_of_all words r whole (NeedsOutput option) so_far h = ends_at words r _ whole h so_far
fault_of_all words r whole (LinksStay option) so_far h = ends_at words r _ whole h so_far

-- ---- options

-- as their texts are
pub any_text : (p : List ℕ → Bool) (options : List (String Global))
    → list_any (λ option. p (string_bytes option)) options ≡ list_any p (texts_of options)
any_text p [] = refl
any_text p (option ∷ options) = ap (λ (b : Bool). p (string_bytes option) || b) (any_text p options)
