-- Bytes that are copied, part by part.
use Rattle.std.proofs.Common.{◌≡◌, ◌∙◌, refl, sym, ap, subst, ℕ, Bool, true, false, List, [], ◌++◌, append_assoc}
use Rattle.std.proofs.Common.{Option, Some, None, IfSome}
use Rattle.std.proofs.lemmas.List.{append-nil}
use Rattle.std.specs.Prelude.{MatchBool}
use Rattle.std.specs.Io.KnownBytes.{Appends, Consumes, IsAtEnd, Keeps}
use Rattle.htmd_files.specs.declared.planning.Page.{Page}
use Rattle.htmd_folders.specs.Pages.{Becomes, Conversion, Copies, or_copy}

-- a part of the source was taken and written, if what it gives is known
abbrev pub IsCopying : Option (List ℕ) → Option (List ℕ) → Option (List ℕ) → Option (List ℕ) → Type 0
IsCopying input left before after =
    IfSome input (λ bytes. (done : List ℕ) × Consumes (Some bytes) left done × Appends before after done)

pub copying_begins : (input before : Option (List ℕ)) → IsCopying input input before before
copying_begins None before = tt
copying_begins (Some bytes) None = ([], refl, tt)
copying_begins (Some bytes) (Some held) = ([], refl, sym (append-nil held))

consumes_more : (bytes done more : List ℕ) (left rest : Option (List ℕ)) → Consumes (Some bytes) left done
    → Consumes left rest more → Consumes (Some bytes) rest (done ++ more)
consumes_more bytes done more None rest c m = absurd c
consumes_more bytes done more (Some left) None c m = absurd m
consumes_more bytes done more (Some left) (Some rest) c m =
    c ∙ ap (λ x. done ++ x) m ∙ sym (append_assoc done more rest)

appends_more : (done more : List ℕ) (before between after : Option (List ℕ)) → Appends before between done
    → Appends between after more → Appends before after (done ++ more)
appends_more done more None between after a m = tt
appends_more done more (Some held) None after a m = absurd a
appends_more done more (Some held) (Some between) None a m = absurd m
appends_more done more (Some held) (Some between) (Some after) a m =
    m ∙ ap (λ x. x ++ more) a ∙ append_assoc held done more

pub copying_more : (input left rest before between after : Option (List ℕ)) (more : List ℕ)
    → IsCopying input left before between → Consumes left rest more → Appends between after more
    → IsCopying input rest before after
copying_more None left rest before between after more h c a = tt
copying_more (Some bytes) left rest before between after more (done, taken, put) c a = (
  done ++ more,
  consumes_more bytes done more left rest taken c,
  appends_more done more before between after put a,
)

appends_kept : (done : List ℕ) (before between after : Option (List ℕ)) → Appends before between done
    → Keeps between after → Appends before after done
appends_kept done None between after a k = tt
appends_kept done (Some held) None after a k = absurd a
appends_kept done (Some held) (Some between) None a k = absurd k
appends_kept done (Some held) (Some between) (Some after) a k = k ∙ a

-- after the last part
all_taken : (bytes done : List ℕ) (left rest : Option (List ℕ)) → Consumes (Some bytes) left done
    → Consumes left rest [] → IsAtEnd rest → done ≡ bytes
all_taken bytes done None rest c m e = absurd c
all_taken bytes done (Some left) None c m e = absurd m
all_taken bytes done (Some left) (Some rest) c m e = sym (c ∙ ap (λ x. done ++ x) (m ∙ e) ∙ append-nil done)

pub copying_ends : (input left rest before between after : Option (List ℕ)) → IsCopying input left before between
    → Consumes left rest [] → IsAtEnd rest → Keeps between after → Copies input before after
copying_ends None left rest before between after h c e k = tt
copying_ends (Some bytes) left rest before between after (done, taken, put) c e k =
    subst (Appends before after) (all_taken bytes done left rest taken c e)
    (appends_kept done before between after put k)

-- ---- what a file or a page becomes

pub copy_becomes : (becomes : Conversion) (page : Page) (input before after : Option (List ℕ))
    → page.is_copy ≡ true → Copies input before after → Becomes (or_copy becomes page) input before after
copy_becomes becomes page None before after e copied = tt
copy_becomes becomes page (Some bytes) before after e copied =
    let P : Bool → Type 0 = λ b. MatchBool b (bytes ≡ bytes) (becomes page bytes bytes) in
    (bytes, subst P (sym e) refl, copied)

pub page_becomes : (becomes : Conversion) (page : Page) (input before after : Option (List ℕ))
    → page.is_copy ≡ false → Becomes (becomes page) input before after
    → Becomes (or_copy becomes page) input before after
page_becomes becomes page None before after e made = tt
page_becomes becomes page (Some bytes) before after e (written, is, appended) =
    let P : Bool → Type 0 = λ b. MatchBool b (written ≡ bytes) (becomes page bytes written) in
    (written, subst P (sym e) is, appended)
