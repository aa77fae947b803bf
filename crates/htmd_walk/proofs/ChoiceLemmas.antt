-- The indexes of a tag, over registrations that grow at their end.
use Rattle.std.proofs.Common.{◌≡◌, ℕ, zero, suc, ◌<◌, List, [], ◌∷◌, ◌++◌, length, get_or, sym, ap, ◌∙◌, arith}
use Rattle.std.proofs.Common.{cond, All, ◌≤◌, Bool, false, Result, Ok, Err, OnOk}
use Rattle.std.specs.Result.{is_err}
use Rattle.std.specs.Str.{bytes_eq}
use Rattle.std.proofs.lemmas.List.{append_assoc, append-nil}
use Rattle.std.proofs.lemmas.List.Elements.{All-append, All-weaker}
use Rattle.htmd_walk.specs.Choice.{TagIndex, indexes, tags_at}

pub indexes-append : (tag : List ℕ) (ms ns : List TagIndex)
    → indexes tag (ms ++ ns) ≡ indexes tag ns ++ indexes tag ms
indexes-append tag [] ns = sym (append-nil (indexes tag ns))
indexes-append tag (m ∷ ms) ns =
    ap (λ x. x ++ cond (bytes_eq m.tag tag) (m.index ∷ []) []) (indexes-append tag ms ns)
    ∙ append_assoc (indexes tag ns) (indexes tag ms) (cond (bytes_eq m.tag tag) (m.index ∷ []) [])

-- ---- registrations that stay within the handlers when one handler more comes

tags-within : (tags : List (List ℕ)) (count more : ℕ) → count < more → (k : ℕ) (d : TagIndex)
    → k < length (tags_at count tags) → (get_or (tags_at count tags) k d).index < more
tags-within [] count more l k d h = absurd (omega arith)
tags-within (t ∷ ts) count more l zero d h = l
tags-within (t ∷ ts) count more l (suc k) d h = tags-within ts count more l k d (omega arith)

pub within-grown : (old : List TagIndex) (tags : List (List ℕ)) (index count more : ℕ) → count ≤ more
    → index < more
    → All (λ r. r.index < count) old → All (λ r. r.index < more) (old ++ tags_at index tags)
within-grown old tags index count more l m a =
    All-append (λ r. r.index < more) old (tags_at index tags)
    (All-weaker (λ r. r.index < count) (λ r. r.index < more) (λ r h. omega arith) old a)
    (tags-within tags index more m)

-- the clause of an Ok, if the result isn't an Err
pub clause_of_ok : {T E P : Type 0} (r : Result T E) (b : Bool) → b ≡ is_err r → b ≡ false → OnOk r P → P
clause_of_ok (Ok x) b e f h = h
clause_of_ok (Err x) b e f h = absurd (cc)
