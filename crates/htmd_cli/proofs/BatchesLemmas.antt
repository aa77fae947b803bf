-- Answers to rows, read by read.
use Rattle.std.proofs.Common.{◌≡◌, ◌∙◌, sym, ap, subst, refl, ℕ, zero, suc, ◌+◌, ◌<◌, ◌≤◌, ◌==◌, true, false}
use Rattle.std.proofs.Common.{List, [], ◌∷◌, ◌++◌, length, Option, Some, None, Result, Ok, Err, IfOk, OnOk, OnErr, take}
use Rattle.std.proofs.Common.{length-take, arith}
use Rattle.std.proofs.Common.{append_assoc, append-nil, length-append}
use Rattle.std.proofs.KnownBytes.{Appends-nil, Appends-trans, Consumes-trans}
use Rattle.std.specs.Str.{bytes_eq}
use Rattle.std.specs.Io.KnownBytes.{Appends, Consumes, IsAtEnd}
use Rattle.htmd.specs.Characters.{line_feed}
use Rattle.htmd_streams.specs.Ends.{AppendsSome}
use Rattle.htmd.specs.PageSettings.{Settings}
use Rattle.htmd_streams.specs.Lines.{lacks, rows, before_end, end_mark}
use Rattle.htmd_cli.specs.Rows.{IsRowAnswer, AreAnswers, FirstRowsOf, ConvertsRows, StopsAtRow, StopsInRows, counted}
use Rattle.htmd_cli.specs.Batches.{Answers, rows_from, rows_left, followed}
use Rattle.htmd_streams.proofs.LinesLemmas.{lacks-append, lines-open, rows-line, rows-end}

-- ---- answers

AreAnswers-append : (settings : Settings) (xs ys : List (List ℕ)) (u v : List ℕ) → AreAnswers settings xs u
    → AreAnswers settings ys v → AreAnswers settings (xs ++ ys) (u ++ v)
AreAnswers-append settings [] ys u v p q = subst (AreAnswers settings ys) (ap (λ t. t ++ v) (sym p)) q
AreAnswers-append settings (row ∷ more) ys u v p q = (
  p.0,
  p.1 ++ v,
  p.2,
  AreAnswers-append settings more ys p.1 v p.3 q,
  ap (λ t. t ++ v) p.4 ∙ append_assoc p.0 p.1 v,
)

-- no row
pub Answers-none : (settings : Settings) (all rest : List ℕ → List (List ℕ)) (waits : List ℕ) (n : ℕ)
    → ((tail : List ℕ) → all tail ≡ rest tail) → Answers settings all rest waits waits n n
Answers-none settings all rest waits n e = record {
  done = [];
  written = [];
  are = refl;
  appended = sym (append-nil waits);
  number = omega arith;
  ahead = e;
}

-- one row
pub Answers-row : (settings : Settings) (all rest : List ℕ → List (List ℕ)) (row before after : List ℕ)
    (n m : ℕ)
    → (written : List ℕ) × IsRowAnswer settings row written × (after ≡ before ++ written)
    → m ≡ counted (n + 1)
    → ((tail : List ℕ) → all tail ≡ row ∷ rest tail) → Answers settings all rest before after n m
Answers-row settings all rest row before after n m w c e = record {
  done = row ∷ [];
  written = w.0;
  are = (w.0, [], w.1, refl, sym (append-nil w.0));
  appended = w.2;
  number = omega arith;
  ahead = e;
}

counted-then : (a b c x y z : ℕ) → counted b ≡ counted (a + x) → counted c ≡ counted (b + y) → z ≡ x + y
    → counted c ≡ counted (a + z)
counted-then a b c x y z p q e = omega arith

-- some rows and then others
pub Answers-then : (settings : Settings) (all middle rest : List ℕ → List (List ℕ)) (a b c : List ℕ)
    (n m k : ℕ)
    → Answers settings all middle a b n m → Answers settings middle rest b c m k
    → Answers settings all rest a c n k
Answers-then settings all middle rest a b c n m k p q = record {
  done = p.done ++ q.done;
  written = p.written ++ q.written;
  are = AreAnswers-append settings p.done q.done p.written q.written p.are q.are;
  appended = q.appended ∙ (ap (λ t. t ++ q.written) p.appended ∙ append_assoc a p.written q.written);
  number = counted-then n m k (length p.done) (length q.done) (length (p.done ++ q.done)) p.number q.number
      (length-append p.done q.done);
  ahead = λ tail. p.ahead tail
      ∙ (ap (λ t. p.done ++ t) (q.ahead tail) ∙ sym (append_assoc p.done q.done (rest tail)));
}

-- the same rows, said in another settings
pub Answers-like : (settings : Settings) (all all2 rest rest2 : List ℕ → List (List ℕ)) (a b c : List ℕ)
    (n m k : ℕ)
    → Answers settings all rest a b n m → ((tail : List ℕ) → all2 tail ≡ all tail)
    → ((tail : List ℕ) → rest tail ≡ rest2 tail) → c ≡ b → k ≡ m → Answers settings all2 rest2 a c n k
Answers-like settings all all2 rest rest2 a b c n m k p e f g h = record {
  done = p.done;
  written = p.written;
  are = p.are;
  appended = g ∙ p.appended;
  number = ap counted h ∙ p.number;
  ahead = λ tail. e tail ∙ (p.ahead tail ∙ ap (λ t. p.done ++ t) (f tail));
}

-- whichever settings a call ended, it left some rows
pub some_rest : {T E : Type 0} (settings : Settings) (all : List ℕ → List (List ℕ))
    (rest : T → List ℕ → List (List ℕ))
    (a b : List ℕ) (n m : ℕ) (r : Result T E) → IfOk r (λ x. Answers settings all (rest x) a b n m)
    → OnErr r ((left : List ℕ → List (List ℕ)) × Answers settings all left a b n m)
    → (left : List ℕ → List (List ℕ)) × Answers settings all left a b n m
some_rest settings all rest a b n m (Ok x) p q = (rest x, p)
some_rest settings all rest a b n m (Err e) p q = q

-- if a call ends early, what is left is left
pub stopped : {T E : Type 0} (settings : Settings) (all rest : List ℕ → List (List ℕ)) (a b : List ℕ)
    (n m : ℕ)
    (r : Result T E) → Answers settings all rest a b n m
    → OnErr r ((left : List ℕ → List (List ℕ)) × Answers settings all left a b n m)
stopped settings all rest a b n m (Ok x) p = tt
stopped settings all rest a b n m (Err e) p = (rest, p)

-- ---- a line feed

shift : (begun front behind tail : List ℕ) (b : ℕ)
    → begun ++ ((front ++ b ∷ behind) ++ tail) ≡ (begun ++ front) ++ b ∷ (behind ++ tail)
shift begun front behind tail b =
    ap (λ t. begun ++ t) (append_assoc front (b ∷ behind) tail)
    ∙ sym (append_assoc begun front (b ∷ (behind ++ tail)))

-- a row that ends, and the row that begins
pub row_ends : (begun front behind rest row next tail : List ℕ) → lacks line_feed begun ≡ true
    → (lacks line_feed front ≡ true) × (rest ≡ front ++ line_feed ∷ behind) → row ≡ begun ++ front
    → bytes_eq row end_mark ≡ false → next ≡ []
    → rows_from begun (rest ++ tail) ≡ row ∷ rows_from next (behind ++ tail)
row_ends begun front behind rest row next tail o f r e n =
    ap (λ t. rows (begun ++ (t ++ tail))) f.1
    ∙ (ap rows (shift begun front behind tail line_feed)
    ∙ (rows-line (begun ++ front) (behind ++ tail) (lacks-append line_feed begun front o f.0)
    (sym (ap (λ t. bytes_eq t end_mark) r) ∙ e)
    ∙ (ap (λ t. t ∷ rows (behind ++ tail)) (sym r) ∙ ap (λ t. row ∷ rows (t ++ (behind ++ tail))) (sym n))))

-- the end mark
pub data_ends : (begun front behind rest row tail : List ℕ) → lacks line_feed begun ≡ true
    → (lacks line_feed front ≡ true) × (rest ≡ front ++ line_feed ∷ behind) → row ≡ begun ++ front
    → bytes_eq row end_mark ≡ true → rows_from begun (rest ++ tail) ≡ []
data_ends begun front behind rest row tail o f r e =
    ap (λ t. rows (begun ++ (t ++ tail))) f.1
    ∙ (ap rows (shift begun front behind tail line_feed)
    ∙ rows-end (begun ++ front) (behind ++ tail) (lacks-append line_feed begun front o f.0)
    (sym (ap (λ t. bytes_eq t end_mark) r) ∙ e))

pub lacks_on : (begun rest next : List ℕ) → next ≡ begun ++ rest → lacks line_feed begun ≡ true
    → lacks line_feed rest ≡ true → lacks line_feed next ≡ true
lacks_on begun rest next e o r = ap (lacks line_feed) e ∙ lacks-append line_feed begun rest o r

-- the last row, if no line feed ends it
pub last_row : (begun : List ℕ) → 0 < length begun → lacks line_feed begun ≡ true
    → bytes_eq begun end_mark ≡ false → rows begun ≡ begun ∷ []
last_row [] some o e = absurd (omega arith)
last_row (b ∷ s) some o e = ap before_end (lines-open b s o) ∙ rw e refl

pub followed-some : (s tail : List ℕ) → 0 < length s → followed s tail ≡ s ++ tail
followed-some [] tail l = absurd (omega arith)
followed-some (b ∷ s) tail l = refl

pub followed-none : (s tail : List ℕ) → length s ≡ 0 → followed s tail ≡ []
followed-none [] tail l = refl
followed-none (b ∷ s) tail l = absurd (omega arith)

-- ---- a batch

-- what was consumed was answered, except for the row that is open, and that was written
pub record Progress (settings : Settings) (before now : Option (List ℕ)) (empty full : Option (List ℕ))
    (begun : List ℕ)
    (answered : ℕ) : Type 0 where
  pub consumed : List ℕ
  pub written : List ℕ
  pub taken : Consumes before now consumed
  pub put : Appends empty full written
  pub answers : Answers settings (λ tail. rows (consumed ++ tail)) (rows_from begun) [] written 0 answered

-- the answers of a read after those before it, while nothing waits
joined : (settings : Settings) (consumed written begun chunk waits after : List ℕ)
    (rest : List ℕ → List (List ℕ))
    (n m : ℕ) → Answers settings (λ tail. rows (consumed ++ tail)) (rows_from begun) [] written 0 n
    → waits ≡ []
    → Answers settings (λ tail. rows_from begun (followed chunk tail)) rest waits after n m
    → Answers settings (λ tail. rows (consumed ++ followed chunk tail)) rest [] (written ++ after) 0 m
joined settings consumed written begun chunk waits after rest n m p w q = record {
  done = p.done ++ q.done;
  written = written ++ after;
  are = subst (AreAnswers settings (p.done ++ q.done))
      (ap (λ t. t ++ q.written) (sym p.appended) ∙ ap (λ t. written ++ t) (sym given))
      (AreAnswers-append settings p.done q.done p.written q.written p.are q.are);
  appended = refl;
  number = counted-then 0 n m (length p.done) (length q.done) (length (p.done ++ q.done)) p.number q.number
      (length-append p.done q.done);
  ahead = λ tail. p.ahead (followed chunk tail)
      ∙ (ap (λ t. p.done ++ t) (q.ahead tail) ∙ sym (append_assoc p.done q.done (rest tail)));
}
  where
    given : after ≡ q.written
    given = q.appended ∙ ap (λ t. t ++ q.written) w

-- a read of some bytes, whose answers were written
pub Progress-step : (settings : Settings) (before was now empty held full : Option (List ℕ))
    (begun chunk waits after : List ℕ)
    (n m : ℕ) (next : List ℕ) → Progress settings before was empty held begun n → Consumes was now chunk
    → waits ≡ []
    → Answers settings (λ tail. rows_from begun (followed chunk tail)) (rows_left true next) waits after n m
    → 0 < length chunk → Appends held full after → Progress settings before now empty full next m
Progress-step settings before was now empty held full begun chunk waits after n m next p c w q some a = record {
  consumed = p.consumed ++ chunk;
  written = p.written ++ after;
  taken = Consumes-trans before was now p.consumed chunk p.taken c;
  put = Appends-trans empty held full p.written after p.put a;
  answers = Answers-like settings (λ tail. rows (p.consumed ++ followed chunk tail))
      (λ tail. rows ((p.consumed ++ chunk) ++ tail)) (rows_left true next) (rows_from next) [] (p.written ++ after)
      (p.written ++ after) 0 m m
      (joined settings p.consumed p.written begun chunk waits after (rows_left true next) n m p.answers w q)
      (λ tail. ap rows (append_assoc p.consumed chunk tail
      ∙ ap (λ t. p.consumed ++ t) (sym (followed-some chunk tail some))))
      (λ tail. refl) refl refl;
}

-- what follows a chunk, if nothing follows an empty one
follows : (chunk ys : List ℕ) → (length chunk ≡ 0 → ys ≡ []) → chunk ++ ys ≡ followed chunk ys
follows [] ys f = f refl
follows (b ∷ s) ys f = refl

from_none : (m count : ℕ) → counted m ≡ counted (0 + count) → counted m ≡ counted count
from_none m count e = omega arith

next_row : (m count row : ℕ) → row ≡ counted (m + 1) → counted m ≡ counted count
    → row ≡ counted (count + 1)
next_row m count row r e = omega arith

-- the first rows of the input, as far as they were answered
first_rows : (settings : Settings) (xs consumed chunk ys written : List ℕ) (rest : List ℕ → List (List ℕ))
    (m : ℕ)
    → xs ≡ (consumed ++ chunk) ++ ys → (length chunk ≡ 0 → ys ≡ [])
    → Answers settings (λ tail. rows (consumed ++ followed chunk tail)) rest [] written 0 m
    → (count : ℕ) × FirstRowsOf settings xs count written × (counted m ≡ counted count)
first_rows settings xs consumed chunk ys written rest m e f q = (
  length q.done,
  (
    q.done,
    rest ys,
    ap rows (e ∙ (append_assoc consumed chunk ys ∙ ap (λ t. consumed ++ t) (follows chunk ys f))) ∙ q.ahead ys,
    refl,
    subst (AreAnswers settings q.done) (sym q.appended) q.are,
  ),
  from_none m (length q.done) q.number,
)

-- all rows were answered
pub batch_ends : (settings : Settings) (before was now empty held full : Option (List ℕ))
    (begun chunk waits after : List ℕ)
    (n m : ℕ) (next : List ℕ) → Progress settings before was empty held begun n → Consumes was now chunk
    → waits ≡ []
    → Answers settings (λ tail. rows_from begun (followed chunk tail)) (rows_left false next) waits after n m
    → (length chunk ≡ 0 → IsAtEnd now) → Appends held full after → ConvertsRows settings before empty full
batch_ends settings None was now empty held full begun chunk waits after n m next p c w q f a = tt
batch_ends settings (Some xs) was None empty held full begun chunk waits after n m next p c w q f a =
    absurd (Consumes-trans (Some xs) was None p.consumed chunk p.taken c)
batch_ends settings (Some xs) was (Some ys) empty held full begun chunk waits after n m next p c w q f a =
    let taken = Consumes-trans (Some xs) was (Some ys) p.consumed chunk p.taken c in
    let r = joined settings p.consumed p.written begun chunk waits after (rows_left false next) n m p.answers w q in (
      p.written ++ after,
      subst (λ t. AreAnswers settings t (p.written ++ after))
          (sym (ap rows (taken ∙ (append_assoc p.consumed chunk ys
          ∙ ap (λ t. p.consumed ++ t) (follows chunk ys f))) ∙ (r.ahead ys ∙ append-nil r.done)))
          (subst (AreAnswers settings r.done) (sym r.appended) r.are),
      Appends-trans empty held full p.written after p.put a,
    )

-- the rows before the one that isn't answered were
pub batch_stops : (settings : Settings) (before was now empty held full : Option (List ℕ))
    (begun chunk waits after : List ℕ)
    (n m row : ℕ) → Progress settings before was empty held begun n → Consumes was now chunk → waits ≡ []
    → (rest : List ℕ → List (List ℕ))
    × Answers settings (λ tail. rows_from begun (followed chunk tail)) rest waits after n m
    → (length chunk ≡ 0 → IsAtEnd now) → Appends held full after → row ≡ counted (m + 1)
    → StopsAtRow settings row before empty full
batch_stops settings None was now empty held full begun chunk waits after n m row p c w q f a r = tt
batch_stops settings (Some xs) was None empty held full begun chunk waits after n m row p c w q f a r =
    absurd (Consumes-trans (Some xs) was None p.consumed chunk p.taken c)
batch_stops settings (Some xs) was (Some ys) empty held full begun chunk waits after n m row p c w q f a r =
    let taken = Consumes-trans (Some xs) was (Some ys) p.consumed chunk p.taken c in
    let all = joined settings p.consumed p.written begun chunk waits after q.0 n m p.answers w q.1 in
    let first = first_rows settings xs p.consumed chunk ys (p.written ++ after) q.0 m taken f all in (
      first.0,
      p.written ++ after,
      first.1,
      next_row m first.0 row r first.2,
      Appends-trans empty held full p.written after p.put a,
    )

-- and without a further read
pub batch_rests : (settings : Settings) (before was empty full : Option (List ℕ)) (begun : List ℕ) (n row : ℕ)
    → Progress settings before was empty full begun n → row ≡ counted (n + 1)
    → StopsAtRow settings row before empty full
batch_rests settings None was empty full begun n row p r = tt
batch_rests settings (Some xs) None empty full begun n row p r = absurd p.taken
batch_rests settings (Some xs) (Some ys) empty full begun n row p r = (
  length p.answers.done,
  p.written,
  (
    p.answers.done,
    rows_from begun ys,
    ap rows p.taken ∙ p.answers.ahead ys,
    refl,
    subst (AreAnswers settings p.answers.done) (sym p.answers.appended) p.answers.are,
  ),
  next_row n (length p.answers.done) row r
      (from_none n (length p.answers.done) p.answers.number),
  p.put,
)

-- a write failed
pub batch_breaks : (settings : Settings) (before was now empty held full : Option (List ℕ))
    (begun chunk waits after : List ℕ)
    (n m row : ℕ) → Progress settings before was empty held begun n → Consumes was now chunk → waits ≡ []
    → (rest : List ℕ → List (List ℕ))
    × Answers settings (λ tail. rows_from begun (followed chunk tail)) rest waits after n m
    → (length chunk ≡ 0 → IsAtEnd now) → AppendsSome held full after → row ≡ counted m
    → StopsInRows settings row before empty full
batch_breaks settings None was now empty held full begun chunk waits after n m row p c w q f a r = tt
batch_breaks settings (Some xs) was None empty held full begun chunk waits after n m row p c w q f a r =
    absurd (Consumes-trans (Some xs) was None p.consumed chunk p.taken c)
batch_breaks settings (Some xs) was (Some ys) empty held full begun chunk waits after n m row p c w q f a r =
    let taken = Consumes-trans (Some xs) was (Some ys) p.consumed chunk p.taken c in
    let all = joined settings p.consumed p.written begun chunk waits after q.0 n m p.answers w q.1 in
    let first = first_rows settings xs p.consumed chunk ys (p.written ++ after) q.0 m taken f all in (
      first.0,
      p.written ++ after,
      first.1,
      r ∙ first.2,
      (
        p.written ++ a.0,
        a.1,
        ap (λ t. p.written ++ t) a.2 ∙ sym (append_assoc p.written a.0 a.1),
        Appends-trans empty held full p.written a.0 p.put a.3,
      ),
    )

-- before the first row
pub nothing_yet : (settings : Settings) (source sink : Option (List ℕ)) → StopsAtRow settings 1 source sink sink
nothing_yet settings None sink = tt
nothing_yet settings (Some xs) sink =
    (0, [], ([], rows xs, refl, refl, refl), refl, Appends-nil sink)

-- the row that is begun, with its answer after those that wait
pub answered_row : (settings : Settings) (row read old new given answer : List ℕ) → read ≡ row
    → IsRowAnswer settings read answer → new ≡ old ++ given → given ≡ answer
    → (written : List ℕ) × IsRowAnswer settings row written × (new ≡ old ++ written)
answered_row settings row read old new given answer e h n g =
    (answer, subst (λ t. IsRowAnswer settings t answer) e h, n ∙ ap (λ t. old ++ t) g)

-- a read of nothing, and of some bytes
pub read_none : (settings : Settings) (begun bytes a b : List ℕ) (rest : List ℕ → List (List ℕ)) (n m : ℕ)
    → length bytes ≡ 0 → Answers settings (λ _. rows begun) rest a b n m
    → Answers settings (λ tail. rows_from begun (followed bytes tail)) rest a b n m
read_none settings begun bytes a b rest n m e p =
    Answers-like settings (λ _. rows begun) (λ tail. rows_from begun (followed bytes tail)) rest rest a b b n m m p
    (λ tail. ap (λ t. rows (begun ++ t)) (followed-none bytes tail e) ∙ ap rows (append-nil begun))
    (λ tail. refl) refl refl

some_length : (n : ℕ) → (n == 0) ≡ false → 0 < n
some_length zero e = absurd (cc)
some_length (suc n) e = omega arith

-- a row at the end that isn't empty and isn't the end mark
pub last_alone : (row read : List ℕ) (n : ℕ) → (n == 0) ≡ false → length read ≡ n → read ≡ row
    → lacks line_feed row ≡ true → bytes_eq read end_mark ≡ false → rows row ≡ row ∷ []
last_alone row read n z l e o f =
    last_row row (subst (λ t. 0 < length t) e (subst (λ k. 0 < k) (sym l) (some_length n z))) o
    (ap (λ t. bytes_eq t end_mark) (sym e) ∙ f)

pub end_ok : {T E : Type 0} (settings : Settings) (begun old new : List ℕ) (n m : ℕ) (r : Result T E)
    → rows begun ≡ begun ∷ []
    → OnOk r ((written : List ℕ) × IsRowAnswer settings begun written × (new ≡ old ++ written))
    → OnOk r (m ≡ counted (n + 1)) → OnOk r (Answers settings (λ _. rows begun) (λ _. []) old new n m)
end_ok settings begun old new n m (Ok x) e h k =
    Answers-row settings (λ _. rows begun) (λ _. []) begun old new n m h k (λ tail. e)
end_ok settings begun old new n m (Err x) e h k = tt

pub end_err : {T E : Type 0} (settings : Settings) (begun old new : List ℕ) (n m : ℕ) (r : Result T E)
    → OnErr r (new ≡ old) → OnErr r (m ≡ n)
    → OnErr r ((rest : List ℕ → List (List ℕ)) × Answers settings (λ _. rows begun) rest old new n m)
end_err settings begun old new n m (Ok x) h k = tt
end_err settings begun old new n m (Err x) h k = (
  (λ _. rows begun),
  Answers-like settings (λ _. rows begun) (λ _. rows begun) (λ _. rows begun) (λ _. rows begun) old old new n n m
      (Answers-none settings (λ _. rows begun) (λ _. rows begun) old n (λ tail. refl)) (λ tail. refl)
      (λ tail. refl) h k,
)

-- the same of an equal row that is begun
pub Progress-kept : (settings : Settings) (before now empty full : Option (List ℕ)) (a b : List ℕ) (n m : ℕ)
    → b ≡ a
    → m ≡ n → Progress settings before now empty full a n → Progress settings before now empty full b m
Progress-kept settings before now empty full a b n m e f p =
    subst (λ k. Progress settings before now empty full b k) (sym f)
    (subst (λ t. Progress settings before now empty full t n) (sym e) p)

-- nothing was read only at the end
pub none_read : (n : ℕ) (buffer : List ℕ) (now : Option (List ℕ)) → n ≤ length buffer → 0 < length buffer
    → (n ≡ 0 → 0 < length buffer → IsAtEnd now) → length (take n buffer) ≡ 0 → IsAtEnd now
none_read n buffer now l some f e = f (omega (arith, length-take n buffer)) some
