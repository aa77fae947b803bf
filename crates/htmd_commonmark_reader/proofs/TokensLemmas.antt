-- The tokens of a line, from run to run.
use Rattle.std.proofs.Common.{◌≡◌, ◌∙◌, ℕ, zero, suc, ◌+◌, ◌-◌, ◌<◌, ◌≤◌, true, List, [], ◌∷◌, ◌++◌, length, drop}
use Rattle.std.proofs.Common.{get_or, replicate, refl, ap, sym, subst, append_assoc, arith}
use Rattle.std.specs.Prelude.{reverse}
use Rattle.std.proofs.lemmas.List.{length-append, drop_more, drop_all}
use Rattle.htmd_commonmark_reading.specs.Markup.{Inlines, no_inlines}
use Rattle.htmd_commonmark_reading.specs.DelimiterRuns.{Run, Stack, base, Token, finished, run, with_items, with_run}
use Rattle.htmd_commonmark_reading.specs.DelimiterRuns.{with_tokens, unstacked}
use Rattle.htmd_parts.specs.Parts.{inlines_parts}
use Rattle.htmd_commonmark_reader.specs.Openers.{AreSearched, is_sign, kind}
use Rattle.htmd_commonmark_reader.specs.ReadingRuns.{IsReading, AreTokens}
use Rattle.htmd_commonmark_reader.specs.Runs.{run_of}
use Rattle.htmd_commonmark_reader.specs.Slots.{slots_parts, Denotes}
use Rattle.htmd_commonmark_reader.specs.declared.emphasis.Delimiter.{Delimiter}
use Rattle.htmd_commonmark_reader.specs.declared.emphasis.Openers.{Openers}
use Rattle.htmd_commonmark_reader.specs.declared.slots.Slot.{Slot}
use Rattle.htmd_commonmark_reader.specs.declared.emphasis.Searched.{Searched}
use Rattle.htmd_commonmark_reader.proofs.EmphasisLemmas.{with_more, left_as_text}
use Rattle.htmd_commonmark_reader.proofs.KindsLemmas.{small_kind}

-- The stack so far, and the tokens that are left. The slots stand behind so many others, which the places count too.
pub record AtToken (all : Stack) (o : Openers) (offset : ℕ) (ds : List Delimiter) (slots : List Slot) : Type 0 where
  pub stack : Stack
  pub tokens : List Token
  pub from : ℕ
  pub sign : ℕ
  pub tail : List Slot
  pub reading : IsReading stack o from 0 sign slots tail
  pub tokens_are : AreTokens tokens ds (offset + from) tail
  pub makes : with_tokens stack tokens ≡ all

-- the same in front of a run
pub record AtRun (all : Stack) (o : Openers) (offset : ℕ) (d : Delimiter) (ds : List Delimiter) (slots : List Slot)
    : Type 0 where
  pub stack : Stack
  pub tokens : List Token
  pub tail : List Slot
  pub place : offset ≤ d.from
  pub sign : is_sign d.run.sign ≡ true
  pub reading : IsReading stack o (d.from - offset) d.run.unused d.run.sign slots tail
  pub tokens_are : AreTokens tokens ds (d.from + d.run.unused) tail
  pub makes : with_tokens (with_run d.run.unused (run_of d.run) stack) tokens ≡ all

-- past a text that was read
past_text : (s : Stack) (o : Openers) (from sign : ℕ) (slots tail front back : List Slot) (x : Inlines)
    → IsReading s o from 0 sign slots tail → tail ≡ front ++ back → slots_parts front ≡ inlines_parts x []
    → IsReading (with_items s x) o (from + length front) 0 sign slots back
past_text s o from sign slots tail front back x h e f = record {
  read = h.read ++ front;
  is = h.is ∙ ap (λ l. h.read ++ l) e ∙ sym (append_assoc h.read front back);
  end = omega (arith, h.end, length-append h.read front);
  denotes = with_more s (reverse o.items.items) h.read front x h.denotes f;
  searched = λ r k t. let w = h.searched r k t in let v = w.1 in (w.0, omega arith);
}

pub to_run : (ts : List Token) (all s : Stack) (o : Openers) (offset : ℕ) (d : Delimiter) (ds : List Delimiter)
    (from sign : ℕ) (slots tail : List Slot) → IsReading s o from 0 sign slots tail
    → AreTokens ts (d ∷ ds) (offset + from) tail → with_tokens s ts ≡ all → AtRun all o offset d ds slots
to_run [] all s o offset d ds from sign slots tail h t m = absurd t
to_run (finished x ∷ ts) all s o offset d ds from sign slots tail h t m =
    let further : offset + from + length t.front ≡ offset + (from + length t.front) = omega arith in
    to_run ts all (with_items s x) o offset d ds (from + length t.front) sign slots t.back
    (past_text s o from sign slots tail t.front t.back x h t.is t.parts)
    (subst (λ k. AreTokens ts (d ∷ ds) k t.back) further t.rest) m
to_run (run r ∷ ts) all s o offset d ds from sign slots tail h t m =
    let here : from ≡ d.from - offset = omega (arith, t.at) in
    record {
      stack = s;
      tokens = ts;
      tail = t.back;
      place = omega (arith, t.at);
      sign = t.sign;
      reading = record {
        read = h.read;
        is = h.is ∙ ap (λ l. h.read ++ l) t.is;
        end = h.end ∙ here;
        denotes = h.denotes;
        searched = subst (λ k. AreSearched o.items.items o.searched k) here h.searched;
      };
      tokens_are = subst (λ k. AreTokens ts ds (k + d.run.unused) t.back) (sym t.at) t.rest;
      makes = ap (λ (q : Run). with_tokens (with_run q.unused q s) ts) t.run ∙ m;
    }

pub to_end : (ts : List Token) (all s : Stack) (o : Openers) (offset from sign : ℕ) (slots tail : List Slot)
    → IsReading s o from 0 sign slots tail → AreTokens ts [] (offset + from) tail → with_tokens s ts ≡ all
    → slots_parts slots ≡ inlines_parts (unstacked all no_inlines) []
to_end [] all s o offset from sign slots tail h t m =
    ap slots_parts (h.is ∙ ap (λ l. h.read ++ l) t)
    ∙ left_as_text s (reverse o.items.items) h.read [] no_inlines h.denotes refl
    ∙ ap (λ q. inlines_parts (unstacked q no_inlines) []) m
to_end (finished x ∷ ts) all s o offset from sign slots tail h t m =
    let further : offset + from + length t.front ≡ offset + (from + length t.front) = omega arith in
    to_end ts all (with_items s x) o offset (from + length t.front) sign slots t.back
    (past_text s o from sign slots tail t.front t.back x h t.is t.parts)
    (subst (λ k. AreTokens ts [] k t.back) further t.rest) m
to_end (run r ∷ ts) all s o offset from sign slots tail h t m = absurd t

-- ---- the loop

-- nothing was searched for yet
pub unsearched : (n : ℕ) (known : List Searched) (v : Searched) → known ≡ replicate n v → 18 ≤ n
    → v.place ≡ 0
    → AreSearched [] known 0
unsearched n known v e l z r k t =
    let w = small_kind r in
    let at : get_or known (kind r) k ≡ v =
    ap (λ y. get_or y (kind r) k) e ∙ same n (kind r) v k (omega arith) in (
      λ j d low high before. absurd (omega arith),
      omega (arith, ap (λ (y : Searched). y.place) at, z),
    )
  where
    same : (n i : ℕ) (v k : Searched) → i < n → get_or (replicate n v) i k ≡ v
    same zero i v k l = absurd (omega arith)
    same (suc n) zero v k l = refl
    same (suc n) (suc i) v k l = same n i v k (omega arith)

pub at_first : (ts : List Token) (o : Openers) (offset : ℕ) (ds : List Delimiter) (slots : List Slot)
    → AreTokens ts ds offset slots → o.items.items ≡ [] → AreSearched [] o.searched 0
    → AtToken (with_tokens (base no_inlines) ts) o offset ds slots
at_first ts o offset ds slots t e h =
    let here : offset ≡ offset + 0 = omega arith in
    record {
      stack = base no_inlines;
      tokens = ts;
      from = 0;
      sign = 0;
      tail = slots;
      reading = record {
        read = [];
        is = refl;
        end = refl;
        denotes = subst (λ (l : List Delimiter). Denotes (base no_inlines) (reverse l) []) (sym e) refl;
        searched = subst (λ (l : List Delimiter). AreSearched l o.searched 0) (sym e) h;
      };
      tokens_are = subst (λ k. AreTokens ts ds k slots) here t;
      makes = refl;
    }

pub next_run : (all : Stack) (o : Openers) (offset : ℕ) (ds : List Delimiter) (i : ℕ) (e : Delimiter)
    (slots : List Slot) → i < length ds → AtToken all o offset (drop i ds) slots
    → AtRun all o offset (get_or ds i e) (drop (i + 1) ds) slots
next_run all o offset ds i e slots l h =
    let t = subst (λ (x : List Delimiter). AtToken all o offset x slots) (drop_more ds i e l) h in
    to_run t.tokens all t.stack o offset (get_or ds i e) (drop (i + 1) ds) t.from t.sign slots t.tail t.reading
    t.tokens_are t.makes

pub after_run : (all : Stack) (o p : Openers) (offset : ℕ) (d : Delimiter) (ds : List Delimiter)
    (slots new : List Slot) → AtRun all o offset d ds slots
    → ((s : Stack) (tail : List Slot) → IsReading s o (d.from - offset) d.run.unused d.run.sign slots tail
    → IsReading (with_run d.run.unused (run_of d.run) s) p (d.from - offset + d.run.unused) 0 d.run.sign new tail)
    → AtToken all p offset ds new
after_run all o p offset d ds slots new h f =
    let w = h.place in
    let here : d.from + d.run.unused ≡ offset + (d.from - offset + d.run.unused) = omega arith in
    record {
      stack = with_run d.run.unused (run_of d.run) h.stack;
      tokens = h.tokens;
      from = d.from - offset + d.run.unused;
      sign = d.run.sign;
      tail = h.tail;
      reading = f h.stack h.tail h.reading;
      tokens_are = subst (λ k. AreTokens h.tokens ds k h.tail) here h.tokens_are;
      makes = h.makes;
    }

pub after_last : (all : Stack) (o : Openers) (offset : ℕ) (ds : List Delimiter) (i : ℕ) (slots : List Slot)
    → length ds ≤ i → AtToken all o offset (drop i ds) slots
    → slots_parts slots ≡ inlines_parts (unstacked all no_inlines) []
after_last all o offset ds i slots l h =
    let t = subst (λ (x : List Delimiter). AtToken all o offset x slots) (drop_all i ds l) h in
    to_end t.tokens all t.stack o offset t.from t.sign slots t.tail t.reading t.tokens_are t.makes
