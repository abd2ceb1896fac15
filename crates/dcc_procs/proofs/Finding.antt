-- One procedure after another is found.
use Rattle.std.proofs.Common.{◌≡◌, ◌≢◌, ℕ, ◌+◌, ◌≤◌, ◌<◌, List, [], ◌∷◌, ◌++◌, length, get_or, map, take, All, AllPairs, Contains, refl, sym, ap, ◌∙◌, subst, arith, length-append, length-take, append-nil}
use Rattle.std.proofs.lemmas.List.{take_more, take-append-le, get_or_append_left, get_or_default, get_or-map, get_or-take, length-map, map_push}
use Rattle.std.proofs.lemmas.List.Elements.{All-push, All-take, Contains-get_or, Contains-append_left}
use Rattle.std.proofs.lemmas.List.Sums.{sum_by_push}
use Rattle.dcc_machine.specs.declared.image.Image.{Image}
use Rattle.dcc_prog.specs.declared.procedure.Layout.{Layout}
use Rattle.dcc_prog.specs.declared.procedure.Proc.{Proc}
use Rattle.dcc_prog.specs.declared.refusal.LimitName.TheVariants.{Total}
use Rattle.dcc_prog.specs.declared.refusal.Refusal.TheVariants.{Limit}
use Rattle.dcc_prog.specs.Trail.{IsEntry}
use Rattle.dcc_prog.specs.Found.{IsFound}
use Rattle.dcc_prog.specs.Limit.{total}
use Rattle.dcc_prog.specs.Refused.{IsRefusedByTrails}
use Rattle.dcc_prog.specs.Refused as refused
use Rattle.dcc_procs.specs.Procedures.{IsProcedure, total_of, HasCallees, AreFirst, calls_of}
use Rattle.dcc_procs.specs.Entries.{AreAllReached}
use Rattle.dcc_procs.proofs.Calls.{callees-all, callees-reached}
use Rattle.dcc_procs.proofs.Places.{too-many-places}

entry_of : Proc → ℕ
entry_of proc = proc.entry

pub first-none :
    (image : Image) (layout : Layout) (entries : List ℕ) → entries ≡ layout.start_ip ∷ []
    → AreFirst image layout entries []
first-none image layout entries is = record {
  start = ap (λ l. get_or l 0 0) is;
  some = let one = ap length is in omega (arith, one);
  short = omega arith;
  entries_are = refl;
  procedures = λ k d inside. absurd (omega (arith, inside));
  callees = λ k d inside. absurd (omega (arith, inside));
  total = omega arith;
}

module _ (image : Image) (layout : Layout) (entries more : List ℕ) (procs : List Proc) (proc : Proc)
    (first : AreFirst image layout entries procs) (next : length procs < length entries)
    (p : IsProcedure image layout (get_or entries (length procs) 0) proc) where
  pub entries-pushed : map (λ q. q.entry) (procs ++ proc ∷ []) ≡ take (length (procs ++ proc ∷ [])) (entries ++ more)
  entries-pushed =
      let e : Proc → ℕ = λ q. q.entry in
      map_push e procs proc
      ∙ ap (λ l. l ++ proc.entry ∷ []) first.entries_are
      ∙ ap (λ n. take (length procs) entries ++ n ∷ []) p.entry_is
      ∙ sym (take_more entries (length procs) 0 next)
      ∙ sym (take-append-le (length procs + 1) entries more (omega (arith, next)))
      ∙ sym (ap (λ n. take n (entries ++ more)) (length-append procs (proc ∷ [])))

module _ (image : Image) (layout : Layout) (entries more : List ℕ) (procs : List Proc) (proc : Proc)
    (first : AreFirst image layout entries procs) (next : length procs < length entries)
    (p : IsProcedure image layout (get_or entries (length procs) 0) proc)
    (few : total_of procs + length proc.nodes.entries ≤ 32768)
    (callees : (target : ℕ) → Contains (calls_of proc.nodes.entries) target → Contains (entries ++ more) target) where
  callees-later :
      (q : Proc) → HasCallees image layout q.entry entries → HasCallees image layout q.entry (entries ++ more)
  callees-later q has at target node stands = Contains-append_left entries more target (has at target node stands)

  pub first-pushed : AreFirst image layout (entries ++ more) (procs ++ proc ∷ [])
  first-pushed = record {
    start = get_or_append_left entries more 0 0 first.some ∙ first.start;
    some = let sum = length-append entries more in let some = first.some in omega (arith, sum, some);
    short = let a = length-append entries more in let b = length-append procs (proc ∷ []) in omega (arith, a, b, next);
    entries_are = entries-pushed image layout entries more procs proc first next p;
    procedures =
        All-push (λ q. IsProcedure image layout q.entry q) procs proc first.procedures
        (subst (λ n. IsProcedure image layout n proc) (sym p.entry_is) p);
    callees =
        All-push (λ q. HasCallees image layout q.entry (entries ++ more)) procs proc
        (λ k d inside. callees-later (get_or procs k d) (first.callees k d inside))
        (λ at target node stands. callees target (callees-all image layout proc p.found at target node stands));
    total = let sum = sum_by_push (λ (q : Proc). length q.nodes.entries) procs proc in omega (arith, sum, few);
  }

-- the next procedure, by the entry as it is read
pub next-procedure :
    (image : Image) (layout : Layout) (entries : List ℕ) (procs : List Proc) (proc : Proc) (now n : ℕ)
    → length procs < length entries → now ≡ get_or entries n now → n ≡ length procs
    → IsProcedure image layout now proc → IsProcedure image layout (get_or entries (length procs) 0) proc
next-procedure image layout entries procs proc now n less read is p =
    subst (λ e. IsProcedure image layout e proc)
    (read ∙ ap (λ k. get_or entries k now) is ∙ get_or_default entries (length procs) now 0 less) p

-- the first ones of different values are different
pub taken-apart : (n : ℕ) (xs : List ℕ) → AllPairs (λ x y. x ≢ y) xs → AllPairs (λ x y. x ≢ y) (take n xs)
taken-apart n xs distinct i j d less inside same =
    let taken = length-take n xs in
    distinct i j d less (omega (arith, inside, taken))
    (sym (get_or-take n xs i d (omega (arith, less, inside, taken))) ∙ same ∙ get_or-take n xs j d (omega (arith, inside, taken)))

-- too many instructions, with those of one more procedure
pub total-refused :
    (image : Image) (layout : Layout) (entries : List ℕ) (procs : List Proc) (proc : Proc)
    → AreFirst image layout entries procs → length procs < length entries
    → IsProcedure image layout (get_or entries (length procs) 0) proc → AreAllReached image layout entries
    → AllPairs (λ x y. x ≢ y) entries → 32768 < total_of procs + length proc.nodes.entries
    → IsRefusedByTrails image layout (Limit Total 32769)
total-refused image layout entries procs proc first next p reached distinct more =
    let e : Proc → ℕ = λ q. q.entry in
    let all = procs ++ proc ∷ [] in
    let is : map e all ≡ take (length all) entries =
    entries-pushed image layout entries [] procs proc first next p
    ∙ ap (take (length all)) (append-nil entries) in
    let found : All (IsFound image layout) all =
    All-push (IsFound image layout) procs proc (λ k d inside. (first.procedures k d inside).found) p.found in
    let apart : AllPairs (λ x y. x ≢ y) (map e all) =
    subst (AllPairs (λ x y. x ≢ y)) (sym is) (taken-apart (length all) entries distinct) in
    let entered : All (IsEntry image layout) (map e all) =
    subst (All (IsEntry image layout)) (sym is)
    (All-take (IsEntry image layout) (length all) entries (λ k d inside. reached (get_or entries k d) (Contains-get_or entries k d inside)))
    in
    let each : All (λ (q : Proc). IsEntry image layout q.entry) all = λ k d inside.
    (let short = length-map all e in subst (IsEntry image layout) (get_or-map e all k d (e d) inside) (entered k (e d) (omega (arith, short, inside))))
    in
    let sum = sum_by_push (λ (q : Proc). length q.nodes.entries) procs proc in
    refused.limit (total (too-many-places image layout all found each apart (omega (arith, sum, more))))

-- the next procedure, and that the targets of its calls are entries
pub record IsNext (image : Image) (layout : Layout) (entries : List ℕ) (procs : List Proc) (proc : Proc) : Type 0 where
  pub procedure : IsProcedure image layout (get_or entries (length procs) 0) proc
  pub reached : AreAllReached image layout (calls_of proc.nodes.entries)

pub next-found :
    (image : Image) (layout : Layout) (entries : List ℕ) (procs : List Proc) (proc : Proc) (now n : ℕ)
    → AreAllReached image layout entries → length procs < length entries → now ≡ get_or entries n now → n ≡ length procs
    → IsProcedure image layout now proc → IsNext image layout entries procs proc
next-found image layout entries procs proc now n reached less read is found =
    let p = next-procedure image layout entries procs proc now n less read is found in
    let there = Contains-get_or entries (length procs) 0 less in
    let is_entry = subst (IsEntry image layout) (sym p.entry_is) (reached (get_or entries (length procs) 0) there) in
    record { procedure = p; reached = callees-reached image layout proc p.found is_entry }
