-- Steps of the loops that write a graph over words, and what tests of roles tell.
use Rattle.std.proofs.Common.{◌≡◌, ℕ, suc, ◌+◌, ◌<◌, ◌≤◌, Bool, true, false, ◌&&◌, ◌||◌, List, [], ◌∷◌, ◌++◌, length, map, reverse, refl, sym, ap, ap₂, ◌∙◌, subst, arith, Contains, true≢false}
use Rattle.std.specs.List.{list_all, AllZip}
use Rattle.std.proofs.Math.Path.{fun_ext}
use Rattle.std.proofs.lemmas.Bool.{and_parts}
use Rattle.std.proofs.lemmas.List.{reverse-append, map-append, length-map, length_push}
use Rattle.std.proofs.lemmas.List.Elements.{AllZip-push}
use Rattle.dcc_ir.specs.declared.syntax.Loc.{Loc}
use Rattle.dcc_ir.specs.declared.syntax.Stmt.{Stmt as Statement}
use Rattle.dcc_ir.specs.Tree.{Stmt, Graph}
use Rattle.dcc_ir.specs.Views.{stmt_of}
use Rattle.dcc_ir.specs.Live.{is_among}
use Rattle.dcc_ir.proofs.LocationLaws.{among_contains, contains_among}
use Rattle.dcc_ir.proofs.ReachedLaws.{all_at}
use Rattle.dcc_live.specs.Start.{begins_live}
use Rattle.dcc_words.specs.declared.roles.Pair.{Pair}
use Rattle.dcc_words.specs.declared.roles.Role.{Role}
use Rattle.dcc_words.specs.Words.{role_in, is_alone, takes_argument, takes_whole, writes_whole, are_halves, stmt_in_words, IsSetOfBoth, AreInWords, done, each, both, MayBecomeWords}
use Rattle.dcc_words.specs.Rewriting.{IsLastOf, alone, joined}

-- all statements but the first ones are written
abbrev pub AreWritten : (Loc → Role) → List Stmt → List Statement → List Statement → Type 0
AreWritten role all rest after =
    (written : List Stmt) × (all ≡ map stmt_of rest ++ written) × AreInWords role written (map stmt_of (reverse after))

append-twice : {A : Type 0} (xs ys zs : List A) → (xs ++ ys) ++ zs ≡ xs ++ (ys ++ zs)
append-twice [] ys zs = refl
append-twice (x ∷ xs) ys zs = ap (λ l. x ∷ l) (append-twice xs ys zs)

append-none : {A : Type 0} (xs : List A) → xs ++ [] ≡ xs
append-none [] = refl
append-none (x ∷ xs) = ap (λ l. x ∷ l) (append-none xs)

pub none-written : (role : Loc → Role) (rest : List Statement) → AreWritten role (map stmt_of rest) rest []
none-written role rest = ([], sym (append-none (map stmt_of rest)), done)

module _ (role : Loc → Role) (all : List Stmt) (rest fewer left : List Statement) (stmt new : Statement) (after after' : List Statement) where
  pub last-written : rest ≡ fewer ++ stmt ∷ [] → after' ≡ after ++ new ∷ [] → IsLastOf role (map stmt_of fewer) (stmt_of stmt) (map stmt_of left) (stmt_of new)
      → AreWritten role all rest after → AreWritten role all left after'
  last-written is made last w = go (map stmt_of left) (stmt_of new) refl refl last
    where
      front : all ≡ map stmt_of fewer ++ (stmt_of stmt ∷ w.0)
      front =
          w.1 ∙ ap (λ l. map stmt_of l ++ w.0) is ∙ ap (λ l. l ++ w.0) (map-append stmt_of fewer (stmt ∷ []))
          ∙ append-twice (map stmt_of fewer) (stmt_of stmt ∷ []) w.0

      shown : map stmt_of (reverse after') ≡ stmt_of new ∷ map stmt_of (reverse after)
      shown = ap (λ l. map stmt_of (reverse l)) made ∙ ap (map stmt_of) (reverse-append after (new ∷ []))

      go : (l : List Stmt) (n : Stmt) → map stmt_of left ≡ l → stmt_of new ≡ n → IsLastOf role (map stmt_of fewer) (stmt_of stmt) l n → AreWritten role all left after'
      go l n at is-new (alone same written) = (
        stmt_of stmt ∷ w.0,
        front ∙ ap (λ k. k ++ (stmt_of stmt ∷ w.0)) (sym same ∙ sym at),
        subst (AreInWords role (stmt_of stmt ∷ w.0)) (ap (λ s. s ∷ map stmt_of (reverse after)) (sym (is-new ∙ written)) ∙ sym shown) (each w.2),
      )
      go l n at is-new (joined first before set) = (
        first ∷ stmt_of stmt ∷ w.0,
        front ∙ ap (λ k. k ++ (stmt_of stmt ∷ w.0)) before ∙ append-twice l (first ∷ []) (stmt_of stmt ∷ w.0)
            ∙ ap (λ k. k ++ (first ∷ stmt_of stmt ∷ w.0)) (sym at),
        subst (AreInWords role (first ∷ stmt_of stmt ∷ w.0)) (ap (λ s. s ∷ map stmt_of (reverse after)) (sym is-new) ∙ sym shown) (both set w.2),
      )

-- where the last statement is written, fewer are left
module _ (role : Loc → Role) (rest fewer left : List Statement) (stmt new : Statement) where
  pub fewer-left : rest ≡ fewer ++ stmt ∷ [] → IsLastOf role (map stmt_of fewer) (stmt_of stmt) (map stmt_of left) (stmt_of new) → length left < length rest
  fewer-left is last = go (map stmt_of left) (stmt_of new) refl last
    where
      more : length rest ≡ length fewer + 1
      more = ap length is ∙ length_push fewer stmt

      go : (l : List Stmt) (n : Stmt) → map stmt_of left ≡ l → IsLastOf role (map stmt_of fewer) (stmt_of stmt) l n → length left < length rest
      go l n at (alone same written) =
          omega (arith, more, sym (length-map left stmt_of) ∙ ap length (at ∙ same) ∙ length-map fewer stmt_of)
      go l n at (joined first before set) =
          omega (arith, more, sym (length-map left stmt_of) ∙ ap length at, sym (length-map fewer stmt_of) ∙ ap length before ∙ length_push l first)

pub all-written : (role : Loc → Role) (all : List Stmt) (rest after : List Statement) → rest ≡ [] → AreWritten role all rest after
    → AreInWords role all (map stmt_of (reverse after))
all-written role all rest after is w = subst (λ l. AreInWords role l (map stmt_of (reverse after))) (sym (w.1 ∙ ap (λ l. map stmt_of l ++ w.0) is)) w.2

-- one more of each list
pub zip-pushed :
    {A B : Type 0} (f : A → B) (R : B → B → Type 0) (xs ys : List A) (x y : A) (more : List A) → more ≡ ys ++ y ∷ []
    → AllZip R (map f xs) (map f ys) → R (f x) (f y) → AllZip R (map f (xs ++ x ∷ [])) (map f more)
zip-pushed f R xs ys x y more made zipped is =
    subst (λ zs. AllZip R (map f (xs ++ x ∷ [])) (map f zs)) (sym made)
    (rw (map-append f xs (x ∷ []), map-append f ys (y ∷ []))
    (AllZip-push R (map f xs) (map f ys) (f x) (f y) zipped is))

-- what isn't among the locations isn't one of them
pub not-among : (ls : List Loc) (l : Loc) → is_among ls l ≡ false → Contains ls l → ⊥
not-among ls l none c = true≢false (sym (contains_among ls l c) ∙ none)

-- What the tests tell.

pub may-become : (pairs : List Pair) (graph : Graph) (role : Loc → Role) (live : List Loc) → ((l : Loc) → role l ≡ role_in pairs graph.bits l)
    → list_all (are_halves graph.bits) pairs ≡ true → ((l : Loc) → is_among live l ≡ begins_live graph l)
    → list_all (λ p. takes_whole role p.put) graph.params ≡ true
    → list_all (λ l. is_alone (role l) || takes_argument graph.params l) live ≡ true
    → list_all (λ b. list_all (writes_whole role) b.stmts) graph.blocks ≡ true → MayBecomeWords pairs graph
may-become pairs graph role live roles halves lives takes given writes = record {
  halves = halves;
  params = subst (λ r. list_all (λ p. takes_whole r p.put) graph.params ≡ true) (fun_ext roles) takes;
  start = λ l begins.
      subst (λ r. (is_alone (r l) || takes_argument graph.params l) ≡ true) (fun_ext roles)
      (all_at (λ l. is_alone (role l) || takes_argument graph.params l) live l given (among_contains live l (lives l ∙ begins)));
  written = subst (λ r. list_all (λ b. list_all (writes_whole r) b.stmts) graph.blocks ≡ true) (fun_ext roles) writes;
}
