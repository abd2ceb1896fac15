-- A small graph in which a copy is read, and the one in which its source is read; and what isn't available.
use Rattle.std.proofs.Common.{◌≡◌, ℕ, zero, suc, true, false, ◌==◌, List, [], ◌∷◌, length, Some, None, refl, sym, ap, ◌∙◌, subst, true≢false, slice_get, Contains, lit<}
use Rattle.std.specs.Prelude.{All, ◌<◌}
use Rattle.std.proofs.lemmas.List.Elements.{All-nil, All-cons}
use Rattle.dcc_ir.specs.declared.syntax.Loc.{Loc}
use Rattle.dcc_ir.specs.declared.syntax.Loc.TheVariants.{Temp}
use Rattle.dcc_ir.specs.Tree.{Expr, Const, Get, Load, Stmt, Set, Store, Dos, Stop, Block, Graph}
use Rattle.dcc_ir.specs.Location.{same_location, location_width}
use Rattle.dcc_ir.specs.Value.{width_of}
use Rattle.dcc_ir.specs.Flow.{targets}
use Rattle.dcc_ir.specs.WellFormed.{jumps_after_call, IsGraph}
use Rattle.dcc_ir.proofs.LocationLaws.{Contains-here, Contains-none, Contains-cases}
use Rattle.dcc_passes.specs.Replaced.{StandsFor}
use Rattle.dcc_substitution.specs.Available.{Availability, IsAvailableAfter, made, copied, left, AreRight, IsRight}
use Rattle.dcc_substitution.specs.Substitute.{itself, read}
use Rattle.dcc_substitution.specs.Substituted.{dos, same, stop, done, both, IsSubstitutedBlock, IsSubstituted}
use Rattle.dcc_substitution.proofs.SubstitutedLaws.{substituted-stands}

-- a byte of the memory, a copy of it, and the copy is written
abbrev byte : Stmt
byte = Set (Temp 0) (Load 8 (Const 16 512))

abbrev copy : Stmt
copy = Set (Temp 1) (Get (Temp 0))

abbrev written : Stmt
written = Dos 0x02 None (Some (Get (Temp 1)))

abbrev written_before : Stmt
written_before = Dos 0x02 None (Some (Get (Temp 0)))

abbrev block_of : Stmt → Block
block_of stmt = record { at = 256; stmts = byte ∷ copy ∷ stmt ∷ []; exit = Stop }

abbrev graph_of : Stmt → Graph
graph_of stmt = record { entry = 256; params = []; local = 0; pushed = 0; blocks = block_of stmt ∷ []; bits = 8 ∷ 8 ∷ [] }

-- before the byte is written the copy is available
abbrev copied_last : Availability
copied_last place rest location e = (rest ≡ written ∷ []) × (location ≡ Temp 1) × (e ≡ Get (Temp 0))

not-itself : ¬ Contains (Temp 0 ∷ []) (Temp 1)
not-itself c = Contains-cases (Temp 0) [] (Temp 1) ⊥ (λ is. true≢false (ap (λ l. same_location (Temp 0) l) is)) (Contains-none (Temp 1)) c

copy-right : (location : Loc) (e : Expr) → copied_last 0 (written ∷ []) location e → IsAvailableAfter copy (copied_last 0 (copy ∷ written ∷ [])) location e
copy-right location e is =
    subst (λ l. IsAvailableAfter copy (copied_last 0 (copy ∷ written ∷ [])) l e) (sym is.1)
    (subst (IsAvailableAfter copy (copied_last 0 (copy ∷ written ∷ [])) (Temp 1)) (sym is.2) (made refl itself not-itself))

longer : (rest : List Stmt) → (length rest == 1) ≡ false → ¬ rest ≡ written ∷ []
longer rest other is = true≢false (sym (ap (λ l. length l == 1) is) ∙ other)

block-right : AreRight (graph_of written) copied_last 0 (byte ∷ copy ∷ written ∷ [])
block-right = (
  λ location e is. absurd (longer (copy ∷ written ∷ []) refl is.0),
  (copy-right, (λ location e is. absurd (longer [] refl is.0), tt)),
)

-- there is one block
only : (place : ℕ) (block : Block) → slice_get (graph_of written).blocks place ≡ Some block → (place ≡ 0) × (block_of written ≡ block)
only zero block found = (refl, cc)
only (suc place) block found = absurd (cc)

copies-right : IsRight (graph_of written) copied_last
copies-right = record {
  start = λ block location e found is. longer (byte ∷ copy ∷ written ∷ []) refl (ap (λ (b : Block). b.stmts) (only 0 block found).1 ∙ is.0);
  stmts = λ place block found.
      let one = only place block found in
      subst (λ (b : Block). AreRight (graph_of written) copied_last place b.stmts) one.1
      (subst (λ n. AreRight (graph_of written) copied_last n (block_of written).stmts) (sym one.0) block-right);
  goes = λ place to block next location e found goes there is.
      absurd (Contains-none to (subst (λ (b : Block). Contains (targets b.exit) to) (sym (only place block found).1) goes));
  widths = λ place rest location e is. ap (width_of (8 ∷ 8 ∷ [])) is.2 ∙ ap (location_width (8 ∷ 8 ∷ [])) (sym is.1);
}

-- the source is read in place of the copy
source-read : IsSubstituted copied_last (graph_of written) (graph_of written_before)
source-read = record { frame = refl; count = refl; blocks = blocks }
  where
    blocks : (place : ℕ) (block new : Block) → slice_get (graph_of written).blocks place ≡ Some block → slice_get (graph_of written_before).blocks place ≡ Some new
        → IsSubstitutedBlock copied_last place block new
    blocks zero block new found there =
        let one : block_of written ≡ block = cc in
        let other : block_of written_before ≡ new = cc in
        subst (λ b. IsSubstitutedBlock copied_last 0 b new) one (subst (IsSubstitutedBlock copied_last 0 (block_of written)) other (record {
          at = refl;
          stmts = both same (both same (both (dos (read (refl, refl, refl))) done));
          exit = stop;
        }))
    blocks (suc place) block new found there = absurd (cc)

one : {A : Type 0} (P : A → Type 0) (x : A) → P x → All P (x ∷ [])
one P x h = All-cons P x [] h (All-nil P)

formed : IsGraph (graph_of written_before)
formed = record {
  begins = lit< tt;
  entry = lit< tt;
  offsets = one (λ (b : Block). b.at < 65536) (block_of written_before) (lit< tt);
  jumps = one (λ (b : Block). jumps_after_call b.stmts b.exit ≡ true) (block_of written_before) refl;
  addresses = refl;
  bits = refl;
  params = refl;
  blocks = refl;
}

copy-goes : StandsFor (graph_of written) (graph_of written_before)
copy-goes = substituted-stands copied_last (graph_of written) (graph_of written_before) copies-right source-read formed

-- A near miss: after a store what a Load gave is no longer available.
stores-hide : (Before : Loc → Expr → Type 0) → ¬ IsAvailableAfter (Store 8 (Const 16 512) (Const 8 65)) Before (Temp 0) (Load 8 (Const 16 512))
stores-hide Before (made is sub apart) = absurd (cc)
stores-hide Before (copied is reads apart) = absurd (cc)
stores-hide Before (left held out reads leaves) = true≢false (sym leaves)

-- Another one: what reads the location that it sets isn't made available.
itself-hides : (Before : Loc → Expr → Type 0) → ¬ IsAvailableAfter copy Before (Temp 1) (Get (Temp 1))
itself-hides Before (made is sub apart) = apart (Contains-here (Temp 1) [])
itself-hides Before (copied {to = to} is reads apart) =
    let one : Temp 0 ≡ Temp 1 = cc in
    true≢false (ap (λ l. same_location (Temp 0) l) one)
itself-hides Before (left held out reads leaves) = out (Contains-here (Temp 1) [])
