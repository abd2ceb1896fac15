-- A graph with other locations of the same widths stays in kind.
use Rattle.std.proofs.Common.{◌≡◌, ℕ, suc, false, List, [], ◌∷◌, ◌++◌, length, map, flat_map, Some, refl, ap, ap₂, ◌∙◌, slice_get}
use Rattle.std.specs.Prelude.{All}
use Rattle.std.specs.List.{AllZip}
use Rattle.std.proofs.lemmas.List.Elements.{All-head, All-tail}
use Rattle.dcc_run.proofs.KeptLaws.{right_part}
use Rattle.dcc_ir.specs.declared.syntax.Loc.{Loc}
use Rattle.dcc_ir.specs.declared.syntax.Put.{Put}
use Rattle.dcc_ir.specs.declared.syntax.Put.TheVariants.{Memory, One, Two}
use Rattle.dcc_ir.specs.declared.syntax.Param.{Param}
use Rattle.dcc_ir.specs.Tree.{Stmt, Set, Fetch, Store, Div, Call, Dos, Exit, Goto, If, Switch, Ret, Stop, Block, Graph}
use Rattle.dcc_ir.specs.Location.{location_width}
use Rattle.dcc_ir.specs.Demand.{tests_of}
use Rattle.dcc_ir.specs.Families.{Family}
use Rattle.dcc_ir.specs.Flow.{targets}
use Rattle.dcc_ir.specs.Joinable.{places_of}
use Rattle.dcc_ir.specs.Use.{reads_of, exprs_of, writes_of}
use Rattle.dcc_ir.specs.WellFormed.{is_jump, ret_widths}
use Rattle.dcc_ir.proofs.ListLaws.{left_part}
use Rattle.dcc_passes.specs.Kinds.{param_kind, call_kinds, BlockStaysInKind, StaysInKind}
use Rattle.dcc_passes.specs.Renamed.{Renaming, AreRenamed, IsRenamedBlock, IsRenamed}
use Rattle.dcc_passes.specs.Renaming.{renamed_stmt, renamed_exit, renamed_put, renamed_param, param_places}
use Rattle.dcc_passes.proofs.RenamingLaws.{widths-renamed, targets-renamed, jumps-renamed}

-- what holds of the elements at each place holds of the lists
zip-from : {A B : Type 0} (R : A → B → Type 0) (xs : List A) (ys : List B) → length ys ≡ length xs
    → ((k : ℕ) (x : A) (y : B) → slice_get xs k ≡ Some x → slice_get ys k ≡ Some y → R x y) → AllZip R xs ys
zip-from R [] [] len each = tt
zip-from R [] (y ∷ ys) len each = absurd (cc)
zip-from R (x ∷ xs) [] len each = absurd (cc)
zip-from R (x ∷ xs) (y ∷ ys) len each =
    (each 0 x y refl refl, zip-from R xs ys (cc) (λ k x y found there. each (suc k) x y found there))

module _ (bits bits' : List ℕ) where
  abbrev HasWidth : (Loc → Loc) → Loc → Type 0
  HasWidth name location = location_width bits' (name location) ≡ location_width bits location

  put-kind : (start : Loc → Loc) (p : Param) (put : Put) → All (HasWidth start) (places_of put)
      → param_kind bits' (record { stack = p.stack; put = renamed_put start put })
      ≡ param_kind bits (record { stack = p.stack; put = put })
  put-kind start p Memory wide = refl
  put-kind start p (One location) wide =
      ap (λ w. record { stack = p.stack; memory = false; width = w }) (All-head (HasWidth start) location [] wide)
  put-kind start p (Two low high) wide = refl

  params-kinds : (start : Loc → Loc) (params : List Param) → All (HasWidth start) (param_places params)
      → map (param_kind bits') (map (renamed_param start) params) ≡ map (param_kind bits) params
  params-kinds start [] wide = refl
  params-kinds start (p ∷ params) wide =
      ap₂ (λ k ks. k ∷ ks)
      (put-kind start p p.put (left_part (HasWidth start) (places_of p.put) (param_places params) wide))
      (params-kinds start params (right_part (HasWidth start) (places_of p.put) (param_places params) wide))

  results-widths : (written : Loc → Loc) (results : List Loc) → All (HasWidth written) results
      → map (location_width bits') (map written results) ≡ map (location_width bits) results
  results-widths written [] wide = refl
  results-widths written (location ∷ results) wide =
      ap₂ (λ n ns. n ∷ ns) (All-head (HasWidth written) location results wide)
      (results-widths written results (All-tail (HasWidth written) location results wide))

  stmt-kinds : (read written : Loc → Loc) (stmt : Stmt) → All (HasWidth read) (flat_map reads_of (exprs_of stmt))
      → All (HasWidth written) (writes_of stmt)
      → call_kinds bits' (renamed_stmt read written stmt) ≡ call_kinds bits stmt
  stmt-kinds read written (Call results entry arguments depth) reads writes =
      ap₂ (λ rs xs. record { results = rs; entry = entry; arguments = xs; depth = depth } ∷ [])
      (results-widths written results writes) (widths-renamed bits bits' read arguments reads)
  stmt-kinds read written (Set location e) reads writes = refl
  stmt-kinds read written (Fetch location width address) reads writes = refl
  stmt-kinds read written (Store width address e) reads writes = refl
  stmt-kinds read written (Div location e) reads writes = refl
  stmt-kinds read written (Dos number place argument) reads writes = refl

  given-widths : (read : Loc → Loc) (exit : Exit) → All (HasWidth read) (tests_of exit)
      → ret_widths bits' (renamed_exit read exit) ≡ ret_widths bits exit
  given-widths read (Ret values) wide = ap (λ ns. ns ∷ []) (widths-renamed bits bits' read values wide)
  given-widths read (Goto place) wide = refl
  given-widths read (If test one other) wide = refl
  given-widths read (Switch e places) wide = refl
  given-widths read Stop wide = refl

module _ (family : Family) (name : Renaming) (before after : Graph) where
  stmts-kinds : (place : ℕ) (block : Block) (stmts news : List Stmt)
      → AreRenamed family name before after place block stmts news
      → flat_map (call_kinds after.bits) news ≡ flat_map (call_kinds before.bits) stmts
  stmts-kinds place block [] [] are = refl
  stmts-kinds place block (stmt ∷ rest) (new ∷ news) are =
      ap₂ (λ xs ys. xs ++ ys)
      (ap (call_kinds after.bits) are.0.is
      ∙ stmt-kinds before.bits after.bits are.0.read are.0.written stmt are.0.read_widths are.0.write_widths)
      (stmts-kinds place block rest news are.1)
  stmts-kinds place block [] (new ∷ news) are = absurd are
  stmts-kinds place block (stmt ∷ rest) [] are = absurd are

  block-kind : (place : ℕ) (block new : Block) → IsRenamedBlock family name before after place block new
      → BlockStaysInKind before.bits after.bits block new
  block-kind place block new is = record {
    at = is.at;
    targets_are = ap targets is.exit ∙ targets-renamed is.read block.exit;
    jumps = ap is_jump is.exit ∙ jumps-renamed is.read block.exit;
    given =
        ap (ret_widths after.bits) is.exit ∙ given-widths before.bits after.bits is.read block.exit is.read_widths;
    calls = stmts-kinds place block block.stmts new.stmts is.stmts;
  }

  pub stays-in-kind : IsRenamed family name before after → StaysInKind before after
  stays-in-kind is = record {
    entry = is.entry;
    params =
        ap (map (param_kind after.bits)) is.params
        ∙ params-kinds before.bits after.bits is.start before.params is.param_widths;
    local = is.local;
    pushed = is.pushed;
    blocks =
        zip-from (BlockStaysInKind before.bits after.bits) before.blocks after.blocks is.count
        (λ k b c found there. block-kind k b c (is.blocks k b c found there));
  }
