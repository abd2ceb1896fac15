-- A graph whose expressions mean what those of a well-formed graph do is well formed, and stays in kind.
use Rattle.std.proofs.Common.{◌≡◌, ℕ, ◌<◌, Bool, true, false, ◌&&◌, ◌||◌, not, inl, inr, List, [], ◌∷◌, length, map, flat_map, Option, Some, None, refl, sym, ap, ap₂, ◌∙◌, subst, true≢false}
use Rattle.std.specs.Prelude.{◌==◌, nat_lt, nat_le, All, if◌then◌else◌}
use Rattle.std.specs.List.{AllZip, list_all, list_any}
use Rattle.std.proofs.lemmas.List.Elements.{length_all_zip}
use Rattle.dcc_ir.specs.declared.syntax.Loc.{Loc}
use Rattle.dcc_ir.specs.Tree.{Expr, Binary, Stmt, Set, Fetch, Store, Div, Call, Dos, Exit, Goto, If, Switch, Ret, Stop, Block, Graph}
use Rattle.dcc_ir.specs.Location.{location_width}
use Rattle.dcc_ir.specs.Value.{width_of}
use Rattle.dcc_ir.specs.Run.{is_call}
use Rattle.dcc_ir.specs.Flow.{targets}
use Rattle.dcc_ir.specs.WellFormed.{is_width, is_expr, is_expr_of, is_location, is_stored_width, is_division, is_dividing, is_dos, is_stmt, is_exit, is_block, is_jump, jumps_after_call, all_differ, is_put, ret_widths, IsGraph}
use Rattle.dcc_ir.proofs.FitLaws.{both, either}
use Rattle.dcc_ir.proofs.ZipLaws.{all_zipped, map_zipped, any_zipped, flat_zipped, weaker_zipped}
use Rattle.dcc_passes.specs.Kinds.{call_kinds, param_kind, BlockStaysInKind, StaysInKind}
use Rattle.dcc_rules.specs.Simpler.{MeansSame}
use Rattle.dcc_rules.proofs.AmongLaws.{both_hold, or_first}
use Rattle.dcc_ir.proofs.GraphLaws.{or_there}
use Rattle.dcc_simplify.specs.Reshaped.{is_operation, IsDivisionAs, divides, stays, IsArgumentAs, none, some, IsStmtAs, sets, fetches, stores, divides_into, calls, asks_dos, IsExitAs, goes, tests, switches, returns, stops, IsBlockAs, IsGraphAs}
use Rattle.dcc_simplify.proofs.ZipLaws.{zip-passes}

-- only an operator on two operands is a division
no-division : (bits : List ℕ) (width : ℕ) (e : Expr) → is_operation e ≡ false → is_dividing bits width e ≡ false
no-division bits width (Binary operator w a b) is = absurd (true≢false is)
no-division bits width e is = refl

module _ (bits : List ℕ) (As : Expr → Expr → Type 0) (sound : (e e' : Expr) → As e e' → is_expr bits e ≡ true → MeansSame bits e e') where
  -- a well-formed statement with other expressions
  record Meant (stmt stmt' : Stmt) : Type 0 where
    means : IsStmtAs (MeansSame bits) stmt stmt'
    formed : is_stmt bits stmt' ≡ true

  expr-means : (e e' : Expr) → As e e' → is_expr bits e ≡ true → MeansSame bits e e' × (is_expr bits e' ≡ true)
  expr-means e e' h ok = let m = sound e e' h ok in (m, m.formed)

  wide-means : (width : ℕ) (e e' : Expr) → As e e' → is_expr_of bits width e ≡ true → MeansSame bits e e' × (is_expr_of bits width e' ≡ true)
  wide-means width e e' h ok =
      let two = both (is_expr bits e) (width_of bits e == width) ok in
      let m = sound e e' h two.0 in
      (m, both_hold (is_expr bits e') (width_of bits e' == width) m.formed (ap (λ w. w == width) m.width ∙ two.1))

  exprs-mean : (es es' : List Expr) → AllZip As es es' → list_all (is_expr bits) es ≡ true → AllZip (MeansSame bits) es es' × (list_all (is_expr bits) es' ≡ true)
  exprs-mean es es' h ok = zip-passes As (MeansSame bits) (is_expr bits) (is_expr bits) expr-means es es' h ok

  division-means : (width : ℕ) (e e' : Expr) → IsDivisionAs As e e' → is_dividing bits width e ≡ true → IsDivisionAs (MeansSame bits) e e' × (is_dividing bits width e' ≡ true)
  division-means width e e' (divides {operator = operator} {width = w} {a = a} {b = b} {a' = a'} {b' = b'} h k) ok =
      let kind = is_division operator && (w == width) && is_stored_width width in
      let two = both (kind && is_expr_of bits width a) (is_expr_of bits width b) ok in
      let one = both kind (is_expr_of bits width a) two.0 in
      let m = wide-means width a a' h one.1 in
      let n = wide-means width b b' k two.1 in (
        divides m.0 n.0,
        both_hold (kind && is_expr_of bits width a') (is_expr_of bits width b') (both_hold kind (is_expr_of bits width a') one.0 m.1) n.1,
      )
  division-means width e e' (stays is) ok = absurd (true≢false (sym ok ∙ no-division bits width e is))

  stmt-means : (stmt stmt' : Stmt) → IsStmtAs As stmt stmt' → is_stmt bits stmt ≡ true → Meant stmt stmt'
  stmt-means stmt stmt' (sets {location = location} {e = e} {e' = e'} h) ok =
      let two = both (is_location bits location) (is_expr_of bits (location_width bits location) e) ok in
      let m = wide-means (location_width bits location) e e' h two.1 in
      record { means = sets m.0; formed = both_hold (is_location bits location) (is_expr_of bits (location_width bits location) e') two.0 m.1 }
  stmt-means stmt stmt' (fetches {location = location} {width = width} {address = a} {address' = a'} h) ok =
      let kind = is_location bits location && is_stored_width width && (location_width bits location == width) in
      let two = both kind (is_expr_of bits 16 a) ok in
      let m = wide-means 16 a a' h two.1 in
      record { means = fetches m.0; formed = both_hold kind (is_expr_of bits 16 a') two.0 m.1 }
  stmt-means stmt stmt' (stores {width = width} {address = a} {address' = a'} {e = e} {e' = e'} h k) ok =
      let two = both (is_stored_width width && is_expr_of bits 16 a) (is_expr_of bits width e) ok in
      let one = both (is_stored_width width) (is_expr_of bits 16 a) two.0 in
      let m = wide-means 16 a a' h one.1 in
      let n = wide-means width e e' k two.1 in
      record {
        means = stores m.0 n.0;
        formed = both_hold (is_stored_width width && is_expr_of bits 16 a') (is_expr_of bits width e')
            (both_hold (is_stored_width width) (is_expr_of bits 16 a') one.0 m.1) n.1;
      }
  stmt-means stmt stmt' (divides_into {location = location} {e = e} {e' = e'} h) ok =
      let width = location_width bits location in
      let two = both (is_location bits location) (is_dividing bits width e) ok in
      let m = division-means width e e' h two.1 in
      record { means = divides_into m.0; formed = both_hold (is_location bits location) (is_dividing bits width e') two.0 m.1 }
  stmt-means stmt stmt' (calls {results = results} {entry = entry} {depth = depth} {arguments = es} {arguments' = es'} h) ok =
      let two = both (list_all (is_location bits) results && list_all (is_expr bits) es) (nat_lt depth 65536) ok in
      let one = both (list_all (is_location bits) results) (list_all (is_expr bits) es) two.0 in
      let m = exprs-mean es es' h one.1 in
      record {
        means = calls m.0;
        formed = both_hold (list_all (is_location bits) results && list_all (is_expr bits) es') (nat_lt depth 65536)
            (both_hold (list_all (is_location bits) results) (list_all (is_expr bits) es') one.0 m.1) two.1;
      }
  stmt-means stmt stmt' (asks_dos {number = number} {place = place} h) ok = asked place _ _ h ok
    where
      asked : (place : Option Loc) (argument argument' : Option Expr) → IsArgumentAs As argument argument' → is_dos bits number place argument ≡ true
          → Meant (Dos number place argument) (Dos number place argument')
      asked place argument argument' none good = record { means = asks_dos none; formed = good }
      asked (Some location) argument argument' (some h) good = absurd (true≢false (sym good))
      asked None argument argument' (some {e = e} {e' = e'} h) good =
          let byte = number == 0x02 || number == 0x4C in
          let word = number == 0x09 in
          elim (either (byte && is_expr_of bits 8 e) (word && is_expr_of bits 16 e) good) [
            | inl l ↦
                let two = both byte (is_expr_of bits 8 e) l in
                let m = wide-means 8 e e' h two.1 in
                record {
                  means = asks_dos (some m.0);
                  formed = or_first (byte && is_expr_of bits 8 e') (word && is_expr_of bits 16 e') (both_hold byte (is_expr_of bits 8 e') two.0 m.1);
                }
            | inr r ↦
                let two = both word (is_expr_of bits 16 e) r in
                let m = wide-means 16 e e' h two.1 in
                record {
                  means = asks_dos (some m.0);
                  formed = or_there (byte && is_expr_of bits 8 e') (word && is_expr_of bits 16 e') (both_hold word (is_expr_of bits 16 e') two.0 m.1);
                }
          ]

  stmts-mean : (xs ys : List Stmt) → AllZip (IsStmtAs As) xs ys → list_all (is_stmt bits) xs ≡ true → AllZip (IsStmtAs (MeansSame bits)) xs ys × (list_all (is_stmt bits) ys ≡ true)
  stmts-mean xs ys h ok =
      zip-passes (IsStmtAs As) (IsStmtAs (MeansSame bits)) (is_stmt bits) (is_stmt bits)
      (λ x y k good. let m = stmt-means x y k good in (m.means, m.formed)) xs ys h ok

  exit-means : (count : ℕ) (exit exit' : Exit) → IsExitAs As exit exit' → is_exit bits count exit ≡ true → IsExitAs (MeansSame bits) exit exit' × (is_exit bits count exit' ≡ true)
  exit-means count exit exit' goes ok = (goes, ok)
  exit-means count exit exit' (tests {test = e} {test' = e'} {one = one} {other = other} h) ok =
      let two = both (is_expr_of bits 1 e && nat_lt one count) (nat_lt other count) ok in
      let first = both (is_expr_of bits 1 e) (nat_lt one count) two.0 in
      let m = wide-means 1 e e' h first.0 in (
        tests m.0,
        both_hold (is_expr_of bits 1 e' && nat_lt one count) (nat_lt other count) (both_hold (is_expr_of bits 1 e') (nat_lt one count) m.1 first.1) two.1,
      )
  exit-means count exit exit' (switches {e = e} {e' = e'} {places = places} h) ok =
      let all = list_all (λ place. nat_lt place count) places in
      let two = both (is_expr_of bits 16 e && nat_le (length places) 65536) all ok in
      let first = both (is_expr_of bits 16 e) (nat_le (length places) 65536) two.0 in
      let m = wide-means 16 e e' h first.0 in (
        switches m.0,
        both_hold (is_expr_of bits 16 e' && nat_le (length places) 65536) all (both_hold (is_expr_of bits 16 e') (nat_le (length places) 65536) m.1 first.1) two.1,
      )
  exit-means count exit exit' (returns {values = es} {values' = es'} h) ok =
      let m = exprs-mean es es' h ok in
      (returns m.0, m.1)
  exit-means count exit exit' stops ok = (stops, ok)

  block-means : (count : ℕ) (b c : Block) → IsBlockAs As b c → is_block bits count b ≡ true → IsBlockAs (MeansSame bits) b c × (is_block bits count c ≡ true)
  block-means count b c h ok =
      let two = both (list_all (is_stmt bits) b.stmts) (is_exit bits count b.exit) ok in
      let m = stmts-mean b.stmts c.stmts h.stmts two.0 in
      let n = exit-means count b.exit c.exit h.exit two.1 in (
        record { at = h.at; stmts = m.0; exit = n.0 },
        both_hold (list_all (is_stmt bits) c.stmts) (is_exit bits count c.exit) m.1 n.1,
      )

  pub blocks-mean : (count : ℕ) (bs cs : List Block) → AllZip (IsBlockAs As) bs cs → list_all (is_block bits count) bs ≡ true
      → AllZip (IsBlockAs (MeansSame bits)) bs cs × (list_all (is_block bits count) cs ≡ true)
  blocks-mean count bs cs h ok =
      zip-passes (IsBlockAs As) (IsBlockAs (MeansSame bits)) (is_block bits count) (is_block bits count) (block-means count) bs cs h ok

-- What others see of a block.

module _ (As : Expr → Expr → Type 0) where
  same-call : (x y : Stmt) → IsStmtAs As x y → is_call y ≡ is_call x
  same-call x y (sets h) = refl
  same-call x y (fetches h) = refl
  same-call x y (stores h k) = refl
  same-call x y (divides_into h) = refl
  same-call x y (calls h) = refl
  same-call x y (asks_dos h) = refl

  same-targets : (x y : Exit) → IsExitAs As x y → targets y ≡ targets x
  same-targets x y goes = refl
  same-targets x y (tests h) = refl
  same-targets x y (switches h) = refl
  same-targets x y (returns h) = refl
  same-targets x y stops = refl

  same-jump : (x y : Exit) → IsExitAs As x y → is_jump y ≡ is_jump x
  same-jump x y goes = refl
  same-jump x y (tests h) = refl
  same-jump x y (switches h) = refl
  same-jump x y (returns h) = refl
  same-jump x y stops = refl

  jumps-still : (xs ys : List Stmt) (exit exit' : Exit) → AllZip (IsStmtAs As) xs ys → IsExitAs As exit exit' → jumps_after_call ys exit' ≡ jumps_after_call xs exit
  jumps-still [] [] exit exit' h e = refl
  jumps-still [] (y ∷ ys) exit exit' h e = absurd h
  jumps-still (x ∷ xs) [] exit exit' h e = absurd h
  jumps-still (x ∷ xs) (y ∷ ys) exit exit' h e =
      let one = same-call x y h.0 in
      let any = any_zipped (IsStmtAs As) is_call is_call same-call xs ys h.1 in
      let jump = same-jump exit exit' e in
      let later = jumps-still xs ys exit exit' h.1 e in
      ap (λ b. if b then not (list_any is_call ys) && is_jump exit' else jumps_after_call ys exit') one
      ∙ ap (λ b. if is_call x then not b && is_jump exit' else jumps_after_call ys exit') any
      ∙ ap (λ b. if is_call x then not (list_any is_call xs) && b else jumps_after_call ys exit') jump
      ∙ ap (λ b. if is_call x then not (list_any is_call xs) && is_jump exit else b) later

same-kinds : (bits : List ℕ) (x y : Stmt) → IsStmtAs (MeansSame bits) x y → call_kinds bits y ≡ call_kinds bits x
same-kinds bits x y (sets h) = refl
same-kinds bits x y (fetches h) = refl
same-kinds bits x y (stores h k) = refl
same-kinds bits x y (divides_into h) = refl
same-kinds bits x y (calls {results = results} {entry = entry} {depth = depth} {arguments = es} {arguments' = es'} h) =
    ap (λ widths. record { results = map (location_width bits) results; entry = entry; arguments = widths; depth = depth } ∷ [])
    (map_zipped (MeansSame bits) (width_of bits) (width_of bits) (λ e e' m. m.width) es es' h)
same-kinds bits x y (asks_dos h) = refl

same-given : (bits : List ℕ) (x y : Exit) → IsExitAs (MeansSame bits) x y → ret_widths bits y ≡ ret_widths bits x
same-given bits x y goes = refl
same-given bits x y (tests h) = refl
same-given bits x y (switches h) = refl
same-given bits x y (returns {values = es} {values' = es'} h) =
    ap (λ widths. widths ∷ []) (map_zipped (MeansSame bits) (width_of bits) (width_of bits) (λ e e' m. m.width) es es' h)
same-given bits x y stops = refl

block-kind : (bits : List ℕ) (b c : Block) → IsBlockAs (MeansSame bits) b c → BlockStaysInKind bits bits b c
block-kind bits b c h = record {
  at = h.at;
  targets_are = same-targets (MeansSame bits) b.exit c.exit h.exit;
  jumps = same-jump (MeansSame bits) b.exit c.exit h.exit;
  given = same-given bits b.exit c.exit h.exit;
  calls = flat_zipped (IsStmtAs (MeansSame bits)) (call_kinds bits) (call_kinds bits) (same-kinds bits) b.stmts c.stmts h.stmts;
}

-- Graphs.

module _ (before after : Graph) (As : Expr → Expr → Type 0) (is : IsGraphAs As before after) (fine : IsGraph before)
    (sound : (e e' : Expr) → As e e' → is_expr before.bits e ≡ true → MeansSame before.bits e e') where
  count-stays : length before.blocks ≡ length after.blocks
  count-stays = length_all_zip (IsBlockAs As) before.blocks after.blocks is.blocks

  pub graph-means : IsGraphAs (MeansSame before.bits) before after
  graph-means = record {
    entry = is.entry;
    params = is.params;
    local = is.local;
    pushed = is.pushed;
    bits = is.bits;
    blocks = (blocks-mean before.bits As sound (length before.blocks) before.blocks after.blocks is.blocks fine.blocks).0;
  }

  pub graph-formed : IsGraph after
  graph-formed = record {
    begins = subst (λ n. 0 < n) count-stays fine.begins;
    entry = subst (λ n. n < 65536) (sym is.entry) fine.entry;
    offsets = all_zipped (IsBlockAs As) (λ b. b.at < 65536) (λ b. b.at < 65536) (λ b c h less. subst (λ n. n < 65536) (sym h.at) less)
        before.blocks after.blocks is.blocks fine.offsets;
    jumps = all_zipped (IsBlockAs As) (λ b. jumps_after_call b.stmts b.exit ≡ true) (λ b. jumps_after_call b.stmts b.exit ≡ true)
        (λ b c h e. jumps-still As b.stmts c.stmts b.exit c.exit h.stmts h.exit ∙ e) before.blocks after.blocks is.blocks fine.jumps;
    addresses = ap all_differ (map_zipped (IsBlockAs As) (λ (b : Block). b.at) (λ (b : Block). b.at) (λ b c h. h.at) before.blocks after.blocks is.blocks) ∙ fine.addresses;
    bits = subst (λ bits. list_all is_width bits ≡ true) (sym is.bits) fine.bits;
    params = subst (λ params. list_all (λ p. is_put after.bits p.put) params ≡ true) (sym is.params)
        (subst (λ bits. list_all (λ p. is_put bits p.put) before.params ≡ true) (sym is.bits) fine.params);
    blocks = subst (λ n. list_all (is_block after.bits n) after.blocks ≡ true) count-stays
        (subst (λ bits. list_all (is_block bits (length before.blocks)) after.blocks ≡ true) (sym is.bits)
        (blocks-mean before.bits As sound (length before.blocks) before.blocks after.blocks is.blocks fine.blocks).1);
  }

  pub graph-kind : StaysInKind before after
  graph-kind = record {
    entry = is.entry;
    params = subst (λ params. map (param_kind after.bits) params ≡ map (param_kind before.bits) before.params) (sym is.params)
        (ap (λ bits. map (param_kind bits) before.params) is.bits);
    local = is.local;
    pushed = is.pushed;
    blocks = subst (λ bits. AllZip (BlockStaysInKind before.bits bits) before.blocks after.blocks) (sym is.bits)
        (weaker_zipped (IsBlockAs (MeansSame before.bits)) (BlockStaysInKind before.bits before.bits) (block-kind before.bits) before.blocks after.blocks graph-means.blocks);
  }
