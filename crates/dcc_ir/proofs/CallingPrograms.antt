-- Programs of a caller and its callee, which is called once, and when they are well formed.
use Rattle.std.proofs.Common.{arith, lit<, ◌≡◌, ℕ, zero, suc, ◌<◌, refl, sym, ◌∙◌, true, List, [], ◌∷◌, map, Some, None}
use Rattle.std.specs.Prelude.{All, Contains, slice_index_or}
use Rattle.std.specs.List.{list_all}
use Rattle.std.proofs.lemmas.List.Elements.{All-nil, All-cons}
use Rattle.dcc_ir.specs.declared.syntax.Loc.{Loc}
use Rattle.dcc_ir.specs.declared.syntax.Param.{Param}
use Rattle.dcc_ir.specs.Tree.{Expr, Stmt, Call, Dos, Goto, Ret, Stop, Block, Graph, Program}
use Rattle.dcc_ir.specs.Location.{location_width}
use Rattle.dcc_ir.specs.Value.{width_of}
use Rattle.dcc_ir.specs.WellFormed.{is_width, is_block, is_put, put_width, is_param_list, memory_params_last, jumps_after_call, all_ret_widths, IsGraph, IsCalling, IsProgram}

pub one : {X : Type 0} (P : X → Type 0) (x : X) → P x → All P (x ∷ [])
one P x h = All-cons P x [] h (All-nil P)

pub only_element : {X : Type 0} (x y : X) → Contains (x ∷ []) y → y ≡ x
only_element x y c = go c.0 c.1 c.2
  where
    go : (k : ℕ) → k < 1 → slice_index_or (x ∷ []) k y ≡ y → y ≡ x
    go zero less same = sym same
    go (suc k) less same = absurd (let past : suc k < 1 = less in omega (arith, past))

-- After the call the caller makes a DOS call.
module _ (number : ℕ) (told : Expr) (bits callee_bits : List ℕ)
    (results : List Loc) (arguments : List Expr) (params : List Param) (values : List Expr) where
  abbrev pub call : Stmt
  call = Call results 32 arguments 4

  abbrev pub last : Stmt
  last = Dos number None (Some told)

  abbrev pub calling_block : Block
  calling_block = record { at = 0; stmts = call ∷ []; exit = Goto 1 }

  abbrev pub last_block : Block
  last_block = record { at = 3; stmts = last ∷ []; exit = Stop }

  abbrev pub caller : Graph
  caller = record { entry = 0; params = []; local = 0; pushed = 0; blocks = calling_block ∷ last_block ∷ []; bits = bits }

  abbrev pub callee_block : Block
  callee_block = record { at = 32; stmts = []; exit = Ret values }

  abbrev pub callee : Graph
  callee = record { entry = 32; params = params; local = 0; pushed = 0; blocks = callee_block ∷ []; bits = callee_bits }

  abbrev pub program : Program
  program = record { graphs = caller ∷ callee ∷ []; image = []; lo = 16; hi = 256 }

  pub of_both : (P : Graph → Type 0) → P caller → P callee → All P program.graphs
  of_both P h k = All-cons P caller (callee ∷ []) h (one P callee k)

  pub formed : list_all is_width bits ≡ true → list_all is_width callee_bits ≡ true →
      list_all (is_block bits 2) (calling_block ∷ last_block ∷ []) ≡ true → list_all (is_block callee_bits 1) (callee_block ∷ []) ≡ true → list_all (λ p. is_put callee_bits p.put) params ≡ true →
      is_param_list callee_bits params ≡ true → memory_params_last params ≡ true → map (width_of bits) arguments ≡ map (λ q. put_width callee_bits q.put) params →
      map (width_of callee_bits) values ≡ map (location_width bits) results → IsProgram program
  formed widths other_widths blocks other_blocks puts listed memory taken given = record {
    image = All-nil (λ byte. byte < 256);
    lo = lit< tt;
    hi = lit< tt;
    begins = lit< tt;
    entries = refl;
    graphs = of_both IsGraph (record {
      begins = lit< tt;
      entry = lit< tt;
      offsets = All-cons (λ b. b.at < 65536) calling_block (last_block ∷ []) (lit< tt) (one (λ b. b.at < 65536) last_block (lit< tt));
      jumps = All-cons (λ b. jumps_after_call b.stmts b.exit ≡ true) calling_block (last_block ∷ []) refl (one (λ b. jumps_after_call b.stmts b.exit ≡ true) last_block refl);
      addresses = refl;
      bits = widths;
      params = refl;
      blocks = blocks;
    }) (record {
      begins = lit< tt;
      entry = lit< tt;
      offsets = one (λ b. b.at < 65536) callee_block (lit< tt);
      jumps = one (λ b. jumps_after_call b.stmts b.exit ≡ true) callee_block refl;
      addresses = refl;
      bits = other_widths;
      params = puts;
      blocks = other_blocks;
    });
    params = of_both (λ g. is_param_list g.bits g.params ≡ true) refl listed;
    memory_last = of_both (λ g. memory_params_last g.params ≡ true) refl memory;
    start = one (λ g. g.params ≡ []) caller refl;
    start_rets = one (λ g. All (λ widths. widths ≡ []) (all_ret_widths g)) caller (All-nil (λ widths. widths ≡ []));
    rets = of_both (λ g. (a b : List ℕ) → Contains (all_ret_widths g) a → Contains (all_ret_widths g) b → a ≡ b)
        (λ a b c d. absurd (let less : c.0 < 0 = c.1 in omega (arith, less)))
        (λ a b c d. only_element _ a c ∙ sym (only_element _ b d));
    calls = of_both (λ g. All (λ b. All (IsCalling program g) b.stmts) g.blocks)
        (All-cons (λ b. All (IsCalling program caller) b.stmts) calling_block (last_block ∷ [])
        (one (IsCalling program caller) call (record { callee = callee; named = refl; taken = taken; given = one (λ widths. widths ≡ map (location_width bits) results) _ given }))
        (one (λ b. All (IsCalling program caller) b.stmts) last_block (one (IsCalling program caller) last tt)))
        (one (λ b. All (IsCalling program callee) b.stmts) callee_block (All-nil (IsCalling program callee)));
  }
