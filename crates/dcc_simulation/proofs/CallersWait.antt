-- The caller of the newest procedure: it waits in both runs, in the block of its CALL.
use Rattle.std.proofs.Common.{◌≡◌, ◌≢◌, ℕ, zero, suc, ◌+◌, ◌||◌, Bool, true, false, true≢false, List, [], ◌∷◌, ◌++◌, Contains, Some, refl, sym, ap, ap₂, ◌∙◌, subst, arith}
use Rattle.std.specs.Prelude.{pos, slice_get}
use Rattle.std.specs.List.{list_any}
use Rattle.std.proofs.lemmas.List.Elements.{All-contains}
use Rattle.std.proofs.lemmas.List.Folds.{list_any-append}
use Rattle.dcc_num.specs.declared.Width.TheVariants.{Byte as byte_width}
use Rattle.dcc_machine.specs.declared.image.Image.{Image}
use Rattle.dcc_prog.specs.declared.procedure.Layout.{Layout}
use Rattle.dcc_prog.specs.declared.procedure.Node.{Node}
use Rattle.dcc_machine.specs.declared.instr.Instr.{Instr}
use Rattle.dcc_machine.specs.declared.instr.Op.TheVariants.{Call as CallOp}
use Rattle.dcc_prog.specs.Trail.{IsNode}
use Rattle.dcc_prog.specs.Found.{IsFound, IsNodeFound, IsListed}
use Rattle.dcc_prog.specs.Clean.{LiveFrame}
use Rattle.dcc_stack.specs.Accepted.{IsAt}
use Rattle.dcc_stack.specs.Standing.{Activation, Stand, first}
use Rattle.dcc_ir.specs.declared.syntax.Loc.{Loc}
use Rattle.dcc_ir.specs.Tree.{Expr, Get, Stmt, Call}
use Rattle.dcc_ir.specs.Run.{Waiting, graph_at, is_call}
use Rattle.dcc_ops.specs.Temporaries.{returned_place}
use Rattle.dcc_ops.specs.OperandPlace.{OperandPlace, constant, byte, word, memory as in_memory, address, computed}
use Rattle.dcc_ops.specs.OperandPlace.{storing}
use Rattle.dcc_simulation.specs.Coupled.{Setting, IsActivationOf, WaitsAfterCall, AreWaiting}
use Rattle.dcc_simulation.specs.Procedures.{Procedure, procedure_at, frame_place, given_back}
use Rattle.dcc_simulation.specs.Statements.{argument_offset, taking_back, taking_all_back, results_of, arguments_of}
use Rattle.dcc_simulation.specs.Statements.{calling}
use Rattle.dcc_simulation.specs.Nodes.{procedures_in}
use Rattle.dcc_simulation.proofs.CallsReturn.{IsBelow, caller-below}
use Rattle.dcc_simulation.proofs.FoundProcedures.{listed}
use Rattle.dcc_simulation.proofs.CallPlaces.{StandsAtCall, caller-node}

-- Callers.

-- the newest procedure has a caller, which waits
pub record HasCaller (e : Setting) (memory : List ℕ) (a : Activation) (callers : List Activation)
    (waiting : List Waiting) (top bp : ℕ) : Type 0 where
  pub caller : Activation
  pub older : List Activation
  pub callers_are : callers ≡ caller ∷ older
  pub waits : Waiting
  pub rest : List Waiting
  pub waiting_are : waiting ≡ waits ∷ rest
  pub below : IsBelow e.image e.program.layout memory a caller top bp
  pub active : IsActivationOf e caller waits.caller
  pub after : WaitsAfterCall caller a waits

alone : (image : Image) (layout : Layout) (memory : List ℕ) {a : Activation} {top bp : ℕ}
    → Stand image layout memory (a ∷ []) top bp
    → a.frame.entry ≡ layout.start_ip
alone image layout memory (first is stands) = ap (λ (f : LiveFrame). f.entry) is

pub has-caller : (e : Setting) (memory : List ℕ) (a : Activation) (callers : List Activation) (waiting : List Waiting)
    (top bp : ℕ) → Stand e.image e.program.layout memory (a ∷ callers) top bp → AreWaiting e a callers waiting
    → a.frame.entry ≢ e.program.layout.start_ip
    → HasCaller e memory a callers waiting top bp
has-caller e memory a [] waiting top bp stand wait other =
    absurd (other (alone e.image e.program.layout memory stand))
has-caller e memory a (caller ∷ older) [] top bp stand wait other = absurd wait
has-caller e memory a (caller ∷ older) (w ∷ rest) top bp stand wait other = record {
  caller = caller;
  older = older;
  callers_are = refl;
  waits = w;
  rest = rest;
  waiting_are = refl;
  below = caller-below e.image e.program.layout memory stand;
  active = wait.0;
  after = wait.1;
}

-- Statements.

stored-plainly : (place : OperandPlace) (location : Loc) → list_any is_call (storing place (Get location)) ≡ false
stored-plainly (constant w n) location = refl
stored-plainly (byte to) location = refl
stored-plainly (word low high) location = refl
stored-plainly (in_memory w at) location = refl
stored-plainly (address distance) location = refl
stored-plainly (computed e) location = refl

both-plain : (stmts more : List Stmt) → list_any is_call stmts ≡ false → list_any is_call more ≡ false
    → list_any is_call (stmts ++ more) ≡ false
both-plain stmts more one other = list_any-append is_call stmts more ∙ ap₂ (λ b d. b || d) one other

taken-plainly : (q : Procedure) (height index : ℕ) (numbers : List ℕ)
    → list_any is_call (taking_all_back q height index numbers) ≡ false
taken-plainly q height index [] = refl
taken-plainly q height index (number ∷ numbers) =
    both-plain (taking_back q height index number) (taking_all_back q height (suc index) numbers)
    (both-plain (storing (frame_place q byte_width (argument_offset height number)) (Get (returned_place _))) _
    (stored-plainly _ _) (stored-plainly _ _)) (taken-plainly q height (suc index) numbers)

-- a block begins with the one Call in it
pub record IsOneCall (results others : List Loc) (rest tail : List Stmt) : Type 0 where
  pub results_are : results ≡ others
  pub rest_is : rest ≡ tail

one-call : (before : List Stmt) (results others : List Loc) (entry entry' depth depth' : ℕ)
    (arguments arguments' : List Expr) (rest tail : List Stmt)
    → before ++ Call results entry arguments depth ∷ rest ≡ Call others entry' arguments' depth' ∷ tail
    → list_any is_call tail ≡ false
    → IsOneCall results others rest tail
one-call [] results others entry entry' depth depth' arguments arguments' rest tail is none =
    record { results_are = cc; rest_is = cc }
one-call (stmt ∷ before) results others entry entry' depth depth' arguments arguments' rest tail is none =
    let tails : before ++ Call results entry arguments depth ∷ rest ≡ tail = cc in
    absurd (true≢false (sym (has before) ∙ ap (list_any is_call) tails ∙ none))
  where
    has : (stmts : List Stmt) → list_any is_call (stmts ++ Call results entry arguments depth ∷ rest) ≡ true
    has [] = refl
    has (one ∷ stmts) = by (is_call one) (has stmts)
      where
        by : (b : Bool) → list_any is_call (stmts ++ Call results entry arguments depth ∷ rest) ≡ true
            → (b || list_any is_call (stmts ++ Call results entry arguments depth ∷ rest)) ≡ true
        by true later = refl
        by false later = later

-- Where the caller waits.

got : {X : Type 0} (xs : List X) (k : ℕ) (x : X) → slice_get xs k ≡ Some x → Contains xs x
got [] k x is = cc
got (y ∷ xs) zero x is = let same : y ≡ x = cc in (0, omega arith, same)
got (y ∷ xs) (suc k) x is =
    let later = got xs k x is in let inside = later.1 in (suc later.0, omega (arith, inside), later.2)

module _ (e : Setting) (a : Activation) (p : Procedure) (height base target : ℕ) (callee : Procedure)
    (at : StandsAtCall e a p height base target callee) (w : Waiting) (active : IsActivationOf e a w.caller)
    (block : Contains w.caller.graph.blocks w.caller.block) (block_at : w.caller.block.at ≡ a.at) where
  open e.program use {layout}

  entry_is : p.proc.entry ≡ a.frame.entry
  entry_is = (listed e at.lifting a.frame.entry p at.found).entry_is

  -- the CALL is a node of the procedure
  abbrev IsCallNode : ℕ × Node → Type 0
  IsCallNode node = Contains p.proc.nodes.entries node × (node.1.instr.op ≡ CallOp target)

  found : IsFound e.image layout p.proc
  found =
      All-contains (IsFound e.image layout) e.program.procs.items p.proc at.lifting.of_file.is_program.procs.found
      (listed e at.lifting a.frame.entry p at.found).among

  there : IsListed p.proc.nodes.entries a.at
  there =
      found.every a.at
      (subst (λ n. IsNode e.image layout n a.at) (sym entry_is) (caller-node e a p height base target callee at))

  among : Contains p.proc.nodes.entries (a.at, there.node)
  among = got p.proc.nodes.entries there.place (a.at, there.node) there.listed

  op-is : there.node.instr.op ≡ CallOp target
  op-is =
      let node =
      All-contains (IsNodeFound e.image layout p.proc.entry) p.proc.nodes.entries (a.at, there.node) found.nodes
      among in
      let same : there.node.instr ≡ at.calls.0 = one-instr (sym node.instr ∙ at.calls.1) in
      ap (λ (i : Instr). i.op) same ∙ at.calls.2
    where
      one-instr : {i j : Instr} → Some i ≡ Some j → i ≡ j
      one-instr is = cc

  -- the block is that of the CALL
  pub block-is : w.caller.block.stmts
      ≡ Call (results_of callee) callee.proc.entry (arguments_of p height callee) (height + 2)
      ∷ taking_all_back p height 0 (given_back callee)
  block-is =
      at.lifting.calls p w.caller.graph w.caller.block
      (subst (λ n. procedure_at (procedures_in e.program) n ≡ Some p) (sym entry_is) at.found)
      (ap (graph_at e.inner.graphs) entry_is ∙ active.graph) block there.node target a.before height
      (subst (λ n. Contains p.proc.nodes.entries (n, there.node)) (sym block_at) among) op-is
      (subst (λ n. IsAt e.image layout p.proc.entry n a.before (pos height)) (sym block_at)
      (subst (λ n. IsAt e.image layout n a.at a.before (pos height)) (sym entry_is) at.is_at))
      ∙ ap (calling p height) at.callee_found

  pub call-is : (before : List Stmt) (entry depth : ℕ) (arguments : List Expr)
      → w.caller.block.stmts ≡ before ++ Call w.results entry arguments depth ∷ w.caller.rest
      → IsOneCall w.results (results_of callee) w.caller.rest (taking_all_back p height 0 (given_back callee))
  call-is before entry depth arguments is =
      one-call before w.results (results_of callee) entry callee.proc.entry depth (height + 2) arguments
      (arguments_of p height callee) w.caller.rest (taking_all_back p height 0 (given_back callee))
      (sym is ∙ block-is) (taken-plainly p height 0 (given_back callee))
