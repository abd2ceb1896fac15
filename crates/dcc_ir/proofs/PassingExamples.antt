-- A small program that is well formed, has the form of calls and returns and is never stuck, and near misses.
use Rattle.std.proofs.Common.{arith, lit<, ◌≡◌, ℕ, zero, suc, ◌+◌, ◌<◌, refl, sym, ap, ◌∙◌, true, false, List, [], ◌∷◌, ◌++◌, map, length, Some, None}
use Rattle.std.specs.Prelude.{All}
use Rattle.std.specs.List.Sorted.{IsStrictlyIncreasing}
use Rattle.std.proofs.lemmas.List.Elements.{All-nil, All-cons}
use Rattle.dcc_num.specs.declared.Half.TheVariants.{Low, High}
use Rattle.dcc_ir.specs.declared.syntax.Loc.{Loc}
use Rattle.dcc_ir.specs.declared.syntax.Loc.TheVariants.{Cell, Temp}
use Rattle.dcc_ir.specs.declared.syntax.Put.TheVariants.{Memory, Two}
use Rattle.dcc_ir.specs.declared.syntax.Param.{Param}
use Rattle.dcc_ir.specs.declared.syntax.BinOp.TheVariants.{DivU}
use Rattle.dcc_ir.specs.Tree.{Expr, Const, Get, Load, Binary, Address, Stmt, Div, Call, Dos, Exit, Goto, Ret, Stop, Block, Graph, Program}
use Rattle.dcc_ir.specs.WellFormed.{is_stmt, memory_params_last, jumps_after_call, IsProgram}
use Rattle.dcc_ir.specs.Ends.{IsNeverStuck, is_ret, is_switch, stops_soundly, HasSoundEnds}
use Rattle.dcc_ir.specs.Passing.{passed, param_of, RetPasses, GraphPasses, CallPasses, StmtPasses, PassesAll}
use Rattle.std.proofs.lemmas.List.{length-map}
use Rattle.dcc_ir.proofs.UnstuckLaws.{never_stuck, no_switch_places}
use Rattle.dcc_ir.proofs.CallingPrograms.{one, formed}

-- The callee takes two words, the first in two locations, the second in memory, and gives both back.

abbrev in_locations : Param
in_locations = record { stack = true; put = Two (Cell 2 Low) (Cell 2 High) }

abbrev in_memory : Param
in_memory = record { stack = true; put = Memory }

abbrev words : List Param
words = in_locations ∷ in_memory ∷ []

abbrev low : Expr
low = Get (Cell 2 Low)

abbrev high : Expr
high = Get (Cell 2 High)

abbrev in_order : List Expr
in_order = low ∷ high ∷ Load 8 (Address 2) ∷ Load 8 (Address 3) ∷ []

-- a Ret of the halves and flags and these values
abbrev giving_back : List Expr → Exit
giving_back values = Ret (map Get passed ++ values)

abbrev callee_block : Block
callee_block = record { at = 32; stmts = []; exit = giving_back in_order }

abbrev callee : Graph
callee = record { entry = 32; params = words ++ map param_of passed; local = 0; pushed = 0; blocks = callee_block ∷ []; bits = [] }

abbrev arguments : List Expr
arguments = Const 16 7 ∷ Const 16 9 ∷ []

abbrev places : List Loc
places = Temp 0 ∷ Temp 1 ∷ Temp 2 ∷ Temp 3 ∷ []

abbrev call : Stmt
call = Call (passed ++ places) 32 (arguments ++ map Get passed) 4

abbrev exit_call : Stmt
exit_call = Dos 0x4C None (Some (Const 8 0))

abbrev calling_block : Block
calling_block = record { at = 0; stmts = call ∷ []; exit = Goto 1 }

abbrev last_block : Block
last_block = record { at = 3; stmts = exit_call ∷ []; exit = Stop }

abbrev caller : Graph
caller = record { entry = 0; params = []; local = 0; pushed = 0; blocks = calling_block ∷ last_block ∷ []; bits = 8 ∷ 8 ∷ 8 ∷ 8 ∷ [] }

abbrev program : Program
program = record { graphs = caller ∷ callee ∷ []; image = []; lo = 16; hi = 256 }

abbrev both_words : List ℕ
both_words = 0 ∷ 1 ∷ []

both_ascend : IsStrictlyIncreasing both_words
both_ascend zero less = lit< tt
both_ascend (suc k) less = let past : suc k + 1 < 2 = less in absurd (omega (arith, past))

callee_passes : GraphPasses both_words callee
callee_passes = record {
  words = words;
  params = record { stack = refl; params = refl };
  known = record {
    ascending = both_ascend;
    words = All-cons (λ j. j < 2) 0 (1 ∷ []) (lit< tt) (one (λ j. j < 2) 1 (lit< tt));
  };
  rets = one (λ b. RetPasses words both_words b.exit) callee_block refl;
}

call_passes : CallPasses both_words (passed ++ places) (arguments ++ map Get passed)
call_passes = record { words = arguments; taken = refl; temporaries = 0 ∷ 1 ∷ 2 ∷ 3 ∷ []; given = refl; differ = refl; two = refl }

back : ℕ → List ℕ
back entry = both_words

program_passes : PassesAll back program
unfolding back
program_passes = record {
  graphs = one (λ g. GraphPasses (back g.entry) g) callee callee_passes;
  calls = All-cons (λ g. All (λ b. All (StmtPasses back) b.stmts) g.blocks) caller (callee ∷ [])
      (All-cons (λ b. All (StmtPasses back) b.stmts) calling_block (last_block ∷ []) (one (StmtPasses back) call call_passes)
      (one (λ b. All (StmtPasses back) b.stmts) last_block (one (StmtPasses back) exit_call tt)))
      (one (λ g. All (λ b. All (StmtPasses back) b.stmts) g.blocks) callee
      (one (λ b. All (StmtPasses back) b.stmts) callee_block (All-nil (StmtPasses back))));
}

-- The program is well formed, and its ends are sound: so no run of it is ever stuck.

-- what holds of both graphs holds of all
of_both : (P : Graph → Type 0) → P caller → P callee → All P program.graphs
of_both P h k = All-cons P caller (callee ∷ []) h (one P callee k)

program_formed : IsProgram program
program_formed = formed 0x4C (Const 8 0) caller.bits callee.bits (passed ++ places) (arguments ++ map Get passed) callee.params (map Get passed ++ in_order) refl refl refl refl refl refl refl refl refl

-- what holds of each block holds of all
of_blocks : (P : Block → Type 0) → P calling_block → P last_block → P callee_block → All (λ g. All P g.blocks) program.graphs
of_blocks P h k l = of_both (λ g. All P g.blocks) (All-cons P calling_block (last_block ∷ []) h (one P last_block k)) (one P callee_block l)

ends_are_sound : HasSoundEnds program
ends_are_sound = record {
  stops = of_blocks (λ b. stops_soundly b.stmts b.exit ≡ true) refl refl refl;
  returns = one (λ g. All (λ b. is_ret b.exit ≡ false) g.blocks) caller
      (All-cons (λ b. is_ret b.exit ≡ false) calling_block (last_block ∷ []) refl (one (λ b. is_ret b.exit ≡ false) last_block refl));
  switches = no_switch_places program program_formed (of_blocks (λ b. is_switch b.exit ≡ false) refl refl refl);
}

never_stuck_at_all : IsNeverStuck program
never_stuck_at_all = never_stuck program program_formed ends_are_sound

-- Near misses.

first_alone_is_given : RetPasses words (0 ∷ []) (giving_back (low ∷ high ∷ []))
first_alone_is_given = refl

the_low_byte_comes_first : ¬ RetPasses words (0 ∷ []) (giving_back (high ∷ low ∷ []))
the_low_byte_comes_first e = cc

both_bytes_are_given : ¬ RetPasses words (0 ∷ []) (giving_back (low ∷ []))
both_bytes_are_given e = cc

only_told_words_are_given : ¬ RetPasses words [] (giving_back (low ∷ high ∷ []))
only_told_words_are_given e = cc

bytes_come_last : ¬ RetPasses words (0 ∷ []) (Ret (low ∷ high ∷ map Get passed))
bytes_come_last e = cc

a_byte_in_memory_is_loaded : ¬ RetPasses words (1 ∷ []) (giving_back (low ∷ high ∷ []))
a_byte_in_memory_is_loaded e = cc

each_byte_has_a_place : ¬ CallPasses (0 ∷ []) (passed ++ Temp 0 ∷ []) (arguments ++ map Get passed)
each_byte_has_a_place p =
    let places_are : map Temp p.temporaries ≡ Temp 0 ∷ [] = let e = p.given in cc in
    let count : 1 ≡ length p.temporaries = sym (ap length places_are) ∙ length-map p.temporaries Temp in
    omega (arith, count, p.two)

memory_comes_last : (memory_params_last words ≡ true) × (memory_params_last (in_memory ∷ in_locations ∷ []) ≡ false)
memory_comes_last = (refl, refl)

a_call_is_followed_by_a_jump : (jumps_after_call (call ∷ exit_call ∷ []) (Goto 1) ≡ true) × (jumps_after_call (call ∷ exit_call ∷ []) Stop ≡ false)
a_call_is_followed_by_a_jump = (refl, refl)

a_call_is_the_only_one : jumps_after_call (call ∷ call ∷ []) (Goto 1) ≡ false
a_call_is_the_only_one = refl

-- a run comes to a Stop where no statement before it ends the run
a_stop_alone_is_not_sound : (stops_soundly (exit_call ∷ []) Stop ≡ true) × (stops_soundly [] Stop ≡ false)
a_stop_alone_is_not_sound = (refl, refl)

-- a division of one bit isn't one
a_division_has_a_byte_or_more : (is_stmt (8 ∷ []) (Div (Temp 0) (Binary DivU 8 (Get (Temp 0)) (Get (Temp 0)))) ≡ true)
    × (is_stmt (1 ∷ []) (Div (Temp 0) (Binary DivU 1 (Get (Temp 0)) (Get (Temp 0)))) ≡ false)
a_division_has_a_byte_or_more = (refl, refl)
