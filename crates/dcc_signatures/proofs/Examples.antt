-- A small program in which a word passes as one argument and halves of AX and DX come back as one value, and near misses.
use Rattle.std.proofs.Common.{◌≡◌, true, refl, inl, inr, List, [], ◌∷◌, map, All}
use Rattle.std.proofs.lemmas.List.Elements.{All-nil, All-cons}
use Rattle.dcc_num.specs.declared.Reg.TheVariants.{Ax, Cx, Dx}
use Rattle.dcc_num.specs.declared.Half.TheVariants.{Low, High}
use Rattle.dcc_num.specs.declared.FlagName.TheVariants.{Cf}
use Rattle.dcc_ir.specs.declared.syntax.Loc.{Loc}
use Rattle.dcc_ir.specs.declared.syntax.Loc.TheVariants.{Half, Flag, Temp}
use Rattle.dcc_ir.specs.declared.syntax.Put.TheVariants.{Memory, Two}
use Rattle.dcc_ir.specs.declared.syntax.Param.{Param}
use Rattle.dcc_ir.specs.Tree.{Expr, Const, Get, Part, Join, Stmt, Set, Call, Ret, Block, Graph, Program, Summary}
use Rattle.dcc_ir.specs.Passing.{param_of}
use Rattle.dcc_ir.specs.WellFormed.{IsProgram}
use Rattle.dcc_ir.proofs.CallingPrograms as calling
use Rattle.dcc_ir.proofs.CallingPrograms.{one}
use Rattle.dcc_sums.specs.Summaries.{IsHalfOf, AreOneValue}
use Rattle.dcc_sums.specs.Localised.{no_summary, summary_at, GivesJust, TakesJust, CallsJust}
use Rattle.dcc_sums.specs.Laws.{IsKeptBy}
use Rattle.dcc_signatures.specs.declared.packing.Fresh.{Fresh}
use Rattle.dcc_signatures.specs.Packed.{merged, one_argument, one_param, param_with, word_of, pack_stmt, pack_exit}
use Rattle.dcc_signatures.specs.Packed.{packed}
use Rattle.dcc_signatures.specs.Laws.{AreInOrder, PassesOneValue}
use Rattle.dcc_signatures.proofs.OneLaws.{IsInDouble}
use Rattle.dcc_signatures.proofs.PackLaws.{packed-keeps}

abbrev al : Loc
al = Half Ax Low

abbrev ah : Loc
ah = Half Ax High

abbrev dl : Loc
dl = Half Dx Low

abbrev dh : Loc
dh = Half Dx High

abbrev cl : Loc
cl = Half Cx Low

abbrev ch : Loc
ch = Half Cx High

-- The callee takes a word on the stack, CX, DL and the carry, and gives AL and DH back.

abbrev params : List Loc
params = cl ∷ ch ∷ dl ∷ Flag Cf ∷ []

abbrev results : List Loc
results = al ∷ dh ∷ []

abbrev in_memory : Param
in_memory = record { stack = true; put = Memory }

abbrev arguments : List Expr
arguments = Const 16 7 ∷ Get cl ∷ Get ch ∷ Get dl ∷ Get (Flag Cf) ∷ []

abbrev program : Program
program = calling.program 0x4C (Get al) (8 ∷ []) [] results arguments (in_memory ∷ map param_of params) (map Get results)

abbrev callee_sum : Summary
callee_sum = record { params = params; results = results; preserved = [] }

abbrev sums : List Summary
sums = no_summary ∷ callee_sum ∷ []

program_formed : IsProgram program
program_formed = calling.formed 0x4C (Get al) (8 ∷ []) [] results arguments (in_memory ∷ map param_of params) (map Get results) refl refl refl refl refl refl refl refl refl

-- Two temporaries follow the one that the caller has.

abbrev fresh : Fresh
fresh = record { word = 1; double = 2 }

abbrev bytes_of_double : Expr
bytes_of_double = Join (Join (Get dh) (Const 8 0)) (Join (Const 8 0) (Get al))

the_call_takes_one_value : pack_stmt fresh (Call results 32 arguments 4) ≡ Call (Temp 2 ∷ []) 32 (Const 16 7 ∷ Join (Get ch) (Get cl) ∷ Get dl ∷ Get (Flag Cf) ∷ []) 4
    ∷ Set al (Part 8 0 (Get (Temp 2))) ∷ Set dh (Part 8 24 (Get (Temp 2))) ∷ []
the_call_takes_one_value = refl

the_return_gives_one_value : pack_exit (Ret (map Get results)) ≡ Ret (bytes_of_double ∷ [])
the_return_gives_one_value = refl

the_callee_takes_a_word : merged one_param (in_memory ∷ map param_of params) ≡ in_memory ∷ param_with (Two cl ch) ∷ param_of dl ∷ param_of (Flag Cf) ∷ []
the_callee_takes_a_word = refl

-- Just what the summaries say passes, and one value is given back; so the program is kept.

abbrev last : Stmt
last = calling.last 0x4C (Get al) (8 ∷ []) [] results arguments (in_memory ∷ map param_of params) (map Get results)

abbrev calling_block : Block
calling_block = calling.calling_block 0x4C (Get al) (8 ∷ []) [] results arguments (in_memory ∷ map param_of params) (map Get results)

abbrev last_block : Block
last_block = calling.last_block 0x4C (Get al) (8 ∷ []) [] results arguments (in_memory ∷ map param_of params) (map Get results)

abbrev callee_block : Block
callee_block = calling.callee_block 0x4C (Get al) (8 ∷ []) [] results arguments (in_memory ∷ map param_of params) (map Get results)

abbrev caller : Graph
caller = calling.caller 0x4C (Get al) (8 ∷ []) [] results arguments (in_memory ∷ map param_of params) (map Get results)

abbrev callee : Graph
callee = calling.callee 0x4C (Get al) (8 ∷ []) [] results arguments (in_memory ∷ map param_of params) (map Get results)

abbrev Calls : Stmt → Type 0
Calls = CallsJust (summary_at program.graphs sums)

passes_one_value : PassesOneValue program sums
passes_one_value = record {
  just = record {
    graphs = one (λ g. TakesJust (summary_at program.graphs sums g.entry) g) callee (record {
      words = in_memory ∷ [];
      stack = refl;
      params = refl;
      rets = one (λ b. GivesJust results b.exit) callee_block refl;
    });
    calls = All-cons (λ g. All (λ b. All Calls b.stmts) g.blocks) caller (callee ∷ [])
        (All-cons (λ b. All Calls b.stmts) calling_block (last_block ∷ []) (one Calls (Call results 32 arguments 4) (refl, (Const 16 7 ∷ [], refl))) (one (λ b. All Calls b.stmts) last_block (one Calls last tt)))
        (one (λ g. All (λ b. All Calls b.stmts) g.blocks) callee (one (λ b. All Calls b.stmts) callee_block (All-nil Calls)));
  };
  order = All-cons AreInOrder no_summary (callee_sum ∷ []) (record { params = refl; results = refl }) (one AreInOrder callee_sum (record { params = refl; results = refl }));
  one = All-cons (λ sum. AreOneValue sum.results) no_summary (callee_sum ∷ []) (inl (Ax, All-nil (IsHalfOf Ax)))
      (one (λ sum. AreOneValue sum.results) callee_sum (inr (inr (All-cons IsInDouble al (dh ∷ []) (inl (Low, refl)) (one IsInDouble dh (inr (High, refl)))))));
}

all_is_kept : IsKeptBy program (packed program)
all_is_kept = packed-keeps program sums program_formed passes_one_value

-- Near misses.

only_neighbours_are_a_word : merged one_argument (Get al ∷ Get cl ∷ Get ah ∷ []) ≡ Get al ∷ Get cl ∷ Get ah ∷ []
only_neighbours_are_a_word = refl

the_low_half_comes_first : merged one_argument (Get ah ∷ Get al ∷ []) ≡ Get ah ∷ Get al ∷ []
the_low_half_comes_first = refl

halves_of_two_registers_are_no_word : merged one_argument (Get al ∷ Get dh ∷ []) ≡ Get al ∷ Get dh ∷ []
halves_of_two_registers_are_no_word = refl

words_follow_each_other : merged one_argument (Get al ∷ Get ah ∷ Get cl ∷ Get ch ∷ []) ≡ word_of al ah ∷ word_of cl ch ∷ []
words_follow_each_other = refl

one_location_stays : pack_stmt fresh (Call (dl ∷ []) 32 [] 2) ≡ Call (dl ∷ []) 32 [] 2 ∷ []
one_location_stays = refl

nothing_stays_nothing : pack_exit (Ret []) ≡ Ret []
nothing_stays_nothing = refl

halves_of_dx_alone_are_a_word : pack_stmt fresh (Call (dl ∷ dh ∷ []) 32 [] 2) ≡ Call (Temp 1 ∷ []) 32 [] 2 ∷ Set dl (Part 8 0 (Get (Temp 1))) ∷ Set dh (Part 8 8 (Get (Temp 1))) ∷ []
halves_of_dx_alone_are_a_word = refl

three_halves_are_a_double : pack_stmt fresh (Call (al ∷ ah ∷ dl ∷ []) 32 [] 2) ≡ Call (Temp 2 ∷ []) 32 [] 2
    ∷ Set al (Part 8 0 (Get (Temp 2))) ∷ Set ah (Part 8 8 (Get (Temp 2))) ∷ Set dl (Part 8 16 (Get (Temp 2))) ∷ []
three_halves_are_a_double = refl
