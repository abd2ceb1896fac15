-- A small procedure as a function. It takes two words on the stack, the second of them in memory, AL, CF and SI; its text
-- is, but for the lines after the openings,
--     unsigned char f_12ab(unsigned int p1, auto unsigned int p2, register unsigned char p3, register unsigned char p4,
--         register unsigned int p5)
--     {
--         unsigned char v9;
--         unsigned char v10;
--         unsigned char v18;
--         auto unsigned char v17[2];
--         v18 = (unsigned char)p1;
--         v9 = (unsigned char)p5;
--         v10 = (unsigned char)(p5 >> 8);
use Rattle.std.proofs.Common.{◌≡◌, Bool, true, false, [], ◌∷◌, Some, None, refl}
use Rattle.std.specs.Prelude.{◌||◌, codes}
use Rattle.dcc_num.specs.declared.Reg.TheVariants.{Ax, Si}
use Rattle.dcc_num.specs.declared.Half.TheVariants.{Low, High}
use Rattle.dcc_num.specs.declared.FlagName.TheVariants.{Cf}
use Rattle.dcc_ir.specs.declared.syntax.BinOp.TheVariants.{Add}
use Rattle.dcc_ir.specs.declared.syntax.Loc.{Loc}
use Rattle.dcc_ir.specs.declared.syntax.Loc.TheVariants.{Half, Flag, Cell}
use Rattle.dcc_ir.specs.declared.syntax.Put.TheVariants.{Memory, One, Two}
use Rattle.dcc_ir.specs.Location.{same_location}
use Rattle.dcc_ir.specs.Tree as inner
use Rattle.dcc_c.specs.declared.syntax.Base.TheVariants.{Uchar, Int, Uint}
use Rattle.dcc_c.specs.declared.syntax.CBin.TheVariants.{Shr}
use Rattle.dcc_c.specs.declared.syntax.Class.TheVariants.{Plain, Auto, Register}
use Rattle.dcc_c.specs.Tree.{Name, Number, Binary, Cast, Assign, Return}
use Rattle.dcc_c.specs.Types.{plain}
use Rattle.dcc_variables.specs.Variables.{named_locations, stack_locations, numbered_name}
use Rattle.dcc_variables.specs.Functions.{function_name, function_names, parameter_name, parameters, own_declarations, result_type, ret_text, openings, function_spelling}

sum : inner.Expr
sum = inner.Binary Add 8 (inner.Get (Half Ax Low)) (inner.Binary Add 8 (inner.Get (Cell 0 Low)) (inner.Binary Add 8 (inner.Get (Half Si Low)) (inner.Get (Half Si High))))

-- the graph gives back the sum of AL, the low byte of the first word and both halves of SI
abbrev procedure : inner.Graph
procedure = record {
  entry = 0x12AB;
  params =
      record { stack = true; put = Two (Cell 0 Low) (Cell 0 High) }
      ∷ record { stack = true; put = Memory }
      ∷ record { stack = false; put = One (Half Ax Low) }
      ∷ record { stack = false; put = One (Flag Cf) }
      ∷ record { stack = false; put = Two (Half Si Low) (Half Si High) }
      ∷ [];
  local = 2;
  pushed = 0;
  blocks = record { at = 0x12AB; stmts = []; exit = inner.Ret (sum ∷ []) } ∷ [];
  bits = [];
}

named : function_name procedure.entry ≡ codes "f_12ab"
named = refl

first-is-start : function_names (procedure ∷ procedure ∷ []) ≡ codes "start" ∷ codes "f_12ab" ∷ []
first-is-start = refl

taken : parameters procedure
    ≡ record { name = parameter_name 0; type = plain Uint; len = None; class = Plain }
    ∷ record { name = parameter_name 1; type = plain Uint; len = None; class = Auto }
    ∷ record { name = parameter_name 2; type = plain Uchar; len = None; class = Register }
    ∷ record { name = parameter_name 3; type = plain Uchar; len = None; class = Register }
    ∷ record { name = parameter_name 4; type = plain Uint; len = None; class = Register }
    ∷ []
taken = refl

-- AL is the third parameter, and has no variable of its own
declared : own_declarations procedure
    ≡ record { name = numbered_name 9; type = plain Uchar; len = None; class = Plain }
    ∷ record { name = numbered_name 10; type = plain Uchar; len = None; class = Plain }
    ∷ record { name = numbered_name 18; type = plain Uchar; len = None; class = Plain }
    ∷ record { name = numbered_name 17; type = plain Uchar; len = Some 2; class = Auto }
    ∷ []
unfolding sum named_locations stack_locations
declared = refl

-- the address of the second argument's high byte, and that of the lowest byte of the frame
told-from-argument : (function_spelling procedure).place 3 ≡ Some (record { name = parameter_name 1; is_array = false; above = 1 })
told-from-argument = refl

told-from-array : (function_spelling procedure).place 65530 ≡ Some (record { name = numbered_name 17; is_array = true; above = 0 })
told-from-array = refl

given : result_type procedure ≡ Some (plain Uchar)
unfolding sum
given = refl

-- the locations that are read before they are written
wanted : Loc → Bool
wanted location = same_location location (Cell 0 Low) || (same_location location (Half Si Low) || same_location location (Half Si High))

opened : openings wanted procedure
    ≡ Assign (Name (numbered_name 18)) (Cast (plain Uchar) (Name (parameter_name 0)))
    ∷ Assign (Name (numbered_name 9)) (Cast (plain Uchar) (Name (parameter_name 4)))
    ∷ Assign (Name (numbered_name 10)) (Cast (plain Uchar) (Binary Shr (Name (parameter_name 4)) (Number 8 Int)))
    ∷ []
unfolding wanted sum named_locations stack_locations
opened = refl

-- a location that is a parameter is read by the parameter's name
returned : ret_text (function_spelling procedure) (inner.Get (Half Ax Low) ∷ []) ≡ Return (Some (Name (parameter_name 2)))
unfolding sum named_locations stack_locations
returned = refl
